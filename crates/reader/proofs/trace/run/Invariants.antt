-- The events passed are in the state; the laws of `Running` carry it from one to the next.
use Rattle.std.proofs.Common.{◌≡◌}
use Rattle.reader.proofs.Running.{Runs}
use Rattle.reader.proofs.trace.run.Given as goal

abbrev pub invariant-loop-place : goal.invariant-loop-place
invariant-loop-place l = (l.rows.table.ghost_name ≡ l.initial.rows.table.ghost_name) × Runs l.fn.limits l.events l.fn.table l.place l.threads l.rows
