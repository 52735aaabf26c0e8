-- Each sweep that takes out a lock leaves fewer marks.
use Rattle.std.proofs.Common.{◌≡◌}
use Rattle.laws.specs.Memory.{sum}
use Rattle.marks.proofs.peeling.Peeling.peel.Given as goal

abbrev pub invariant-loop : goal.invariant-loop
invariant-loop l = record { table : l.self.table ≡ l.fn.self.table; same_reference : l.self.locks.ghost_name ≡ l.fn.self.locks.ghost_name }

abbrev pub decreases-loop : goal.decreases-loop
decreases-loop l = sum l.self.locks.now
