-- The loop goes through the key's bucket.
use Rattle.index.proofs.Seeking.{Seeking}
use Rattle.index.proofs.find.Given as goal

abbrev pub invariant-loop-row : goal.invariant-loop-row
invariant-loop-row l = Seeking l.table l.key l.rows l.entry

abbrev pub decreases-loop-row : goal.decreases-loop-row
decreases-loop-row l = l.entry
