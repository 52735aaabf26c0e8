-- The search begins at the bucket's last row, and goes on to the row before.
use Rattle.std.proofs.Common.{arith, rules}
use Rattle.index.proofs.Seeking.{seek_start, seek_falls, seek_next}
use Rattle.index.proofs.find.Goals as goal

pub loop-row-init : goal.loop-row-init
loop-row-init c = rw c.bucket.ensures.value (seek_start c.requires.linked)

pub loop-row-smaller : goal.loop-row-smaller
loop-row-smaller c = seek_falls c.requires.linked c.loop-row.invariant (omega arith)

pub loop-row-preserved : goal.loop-row-preserved
loop-row-preserved c = seek_next c.requires.linked c.loop-row.invariant (omega arith) (search rules)
