-- The rows passed are fair and differ, and the index has them.
use Rattle.std.proofs.Common.{◌≡◌, length}
use Rattle.index.specs.Index.{buckets, Indexes}
use Rattle.model.specs.Rows.{most_rows}
use Rattle.given.proofs.Tables.{Checked}
use Rattle.given.proofs.well_formed.Given as goal

abbrev pub invariant-loop-i : goal.invariant-loop-i
invariant-loop-i l =
    record { checked : Checked l.table l.i; indexed : Indexes l.table l.i l.index; heads : length l.index.head ≡ buckets; nexts : length l.index.next ≡ most_rows }
