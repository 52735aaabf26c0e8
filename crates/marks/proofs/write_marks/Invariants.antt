-- The rows passed have their marks.
use Rattle.marks.proofs.Pages.{RowMarks}
use Rattle.marks.proofs.write_marks.Given as goal

abbrev pub invariant-loop-row : goal.invariant-loop-row
invariant-loop-row l = RowMarks l.table.rows l.table.words.now l.kept l.row
