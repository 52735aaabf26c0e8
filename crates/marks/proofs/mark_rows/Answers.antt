use Rattle.std.proofs.Common.{◌∙◌, ap}
use Rattle.laws.specs.Memory.{over}
use Rattle.model.specs.Given.{deps_of}
use Rattle.model.specs.Marking.{row_marks}
use Rattle.marks.proofs.Pages.{both_parts}
use Rattle.marks.proofs.mark_rows.Goals as goal

pub returns : goal.returns
returns c =
    let ds = deps_of c.args.rows c.args.table.now in
    both_parts ds c.write_marks.new.locks c.write_marks.new.marks c.args.page.now c.write_marks.ensures.locks
    (c.write_marks.ensures.rows ∙ ap (over (row_marks ds)) c.split_at_mut-locks.ensures.back)
