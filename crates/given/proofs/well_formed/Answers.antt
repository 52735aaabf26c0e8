-- Each way in which a table is not well formed is one law of `Tables`.
use Rattle.std.proofs.Common.{◌+◌, ◌∙◌, sym, ap, refl, arith, subst, take, length-set}
use Rattle.std.proofs.lemmas.Bool.{false≢true}
use Rattle.index.proofs.Linked.{linked_new}
use Rattle.index.proofs.Seeking.{found_some, found_none}
use Rattle.given.specs.Working.{RowParts}
use Rattle.given.proofs.Tables.{checked_next, not_few, not_room, not_row, not_apart, checked_given, key_now, well_row}
use Rattle.given.proofs.well_formed.Goals.{then-rows-gt-MOST_ROWS-via-then-rows-gt-MOST_ROWS, then-rows-gt-MOST_ROWS-via-else-rows-gt-MOST_ROWS+then-table-rows, then-not-row_ok-via-then-not-row_ok, then-not-row_ok-via-else-not-row_ok+then-is_some}
use Rattle.given.proofs.well_formed.Goals as goal

pub returns-then-rows-gt-MOST_ROWS : goal.returns-then-rows-gt-MOST_ROWS
returns-then-rows-gt-MOST_ROWS c =
    elim c.then-rows-gt-MOST_ROWS.branch [
      | then-rows-gt-MOST_ROWS-via-then-rows-gt-MOST_ROWS w ↦ not_few c.args.table.now c.args.rows (omega arith)
      | then-rows-gt-MOST_ROWS-via-else-rows-gt-MOST_ROWS+then-table-rows w ↦ not_room c.args.table.now c.args.rows (omega arith)
    ]

pub returns-then-not-row_ok : goal.returns-then-not-row_ok
returns-then-not-row_ok c =
    let t = c.args.table.now in
    elim c.then-not-row_ok.branch [
      | then-not-row_ok-via-then-not-row_ok w ↦ not_row t c.args.rows c.loop-i.i c.loop-i-test.true (omega arith) (λ R. false≢true (w.if-not-row_ok.ensures.1 (subst RowParts (sym c.row_of-row.ensures.value) R)))
      | then-not-row_ok-via-else-not-row_ok+then-is_some w ↦
          let f = found_some w.find.result w.find.ensures (sym w.is_some.ensures ∙ w.if-is_some.true) in
          not_apart t c.args.rows f.0 c.loop-i.i f.1.within c.loop-i-test.true (f.1.same ∙ ap (take 10) c.row_of-row.ensures.value ∙ key_now t c.loop-i.i)
    ]

pub loop-i-preserved : goal.loop-i-preserved
loop-i-preserved c =
    let t = c.args.table.now in
    let l = c.loop-i in
    let k = ap (take 10) c.row_of-row.ensures.value ∙ key_now t l.i in
    record {
      checked =
          checked_next t l.i l.invariant.checked (well_row t l.i (omega arith) (subst RowParts c.row_of-row.ensures.value (c.if-not-row_ok.ensures.0 refl)))
          (λ q h e. found_none c.find.result c.find.ensures (sym c.is_some.ensures ∙ c.if-is_some.false) q h (e ∙ sym k));
      indexed = rw c.link.ensures (linked_new t t l.i l.index.head l.index.next (λ r h. refl) l.invariant.indexed _ (sym k) l.invariant.heads l.invariant.nexts (omega arith));
      heads = rw c.link.ensures (length-set l.index.head _ (l.i + 1) ∙ l.invariant.heads);
      nexts = rw c.link.ensures (length-set l.index.next l.i _ ∙ l.invariant.nexts);
    }

pub returns : goal.returns
returns c = checked_given c.args.table.now c.args.rows (omega arith) (omega arith) c.loop-i.i (omega arith) c.loop-i.invariant.checked
