-- A row holds seven locks at most, so they lie within its places.
use Rattle.std.proofs.Common.{◌≤◌, ◌<◌, ◌-◌, ◌∙◌, sym, ap, subst, get_or, length, take, drop, arith, All}
use Rattle.std.proofs.Math.Seq.{length-take-le}
use Rattle.laws.proofs.Memory.{part_length}
use Rattle.given.proofs.Tables.{size_few, held_now, held_locks}
use Rattle.given.proofs.Table.held.Goals as goal

pub slice_bounds-result-end-2 : goal.slice_bounds-result-end-2
slice_bounds-result-end-2 c =
    let w = c.row_of-words.result.now in
    let T = c.args.self.now in
    let few = size_few T.rows T.words.now T.well_formed c.args.row c.requires in
    let size : c.from.result ≤ 7 = omega (arith, c.from.ensures ∙ ap (λ l. get_or l 2 0) c.row_of-words.ensures.value, few) in
    sym (length-take-le c.from.result (take (length w - 3) (drop 3 w)) (omega (arith, c.row_of-words.ensures.long, part_length w 3 (length w - 3) (omega arith))))

pub returns-clause-value : goal.returns-clause-value
returns-clause-value c =
    let T = c.args.self.now in
    held_now T.rows T.words.now T.well_formed c.args.row c.requires c.row_of-words.result.now c.from.result c.row_of-words.ensures.value c.from.ensures

pub returns-clause-locks : goal.returns-clause-locks
returns-clause-locks c =
    let T = c.args.self.now in
    let e = held_now T.rows T.words.now T.well_formed c.args.row c.requires c.row_of-words.result.now c.from.result c.row_of-words.ensures.value c.from.ensures in
    subst (All (λ m. m < 256)) (sym e) (held_locks T.rows T.words.now T.well_formed c.args.row c.requires)
