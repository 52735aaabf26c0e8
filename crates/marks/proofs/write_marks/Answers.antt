use Rattle.std.proofs.Common.{◌∙◌, ◌↔◌, ◌≡◌, ◌-◌, ◌+◌, ◌≤◌, ◌++◌, replicate, IsTrue, List, ℕ, ap, ap₂, subst, drop, length, arith, rules}
use Rattle.std.proofs.Math.Seq.{length-take-le, drop-drop}
use Rattle.model.specs.Rows.{Dependency}
use Rattle.model.specs.Given.{deps_of}
use Rattle.model.specs.Marking.{mark, lock_marks}
use Rattle.model.proofs.Given.{dep_at, given_few, given_row}
use Rattle.marks.specs.Working.{On, Meets}
use Rattle.marks.proofs.Pages.{keeps_kept, bool_mark, row_marked, rows_marked}
use Rattle.marks.proofs.write_marks.Goals as goal

pub split_at_mut-kept-requires : goal.split_at_mut-kept-requires
split_at_mut-kept-requires c = let T = c.args.table in omega (arith, given_few T.rows T.words.now T.well_formed)

-- the row's mark says whether it is kept
pub loop-row-preserved : goal.loop-row-preserved
loop-row-preserved c =
    let T = c.args.table in
    let ds = deps_of T.rows T.words.now in
    let i = c.loop-row.row in
    let e = c.new-peeling.ensures.table in
    let L : c.peel.new.self.locks.now ≡ lock_marks ds = c.peel.ensures.marks ∙ ap₂ (λ n t. lock_marks (deps_of n t)) e.1 e.0 in
    let D : dep_at c.peel.new.self.table.words.now i ≡ dep_at T.words.now i = ap (λ p. dep_at p.words.now i) c.peel.ensures.table ∙ ap (λ t. dep_at t i) e.0 in
    let says =
    subst (λ (d : Dependency). IsTrue c.keeps.result ↔ (On (lock_marks ds) d.wanted × Meets (lock_marks ds) d)) D
    (subst (λ (l : List ℕ). IsTrue c.keeps.result ↔ (On l (dep_at c.peel.new.self.table.words.now i).wanted × Meets l (dep_at c.peel.new.self.table.words.now i))) L c.keeps.ensures) in
    let kept = keeps_kept ds c.keeps.result (dep_at T.words.now i) (given_row T.rows T.words.now T.well_formed i (omega (arith, c.split_at_mut-kept.ensures.front_len))).fair says in
    row_marked T.rows T.words.now c.loop-row.kept i c.from.result (omega arith) c.loop-row.invariant (c.from.ensures ∙ bool_mark c.keeps.result ∙ ap mark kept)

pub slice_bounds-fill-count : goal.slice_bounds-fill-count
slice_bounds-fill-count c = let T = c.args.table in omega (arith, given_few T.rows T.words.now T.well_formed)

pub returns-clause-rows : goal.returns-clause-rows
returns-clause-rows c =
    let T = c.args.table in
    let n = T.rows in
    let few = given_few n T.words.now T.well_formed in
    let kept = c.split_at_mut-kept.ensures in
    let past = c.split_at_mut-kept.result.1.now in
    let room : 1024 - n ≤ length past = omega (arith, few, kept.back_len) in
    let zeros = c.fill.ensures.after (λ y e. search rules) ∙ ap (λ k. replicate k 0) (length-take-le (1024 - n) past room) in
    let behind : n + (1024 - n) ≡ 1024 = omega (arith, few) in
    let rest = ap (drop (1024 - n)) kept.back ∙ drop-drop (1024 - n) n c.args.marks.now ∙ ap (λ k. drop k c.args.marks.now) behind in
    ap (λ (l : List ℕ). c.loop-row.kept ++ (c.fill.new.self ++ l)) rest
    ∙ rows_marked n T.words.now c.loop-row.kept c.fill.new.self c.args.marks.now few (c.loop-row.auto.kept ∙ kept.front_len) (λ j h. c.loop-row.invariant j (omega (arith, kept.front_len))) zeros
