-- Each way out is one law of `Noting`.
use Rattle.std.proofs.Common.{arith, rules, refl, ◌*◌, ◌+◌, get_or, length-set}
use Rattle.reader.proofs.Noting.{indexed_known, indexed_new, note_known, note_full, note_new}
use Rattle.reader.proofs.table.Rows.note.Goals as goal

pub invariant_of-self-clause-room : goal.invariant_of-self-clause-room
invariant_of-self-clause-room c =
    let x = c.args.self.now in
    omega (arith, x.room, length-set x.table.now (c.in-Some.row * 12 + 11) (get_or x.table.now (c.in-Some.row * 12 + 11) 0 + 1))

pub invariant_of-self-clause-indexed : goal.invariant_of-self-clause-indexed
invariant_of-self-clause-indexed c = indexed_known _ _ c.in-Some.row _ _ c.args.self.now.indexed

pub returns-in-Some-clause-noted : goal.returns-in-Some-clause-noted
returns-in-Some-clause-noted c =
    let f = c.find.ensures.found.some _ c.in-Some.is in
    λ rs t₀ d e K T. note_known c.args.place rs t₀ d e K T _ c.in-Some.row f.within f.same refl refl

pub returns-then-self-eq-MOST_ROWS-clause-noted : goal.returns-then-self-eq-MOST_ROWS-clause-noted
returns-then-self-eq-MOST_ROWS-clause-noted c =
    λ rs t₀ d e K T. note_full c.args.place rs t₀ d e K T (c.find.ensures.found.none c.in_default.is) (omega arith)

pub invariant_of-self-2-clause-indexed : goal.invariant_of-self-2-clause-indexed
invariant_of-self-2-clause-indexed c =
    let x = c.args.self.now in
    rw (c.put.ensures, c.link.ensures)
    (indexed_new x.table.now c.args.key x.count c.args.place x.index x.indexed (search rules) (search rules) (search rules) (omega (arith, x.few)) x.room)

pub returns-clause-noted : goal.returns-clause-noted
returns-clause-noted c =
    λ rs t₀ d e K T. note_new c.args.place rs t₀ d e K T (c.find.ensures.found.none c.in_default.is) _ (omega (arith, c.args.self.now.few)) c.args.self.now.room refl c.put.ensures
