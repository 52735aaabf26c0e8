-- The place that is found is where putting in puts, and the turn brings the lock there.
use Rattle.std.proofs.Common.{ℕ, ◌<◌, ◌≤◌, ◌≡◌, not, cond, Some, None, length, length-take, take, rules, tests, arith, ltb, lt-ltb, refl, ap, ◌∙◌}
use Rattle.std.specs.List.{position_or_len}
use Rattle.std.specs.Option.{unwrap_or}
use Rattle.std.proofs.lemmas.Bool.Decides.{nat_tests}
use Rattle.std.proofs.lemmas.Iterator.{YieldsList-from_slice}
use Rattle.std.proofs.lemmas.Iterator.Search.{position_from_yields_List}
use Rattle.std.proofs.lemmas.List.Sums.{prefix_len-le-length}
use Rattle.holds.proofs.Places.{insert_at, turned_in}
use Rattle.holds.proofs.Hold.take.Goals as goal

found_or : (p : ℕ) (n : ℕ) → p ≤ n → unwrap_or (cond (ltb p n) (Some p) None) n ≡ p
found_or p n h = grind (arith, nat_tests)

pub returns : goal.returns
returns c =
    let n = c.args.self.size in
    let m = c.args.m in
    let P = c.args.self.places in
    let q = position_or_len (ltb m) (take n P) in
    let h : n < 8 = c.if-last-ge-MOST_HELD.false in
    let u : c.used.result.now ≡ take n P = c.used.ensures ∙ ap (λ (k : ℕ). take k P) (omega arith) in
    let l : length (take n P) ≡ n = simp length-take (omega arith) in
    let k : q ≤ n = omega (arith, prefix_len-le-length (λ x. not (ltb m x)) (take n P)) in
    let f = position_from_yields_List (ltb m) _ _ c.position.result c.position.ensures.ran (YieldsList-from_slice c.used.result.now cc) (λ x b q k. search (rules, tests)) in
    let a : c.unwrap_or-at.result ≡ q = c.unwrap_or-at.ensures ∙ rw (f, u, l) (found_or q n k) in
    rw (c.rotate_right.ensures.after, a, lt-ltb n 8 h, insert_at m (take n P), turned_in P n m q (omega arith) k _ refl)
