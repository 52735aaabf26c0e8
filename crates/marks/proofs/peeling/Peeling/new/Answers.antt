-- At first no lock is marked.
use Rattle.std.proofs.Common.{◌≤◌, ◌<◌, ◌∙◌, ℕ, arith, rules, length, get_or, replicate}
use Rattle.std.proofs.Math.ListN.{get_or-replicate, length-replicate, get_or-eq_default}
use Rattle.std.proofs.Math.Decide.{dec_lt}
use Rattle.marks.proofs.Peel.{peels_start}
use Rattle.marks.proofs.peeling.Peeling.new.Goals as goal

no_marks : (n m : ℕ) → get_or (replicate n 0) m 0 ≤ 1
no_marks n m = go (dec_lt m n)
  where
    go : Dec (m < n) → get_or (replicate n 0) m 0 ≤ 1
    go (yes h) = omega (arith, get_or-replicate {A = ℕ} n m 0 0 h)
    go (no h) =
        let l : length (replicate {A = ℕ} n 0) ≤ m = omega (arith, length-replicate {A = ℕ} n 0) in
        omega (arith, get_or-eq_default (replicate {A = ℕ} n 0) 0 l)

pub loop-row-init : goal.loop-row-init
loop-row-init c =
    record { size = c.fill.ensures.len ∙ c.requires; bits = λ m. rw (c.fill.ensures.after (λ y e. search rules)) (no_marks _ m); wanted = λ i h. absurd (omega arith) }

pub invariant_of-result : goal.invariant_of-result
invariant_of-result c =
    let i = c.loop-row.invariant in
    record { peels = peels_start _ _ _ i.size i.bits (λ k h. i.wanted k (omega arith)) }
