-- Bytes and words where they lie.
--     uncons                   what lies from a place on: the entry there, and the rest
--     same_on, _differ, _done  two lists compared one entry at a time
--     sets_on                  words stored one after the other
--     part_length, _at, _first, _after     a part: its length, its entries, and where it lies of two lists joined
--     field_more, _one, _two, _four, _drop   a field by its bytes
--     over_..                  words laid over memory
use Rattle.std.proofs.Common.{ℕ, suc, ◌+◌, ◌*◌, ◌≤◌, ◌<◌, arith, add-one, ◌≡◌, refl, sym, ap, ap₂, ◌∙◌, true, false, ◌&&◌, List, [], ◌∷◌, ◌++◌, eqb, eq-eqb, ne_eqb, length, get_or, take, drop, set, drop_of_length-le, length-append, length-take, length-drop, drop-cons, get_or-take, get_or-drop, drop-drop, drop_at}
use Rattle.std.proofs.lemmas.List.{drop-append-le, take-append-le}
use Rattle.std.proofs.lemmas.List.Edits.{sets, sets-eq}
use Rattle.std.proofs.Math.Decide.{dec_lt}
use Rattle.std.proofs.Math.ListN.{get_or-eq_default}
use Rattle.std.proofs.Math.Seq.{take-nil, drop-append-add, take-append_seam}
use Rattle.laws.specs.Lists.{same}
use Rattle.laws.specs.Memory.{little, part, field, over}

pub uncons : {A : Type 0} (d : A) (xs : List A) (i : ℕ) → i < length xs → drop i xs ≡ get_or xs i d ∷ drop (i + 1) xs
uncons d xs i h = rw (add-one, drop-cons xs i d)

module _ (xs ys : List ℕ) (i : ℕ) where
  same_step : i < length xs → i < length ys → same (drop i xs) (drop i ys) ≡ (eqb (get_or xs i 0) (get_or ys i 0) && same (drop (i + 1) xs) (drop (i + 1) ys))
  same_step h k = rw (uncons 0 xs i h, uncons 0 ys i k)

  pub same_on : i < length xs → i < length ys → get_or xs i 0 ≡ get_or ys i 0 → same (drop i xs) (drop i ys) ≡ same (drop (i + 1) xs) (drop (i + 1) ys)
  same_on h k e = same_step h k ∙ rw (eq-eqb (get_or xs i 0) (get_or ys i 0) e)

  pub same_differ : i < length xs → i < length ys → (get_or xs i 0 ≡ get_or ys i 0 → ⊥) → same (drop i xs) (drop i ys) ≡ false
  same_differ h k n = same_step h k ∙ rw (ne_eqb (get_or xs i 0) (get_or ys i 0) n)

  pub same_done : length xs ≤ i → length ys ≤ i → same (drop i xs) (drop i ys) ≡ true
  same_done h k = rw (drop_of_length-le xs h, drop_of_length-le ys k)

pub sets_on : (t ws more : List ℕ) (at i : ℕ) → i < length ws → sets t (at + i) (drop i ws ++ more) ≡ sets (set t (at + i) (get_or ws i 0)) (at + (i + 1)) (drop (i + 1) ws ++ more)
sets_on t ws more at i h =
    let e : at + (i + 1) ≡ suc (at + i) = omega arith in
    rw (uncons 0 ws i h, e)

module _ (xs : List ℕ) (at n : ℕ) where
  pub part_length : at + n ≤ length xs → length (part at n xs) ≡ n
  part_length h = simp (length-take, length-drop) (omega arith)

  pub part_at : (i : ℕ) → i < n → get_or (part at n xs) i 0 ≡ get_or xs (at + i) 0
  part_at i h = get_or-take n (drop at xs) i 0 h ∙ get_or-drop at xs i 0

-- a part of what comes first, and of what comes after
pub part_first : (xs ys : List ℕ) (at n : ℕ) → at + n ≤ length xs → part at n (xs ++ ys) ≡ part at n xs
part_first xs ys at n h =
    let k : at ≤ length xs = omega arith in
    let l : n ≤ length (drop at xs) = simp length-drop (omega arith) in
    rw (drop-append-le at xs ys k, take-append-le n (drop at xs) ys l)

pub part_after : (xs ys : List ℕ) (at n : ℕ) → length xs ≡ at → part at n (xs ++ ys) ≡ take n ys
part_after xs ys at n e = ap (take n) (drop_at xs ys at e)

-- a field by its first byte and the others
pub field_more : (b : List ℕ) (at n : ℕ) → field at (suc n) b ≡ get_or b at 0 + 256 * field (at + 1) n b
field_more b at n = go (dec_lt at (length b))
  where
    go : Dec (at < length b) → field at (suc n) b ≡ get_or b at 0 + 256 * field (at + 1) n b
    go (yes h) = ap (λ (l : List ℕ). little (take (suc n) l)) (uncons 0 b at h)
    go (no h) =
        let l : length b ≤ at = omega arith in
        let k : length b ≤ at + 1 = omega arith in
        rw (drop_of_length-le b l, drop_of_length-le b k, get_or-eq_default b 0 l, take-nil n)

pub field_one : (b : List ℕ) (at : ℕ) → field at 1 b ≡ get_or b at 0
field_one b at = omega (arith, field_more b at 0)

pub field_two : (b : List ℕ) (at : ℕ) → field at 2 b ≡ get_or b at 0 + get_or b (at + 1) 0 * 256
field_two b at = omega (arith, field_more b at 1, field_one b (at + 1))

pub field_four : (b : List ℕ) (at : ℕ) → field at 4 b ≡ field at 2 b + field (at + 2) 2 b * 65536
field_four b at =
    let e : at + 1 + 1 ≡ at + 2 = omega arith in
    let f = field_more b (at + 1) 2 in
    omega (arith, field_more b at 3, rw e at f, field_two b at)

-- a field of what lies from a place on
pub field_drop : (b : List ℕ) (at k n : ℕ) → field k n (drop at b) ≡ field (at + k) n b
field_drop b at k n = ap (λ (l : List ℕ). little (take n l)) (drop-drop k at b)

pub over_nothing : (xs : List ℕ) → over [] xs ≡ xs
over_nothing xs = refl

pub over_length : (ws xs : List ℕ) → length ws ≤ length xs → length (over ws xs) ≡ length xs
over_length ws xs h = simp (length-append, length-drop) (omega arith)

-- words stored behind those that are laid
pub over_more : (ws vs xs : List ℕ) → length ws + length vs ≤ length xs → sets (over ws xs) (length ws) vs ≡ over (ws ++ vs) xs
over_more ws vs xs h =
    let l : length ws + length vs ≤ length (over ws xs) = omega (arith, over_length ws xs (omega arith)) in
    sets-eq vs (over ws xs) (length ws) l
    ∙ ap₂ ◌++◌
    (ap (λ (q : List ℕ). q ++ vs) (take-append_seam ws (drop (length ws) xs)))
    (drop-append-add ws (drop (length ws) xs) (length vs) ∙ drop-drop (length vs) (length ws) xs ∙ ap (λ (n : ℕ). drop n xs) (sym (length-append ws vs)))
