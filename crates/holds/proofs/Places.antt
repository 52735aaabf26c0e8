-- One more lock in the places.
--     remove_gone, remove_stays     taking out, one place on
--     laid_more                     a lock behind those that lie
--     insert_at                     where putting in puts
--     turned_in                     a lock behind those in use, turned to its place among them
use Rattle.std.proofs.Common.{ℕ, suc, ◌+◌, ◌-◌, ◌≤◌, ◌<◌, ◌≡◌, Bool, true, false, not, List, [], ◌∷◌, ◌++◌, length, get_or, take, drop, set, replicate, refl, sym, ap, ◌∙◌, arith, eqb, ltb, append_assoc, append-nil, eq-eqb, ne_eqb, cond, length-take, if◌then◌else◌}
use Rattle.std.specs.List.{position_or_len}
use Rattle.std.proofs.lemmas.List.{take_more, take_more_set, take-set-le, drop-set-lt, drop-append-le, take_at, drop_at, length_push, drop-take, take-take, drop-drop}
use Rattle.std.proofs.Math.Seq.{set-append_seam}
use borrow.Rule.Slice.PartMut.{mid_of, put_mid}
use Rattle.laws.specs.Sets.{insert, remove}
use Rattle.laws.proofs.Lists.{filter_append}
use Rattle.model.specs.Holds.{most_held}
use Rattle.model.specs.Table.{unused, padded}
use Rattle.holds.specs.declared.Hold.{Hold}
use Rattle.holds.specs.Hold.{in_places}

module _ (m : ℕ) (xs : List ℕ) (i : ℕ) (h : i < length xs) where
  pub remove_gone : get_or xs i 0 ≡ m → remove m (take (i + 1) xs) ≡ remove m (take i xs)
  remove_gone e =
      rw (take_more xs i 0 h, filter_append (λ x. not (eqb m x)) (take i xs) (get_or xs i 0 ∷ []), eq-eqb m (get_or xs i 0) (sym e), append-nil)

  pub remove_stays : (get_or xs i 0 ≡ m → ⊥) → remove m (take (i + 1) xs) ≡ remove m (take i xs) ++ get_or xs i 0 ∷ []
  remove_stays n =
      rw (take_more xs i 0 h, filter_append (λ x. not (eqb m x)) (take i xs) (get_or xs i 0 ∷ []), ne_eqb m (get_or xs i 0) (λ e. n (sym e)))

pub laid_more : (xs : List ℕ) (x : ℕ) → length xs < most_held → ◌≡◌ {A = Hold} (record { places = set (padded most_held xs) (length xs) x; size = length xs + 1 }) (in_places (xs ++ x ∷ []))
laid_more xs x h =
    let n : 8 - length xs ≡ suc (8 - (length xs + 1)) = omega arith in
    rw (n, set-append_seam xs unused (replicate (8 - (length xs + 1)) unused) x, length_push xs x, append_assoc)

pub insert_at : (m : ℕ) (xs : List ℕ) → insert m xs ≡ take (position_or_len (ltb m) xs) xs ++ m ∷ drop (position_or_len (ltb m) xs) xs
unfolding insert
insert_at m [] = refl
insert_at m (x ∷ xs) = go (ltb m x) (insert_at m xs)
  where
    go : (b : Bool) → insert m xs ≡ take (position_or_len (ltb m) xs) xs ++ m ∷ drop (position_or_len (ltb m) xs) xs
        → (if b then m ∷ x ∷ xs else x ∷ insert m xs) ≡ take (cond (not b) (1 + position_or_len (ltb m) xs) 0) (x ∷ xs) ++ m ∷ drop (cond (not b) (1 + position_or_len (ltb m) xs) 0) (x ∷ xs)
    go true e = refl
    go false e = let n : 1 + position_or_len (ltb m) xs ≡ suc (position_or_len (ltb m) xs) = omega arith in rw n (ap (λ (l : List ℕ). x ∷ l) e)

module _ (P : List ℕ) (n m at : ℕ) (h : n < length P) (k : at ≤ n) where
  -- the part that is turned
  part : mid_of at (n + 1 - at) (set P n m) ≡ drop at (take n P) ++ m ∷ []
  part =
      let a : at + (n + 1 - at) ≡ n + 1 = omega arith in
      let l : at ≤ length (take n P) = simp length-take (omega arith) in
      sym (drop-take at (n + 1 - at) (set P n m)) ∙ rw (a, take_more_set P n m h) (drop-append-le at (take n P) (m ∷ []) l)

  pub turned_in : (X : List ℕ) → X ≡ mid_of at (n + 1 - at) (set P n m)
      → put_mid at (n + 1 - at) (set P n m) (drop (length X - 1) X ++ take (length X - 1) X) ≡ (take at (take n P) ++ m ∷ drop at (take n P)) ++ drop (n + 1) P
  turned_in X e =
      let B = drop at (take n P) in
      let f : X ≡ B ++ m ∷ [] = e ∙ part in
      let z : length B ≡ length (B ++ m ∷ []) - 1 = omega (arith, length_push B m) in
      let a : at + (n + 1 - at) ≡ n + 1 = omega arith in
      rw (f, drop_at B (m ∷ []) (length (B ++ m ∷ []) - 1) z, take_at B (m ∷ []) (length (B ++ m ∷ []) - 1) z, drop-drop (n + 1 - at) at (set P n m), a, drop-set-lt (n + 1) P n m (omega arith), take-set-le at P n m k, take-take at n P k, append_assoc)
