-- A rising list is a set.
--     insert_in, in_insert     who is in after a number is put in
--     remove_in, in_remove     who is in after a number is taken out
--     insert_rising, remove_rising     a rising list stays rising
--     rising_one               two rising lists with the same numbers in them are one list
--     insert_swap              the order of putting in is forgotten
--     length_insert, length_remove
use Rattle.std.proofs.Common.{ℕ, suc, ◌≤◌, ◌<◌, arith, ◌≡◌, refl, sym, ap, Bool, true, false, not, ◌⊎◌, inl, inr, ⊎_elim, List, [], ◌∷◌, length, eqb, ltb, ltb-true, ltb-false, if◌then◌else◌}
use Rattle.laws.specs.Lists.{In}
use Rattle.laws.specs.Sets.{Rising, insert, remove}
use Rattle.laws.proofs.Tests.{tells_not, tells_same}
use Rattle.laws.proofs.Lists.{in_filter, filter_in, length_filter, pairwise_filter, rising_same}

pub insert_in : (m : ℕ) (xs : List ℕ) (k : ℕ) → In k (insert m xs) → (k ≡ m) ⊎ In k xs
unfolding insert
insert_in m [] k h = h
insert_in m (x ∷ xs) k h = go (ltb m x) (insert_in m xs k) h
  where
    go : (b : Bool) → (In k (insert m xs) → (k ≡ m) ⊎ In k xs) → In k (if b then m ∷ x ∷ xs else x ∷ insert m xs) → (k ≡ m) ⊎ In k (x ∷ xs)
    go true ih h = h
    go false ih (inl e) = inr (inl e)
    go false ih (inr i) = ⊎_elim inl (λ j. inr (inr j)) (ih i)

pub in_insert : (m : ℕ) (xs : List ℕ) (k : ℕ) → (k ≡ m) ⊎ In k xs → In k (insert m xs)
unfolding insert
in_insert m [] k h = h
in_insert m (x ∷ xs) k h = go (ltb m x) (in_insert m xs k) h
  where
    go : (b : Bool) → ((k ≡ m) ⊎ In k xs → In k (insert m xs)) → (k ≡ m) ⊎ In k (x ∷ xs) → In k (if b then m ∷ x ∷ xs else x ∷ insert m xs)
    go true ih h = h
    go false ih (inl e) = inr (ih (inl e))
    go false ih (inr (inl e)) = inl e
    go false ih (inr (inr i)) = inr (ih (inr i))

pub length_insert : (m : ℕ) (xs : List ℕ) → length (insert m xs) ≡ suc (length xs)
unfolding insert
length_insert m [] = refl
length_insert m (x ∷ xs) = go (ltb m x) (length_insert m xs)
  where
    go : (b : Bool) → length (insert m xs) ≡ suc (length xs) → length (if b then m ∷ x ∷ xs else x ∷ insert m xs) ≡ suc (suc (length xs))
    go true e = refl
    go false e = ap suc e

pub insert_rising : (m : ℕ) (xs : List ℕ) → Rising xs → (In m xs → ⊥) → Rising (insert m xs)
unfolding insert
insert_rising m [] r n = (λ k i. absurd i, tt)
insert_rising m (x ∷ xs) r n = go (ltb m x) refl (insert_rising m xs r.1 (λ i. n (inr i)))
  where
    over : m < x → (k : ℕ) → In k (x ∷ xs) → m < k
    over l k (inl e) = omega arith
    over l k (inr i) = omega (arith, r.0 k i)

    under : x ≤ m → (k : ℕ) → (k ≡ m) ⊎ In k xs → x < k
    under l k (inl e) = omega (arith, other)
      where
        other : x ≡ m → ⊥
        other q = n (inl (sym q))
    under l k (inr i) = r.0 k i

    go : (b : Bool) → ltb m x ≡ b → Rising (insert m xs) → Rising (if b then m ∷ x ∷ xs else x ∷ insert m xs)
    go true q s = (over (ltb-true m x q), r)
    go false q s = (λ k i. under (ltb-false m x q) k (insert_in m xs k i), s)

pub remove_in : (m : ℕ) (xs : List ℕ) (k : ℕ) → In k (remove m xs) → (In k xs) × (m ≡ k → ⊥)
remove_in m xs k h = let w = filter_in (λ x. not (eqb m x)) k xs h in (w.0, (tells_not (tells_same m k)).0 w.1)

pub in_remove : (m : ℕ) (xs : List ℕ) (k : ℕ) → In k xs → (m ≡ k → ⊥) → In k (remove m xs)
in_remove m xs k h n = in_filter (λ x. not (eqb m x)) k xs h ((tells_not (tells_same m k)).1 n)

pub length_remove : (m : ℕ) (xs : List ℕ) → length (remove m xs) ≤ length xs
length_remove m xs = length_filter (λ x. not (eqb m x)) xs

pub remove_rising : (m : ℕ) (xs : List ℕ) → Rising xs → Rising (remove m xs)
remove_rising m xs r = pairwise_filter ◌<◌ (λ x. not (eqb m x)) xs r

pub rising_one : (xs ys : List ℕ) → Rising xs → Rising ys → ((k : ℕ) → In k xs → In k ys) → ((k : ℕ) → In k ys → In k xs) → xs ≡ ys
rising_one = rising_same ◌<◌ (λ a h. omega arith) (λ a b g h. omega arith)

pub insert_swap : (a b : ℕ) (xs : List ℕ) → Rising xs → (In a xs → ⊥) → (In b xs → ⊥) → (a ≡ b → ⊥) → insert a (insert b xs) ≡ insert b (insert a xs)
insert_swap a b xs r p q n =
    rising_one (insert a (insert b xs)) (insert b (insert a xs)) (rises a b p q n) (rises b a q p (λ e. n (sym e))) (there a b) (there b a)
  where
    rises : (c d : ℕ) → (In c xs → ⊥) → (In d xs → ⊥) → (c ≡ d → ⊥) → Rising (insert c (insert d xs))
    rises c d p q n = insert_rising c (insert d xs) (insert_rising d xs r q) (λ i. ⊎_elim n p (insert_in d xs c i))

    there : (c d k : ℕ) → In k (insert c (insert d xs)) → In k (insert d (insert c xs))
    there c d k h =
        in_insert d (insert c xs) k
        (⊎_elim (λ e. inr (in_insert c xs k (inl e))) (λ i. ⊎_elim inl (λ j. inr (in_insert c xs k (inr j))) (insert_in d xs k i)) (insert_in c (insert d xs) k h))
