-- Lists by their places.
--     none_next                    what no number below i has, and i has not, no number below i + 1 has
--     place_in, in_place           the entry in a place stands in the list, and what stands in a list has a place
--     pairwise_place, place_pairwise    pairs by two places, one before the other
--     get_or_map                     an entry of a list's image
--     get_or_below                   the numbers below n by their places
--     sum_set                      a list's sum after one entry is put to 0
--     over_next, over_take, over_over    words laid over memory one by one
use Rattle.std.proofs.Common.{ℕ, zero, suc, ◌+◌, ◌-◌, ◌≤◌, ◌<◌, add-one, le_of_suc-le-suc, arith, ◌≡◌, refl, sym, ap, subst, ◌∙◌, inl, inr, List, [], ◌∷◌, ◌++◌, append_assoc, map, length, length-take-le, get_or, take, take_all, take-take, drop, drop-cons, drop-drop, set}
use Rattle.std.proofs.lemmas.List.{set_at, take-append-le}
use Rattle.std.proofs.Math.Decide.{ℕ_discrete}
use Rattle.std.proofs.Math.Seq.{take-suc, drop-append-add}
use Rattle.laws.specs.Lists.{In, Pairwise, up_from, below}
use Rattle.laws.specs.Memory.{over, sum}

pub none_next : (P : ℕ → Type 0) (i : ℕ) → ((j : ℕ) → j < i → P j → ⊥) → (P i → ⊥) → (j : ℕ) → j < i + 1 → P j → ⊥
none_next P i h n j l = go (ℕ_discrete j i)
  where
    go : Dec (j ≡ i) → P j → ⊥
    go (yes e) = λ p. n (subst P e p)
    go (no e) = h j (omega arith)

module _ {A : Type 0} (d : A) where
  pub place_in : (xs : List A) (i : ℕ) → i < length xs → In (get_or xs i d) xs
  place_in [] i h = absurd (let z : ⊥ = omega arith in z)
  place_in (x ∷ xs) zero h = inl refl
  place_in (x ∷ xs) (suc i) h = inr (place_in xs i (le_of_suc-le-suc h))

  pub in_place : (xs : List A) (x : A) → In x xs → (i : ℕ) × (i < length xs) × (get_or xs i d ≡ x)
  in_place [] x h = absurd h
  in_place (y ∷ xs) x (inl e) = (0, omega arith, sym e)
  in_place (y ∷ xs) x (inr h) = let w = in_place xs x h in (suc w.0, omega (arith, w.1), w.2)

  pub pairwise_place : (R : A → A → Type 0) (xs : List A) → Pairwise R xs → (i j : ℕ) → i < j → j < length xs → R (get_or xs i d) (get_or xs j d)
  pairwise_place R [] p i j h l = absurd (let z : ⊥ = omega arith in z)
  pairwise_place R (x ∷ xs) p i zero h l = absurd (let z : ⊥ = omega arith in z)
  pairwise_place R (x ∷ xs) p zero (suc j) h l = p.0 (get_or xs j d) (place_in xs j (le_of_suc-le-suc l))
  pairwise_place R (x ∷ xs) p (suc i) (suc j) h l = pairwise_place R xs p.1 i j (le_of_suc-le-suc h) (le_of_suc-le-suc l)

  pub place_pairwise : (R : A → A → Type 0) (xs : List A) → ((i j : ℕ) → i < j → j < length xs → R (get_or xs i d) (get_or xs j d)) → Pairwise R xs
  place_pairwise R [] h = tt
  place_pairwise R (x ∷ xs) h =
      (λ y i. let w = in_place xs y i in subst (R x) w.2 (h 0 (suc w.0) (omega arith) (omega (arith, w.1))), place_pairwise R xs (λ i j k l. h (suc i) (suc j) (omega arith) (omega arith)))

-- any default serves within the list
pub get_or_map : {A B : Type 0} (f : A → B) (d : A) (e : B) (xs : List A) (i : ℕ) → i < length xs → get_or (map f xs) i e ≡ f (get_or xs i d)
get_or_map f d e [] i h = absurd (let z : ⊥ = omega arith in z)
get_or_map f d e (x ∷ xs) zero h = refl
get_or_map f d e (x ∷ xs) (suc i) h = get_or_map f d e xs i (le_of_suc-le-suc h)

length_up_from : (n i : ℕ) → length (up_from n i) ≡ n
length_up_from zero i = refl
length_up_from (suc n) i = ap suc (length_up_from n (suc i))

get_or_up_from : (n i k : ℕ) → k < n → get_or (up_from n i) k 0 ≡ i + k
get_or_up_from zero i k h = absurd (let z : ⊥ = omega arith in z)
get_or_up_from (suc n) i zero h = omega arith
get_or_up_from (suc n) i (suc k) h = get_or_up_from n (suc i) k (le_of_suc-le-suc h) ∙ omega arith

pub length_below : (n : ℕ) → length (below n) ≡ n
length_below n = length_up_from n 0

pub get_or_below : (n k : ℕ) → k < n → get_or (below n) k 0 ≡ k
get_or_below n k h = get_or_up_from n 0 k h ∙ omega arith

pub sum_set : (xs : List ℕ) (i : ℕ) → i < length xs → sum (set xs i 0) + get_or xs i 0 ≡ sum xs
sum_set [] i h = absurd (let z : ⊥ = omega arith in z)
sum_set (x ∷ xs) zero h = omega arith
sum_set (x ∷ xs) (suc i) h = omega (arith, sum_set xs i (le_of_suc-le-suc h))

-- the words ws laid over xs one by one: after the first k of them comes the next
module _ (ws xs : List ℕ) where
  pub over_none : over (take 0 ws) xs ≡ xs
  over_none = refl

  pub over_next : (k : ℕ) → k < length ws → length ws ≤ length xs → set (over (take k ws) xs) k (get_or ws k 0) ≡ over (take (k + 1) ws) xs
  over_next k h l =
      let n = length-take-le k ws (omega arith) in
      let m : length (take (k + 1) ws) ≡ k + 1 = length-take-le (k + 1) ws (omega arith) in
      rw (n, m, add-one, drop-cons xs k 0 (omega arith), set_at (take k ws) (get_or xs k 0) (drop (suc k) xs) (get_or ws k 0) k n, take-suc ws k 0 h) (sym (append_assoc (take k ws) (get_or ws k 0 ∷ []) (drop (suc k) xs)))

  -- what the first words are, while more are laid
  pub over_take : (j k : ℕ) → j ≤ k → k ≤ length ws → take j (over (take k ws) xs) ≡ take j ws
  over_take j k h l =
      let n : j ≤ length (take k ws) = omega (arith, length-take-le k ws l) in
      take-append-le j (take k ws) (drop (length (take k ws)) xs) n ∙ take-take j k ws h

  pub over_all : (k : ℕ) → length ws ≤ k → over (take k ws) xs ≡ over ws xs
  over_all k h = ap (λ (l : List ℕ). over l xs) (take_all k ws h)

-- what was laid before is laid over
pub over_over : (us ws xs : List ℕ) → length us ≤ length ws → over ws (over us xs) ≡ over ws xs
over_over us ws xs h =
    let e : length ws ≡ length us + (length ws - length us) = omega arith in
    ap (λ (l : List ℕ). ws ++ l)
    (ap (λ (k : ℕ). drop k (over us xs)) e ∙ drop-append-add us (drop (length us) xs) (length ws - length us) ∙ drop-drop (length ws - length us) (length us) xs ∙ ap (λ (k : ℕ). drop k xs) (sym e))
