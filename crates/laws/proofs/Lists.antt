-- Laws of lists.
--     in_left, in_right, in_append     what stands in two lists joined
--     in_map, map_in                   what stands in a list's image
--     in_filter, filter_in, filter_append      those that pass
--     filter_all, _shorter, _under     all pass; all pass or it gets shorter; of those that pass a wider test
--     in_none                          a list in which nothing stands
--     in_below, below_in, below_rising     the numbers below a number
--     tells_any, _all, _pairs, _in, _same_list     what the tests of lists tell
--     pairwise_.., append_pairwise     pairs of a joined list, of those that pass
--     distinct_few                     numbers below n that all differ are n at most
--     rising_same                      two lists that rise in one order and have the same in them are one list
--     begins_..                        beginnings
--     in_flat, flat_in, pairwise_flat  what stands in joined images, and pairs of them
--     map_append, flat_append, flat_filter, flat_begins     images of a joined list, of those that pass, of a beginning
use Rattle.std.proofs.Common.{ℕ, zero, suc, ◌+◌, ◌≤◌, ◌<◌, not-suc-le-zero, arith, ◌≡◌, refl, sym, ap, subst, ◌∙◌, Bool, true, false, not, ◌⊎◌, inl, inr, ⊎_elim, List, [], ◌∷◌, ◌++◌, append_assoc, append-nil, map, length, eqb, if◌then◌else◌}
use Rattle.std.proofs.lemmas.Bool.{false≢true}
use Rattle.std.proofs.Math.Decide.{ℕ_discrete}
use Rattle.laws.specs.Tests.{Tells}
use Rattle.laws.specs.Lists.{In, Pairwise, Begins, any, all, pairs, same, cons_if, filter, flat, up_from, below}
use Rattle.laws.proofs.Tests.{either, never, tells_same, tells_not, tells_or, tells_and, tells_as}

module _ {A : Type 0} where
  pub in_left : (q : A) (xs ys : List A) → In q xs → In q (xs ++ ys)
  in_left q [] ys h = absurd h
  in_left q (x ∷ xs) ys (inl e) = inl e
  in_left q (x ∷ xs) ys (inr h) = inr (in_left q xs ys h)

  pub in_right : (q : A) (xs ys : List A) → In q ys → In q (xs ++ ys)
  in_right q [] ys h = h
  in_right q (x ∷ xs) ys h = inr (in_right q xs ys h)

  pub in_append : (q : A) (xs ys : List A) → In q (xs ++ ys) → In q xs ⊎ In q ys
  in_append q [] ys h = inr h
  in_append q (x ∷ xs) ys (inl e) = inl (inl e)
  in_append q (x ∷ xs) ys (inr h) = ⊎_elim (λ a. inl (inr a)) inr (in_append q xs ys h)

  pub in_none : (xs : List A) → ((x : A) → In x xs → ⊥) → xs ≡ []
  in_none [] h = refl
  in_none (x ∷ xs) h = absurd (h x (inl refl))

  pub tells_any : {P : A → Type 0} (f : A → Bool) → ((x : A) → Tells (f x) (P x)) → (xs : List A) → Tells (any f xs) ((x : A) × In x xs × P x)
  tells_any f d [] = (λ h. absurd (false≢true h), λ h. absurd h.1)
  tells_any {P} f d (x ∷ xs) = tells_as (tells_or (d x) (tells_any f d xs)) there back
    where
      there : P x ⊎ ((y : A) × In y xs × P y) → (y : A) × In y (x ∷ xs) × P y
      there (inl p) = (x, inl refl, p)
      there (inr w) = (w.0, inr w.1, w.2)

      at : (y : A) → In y (x ∷ xs) → P y → P x ⊎ ((y : A) × In y xs × P y)
      at y (inl e) p = inl (subst P e p)
      at y (inr i) p = inr (y, i, p)

      back : (y : A) × In y (x ∷ xs) × P y → P x ⊎ ((y : A) × In y xs × P y)
      back w = at w.0 w.1 w.2

  pub tells_all : {P : A → Type 0} (f : A → Bool) → ((x : A) → Tells (f x) (P x)) → (xs : List A) → Tells (all f xs) ((x : A) → In x xs → P x)
  tells_all f d [] = (λ h x i. absurd i, λ h. refl)
  tells_all {P} f d (x ∷ xs) = tells_as (tells_and (d x) (tells_all f d xs)) there (λ h. (h x (inl refl), λ y i. h y (inr i)))
    where
      there : (P x) × ((y : A) → In y xs → P y) → (y : A) → In y (x ∷ xs) → P y
      there h y (inl e) = subst P (sym e) h.0
      there h y (inr i) = h.1 y i

  pub tells_pairs : {P : A → A → Type 0} (f : A → A → Bool) → ((x y : A) → Tells (f x y) (P x y)) → (xs : List A) → Tells (pairs f xs) (Pairwise P xs)
  tells_pairs f d [] = (λ h. tt, λ h. refl)
  tells_pairs f d (x ∷ xs) = tells_and (tells_all (f x) (d x) xs) (tells_pairs f d xs)

  -- ---- those that pass a test

  first_cons_if : (b : Bool) (x : A) (xs : List A) → b ≡ true → In x (cons_if b x xs)
  first_cons_if b x xs e = rw e (inl refl)

  rest_cons_if : (b : Bool) (q x : A) (xs : List A) → In q xs → In q (cons_if b x xs)
  rest_cons_if true q x xs h = inr h
  rest_cons_if false q x xs h = h

  in_cons_if : (b : Bool) (q x : A) (xs : List A) → In q (cons_if b x xs) → ((q ≡ x) × (b ≡ true)) ⊎ In q xs
  in_cons_if true q x xs (inl e) = inl (e, refl)
  in_cons_if true q x xs (inr h) = inr h
  in_cons_if false q x xs h = inr h

  pub in_filter : (f : A → Bool) (q : A) (xs : List A) → In q xs → f q ≡ true → In q (filter f xs)
  in_filter f q [] h e = h
  in_filter f q (x ∷ xs) (inl i) e = subst (λ (z : A). In q (cons_if (f z) z (filter f xs))) i (first_cons_if (f q) q (filter f xs) e)
  in_filter f q (x ∷ xs) (inr h) e = rest_cons_if (f x) q x (filter f xs) (in_filter f q xs h e)

  pub filter_in : (f : A → Bool) (q : A) (xs : List A) → In q (filter f xs) → (In q xs) × (f q ≡ true)
  filter_in f q [] h = absurd h
  filter_in f q (x ∷ xs) h = go (in_cons_if (f x) q x (filter f xs) h) (filter_in f q xs)
    where
      go : ((q ≡ x) × (f x ≡ true)) ⊎ In q (filter f xs) → (In q (filter f xs) → (In q xs) × (f q ≡ true)) → (In q (x ∷ xs)) × (f q ≡ true)
      go (inl w) ih = (inl w.0, ap f w.0 ∙ w.1)
      go (inr i) ih = (inr (ih i).0, (ih i).1)

  pub filter_append : (f : A → Bool) (xs ys : List A) → filter f (xs ++ ys) ≡ filter f xs ++ filter f ys
  filter_append f [] ys = refl
  filter_append f (x ∷ xs) ys = go (f x) (filter_append f xs ys)
    where
      go : (b : Bool) → filter f (xs ++ ys) ≡ filter f xs ++ filter f ys → cons_if b x (filter f (xs ++ ys)) ≡ cons_if b x (filter f xs) ++ filter f ys
      go true e = ap (λ (l : List A). x ∷ l) e
      go false e = e

  length_cons_if : (b : Bool) (x : A) (xs : List A) → length (cons_if b x xs) ≤ suc (length xs)
  length_cons_if true x xs = omega arith
  length_cons_if false x xs = omega arith

  pub length_filter : (f : A → Bool) (xs : List A) → length (filter f xs) ≤ length xs
  length_filter f [] = omega arith
  length_filter f (x ∷ xs) = omega (arith, length_cons_if (f x) x (filter f xs), length_filter f xs)

  pub filter_all : (f : A → Bool) (xs : List A) → ((x : A) → In x xs → f x ≡ true) → filter f xs ≡ xs
  filter_all f [] h = refl
  filter_all f (x ∷ xs) h = rw (h x (inl refl)) (ap (λ (l : List A). x ∷ l) (filter_all f xs (λ y i. h y (inr i))))

  pub filter_under : (f g : A → Bool) (xs : List A) → ((x : A) → In x xs → g x ≡ true → f x ≡ true) → filter g (filter f xs) ≡ filter g xs
  filter_under f g [] h = refl
  filter_under f g (x ∷ xs) h = go (f x) (g x) refl refl (filter_under f g xs (λ y i. h y (inr i)))
    where
      go : (b c : Bool) → f x ≡ b → g x ≡ c → filter g (filter f xs) ≡ filter g xs → filter g (cons_if b x (filter f xs)) ≡ cons_if c x (filter g xs)
      go true c p q e = rw (q, e)
      go false true p q e = absurd (never (h x (inl refl) q) p)
      go false false p q e = e

  pub filter_shorter : (f : A → Bool) (xs : List A) → (filter f xs ≡ xs) ⊎ (length (filter f xs) < length xs)
  filter_shorter f [] = inl refl
  filter_shorter f (x ∷ xs) = go (f x) (filter_shorter f xs)
    where
      go : (b : Bool) → (filter f xs ≡ xs) ⊎ (length (filter f xs) < length xs) → (cons_if b x (filter f xs) ≡ x ∷ xs) ⊎ (length (cons_if b x (filter f xs)) < suc (length xs))
      go true (inl e) = inl (ap (λ (l : List A). x ∷ l) e)
      go true (inr l) = inr (omega arith)
      go false h = inr (omega (arith, length_filter f xs))

  -- ---- pairs

  pub pairwise_append : (R : A → A → Type 0) (xs ys : List A) → Pairwise R xs → Pairwise R ys → ((a b : A) → In a xs → In b ys → R a b) → Pairwise R (xs ++ ys)
  pairwise_append R [] ys g h c = h
  pairwise_append R (x ∷ xs) ys g h c =
      (λ q m. ⊎_elim (g.0 q) (c x q (inl refl)) (in_append q xs ys m), pairwise_append R xs ys g.1 h (λ a b s t. c a b (inr s) t))

  pub append_pairwise : (R : A → A → Type 0) (xs ys : List A) → Pairwise R (xs ++ ys) → (Pairwise R xs) × (Pairwise R ys) × ((a b : A) → In a xs → In b ys → R a b)
  append_pairwise R [] ys h = (tt, h, λ a b i j. absurd i)
  append_pairwise R (x ∷ xs) ys h =
      let w = append_pairwise R xs ys h.1 in
      ((λ y i. h.0 y (in_left y xs ys i), w.0), w.1, cross w.2)
    where
      cross : ((a b : A) → In a xs → In b ys → R a b) → (a b : A) → In a (x ∷ xs) → In b ys → R a b
      cross ih a b (inl e) j = subst (λ (z : A). R z b) (sym e) (h.0 b (in_right b xs ys j))
      cross ih a b (inr i) j = ih a b i j

  pub pairwise_filter : (R : A → A → Type 0) (f : A → Bool) (xs : List A) → Pairwise R xs → Pairwise R (filter f xs)
  pairwise_filter R f [] h = tt
  pairwise_filter R f (x ∷ xs) h = go (f x) (pairwise_filter R f xs h.1)
    where
      go : (b : Bool) → Pairwise R (filter f xs) → Pairwise R (cons_if b x (filter f xs))
      go true p = (λ y i. h.0 y (filter_in f y xs i).0, p)
      go false p = p

  pub pairwise_wider : (R Q : A → A → Type 0) (xs : List A) → ((a b : A) → R a b → Q a b) → Pairwise R xs → Pairwise Q xs
  pairwise_wider R Q [] h p = tt
  pairwise_wider R Q (x ∷ xs) h p = (λ y i. h x y (p.0 y i), pairwise_wider R Q xs h p.1)

  -- two lists that rise in one order and have the same in them are one list
  pub rising_same : (R : A → A → Type 0) → ((a : A) → R a a → ⊥) → ((a b : A) → R a b → R b a → ⊥)
      → (xs ys : List A) → Pairwise R xs → Pairwise R ys → ((x : A) → In x xs → In x ys) → ((x : A) → In x ys → In x xs) → xs ≡ ys
  rising_same R irr asym [] [] g h s r = refl
  rising_same R irr asym [] (y ∷ ys) g h s r = absurd (r y (inl refl))
  rising_same R irr asym (x ∷ xs) [] g h s r = absurd (s x (inl refl))
  rising_same R irr asym (x ∷ xs) (y ∷ ys) g h s r =
      let e : x ≡ y = heads (s x (inl refl)) (r y (inl refl)) in
      both e (rising_same R irr asym xs ys g.1 h.1 (λ z i. right e z i (s z (inr i))) (λ z i. left e z i (r z (inr i))))
    where
      heads : In x (y ∷ ys) → In y (x ∷ xs) → x ≡ y
      heads (inl e) j = e
      heads (inr i) (inl e) = sym e
      heads (inr i) (inr j) = absurd (asym x y (g.0 y j) (h.0 x i))

      both : x ≡ y → xs ≡ ys → (x ∷ xs) ≡ (y ∷ ys)
      both e f = cc

      right : x ≡ y → (z : A) → In z xs → In z (y ∷ ys) → In z ys
      right e z i (inl f) = absurd (irr x (subst (R x) (f ∙ sym e) (g.0 z i)))
      right e z i (inr j) = j

      left : x ≡ y → (z : A) → In z ys → In z (x ∷ xs) → In z xs
      left e z i (inl f) = absurd (irr y (subst (R y) (f ∙ e) (h.0 z i)))
      left e z i (inr j) = j

  -- numbers below n that all differ are n at most
  without : (f : A → ℕ) (n : ℕ) (xs : List A) → Pairwise (λ a b. f a ≡ f b → ⊥) xs → length xs ≤ suc (length (filter (λ x. not (eqb (f x) n)) xs))
  without f n [] p = omega arith
  without f n (x ∷ xs) p = go (either (eqb (f x) n)) (without f n xs p.1)
    where
      others : f x ≡ n → filter (λ y. not (eqb (f y) n)) xs ≡ xs
      others e = filter_all (λ y. not (eqb (f y) n)) xs (λ y i. (tells_not (tells_same (f y) n)).1 (λ z. p.0 y i (e ∙ sym z)))

      go : (eqb (f x) n ≡ true) ⊎ (eqb (f x) n ≡ false) → length xs ≤ suc (length (filter (λ y. not (eqb (f y) n)) xs)) → suc (length xs) ≤ suc (length (cons_if (not (eqb (f x) n)) x (filter (λ y. not (eqb (f y) n)) xs)))
      go (inl e) ih = rw e (omega (arith, ap length (others ((tells_same (f x) n).0 e))))
      go (inr e) ih = rw e (omega arith)

  pub distinct_few : (f : A → ℕ) (n : ℕ) (xs : List A) → Pairwise (λ a b. f a ≡ f b → ⊥) xs → ((x : A) → In x xs → f x < n) → length xs ≤ n
  distinct_few f zero [] p h = omega arith
  distinct_few f zero (x ∷ xs) p h = absurd (not-suc-le-zero (h x (inl refl)))
  distinct_few f (suc n) xs p h =
      omega (
        arith,
        without f n xs p,
        distinct_few f n (filter (λ x. not (eqb (f x) n)) xs) (pairwise_filter (λ a b. f a ≡ f b → ⊥) (λ x. not (eqb (f x) n)) xs p)
            (λ x i. let w = filter_in (λ x. not (eqb (f x) n)) x xs i in lower (f x) (h x w.0) ((tells_not (tells_same (f x) n)).0 w.1)),
      )
    where
      lower : (k : ℕ) → k < suc n → (k ≡ n → ⊥) → k < n
      lower k l d = omega arith

  -- ---- beginnings

  pub begins_itself : (xs : List A) → Begins xs xs
  begins_itself xs = ([], sym (append-nil xs))

  pub begins_none : (xs : List A) → Begins [] xs
  begins_none xs = (xs, refl)

  pub begins_cons : (x : A) (xs ys : List A) → Begins xs ys → Begins (x ∷ xs) (x ∷ ys)
  begins_cons x xs ys w = (w.0, ap (λ (l : List A). x ∷ l) w.1)

  pub begins_longer : (xs ys : List A) → Begins xs (xs ++ ys)
  begins_longer xs ys = (ys, refl)

  pub begins_through : (xs ys zs : List A) → Begins xs ys → Begins ys zs → Begins xs zs
  begins_through xs ys zs v w = (v.0 ++ w.0, w.1 ∙ rw v.1 (append_assoc xs v.0 w.0))

-- ---- images and joined images

module _ {A B : Type 0} where
  pub in_map : (h : A → B) (x : A) (xs : List A) → In x xs → In (h x) (map h xs)
  in_map h x [] i = absurd i
  in_map h x (y ∷ ys) (inl e) = inl (ap h e)
  in_map h x (y ∷ ys) (inr i) = inr (in_map h x ys i)

  pub map_in : (h : A → B) (z : B) (xs : List A) → In z (map h xs) → (x : A) × In x xs × (z ≡ h x)
  map_in h z [] i = absurd i
  map_in h z (y ∷ ys) (inl e) = (y, inl refl, e)
  map_in h z (y ∷ ys) (inr i) = let w = map_in h z ys i in (w.0, inr w.1, w.2)

  pub map_append : (h : A → B) (xs ys : List A) → map h (xs ++ ys) ≡ map h xs ++ map h ys
  map_append h [] ys = refl
  map_append h (x ∷ xs) ys = ap (λ (l : List B). h x ∷ l) (map_append h xs ys)

  pub flat_append : (f : A → List B) (xs ys : List A) → flat f (xs ++ ys) ≡ flat f xs ++ flat f ys
  flat_append f [] ys = refl
  flat_append f (x ∷ xs) ys = ap (λ (l : List B). f x ++ l) (flat_append f xs ys) ∙ sym (append_assoc (f x) (flat f xs) (flat f ys))

  pub flat_begins : (f : A → List B) (xs ys : List A) → Begins xs ys → Begins (flat f xs) (flat f ys)
  flat_begins f xs ys w = (flat f w.0, ap (flat f) w.1 ∙ flat_append f xs w.0)

  pub flat_filter : (f : A → List B) (g : A → Bool) (xs : List A) → flat f (filter g xs) ≡ flat (λ x. if g x then f x else []) xs
  flat_filter f g [] = refl
  flat_filter f g (x ∷ xs) = go (g x) (flat_filter f g xs)
    where
      go : (b : Bool) → flat f (filter g xs) ≡ flat (λ x. if g x then f x else []) xs
          → flat f (cons_if b x (filter g xs)) ≡ (if b then f x else []) ++ flat (λ x. if g x then f x else []) xs
      go true e = ap (λ (l : List B). f x ++ l) e
      go false e = e

  pub in_flat : (f : A → List B) (q : B) (x : A) (xs : List A) → In x xs → In q (f x) → In q (flat f xs)
  in_flat f q x [] i h = absurd i
  in_flat f q x (y ∷ ys) (inl e) h = in_left q (f y) (flat f ys) (subst (λ (z : A). In q (f z)) e h)
  in_flat f q x (y ∷ ys) (inr i) h = in_right q (f y) (flat f ys) (in_flat f q x ys i h)

  pub flat_in : (f : A → List B) (q : B) (xs : List A) → In q (flat f xs) → (x : A) × In x xs × In q (f x)
  flat_in f q [] h = absurd h
  flat_in f q (y ∷ ys) h = go (in_append q (f y) (flat f ys) h) (flat_in f q ys)
    where
      go : In q (f y) ⊎ In q (flat f ys) → (In q (flat f ys) → (x : A) × In x ys × In q (f x)) → (x : A) × In x (y ∷ ys) × In q (f x)
      go (inl i) ih = (y, inl refl, i)
      go (inr i) ih = let w = ih i in (w.0, inr w.1, w.2)

  pub pairwise_flat : (f : A → List B) (S : A → A → Type 0) (R : B → B → Type 0) (xs : List A) → Pairwise S xs → ((x : A) → In x xs → Pairwise R (f x))
      → ((x y : A) → S x y → (a b : B) → In a (f x) → In b (f y) → R a b) → Pairwise R (flat f xs)
  pairwise_flat f S R [] p h c = tt
  pairwise_flat f S R (x ∷ xs) p h c =
      pairwise_append R (f x) (flat f xs) (h x (inl refl)) (pairwise_flat f S R xs p.1 (λ y i. h y (inr i)) c)
      (λ a b i j. let w = flat_in f b xs j in c x w.0 (p.0 w.0 w.1) a b i w.2)

pub tells_in : (m : ℕ) (xs : List ℕ) → Tells (any (eqb m) xs) (In m xs)
tells_in m xs = tells_as (tells_any (eqb m) (tells_same m) xs) (λ w. subst (λ (z : ℕ). In z xs) (sym w.2) w.1) (λ i. (m, i, refl))

pub tells_same_list : (xs ys : List ℕ) → Tells (same xs ys) (xs ≡ ys)
tells_same_list [] [] = (λ e. refl, λ e. refl)
tells_same_list [] (y ∷ ys) = (λ e. absurd (false≢true e), λ e. absurd (let z : ◌≡◌ {A = ℕ} 0 1 = cc in omega arith))
tells_same_list (x ∷ xs) [] = (λ e. absurd (false≢true e), λ e. absurd (let z : ◌≡◌ {A = ℕ} 0 1 = cc in omega arith))
tells_same_list (x ∷ xs) (y ∷ ys) = tells_as (tells_and (tells_same x y) (tells_same_list xs ys)) (λ w. join w.0 w.1) (λ e. (heads e, tails e))
  where
    join : x ≡ y → xs ≡ ys → (x ∷ xs) ≡ (y ∷ ys)
    join p q = cc

    heads : (x ∷ xs) ≡ (y ∷ ys) → x ≡ y
    heads e = cc

    tails : (x ∷ xs) ≡ (y ∷ ys) → xs ≡ ys
    tails e = cc

-- ---- the numbers below n

in_up_from : (k n i : ℕ) → i ≤ k → k < i + n → In k (up_from n i)
in_up_from k zero i a b = absurd (omega arith)
in_up_from k (suc n) i a b = go (ℕ_discrete k i) (in_up_from k n (suc i))
  where
    go : Dec (k ≡ i) → (suc i ≤ k → k < suc i + n → In k (up_from n (suc i))) → In k (up_from (suc n) i)
    go (yes e) ih = inl e
    go (no e) ih = inr (ih (omega arith) (omega arith))

up_from_in : (k n i : ℕ) → In k (up_from n i) → (i ≤ k) × (k < i + n)
up_from_in k zero i h = absurd h
up_from_in k (suc n) i (inl e) = (omega arith, omega arith)
up_from_in k (suc n) i (inr h) = let w = up_from_in k n (suc i) h in (omega (arith, w.0), omega (arith, w.1))

up_from_rising : (n i : ℕ) → Pairwise ◌<◌ (up_from n i)
up_from_rising zero i = tt
up_from_rising (suc n) i = (λ k h. (up_from_in k n (suc i) h).0, up_from_rising n (suc i))

pub in_below : (k n : ℕ) → k < n → In k (below n)
in_below k n h = in_up_from k n 0 (omega arith) (omega arith)

pub below_in : (k n : ℕ) → In k (below n) → k < n
below_in k n h = omega (arith, (up_from_in k n 0 h).1)

pub below_rising : (n : ℕ) → Pairwise ◌<◌ (below n)
below_rising n = up_from_rising n 0
