-- Lists.
--     In x xs           x stands in xs
--     Pairwise R xs     R x y for each x of xs and each y after it
--     Linked R xs       R x y for each x of xs and the y next after it
--     Begins xs ys      ys begins with xs
--     any f xs          the test: some entry passes f
--     all f xs          the test: every entry passes f
--     pairs f xs        the test: f x y for each x of xs and each y after it
--     same xs ys        the test: two lists of numbers are equal
--     filter f xs       the entries that pass f
--     flat f xs         f x for each x, one after the other
--     below n           the numbers below n, rising
use Rattle.std.specs.Prelude.{ℕ, zero, suc, ◌≡◌, Bool, true, false, ◌&&◌, ◌||◌, ◌⊎◌, List, [], ◌∷◌, ◌++◌, eqb}

abbrev pub In : {A : Type 0} → A → List A → Type 0
In q [] = ⊥
In q (x ∷ xs) = (q ≡ x) ⊎ In q xs

abbrev pub Pairwise : {A : Type 0} → (A → A → Type 0) → List A → Type 0
Pairwise R [] = Unit {0}
Pairwise {A} R (x ∷ xs) = ((y : A) → In y xs → R x y) × Pairwise R xs

abbrev pub Linked : {A : Type 0} → (A → A → Type 0) → List A → Type 0
Linked R [] = Unit {0}
Linked R (x ∷ []) = Unit {0}
Linked R (x ∷ y ∷ ys) = R x y × Linked R (y ∷ ys)

abbrev pub Begins : {A : Type 0} → List A → List A → Type 0
Begins {A} xs ys = (zs : List A) × (ys ≡ xs ++ zs)

abbrev pub any : {A : Type 0} → (A → Bool) → List A → Bool
any f [] = false
any f (x ∷ xs) = f x || any f xs

abbrev pub all : {A : Type 0} → (A → Bool) → List A → Bool
all f [] = true
all f (x ∷ xs) = f x && all f xs

abbrev pub pairs : {A : Type 0} → (A → A → Bool) → List A → Bool
pairs f [] = true
pairs f (x ∷ xs) = all (f x) xs && pairs f xs

abbrev pub same : List ℕ → List ℕ → Bool
same [] [] = true
same [] (y ∷ ys) = false
same (x ∷ xs) [] = false
same (x ∷ xs) (y ∷ ys) = eqb x y && same xs ys

-- x in front of xs where b passes
abbrev pub cons_if : {A : Type 0} → Bool → A → List A → List A
cons_if true x xs = x ∷ xs
cons_if false x xs = xs

abbrev pub filter : {A : Type 0} → (A → Bool) → List A → List A
filter f [] = []
filter f (x ∷ xs) = cons_if (f x) x (filter f xs)

abbrev pub flat : {A B : Type 0} → (A → List B) → List A → List B
flat f [] = []
flat f (x ∷ xs) = f x ++ flat f xs

-- n numbers from i up
abbrev pub up_from : ℕ → ℕ → List ℕ
up_from zero i = []
up_from (suc n) i = i ∷ up_from n (suc i)

abbrev pub below : ℕ → List ℕ
below n = up_from n 0
