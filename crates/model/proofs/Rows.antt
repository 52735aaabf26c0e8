-- Rows and their numbers, and how rows change when a dependency arises.
--     row_in, in_row                  a row by its number
--     tells_same_dep, tells_known     what the tests tell
--     arose_known, arose_new, arose_either     the two cases
--     deps_counted, firsts_counted, placed_counted      a repeat changes no dependency and no position
--     counted_none                    and no row of another dependency
use Rattle.std.proofs.Common.{ℕ, zero, suc, ◌+◌, ◌≤◌, ◌<◌, le_of_suc-le-suc, not-suc-le-zero, arith, ◌≡◌, refl, sym, ap, ap₂, subst, Bool, true, false, inl, inr, ⊎_elim, List, [], ◌∷◌, ◌++◌, map, length, if◌then◌else◌}
use Rattle.laws.specs.Tests.{Tells}
use Rattle.laws.specs.Lists.{In}
use Rattle.laws.proofs.Tests.{either, fails, tells_same, tells_and, tells_as}
use Rattle.laws.proofs.Lists.{in_map, map_in, tells_any, tells_same_list}
use Rattle.model.specs.Rows.{Dependency, Row, row, same_dep, is_of, known, new_row, again, counted, arose, deps, placed}

pub row_in : (ds : List Dependency) (i : ℕ) → i < length ds → In (row ds i) ds
row_in [] i h = absurd (not-suc-le-zero h)
row_in (d ∷ ds) zero h = inl refl
row_in (d ∷ ds) (suc i) h = inr (row_in ds i (le_of_suc-le-suc h))

pub in_row : (ds : List Dependency) (d : Dependency) → In d ds → (i : ℕ) × (i < length ds) × (row ds i ≡ d)
in_row [] d h = absurd h
in_row (x ∷ ds) d (inl e) = (0, omega arith, sym e)
in_row (x ∷ ds) d (inr h) = let w = in_row ds d h in (suc w.0, omega (arith, w.1), w.2)

pub tells_same_dep : (d e : Dependency) → Tells (same_dep d e) (d ≡ e)
unfolding same_dep
tells_same_dep d e =
    tells_as (tells_and (tells_same d.thread e.thread) (tells_and (tells_same d.wanted e.wanted) (tells_same_list d.held e.held)))
    (λ w. join w.0 w.1.0 w.1.1)
    (λ q. (ap (λ (x : Dependency). x.thread) q, (ap (λ (x : Dependency). x.wanted) q, ap (λ (x : Dependency). x.held) q)))
  where
    join : d.thread ≡ e.thread → d.wanted ≡ e.wanted → d.held ≡ e.held → d ≡ e
    join p q h = λ i. record { thread = p i; wanted = q i; held = h i }

pub tells_known : (d : Dependency) (rs : List Row) → Tells (known d rs) (In d (deps rs))
tells_known d rs =
    tells_as (tells_any (is_of d) (λ r. tells_same_dep d r.what) rs)
    (λ w. subst (λ (x : Dependency). In x (deps rs)) (sym w.2) (in_map (λ (r : Row). r.what) w.0 rs w.1))
    (λ i. let w = map_in (λ (r : Row). r.what) d rs i in (w.0, w.1, w.2))

-- a known dependency has one occurrence more, and a new one comes last
pub data Arose (d : Dependency) (p : ℕ) (rs : List Row) : Type 0 where
  repeats : known d rs ≡ true → arose d p rs ≡ map (counted d) rs → Arose d p rs
  begins : known d rs ≡ false → arose d p rs ≡ rs ++ (new_row d p ∷ []) → Arose d p rs

pub arose_known : (d : Dependency) (p : ℕ) (rs : List Row) → known d rs ≡ true → arose d p rs ≡ map (counted d) rs
unfolding arose
arose_known d p rs e = rw e

pub arose_new : (d : Dependency) (p : ℕ) (rs : List Row) → known d rs ≡ false → arose d p rs ≡ rs ++ (new_row d p ∷ [])
unfolding arose
arose_new d p rs e = rw e

pub arose_either : (d : Dependency) (p : ℕ) (rs : List Row) → Arose d p rs
arose_either d p rs = ⊎_elim (λ e. repeats e (arose_known d p rs e)) (λ e. begins e (arose_new d p rs e)) (either (known d rs))

-- ---- a repeat

pub what_counted : (d : Dependency) (r : Row) → (counted d r).what ≡ r.what
what_counted d r = go (is_of d r)
  where
    go : (b : Bool) → (if b then again r else r).what ≡ r.what
    go true = refl
    go false = refl

pub first_counted : (d : Dependency) (r : Row) → (counted d r).first ≡ r.first
first_counted d r = go (is_of d r)
  where
    go : (b : Bool) → (if b then again r else r).first ≡ r.first
    go true = refl
    go false = refl

pub times_counted : (d : Dependency) (r : Row) → (r.times ≤ (counted d r).times) × ((counted d r).times ≤ r.times + 1)
times_counted d r = go (is_of d r)
  where
    go : (b : Bool) → (r.times ≤ (if b then again r else r).times) × ((if b then again r else r).times ≤ r.times + 1)
    go true = omega arith
    go false = omega arith

-- what a repeat leaves as it is, it leaves in every row
kept_counted : {A : Type 0} (f : Row → A) (d : Dependency) → ((r : Row) → f (counted d r) ≡ f r) → (rs : List Row) → map f (map (counted d) rs) ≡ map f rs
kept_counted f d e [] = refl
kept_counted f d e (r ∷ rs) = ap₂ (λ x xs. x ∷ xs) (e r) (kept_counted f d e rs)

pub deps_counted : (d : Dependency) (rs : List Row) → deps (map (counted d) rs) ≡ deps rs
deps_counted d = kept_counted (λ r. r.what) d (what_counted d)

pub firsts_counted : (d : Dependency) (rs : List Row) → map (λ r. r.first) (map (counted d) rs) ≡ map (λ r. r.first) rs
firsts_counted d = kept_counted (λ r. r.first) d (first_counted d)

pub placed_counted : (d : Dependency) (rs : List Row) → map placed (map (counted d) rs) ≡ map placed rs
placed_counted d = kept_counted placed d (λ r. ap₂ (λ x y. (x, y)) (what_counted d r) (first_counted d r))

-- no row of x is there to be counted
pub counted_none : (x : Dependency) (rs : List Row) → (In x (deps rs) → ⊥) → map (counted x) rs ≡ rs
counted_none x [] h = refl
counted_none x (r ∷ rs) h = rw (fails (tells_same_dep x r.what) (λ e. h (inl e))) (ap (λ (l : List Row). r ∷ l) (counted_none x rs (λ i. h (inr i))))
