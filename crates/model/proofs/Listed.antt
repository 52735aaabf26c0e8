-- The computed list of runs is the list that the rules describe, and no other.
--     from_none, from_each     the extensions of a run: of no further row, and of each row that fits with what extends it
--     runs_every       each run made of the rows us stands in `runs R ds us`
--     runs_only        nothing else does
--     runs_rising      its runs come in their order; runs_once: so each stands there once
--     runs_determined  a list of which all this is so is `runs R ds us`
--     runs_filter      the runs made of some of the rows are those of all runs that are made of them
--     before_longer, _irreflexive, _asymmetric     the order of runs
--     before_place     in a list in order, those before a run are those that stand in front of it
use Rattle.std.proofs.Common.{ℕ, zero, suc, ◌≤◌, ◌<◌, not-suc-le-zero, arith, ◌≡◌, refl, sym, subst, subst₂, ◌∙◌, Bool, true, false, ◌⊎◌, inl, inr, ◌↔◌, List, [], ◌∷◌, ◌++◌, append_assoc, append-nil, length}
use Rattle.laws.specs.Tests.{Tells}
use Rattle.laws.specs.Lists.{In, Pairwise, all, filter, flat}
use Rattle.laws.specs.Sets.{Rising}
use Rattle.laws.proofs.Tests.{tells_itself}
use Rattle.laws.proofs.Lists.{in_append, in_filter, filter_in, in_flat, flat_in, append_pairwise, pairwise_filter, pairwise_wider, pairwise_flat, rising_same, tells_all}
use Rattle.model.specs.Rows.{Dependency}
use Rattle.model.specs.Runs.{most_run, Rule, Decides, Stands, Run, Before, fits, Within, grown, from, next, runs}
use Rattle.model.proofs.Runs.{tells_fits, stands_none, stands_fits, stands_snoc}

-- the rows r come after the rows p one by one, each of them of us and passing the test
abbrev pub Grows : Rule → List Dependency → List ℕ → List ℕ → List ℕ → Type 0
Grows R ds us p [] = Unit {0}
Grows R ds us p (i ∷ r) = (In i us) × (fits R ds p i ≡ true) × (Grows R ds us (p ++ (i ∷ [])) r)

-- ---- the list has what grows row by row

in_grown : (b : Bool) (f : List ℕ → List (List ℕ)) (q x : List ℕ) → b ≡ true → In x (q ∷ f q) → In x (grown b f q)
in_grown b f q x e h = rw e h

grown_in : (b : Bool) (f : List ℕ → List (List ℕ)) (q x : List ℕ) → In x (grown b f q) → (b ≡ true) × In x (q ∷ f q)
grown_in true f q x h = (refl, h)
grown_in false f q x h = absurd h

module _ (R : Rule) (ds : List Dependency) (us : List ℕ) where
  pub from_none : (p : List ℕ) → from R ds us 0 p ≡ []
  unfolding from
  from_none p = refl

  pub from_each : (k : ℕ) (p : List ℕ) → from R ds us (suc k) p ≡ flat (next R ds us k p) us
  unfolding from
  from_each k p = refl

  in_from : (k : ℕ) (p : List ℕ) (i : ℕ) (r : List ℕ) → length (i ∷ r) ≤ k → Grows R ds us p (i ∷ r) → In (p ++ (i ∷ r)) (from R ds us k p)
  unfolding from
  in_from zero p i r h g = absurd (omega arith)
  in_from (suc k) p i [] h g =
      in_flat (next R ds us k p) (p ++ (i ∷ [])) i us g.0 (in_grown (fits R ds p i) (from R ds us k) (p ++ (i ∷ [])) (p ++ (i ∷ [])) g.1 (inl refl))
  in_from (suc k) p i (j ∷ r) h g =
      in_flat (next R ds us k p) (p ++ (i ∷ j ∷ r)) i us g.0
      (in_grown (fits R ds p i) (from R ds us k) (p ++ (i ∷ [])) (p ++ (i ∷ j ∷ r)) g.1
      (inr (subst (λ (q : List ℕ). In q (from R ds us k (p ++ (i ∷ [])))) (append_assoc p (i ∷ []) (j ∷ r)) (in_from k (p ++ (i ∷ [])) j r (omega arith) g.2))))

  abbrev Extends : ℕ → List ℕ → List ℕ → Type 0
  Extends k p q = (i : ℕ) × (r : List ℕ) × (q ≡ p ++ (i ∷ r)) × (length (i ∷ r) ≤ k) × (Grows R ds us p (i ∷ r))

  from_in : (k : ℕ) (p q : List ℕ) → In q (from R ds us k p) → Extends k p q
  unfolding from
  from_in zero p q h = absurd h
  from_in (suc k) p q h =
      let w = flat_in (next R ds us k p) q us h in
      let v = grown_in (fits R ds p w.0) (from R ds us k) (p ++ (w.0 ∷ [])) q w.2 in
      go w.0 w.1 v.0 v.1 (from_in k (p ++ (w.0 ∷ [])) q)
    where
      go : (i : ℕ) → In i us → fits R ds p i ≡ true → In q ((p ++ (i ∷ [])) ∷ from R ds us k (p ++ (i ∷ [])))
          → (In q (from R ds us k (p ++ (i ∷ []))) → Extends k (p ++ (i ∷ [])) q) → Extends (suc k) p q
      go i u f (inl e) ih = (i, [], e, omega arith, (u, f, tt))
      go i u f (inr m) ih =
          let w = ih m in
          (i, w.0 ∷ w.1, w.2 ∙ append_assoc p (i ∷ []) (w.0 ∷ w.1), omega (arith, w.3), (u, f, w.4))

-- ---- what grows row by row is what stands

module _ (R : Rule) (D : Decides R) (ds : List Dependency) (us : List ℕ) where
  stands_grows : (p r : List ℕ) → Stands R ds (p ++ r) → Within us r → Grows R ds us p r
  stands_grows p [] s h = tt
  stands_grows p (i ∷ r) s h = (
    h i (inl refl),
    (tells_fits R D ds p i).1 (stands_fits R ds p i r s),
    stands_grows (p ++ (i ∷ [])) r (subst (Stands R ds) (sym (append_assoc p (i ∷ []) r)) s) (λ j k. h j (inr k)),
  )

  grows_within : (p r : List ℕ) → Grows R ds us p r → Within us r
  grows_within p [] g j h = absurd h
  grows_within p (i ∷ r) g j (inl e) = subst (λ (k : ℕ). In k us) (sym e) g.0
  grows_within p (i ∷ r) g j (inr h) = grows_within (p ++ (i ∷ [])) r g.2 j h

  grows_stands : ((i : ℕ) → In i us → i < length ds) → (p r : List ℕ) → Stands R ds p → Grows R ds us p r → Stands R ds (p ++ r)
  grows_stands u p [] s g = subst (Stands R ds) (sym (append-nil p)) s
  grows_stands u p (i ∷ r) s g =
      subst (Stands R ds) (append_assoc p (i ∷ []) r)
      (grows_stands u (p ++ (i ∷ [])) r (stands_snoc R ds p i s (u i g.0) ((tells_fits R D ds p i).0 g.1)) g.2)

  pub runs_every : (p : List ℕ) → Run R ds p → Within us p → In p (runs R ds us)
  runs_every [] r h = absurd (not-suc-le-zero r.some)
  runs_every (i ∷ p) r h = in_from R ds us most_run [] i p r.few (stands_grows [] (i ∷ p) r.stands h)

  pub runs_only : ((i : ℕ) → In i us → i < length ds) → (p : List ℕ) → In p (runs R ds us) → (Run R ds p) × (Within us p)
  runs_only u p h =
      let w = from_in R ds us most_run [] p h in
      let g = w.4 in
      subst (λ (q : List ℕ). (Run R ds q) × (Within us q)) (sym w.2)
      (record { some = omega arith; few = w.3; stands = grows_stands u [] (w.0 ∷ w.1) (stands_none R ds) g }, grows_within [] (w.0 ∷ w.1) g)

-- ---- the order of runs

pub before_longer : (p : List ℕ) (i : ℕ) (r : List ℕ) → Before p (p ++ (i ∷ r))
before_longer [] i r = tt
before_longer (x ∷ p) i r = inr (refl, before_longer p i r)

before_under : (p a b : List ℕ) → Before a b → Before (p ++ a) (p ++ b)
before_under [] a b h = h
before_under (x ∷ p) a b h = inr (refl, before_under p a b h)

pub before_irreflexive : (p : List ℕ) → Before p p → ⊥
before_irreflexive [] h = h
before_irreflexive (x ∷ p) (inl l) = omega arith
before_irreflexive (x ∷ p) (inr h) = before_irreflexive p h.1

pub before_asymmetric : (p q : List ℕ) → Before p q → Before q p → ⊥
before_asymmetric [] [] h k = h
before_asymmetric [] (y ∷ q) h k = k
before_asymmetric (x ∷ p) [] h k = h
before_asymmetric (x ∷ p) (y ∷ q) (inl l) (inl m) = omega arith
before_asymmetric (x ∷ p) (y ∷ q) (inl l) (inr m) = omega (arith, m.0)
before_asymmetric (x ∷ p) (y ∷ q) (inr h) (inl m) = omega (arith, h.0)
before_asymmetric (x ∷ p) (y ∷ q) (inr h) (inr m) = before_asymmetric p q h.1 m.1

-- so the steps taken before a run is visited are its place in the order
pub before_place : (seen : List (List ℕ)) (x : List ℕ) (rest : List (List ℕ)) → Pairwise Before (seen ++ (x ∷ rest))
    → (q : List ℕ) → In q (seen ++ (x ∷ rest)) → In q seen ↔ Before q x
before_place seen x rest h q i = (λ m. w.2 q x m (inl refl), λ b. go b (in_append q seen (x ∷ rest) i))
  where
    w : (Pairwise Before seen) × (Pairwise Before (x ∷ rest)) × ((a b : List ℕ) → In a seen → In b (x ∷ rest) → Before a b)
    w = append_pairwise Before seen (x ∷ rest) h

    go : Before q x → In q seen ⊎ In q (x ∷ rest) → In q seen
    go b (inl m) = m
    go b (inr (inl e)) = absurd (before_irreflexive x (subst (λ (z : List ℕ). Before z x) e b))
    go b (inr (inr m)) = absurd (before_asymmetric q x b (w.1.0 q m))

module _ (R : Rule) (ds : List Dependency) (us : List ℕ) where
  -- what row i adds begins with p and i
  begins_next : (k : ℕ) (p q : List ℕ) (i : ℕ) → In q (next R ds us k p i) → (r : List ℕ) × (q ≡ p ++ (i ∷ r))
  begins_next k p q i h = go (grown_in (fits R ds p i) (from R ds us k) (p ++ (i ∷ [])) q h).1
    where
      go : In q ((p ++ (i ∷ [])) ∷ from R ds us k (p ++ (i ∷ []))) → (r : List ℕ) × (q ≡ p ++ (i ∷ r))
      go (inl e) = ([], e)
      go (inr m) = let w = from_in R ds us k (p ++ (i ∷ [])) q m in (w.0 ∷ w.1, w.2 ∙ append_assoc p (i ∷ []) (w.0 ∷ w.1))

  grown_rising : (b : Bool) (k : ℕ) (q : List ℕ) → Pairwise Before (from R ds us k q) → Pairwise Before (grown b (from R ds us k) q)
  grown_rising true k q h = (λ x m. let w = from_in R ds us k q x m in subst (Before q) (sym w.2) (before_longer q w.0 w.1), h)
  grown_rising false k q h = tt

  from_rising : Rising us → (k : ℕ) (p : List ℕ) → Pairwise Before (from R ds us k p)
  unfolding from
  from_rising u zero p = tt
  from_rising u (suc k) p =
      pairwise_flat (next R ds us k p) ◌<◌ Before us u (λ i h. grown_rising (fits R ds p i) k (p ++ (i ∷ [])) (from_rising u k (p ++ (i ∷ []))))
      (λ i j l a b s m.
      let x = begins_next k p a i s in
      let y = begins_next k p b j m in
      subst₂ (λ (c d : List ℕ). Before c d) (sym x.1) (sym y.1) (before_under p (i ∷ x.0) (j ∷ y.0) (inl l)))

  pub runs_rising : Rising us → Pairwise Before (runs R ds us)
  runs_rising u = from_rising u most_run []

  pub runs_once : Rising us → Pairwise (λ p q. p ≡ q → ⊥) (runs R ds us)
  runs_once u =
      pairwise_wider Before (λ p q. p ≡ q → ⊥) (runs R ds us) (λ p q h e. before_irreflexive q (subst (λ (z : List ℕ). Before z q) e h)) (runs_rising u)

module _ (R : Rule) (D : Decides R) (ds : List Dependency) (us : List ℕ) (u : Rising us) (b : (i : ℕ) → In i us → i < length ds) where
  pub runs_determined : (xs : List (List ℕ)) → Pairwise Before xs → ((p : List ℕ) → In p xs → (Run R ds p) × (Within us p)) → ((p : List ℕ) → Run R ds p → Within us p → In p xs)
      → xs ≡ runs R ds us
  runs_determined xs rise only every =
      rising_same Before before_irreflexive before_asymmetric xs (runs R ds us) rise (runs_rising R ds us u)
      (λ p h. let w = only p h in runs_every R D ds us p w.0 w.1) (λ p h. let w = runs_only R D ds us b p h in every p w.0 w.1)

  pub runs_filter : (f : ℕ → Bool) → filter (all f) (runs R ds us) ≡ runs R ds (filter f us)
  runs_filter f =
      rising_same Before before_irreflexive before_asymmetric (filter (all f) (runs R ds us)) (runs R ds (filter f us))
      (pairwise_filter Before (all f) (runs R ds us) (runs_rising R ds us u)) (runs_rising R ds (filter f us) (pairwise_filter ◌<◌ f us u))
      (λ p h.
      let w = filter_in (all f) p (runs R ds us) h in
      let v = runs_only R D ds us b p w.0 in
      runs_every R D ds (filter f us) p v.0 (λ i m. in_filter f i us (v.1 i m) ((whole p).0 w.1 i m)))
      (λ p h.
      let v = runs_only R D ds (filter f us) (λ i m. b i (filter_in f i us m).0) p h in
      in_filter (all f) p (runs R ds us) (runs_every R D ds us p v.0 (λ i m. (filter_in f i us (v.1 i m)).0)) ((whole p).1 (λ i m. (filter_in f i us (v.1 i m)).1)))
    where
      whole : (p : List ℕ) → Tells (all f p) ((i : ℕ) → In i p → f i ≡ true)
      whole p = tells_all f (λ i. tells_itself (f i)) p
