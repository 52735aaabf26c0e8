-- The search for a pair of rows that ties a lock.
--     pair_ties, ties_pair     a pair of rows ties a lock, and what is tied has a pair
--     passed_start, _holder, _fewer    how a search goes on
use Rattle.std.proofs.Common.{ℕ, ◌+◌, ◌<◌, arith, ◌≡◌, sym, subst, ◌∙◌, List}
use Rattle.std.proofs.Math.Decide.{ℕ_discrete}
use Rattle.laws.specs.Lists.{In}
use Rattle.laws.proofs.Places.{place_in, in_place}
use Rattle.model.specs.Rows.{Dependency, blank}
use Rattle.model.specs.Given.{deps_of}
use Rattle.model.specs.Tied.{Ties}
use Rattle.model.proofs.Given.{dep_at, deps_at, length_deps}
use Rattle.marks.specs.Working.{On, Meets, Asks, Follows, Pairs, Passed}

-- that a row holds a marked lock, by the places of H and by what stands in it
pub meets_in : (L : List ℕ) (d : Dependency) → Meets L d → (k : ℕ) × In k d.held × On L k
meets_in L d w = (w.1, subst (λ (m : ℕ). In m d.held) w.3 (place_in w.1 d.held w.0 w.2), w.4)

pub in_meets : (L : List ℕ) (d : Dependency) (k : ℕ) → In k d.held → On L k → Meets L d
in_meets L d k i o = let v = in_place k d.held k i in (v.0, k, v.1, v.2, o)

-- the rows by their numbers
module _ (t : List ℕ) (n : ℕ) where
  pub dep_in : (i : ℕ) → i < n → In (dep_at t i) (deps_of n t)
  dep_in i h = subst (λ (d : Dependency). In d (deps_of n t)) (deps_at n t i h) (place_in blank (deps_of n t) i (omega (arith, length_deps n t)))

  pub in_dep : (d : Dependency) → In d (deps_of n t) → (i : ℕ) × (i < n) × (dep_at t i ≡ d)
  in_dep d h =
      let w = in_place blank (deps_of n t) d h in
      let l : w.0 < n = omega (arith, w.1, length_deps n t) in
      (w.0, l, sym (deps_at n t w.0 l) ∙ w.2)

  pub pair_ties : (L : List ℕ) (m i j : ℕ) → i < n → j < n → Pairs (dep_at t) L m i j → Ties (deps_of n t) (On L) m
  pair_ties L m i j h l p =
      let w = meets_in L (dep_at t i) p.0.1 in
      record {
        asker = dep_at t i;
        asks = dep_in i h;
        wants = p.0.0;
        lock = w.0;
        locked = w.1;
        within = w.2;
        holder = dep_at t j;
        stands = dep_in j l;
        holds = p.1;
        follows = p.2.1;
        differ = λ e. p.2.0 (sym e);
      }

  -- a pair by its rows
  pair_of : (L : List ℕ) (m i j : ℕ) (d e : Dependency) → dep_at t i ≡ d → dep_at t j ≡ e → Asks L m d × In m e.held × Follows L d.thread e → Pairs (dep_at t) L m i j
  pair_of L m i j d e p q w =
      subst (λ (x : Dependency). Asks L m x × In m (dep_at t j).held × Follows L x.thread (dep_at t j)) (sym p)
      (subst (λ (y : Dependency). Asks L m d × In m y.held × Follows L d.thread y) (sym q) w)

  pub ties_pair : (L : List ℕ) (m : ℕ) → Ties (deps_of n t) (On L) m → (i j : ℕ) × (i < n) × (j < n) × Pairs (dep_at t) L m i j
  ties_pair L m w =
      let a = in_dep w.asker w.asks in
      let b = in_dep w.holder w.stands in (
        a.0,
        b.0,
        a.1,
        b.1,
        pair_of L m a.0 b.0 w.asker w.holder a.2 b.2 ((w.wants, in_meets L w.asker w.lock w.locked w.within), w.holds, ((λ e. w.differ (sym e)), w.follows)),
      )

-- ---- the search for a pair

module _ (f : ℕ → Dependency) (n : ℕ) (L : List ℕ) (m : ℕ) where
  pub passed_start : Passed f n L m 0 0
  passed_start = record { before = λ i j h. absurd (let z : ⊥ = omega arith in z); here = λ j h. absurd (let z : ⊥ = omega arith in z) }

  pub passed_holder : (r q : ℕ) → Passed f n L m r q → (Pairs f L m r q → ⊥) → Passed f n L m r (q + 1)
  passed_holder r q p h = record { before = p.before; here = λ j a. go j (ℕ_discrete j q) a }
    where
      go : (j : ℕ) → Dec (j ≡ q) → j < q + 1 → Pairs f L m r j → ⊥
      go j (yes e) a = λ w. h (subst (Pairs f L m r) e w)
      go j (no e) a = p.here j (omega arith)

-- fewer marks tie no more
module _ (f : ℕ → Dependency) (n : ℕ) (L M : List ℕ) (sub : (k : ℕ) → On M k → On L k) (m : ℕ) where
  pair_wider : (i j : ℕ) → Pairs f M m i j → Pairs f L m i j
  pair_wider i j w = ((w.0.0, (let a = w.0.1 in (a.0, a.1, a.2, a.3, sub a.1 a.4))), w.1, (w.2.0, sub (f j).wanted w.2.1))

  pub passed_fewer : (r q : ℕ) → Passed f n L m r q → Passed f n M m r q
  passed_fewer r q p = record { before = λ i j a b w. p.before i j a b (pair_wider i j w); here = λ j a w. p.here j a (pair_wider r j w) }
