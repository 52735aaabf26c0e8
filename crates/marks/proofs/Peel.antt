-- Taking out locks that no pair of rows ties to the rest.
--     peels_start, _out    the marks at the start, and where a lock is taken out
--     tried_found, _out        what trying a lock leaves
--     peeled                   marks of which a sweep takes out none are those of K
use Rattle.std.proofs.Common.{ℕ, ◌≤◌, ◌<◌, arith, ◌≡◌, refl, sym, ap, subst, ◌∙◌, true, false, true≢false, List, length, get_or, set, length-set, replicate, ext_get_or, get_or-set_same, get_or-set_other}
use Rattle.std.proofs.lemmas.Bool.{false≢true}
use Rattle.std.proofs.lemmas.List.{length-replicate, get_or-replicate}
use Rattle.std.proofs.Math.Decide.{ℕ_discrete, dec_lt}
use Rattle.std.proofs.Math.ListN.{get_or-eq_default}
use Rattle.laws.specs.Lists.{In}
use Rattle.laws.specs.Sets.{has}
use Rattle.laws.proofs.Tests.{fails}
use Rattle.laws.proofs.Lists.{map_in, tells_in}
use Rattle.laws.proofs.Places.{sum_set}
use Rattle.model.specs.Rows.{Dependency}
use Rattle.model.specs.Given.{deps_of}
use Rattle.model.specs.Tied.{Ties}
use Rattle.model.specs.Kept.{K}
use Rattle.model.specs.Marking.{mark, lock_marks}
use Rattle.model.proofs.Kept.{K_largest, K_wanted, K_untied}
use Rattle.model.proofs.Marks.{locks_length, lock_mark}
use Rattle.model.proofs.Given.{dep_at}
use Rattle.marks.specs.declared.peeling.Pair.{Pair}
use Rattle.marks.specs.Working.{On, Pairs, Stops, no_pair, Peels, Tried}
use Rattle.marks.proofs.Search.{in_dep, pair_ties, ties_pair, passed_start, passed_fewer}

module _ (t : List ℕ) (n : ℕ) where
  pub peels_start : (L : List ℕ) → length L ≡ 256 → ((m : ℕ) → get_or L m 0 ≤ 1) → ((i : ℕ) → i < n → On L (dep_at t i).wanted) → Peels t n L (replicate 256 no_pair)
  peels_start L l bits wanted =
      record {
        marks = l;
        searches = length-replicate 256 no_pair;
        bits = bits;
        inside = λ m k. let w = map_in (λ (d : Dependency). d.wanted) m (deps_of n t) (K_wanted (deps_of n t) m k) in
            let v = in_dep t n w.0 w.1 in
            subst (On L) (ap (λ (d : Dependency). d.wanted) v.2 ∙ sym w.2) (wanted v.0 v.1);
        passed = λ m h. rw (get_or-replicate 256 m no_pair no_pair h) (passed_start (dep_at t) n L m);
      }

  module _ (L : List ℕ) (P : List Pair) (I : Peels t n L P) (m : ℕ) (l : m < 256) where
    pub tried_found : (p : Pair) → Stops (dep_at t) n L m p → Tried t n L false L m
    tried_found p F = record { stays = λ e. (refl, λ o. pair_ties t n L m p.asker p.holder F.asker F.holder F.pair); leaves = λ e. absurd (false≢true e) }

    module _ (none : (i j : ℕ) → i < n → j < n → Pairs (dep_at t) L m i j → ⊥) (o : On L m) where
      untied : Ties (deps_of n t) (On L) m → ⊥
      untied w = let p = ties_pair t n L m w in none p.0 p.1 p.2 p.3 p.4

      -- an entry of the marks without m
      there : (k : ℕ) → (k ≡ m → ⊥) → get_or (set L m 0) k 0 ≡ get_or L k 0
      there k z = get_or-set_other L m k 0 0 z

      here : (k : ℕ) → k ≡ m → get_or (set L m 0) k 0 ≡ 0
      here k z = rw z (get_or-set_same L m 0 0 (omega (arith, I.marks)))

      fewer : (k : ℕ) → On (set L m 0) k → On L k
      fewer k h = go (ℕ_discrete k m)
        where
          go : Dec (k ≡ m) → On L k
          go (yes z) = subst (On L) (sym z) o
          go (no z) = sym (there k z) ∙ h

      pub peels_out : Peels t n (set L m 0) P
      peels_out =
          record {
            marks = length-set L m 0 ∙ I.marks;
            searches = I.searches;
            bits = λ k. bits k (ℕ_discrete k m);
            inside = λ k h. inside k h (ℕ_discrete k m);
            passed = λ k h. passed_fewer (dep_at t) n L (set L m 0) fewer k (get_or P k no_pair).asker (get_or P k no_pair).holder (I.passed k h);
          }
        where
          bits : (k : ℕ) → Dec (k ≡ m) → get_or (set L m 0) k 0 ≤ 1
          bits k (yes z) = omega (arith, here k z)
          bits k (no z) = omega (arith, there k z, I.bits k)

          inside : (k : ℕ) → In k (K (deps_of n t)) → Dec (k ≡ m) → On (set L m 0) k
          inside k h (yes z) = absurd (K_untied (deps_of n t) (On L) I.inside m untied (subst (λ (q : ℕ). In q (K (deps_of n t))) z h))
          inside k h (no z) = there k z ∙ I.inside k h

      pub tried_out : Tried t n L true (set L m 0) m
      tried_out = record { stays = λ e. absurd (true≢false e); leaves = λ e. omega (arith, sum_set L m (omega (arith, I.marks)), o) }

  -- marks that are all tied are those of K
  tied_peeled : (L : List ℕ) (P : List Pair) → Peels t n L P → ((m : ℕ) → m < 256 → On L m → Ties (deps_of n t) (On L) m) → L ≡ lock_marks (deps_of n t)
  unfolding lock_marks
  tied_peeled L P I tied = ext_get_or 0 L (lock_marks (deps_of n t)) (I.marks ∙ sym (locks_length (deps_of n t))) (λ m h. same m (omega (arith, I.marks)))
    where
      ds : List Dependency
      ds = deps_of n t

      below_it : (m : ℕ) → On L m → m < 256
      below_it m o = go (dec_lt m 256)
        where
          go : Dec (m < 256) → m < 256
          go (yes h) = h
          go (no h) = let k : length L ≤ m = omega (arith, I.marks) in absurd (let z : ⊥ = omega (arith, get_or-eq_default L 0 k, o) in z)

      most : (m : ℕ) → On L m → In m (K ds)
      most = (K_largest ds).every (On L) (λ m o. tied m (below_it m o) o)

      same : (m : ℕ) → m < 256 → get_or L m 0 ≡ get_or (lock_marks ds) m 0
      same m h =
          go (ℕ_discrete (get_or L m 0) 1) ∙ sym (lock_mark ds m h)
        where
          go : Dec (get_or L m 0 ≡ 1) → get_or L m 0 ≡ mark (has m (K ds))
          go (yes o) = o ∙ sym (ap mark ((tells_in m (K ds)).1 (most m o)))
          go (no o) =
              let z : get_or L m 0 ≡ 0 = omega (arith, I.bits m) in
              z ∙ sym (ap mark (fails (tells_in m (K ds)) (λ i. o (I.inside m i))))

  -- marks of which a sweep takes out none are those of K
  pub peeled : (L M : List ℕ) (P : List Pair) → Peels t n M P → (M ≡ L) × ((m : ℕ) → m < 256 → On L m → Ties (deps_of n t) (On L) m) → M ≡ lock_marks (deps_of n t)
  peeled L M P I w = tied_peeled M P I (subst (λ (l : List ℕ). (m : ℕ) → m < 256 → On l m → Ties (deps_of n t) (On l) m) (sym w.0) w.1)
