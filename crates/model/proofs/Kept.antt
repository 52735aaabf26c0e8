-- The computed set K is the largest tied set, and the tests tell what is tied and what is kept.
--     tells_tied       the test of a lock tied to a list of locks
--     settled_..       what is so after rounds: a tied set that was within stays within, and enough rounds leave a tied set
--     K_largest        K ds is the largest tied set
--     K_wanted         a lock of K ds is wanted by some row
--     K_untied, K_only     a set with K within: what is not tied to it is not of K, and if it is tied it is K
--     tells_kept       the test of a kept row
--     in_kept, kept_in     what stands in kept_rows ds; kept_rising: it rises
use Rattle.std.proofs.Common.{ℕ, zero, suc, ◌≤◌, ◌<◌, arith, ◌≡◌, refl, sym, ap, subst, ◌∙◌, true, ⊎_elim, ◌↔◌, List, [], ◌∷◌, length}
use Rattle.std.proofs.lemmas.List.{length-map}
use Rattle.laws.specs.Tests.{Tells}
use Rattle.laws.specs.Lists.{In, filter, below}
use Rattle.laws.specs.Sets.{Rising, has}
use Rattle.laws.proofs.Tests.{tells_same, tells_not, tells_and, tells_as}
use Rattle.laws.proofs.Lists.{in_map, in_filter, filter_in, filter_shorter, in_below, below_in, below_rising, pairwise_filter, tells_any, tells_in}
use Rattle.model.specs.Rows.{Dependency, row}
use Rattle.model.specs.Tied.{Ties, Tied, Largest, Kept}
use Rattle.model.specs.Kept.{meets, backs, asks, tied, settled, wanted_locks, K, kept, kept_rows}
use Rattle.model.proofs.Tied.{ties_wider}

pub tells_meets : (L : List ℕ) (d : Dependency) → Tells (meets L d) ((k : ℕ) × In k d.held × In k L)
tells_meets L d = tells_any (λ k. has k L) (λ k. tells_in k L) d.held

pub tells_backs : (L : List ℕ) (m : ℕ) (d e : Dependency) → Tells (backs L m d e) ((In m e.held) × ((In e.wanted L) × (d.thread ≡ e.thread → ⊥)))
tells_backs L m d e = tells_and (tells_in m e.held) (tells_and (tells_in e.wanted L) (tells_not (tells_same d.thread e.thread)))

module _ (ds : List Dependency) where
  pub tells_tied : (L : List ℕ) (m : ℕ) → Tells (tied ds L m) (Ties ds (λ k. In k L) m)
  unfolding tied
  tells_tied L m =
      tells_as
      (tells_any (asks ds L m)
      (λ d. tells_and (tells_same d.wanted m) (tells_and (tells_meets L d) (tells_any (backs L m d) (tells_backs L m d) ds))) ds)
      (λ w.
      let a = w.2.1.0 in
      let b = w.2.1.1 in
      record {
        asker = w.0;
        asks = w.1;
        wants = w.2.0;
        lock = a.0;
        locked = a.1;
        within = a.2;
        holder = b.0;
        stands = b.1;
        holds = b.2.0;
        follows = b.2.1.0;
        differ = b.2.1.1;
      })
      (λ w. (w.asker, w.asks, (w.wants, ((w.lock, w.locked, w.within), (w.holder, w.stands, (w.holds, (w.follows, w.differ)))))))

  -- ---- rounds

  pub settled_holds : (S : ℕ → Type 0) → Tied ds S → (k : ℕ) (L : List ℕ) → ((m : ℕ) → S m → In m L) → (m : ℕ) → S m → In m (settled ds k L)
  unfolding settled
  settled_holds S s zero L sub = sub
  settled_holds S s (suc k) L sub =
      settled_holds S s k (filter (tied ds L) L)
      (λ m h. in_filter (tied ds L) m L (sub m h) ((tells_tied L m).1 (ties_wider ds S (λ k. In k L) sub m (s m h))))

  settled_stays : (k : ℕ) (L : List ℕ) → filter (tied ds L) L ≡ L → settled ds k L ≡ L
  unfolding settled
  settled_stays zero L e = refl
  settled_stays (suc k) L e = ap (settled ds k) e ∙ settled_stays k L e

  -- a list of which a round takes nothing out is a tied set
  pub stays_tied : (L : List ℕ) → filter (tied ds L) L ≡ L → Tied ds (λ m. In m L)
  stays_tied L e m h = (tells_tied L m).0 (filter_in (tied ds L) m L (subst (λ (l : List ℕ). In m l) (sym e) h)).1

  -- each round takes out a lock, or none is left to take out
  pub settled_tied : (k : ℕ) (L : List ℕ) → length L ≤ k → Tied ds (λ m. In m (settled ds k L))
  unfolding settled
  settled_tied zero [] z = λ m h. absurd h
  settled_tied zero (x ∷ L) z = absurd (omega arith)
  settled_tied (suc k) L z =
      ⊎_elim
      (λ e. subst (λ (l : List ℕ). Tied ds (λ m. In m l)) (sym (settled_stays (suc k) L e)) (stays_tied L e))
      (λ l. settled_tied k (filter (tied ds L) L) (omega arith))
      (filter_shorter (tied ds L) L)

  -- ---- the largest

  ties_wanted : (S : ℕ → Type 0) (m : ℕ) → Ties ds S m → In m (wanted_locks ds)
  ties_wanted S m w = subst (λ (k : ℕ). In k (wanted_locks ds)) w.wants (in_map (λ (d : Dependency). d.wanted) w.asker ds w.asks)

  pub K_largest : Largest ds (λ m. In m (K ds))
  unfolding K
  K_largest =
      record {
        tied = settled_tied (length ds) (wanted_locks ds) (omega (arith, length-map ds (λ (d : Dependency). d.wanted)));
        every = λ S s. settled_holds S s (length ds) (wanted_locks ds) (λ m h. ties_wanted S m (s m h));
      }

  pub K_wanted : (m : ℕ) → In m (K ds) → In m (wanted_locks ds)
  K_wanted m h = ties_wanted (λ k. In k (K ds)) m (K_largest.tied m h)

  -- where all of K lies within S, a lock that is not tied to S is not of K
  pub K_untied : (S : ℕ → Type 0) → ((k : ℕ) → In k (K ds) → S k) → (m : ℕ) → (Ties ds S m → ⊥) → In m (K ds) → ⊥
  K_untied S sub m n h = n (ties_wider ds (λ k. In k (K ds)) S sub m (K_largest.tied m h))

  -- and if S is tied, it has the locks of K
  pub K_only : (S : ℕ → Type 0) → ((k : ℕ) → In k (K ds) → S k) → Tied ds S → (m : ℕ) → In m (K ds) ↔ S m
  K_only S sub s m = (sub m, K_largest.every S s m)

  -- ---- the rows that it keeps

  pub tells_kept : (d : Dependency) → Tells (kept ds d) (Kept (λ m. In m (K ds)) d)
  tells_kept d =
      tells_as (tells_and (tells_in d.wanted (K ds)) (tells_meets (K ds) d))
      (λ w. record { wanted = w.0; lock = w.1.0; locked = w.1.1; within = w.1.2 })
      (λ w. (w.wanted, (w.lock, w.locked, w.within)))

  pub in_kept : (i : ℕ) → i < length ds → kept ds (row ds i) ≡ true → In i (kept_rows ds)
  in_kept i h e = in_filter (λ j. kept ds (row ds j)) i (below (length ds)) (in_below i (length ds) h) e

  pub kept_in : (i : ℕ) → In i (kept_rows ds) → (i < length ds) × (kept ds (row ds i) ≡ true)
  kept_in i h = let w = filter_in (λ j. kept ds (row ds j)) i (below (length ds)) h in (below_in i (length ds) w.0, w.1)

  pub kept_rising : Rising (kept_rows ds)
  kept_rising = pairwise_filter ◌<◌ (λ j. kept ds (row ds j)) (below (length ds)) (below_rising (length ds))
