-- What every state that a trace reaches keeps to, and that each event that passes keeps it so.
--     SoundHold n t H      H, what thread t holds: at most eight locks, a set, of names within the limits
--     SoundRow n p r       a row after p events: a fair dependency, placed before p, that arose at least once and at most p times
--     Sound n p s          a state after p events: each lock is held by one thread alone, no two rows have one dependency, rows stand in the order of first arising
--     sound_start          before event 0
--     sound_after          after an event that passes
use Rattle.std.proofs.Common.{ℕ, suc, ◌≤◌, ◌<◌, arith, ◌≡◌, refl, sym, subst, ◌∙◌, Bool, true, false, ◌⊎◌, inl, inr, ⊎_elim, List, [], ◌∷◌, ◌++◌, map, length, length-append, if◌then◌else◌}
use Rattle.std.proofs.lemmas.List.{length-map}
use Rattle.std.proofs.Math.Decide.{ℕ_discrete}
use Rattle.laws.specs.Tests.{Tells, update}
use Rattle.laws.specs.Lists.{In, Pairwise, below}
use Rattle.laws.specs.Sets.{Rising}
use Rattle.laws.proofs.Tests.{either, never, fails, tells_not, tells_same, tells_less, tells_and, update_here, update_there}
use Rattle.laws.proofs.Lists.{map_in, in_append, in_below, map_append, tells_any, pairwise_append}
use Rattle.laws.proofs.Sets.{insert_in, insert_rising, length_insert, remove_in, remove_rising, length_remove}
use Rattle.model.specs.declared.Event.{Event}
use Rattle.model.specs.declared.Limits.{Limits}
use Rattle.model.specs.Refusals.{passes}
use Rattle.model.specs.Holds.{most_held, Holding, locks, holds, taken, released}
use Rattle.model.specs.Rows.{most_rows, Dependency, Row, known, new_row, counted, arose, deps, Fair}
use Rattle.model.specs.Trace.{State, start, elsewhere, dependency, arises, refusal, after}
use Rattle.model.proofs.Holds.{tells_holds, locks_taken_new, locks_taken_again, locks_released}
use Rattle.model.proofs.Rows.{tells_known, Arose, repeats, begins, arose_either, what_counted, first_counted, times_counted, deps_counted, firsts_counted}
use Rattle.model.proofs.Passing.{depth, Passed, passed, after_acquire, after_release}

pub record SoundHold (n : Limits) (t : ℕ) (H : List ℕ) : Type 0 where
  pub few : length H ≤ most_held
  pub rising : Rising H
  pub named : (m : ℕ) → In m H → (t < n.threads) × (m < n.locks)

pub record SoundRow (n : Limits) (p : ℕ) (r : Row) : Type 0 where
  pub fair : Fair n r.what
  pub early : r.first < p
  pub once : 1 ≤ r.times
  pub often : r.times ≤ p

abbrev pub firsts : List Row → List ℕ
firsts rs = map (λ r. r.first) rs

pub record SoundRows (n : Limits) (p : ℕ) (rs : List Row) : Type 0 where
  pub few : length rs ≤ most_rows
  pub each : (r : Row) → In r rs → SoundRow n p r
  pub apart : Pairwise (λ d e. d ≡ e → ⊥) (deps rs)
  pub order : Pairwise ◌<◌ (firsts rs)

pub record Sound (n : Limits) (p : ℕ) (s : State) : Type 0 where
  pub each : (t : ℕ) → SoundHold n t (locks (s.held t))
  pub alone : (t u m : ℕ) → In m (locks (s.held t)) → In m (locks (s.held u)) → t ≡ u
  pub rows : SoundRows n p s.rows

-- ---- rows

-- as an event passes that changes none
row_later : (n : Limits) (p : ℕ) (r : Row) → SoundRow n p r → SoundRow n (suc p) r
row_later n p r s = record { fair = s.fair; early = omega (arith, s.early); once = s.once; often = omega (arith, s.often) }

rows_later : (n : Limits) (p : ℕ) (rs : List Row) → SoundRows n p rs → SoundRows n (suc p) rs
rows_later n p rs s = record { few = s.few; each = λ r i. row_later n p r (s.each r i); apart = s.apart; order = s.order }

row_counted : (n : Limits) (p : ℕ) (d : Dependency) (r : Row) → SoundRow n p r → SoundRow n (suc p) (counted d r)
row_counted n p d r s =
    record {
      fair = rw (what_counted d r) s.fair;
      early = rw (first_counted d r) (omega (arith, s.early));
      once = omega (arith, s.once, (times_counted d r).0);
      often = omega (arith, s.often, (times_counted d r).1);
    }

module _ (n : Limits) (p : ℕ) (d : Dependency) (rs : List Row) (s : SoundRows n p rs) where
  rows_repeat : SoundRows n (suc p) (map (counted d) rs)
  rows_repeat =
      record {
        few = rw (length-map rs (counted d)) s.few;
        each = λ r i. let w = map_in (counted d) r rs i in rw w.2 (row_counted n p d w.0 (s.each w.0 w.1));
        apart = rw (deps_counted d rs) s.apart;
        order = rw (firsts_counted d rs) s.order;
      }

  module _ (f : Fair n d) (u : known d rs ≡ false) (l : length rs < most_rows) where
    rows_new : SoundRows n (suc p) (rs ++ (new_row d p ∷ []))
    rows_new =
        record {
          few = rw (length-append rs (new_row d p ∷ [])) (omega arith);
          each = λ r i. ⊎_elim (λ j. row_later n p r (s.each r j)) (last r) (in_append r rs (new_row d p ∷ []) i);
          apart = rw (map_append (λ (r : Row). r.what) rs (new_row d p ∷ [])) (pairwise_append (λ x y. x ≡ y → ⊥) (deps rs) (d ∷ []) s.apart (λ y i. absurd i, tt) differs);
          order = rw (map_append (λ (r : Row). r.first) rs (new_row d p ∷ [])) (pairwise_append ◌<◌ (firsts rs) (p ∷ []) s.order (λ y i. absurd i, tt) earlier);
        }
      where
        last : (r : Row) → In r (new_row d p ∷ []) → SoundRow n (suc p) r
        last r (inl e) = rw e (record { fair = f; early = omega arith; once = omega arith; often = omega arith })
        last r (inr i) = absurd i

        differs : (x y : Dependency) → In x (deps rs) → In y (d ∷ []) → x ≡ y → ⊥
        differs x y i (inl e) q = never ((tells_known d rs).1 (subst (λ (z : Dependency). In z (deps rs)) (q ∙ e) i)) u
        differs x y i (inr j) q = j

        earlier : (x y : ℕ) → In x (firsts rs) → In y (p ∷ []) → x < y
        earlier x y i (inl e) = let w = map_in (λ (r : Row). r.first) x rs i in omega (arith, (s.each w.0 w.1).early, w.2)
        earlier x y i (inr j) = absurd j

  pub rows_arose : Fair n d → (known d rs ≡ false → length rs < most_rows) → SoundRows n (suc p) (arose d p rs)
  rows_arose f l = go (arose_either d p rs)
    where
      go : Arose d p rs → SoundRows n (suc p) (arose d p rs)
      go (repeats k e) = rw e rows_repeat
      go (begins k e) = rw e (rows_new f k (l k))

-- ---- holds

update_all : {A : Type 0} (Q : ℕ → A → Type 0) (f : ℕ → A) (t : ℕ) (x : A) → ((u : ℕ) → Q u (f u)) → Q t x → (u : ℕ) → Q u (update f t x u)
update_all Q f t x h q u = go (ℕ_discrete u t)
  where
    go : Dec (u ≡ t) → Q u (update f t x u)
    go (yes e) = rw (update_here f t x u e, e) q
    go (no e) = rw (update_there f t x u e) (h u)

module _ (n : Limits) (t m : ℕ) (h : Holding) (s : SoundHold n t (locks h)) where
  hold_taken : t < n.threads → m < n.locks → (holds m h ≡ false → length (locks h) < most_held) → SoundHold n t (locks (taken m h))
  hold_taken a b l = ⊎_elim (λ e. rw (locks_taken_again m h e) s) new (either (holds m h))
    where
      new : holds m h ≡ false → SoundHold n t (locks (taken m h))
      new e =
          rw (locks_taken_new m h e)
          (record {
            few = omega (arith, length_insert m (locks h), l e);
            rising = insert_rising m (locks h) s.rising (λ i. never ((tells_holds m h).1 i) e);
            named = λ k i. ⊎_elim (λ q. (a, rw q b)) (s.named k) (insert_in m (locks h) k i);
          })

  hold_released : SoundHold n t (locks (released m h))
  hold_released =
      rw (locks_released m h)
      (record {
        few = omega (arith, length_remove m (locks h), s.few);
        rising = remove_rising m (locks h) s.rising;
        named = λ k i. s.named k (remove_in m (locks h) k i).0;
      })

-- who holds a lock after an acquire held it before, or has just taken it
taken_in : (m : ℕ) (h : Holding) (k : ℕ) → In k (locks (taken m h)) → (k ≡ m) ⊎ In k (locks h)
taken_in m h k i =
    ⊎_elim
    (λ e. inr (rw (locks_taken_again m h e) at i))
    (λ e. insert_in m (locks h) k (rw (locks_taken_new m h e) at i))
    (either (holds m h))

-- ---- one holder for each lock

-- only thread t's holds change, and t gains only locks that no other thread holds
alone_update : (f : ℕ → Holding) (t : ℕ) (h : Holding) → ((t u m : ℕ) → In m (locks (f t)) → In m (locks (f u)) → t ≡ u)
    → ((m u : ℕ) → In m (locks h) → In m (locks (f u)) → t ≡ u)
    → (x y m : ℕ) → In m (locks (update f t h x)) → In m (locks (update f t h y)) → x ≡ y
alone_update f t h a g x y m i j = go (ℕ_discrete x t) (ℕ_discrete y t)
  where
    here : (z : ℕ) → z ≡ t → In m (locks (update f t h z)) → In m (locks h)
    here z e i = rw (update_here f t h z e) at i

    there : (z : ℕ) → (z ≡ t → ⊥) → In m (locks (update f t h z)) → In m (locks (f z))
    there z e i = rw (update_there f t h z e) at i

    go : Dec (x ≡ t) → Dec (y ≡ t) → x ≡ y
    go (yes p) (yes q) = p ∙ sym q
    go (yes p) (no q) = p ∙ g m y (here x p i) (there y q j)
    go (no p) (yes q) = sym (q ∙ g m x (here y q j) (there x p i))
    go (no p) (no q) = a x y m (there x p i) (there y q j)

pub tells_elsewhere : (n : Limits) (s : State) (e : Event) → Tells (elsewhere n s e) ((u : ℕ) × In u (below n.threads) × ((u ≡ e.thread → ⊥) × In e.lock (locks (s.held u))))
tells_elsewhere n s e =
    tells_any _ (λ u. tells_and (tells_not (tells_same u e.thread)) (tells_holds e.lock (s.held u))) (below n.threads)

-- ---- the states of a trace

pub sound_start : (n : Limits) → Sound n 0 start
sound_start n =
    record {
      each = λ t. record { few = omega arith; rising = tt; named = λ m i. absurd i };
      alone = λ t u m i. absurd i;
      rows = record { few = omega arith; each = λ r i. absurd i; apart = tt; order = tt };
    }

module _ (n : Limits) (p : ℕ) (s : State) (e : Event) (S : Sound n p s) (P : Passed n s e) where
  -- an acquire takes no lock from another thread
  gained : e.kind ≡ 1 → (m u : ℕ) → In m (locks (taken e.lock (s.held e.thread))) → In m (locks (s.held u)) → e.thread ≡ u
  gained k m u i j = go (ℕ_discrete u e.thread) (taken_in e.lock (s.held e.thread) m i)
    where
      go : Dec (u ≡ e.thread) → (m ≡ e.lock) ⊎ In m (locks (s.held e.thread)) → e.thread ≡ u
      go (yes q) w = sym q
      go (no q) (inl w) =
          absurd
          (never
          ((tells_elsewhere n s e).1 (u, in_below u n.threads ((S.each u).named m j).0, (q, subst (λ (z : ℕ). In z (locks (s.held u))) w j)))
          (P.free k))
      go (no q) (inr w) = S.alone e.thread u m w j

  fair_dependency : e.kind ≡ 1 → arises s e ≡ true → Fair n (dependency s e)
  fair_dependency k a =
      let w = (tells_and (tells_not (tells_holds e.lock (s.held e.thread))) (tells_less 0 (depth s e))).0 a in
      let h = S.each e.thread in
      record {
        thread = P.thread;
        wanted = P.lock;
        locks = λ m i. (h.named m i).1;
        some = w.1;
        few = omega (arith, P.room k (fails (tells_holds e.lock (s.held e.thread)) w.0));
        rising = h.rising;
        other = w.0;
      }

  rows_acquired : e.kind ≡ 1 → SoundRows n (suc p) (if arises s e then arose (dependency s e) p s.rows else s.rows)
  rows_acquired k = go (arises s e) refl
    where
      go : (b : Bool) → arises s e ≡ b → SoundRows n (suc p) (if b then arose (dependency s e) p s.rows else s.rows)
      go true a = rows_arose n p (dependency s e) s.rows S.rows (fair_dependency k a) (P.rows k a)
      go false a = rows_later n p s.rows S.rows

  sound_acquire : e.kind ≡ 1 → Sound n (suc p) (after s p e)
  sound_acquire k =
      rw (after_acquire s p e k)
      (record {
        each = update_all (λ t h. SoundHold n t (locks h)) s.held e.thread (taken e.lock (s.held e.thread)) S.each
            (hold_taken n e.thread e.lock (s.held e.thread) (S.each e.thread) P.thread P.lock (P.room k));
        alone = alone_update s.held e.thread (taken e.lock (s.held e.thread)) S.alone (gained k);
        rows = rows_acquired k;
      })

  sound_release : e.kind ≡ 2 → Sound n (suc p) (after s p e)
  sound_release k =
      rw (after_release s p e k)
      (record {
        each = update_all (λ t h. SoundHold n t (locks h)) s.held e.thread (released e.lock (s.held e.thread)) S.each
            (hold_released n e.thread e.lock (s.held e.thread) (S.each e.thread));
        alone = alone_update s.held e.thread (released e.lock (s.held e.thread)) S.alone
            (λ m u i. S.alone e.thread u m (remove_in e.lock (locks (s.held e.thread)) m (rw (locks_released e.lock (s.held e.thread)) at i)).0);
        rows = rows_later n p s.rows S.rows;
      })

pub sound_after : (n : Limits) (p : ℕ) (s : State) (e : Event) → Sound n p s → refusal n s e ≡ passes → Sound n (suc p) (after s p e)
sound_after n p s e S q = let P = passed n s e q in ⊎_elim (sound_acquire n p s e S P) (sound_release n p s e S P) P.kind
