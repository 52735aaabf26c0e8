-- Who holds what, by `owner` and `holds`.
--     owned_start          nobody holds anything
--     owned_same           what leaves the sets as they are leaves the owners
--     owned_taken          a lock that was free is taken
--     owned_released       a lock is given up
--     held_set             one thread's places are laid anew
--     elsewhere_none, elsewhere_some    whether another thread holds the event's lock
use Rattle.std.proofs.Common.{ℕ, suc, ◌+◌, ◌-◌, ◌≤◌, ◌<◌, ◌≡◌, refl, sym, ap, subst, ◌∙◌, true, false, ◌⊎◌, inl, inr, ⊎_elim, List, length, get_or, set, replicate, arith, eq-eqb, ne_eqb, eqb-true, eqb, get_or-set_same, get_or-set_other}
use Rattle.std.proofs.Math.Decide.{ℕ_discrete, dec_lt}
use Rattle.std.proofs.Math.ListN.{get_or-eq_default}
use Rattle.std.proofs.lemmas.List.{get_or-replicate}
use Rattle.laws.specs.Tests.{update}
use Rattle.laws.specs.Lists.{In, any}
use Rattle.laws.specs.Sets.{insert, remove}
use Rattle.laws.proofs.Tests.{never, fails, tells_as, tells_equal, update_here, update_there}
use Rattle.laws.proofs.Lists.{below_in, in_below}
use Rattle.laws.proofs.Sets.{insert_in, in_insert, remove_in, in_remove}
use Rattle.model.specs.declared.Event.{Event}
use Rattle.model.specs.declared.Limits.{Limits}
use Rattle.model.specs.Holds.{Holding, locks, holds}
use Rattle.model.specs.Trace.{State, start, holds_it, elsewhere}
use Rattle.model.proofs.Holds.{tells_holds}
use Rattle.model.proofs.Sound.{Sound, tells_elsewhere}
use Rattle.holds.specs.declared.Hold.{Hold}
use Rattle.holds.specs.Hold.{laid}
use Rattle.reader.specs.Working.{Owned}

abbrev free : List ℕ
free = replicate 256 0

owner_zero : (m : ℕ) → get_or free m 0 ≡ 0
owner_zero m = go (dec_lt m 256)
  where
    go : Dec (m < 256) → get_or free m 0 ≡ 0
    go (yes l) = get_or-replicate 256 m 0 0 l
    go (no l) = get_or-eq_default free 0 (let h : 256 ≤ m = omega arith in h)

pub owned_start : Owned start.held (replicate 256 0)
owned_start = record { most = λ m. omega (arith, owner_zero m); tells = λ t m h l. sym (ne_eqb (get_or free m 0) (suc t) (λ q. omega (arith, owner_zero m))) }

pub owned_same : (f g : ℕ → Holding) (owner : List ℕ) → ((u : ℕ) → locks (g u) ≡ locks (f u)) → Owned f owner → Owned g owner
owned_same f g owner e O = record { most = O.most; tells = λ t m h l. ap (λ (xs : List ℕ). any (eqb m) xs) (e t) ∙ O.tells t m h l }

-- a change of one thread's holds: thread t then holds h, and lock m has the owner v
module _ (f : ℕ → Holding) (owner : List ℕ) (long : length owner ≡ 256) (O : Owned f owner) (t m : ℕ) (h : Holding) (v : ℕ) (mine : m < 256) (few : v ≤ 32)
    (others : (k : ℕ) → (k ≡ m → ⊥) → holds k h ≡ holds k (f t))
    (here : t < 32 → holds m h ≡ eqb v (suc t))
    (there : (u : ℕ) → u < 32 → (u ≡ t → ⊥) → holds m (f u) ≡ eqb v (suc u)) where
  most : (k : ℕ) → get_or (set owner m v) k 0 ≤ 32
  most k = go (ℕ_discrete k m)
    where
      go : Dec (k ≡ m) → get_or (set owner m v) k 0 ≤ 32
      go (yes e) = rw (e, get_or-set_same owner m v 0 (omega (arith, long))) few
      go (no e) = rw (get_or-set_other owner m k v 0 e) (O.most k)

  tells : (u k : ℕ) → u < 32 → k < 256 → holds k (update f t h u) ≡ eqb (get_or (set owner m v) k 0) (suc u)
  tells u k l n = go (ℕ_discrete u t) (ℕ_discrete k m)
    where
      go : Dec (u ≡ t) → Dec (k ≡ m) → holds k (update f t h u) ≡ eqb (get_or (set owner m v) k 0) (suc u)
      go (yes a) (yes b) = rw (update_here f t h u a, b, get_or-set_same owner m v 0 (omega (arith, long)), a) (here (omega arith))
      go (yes a) (no b) = rw (update_here f t h u a, get_or-set_other owner m k v 0 b, a) (others k b ∙ O.tells t k (omega arith) n)
      go (no a) (yes b) = rw (update_there f t h u a, b, get_or-set_same owner m v 0 (omega (arith, long))) (there u l a)
      go (no a) (no b) = rw (update_there f t h u a, get_or-set_other owner m k v 0 b) (O.tells u k l n)

  owned_changed : Owned (update f t h) (set owner m v)
  owned_changed = record { most = most; tells = tells }

module _ (f : ℕ → Holding) (owner : List ℕ) (long : length owner ≡ 256) (O : Owned f owner) (t m : ℕ) (h : Holding) (u : t < 32) (l : m < 256) where
  pub owned_taken : get_or owner m 0 ≡ 0 → locks h ≡ insert m (locks (f t)) → Owned (update f t h) (set owner m (t + 1))
  owned_taken z e =
      let n : t + 1 ≡ suc t = omega arith in
      rw n
      (owned_changed f owner long O t m h (suc t) l (omega arith) others
      (λ _. (tells_holds m h).1 (rw e (in_insert m (locks (f t)) m (inl refl))) ∙ sym (eq-eqb (suc t) (suc t) refl))
      (λ w k d. O.tells w m k l ∙ rw z (ne_eqb 0 (suc w) (λ q. omega arith) ∙ sym (ne_eqb (suc t) (suc w) (λ q. d (omega arith))))))
    where
      others : (k : ℕ) → (k ≡ m → ⊥) → holds k h ≡ holds k (f t)
      others k d =
          tells_equal
          (tells_as (tells_holds k h) (λ i. ⊎_elim (λ q. absurd (d q)) (λ j. j) (insert_in m (locks (f t)) k (rw e at i))) (λ i. rw e (in_insert m (locks (f t)) k (inr i))))
          (tells_holds k (f t))

  pub owned_released : holds m (f t) ≡ true → locks h ≡ remove m (locks (f t)) → Owned (update f t h) (set owner m 0)
  owned_released y e =
      owned_changed f owner long O t m h 0 l (omega arith) others
      (λ _. fails (tells_holds m h) (λ i. (remove_in m (locks (f t)) m (rw e at i)).1 refl) ∙ sym (ne_eqb 0 (suc t) (λ q. omega arith)))
      (λ w k d. O.tells w m k l ∙ rw (eqb-true (get_or owner m 0) (suc t) (sym (O.tells t m u l) ∙ y)) (ne_eqb (suc t) (suc w) (λ q. d (omega arith)) ∙ sym (ne_eqb 0 (suc w) (λ q. omega arith))))
    where
      others : (k : ℕ) → (k ≡ m → ⊥) → holds k h ≡ holds k (f t)
      others k d =
          tells_equal
          (tells_as (tells_holds k h) (λ i. (remove_in m (locks (f t)) k (rw e at i)).0) (λ i. rw e (in_remove m (locks (f t)) k i (λ q. d (sym q)))))
          (tells_holds k (f t))

-- thread t's places hold h, and the others' what they held
pub held_set : (f : ℕ → Holding) (holds : List Hold) → length holds ≡ 32 → ((d : Hold) (u : ℕ) → u < 32 → get_or holds u d ≡ laid (f u)) → (t : ℕ) → t < 32 → (h : Holding) (left : Hold) → left ≡ laid h
    → (d : Hold) (u : ℕ) → u < 32 → get_or (set holds t left) u d ≡ laid (update f t h u)
held_set f holds many each t l h left q d u m = go (ℕ_discrete u t)
  where
    go : Dec (u ≡ t) → get_or (set holds t left) u d ≡ laid (update f t h u)
    go (yes e) = rw (update_here f t h u e, e, get_or-set_same holds t left d (omega (arith, many))) q
    go (no e) = rw (update_there f t h u e, get_or-set_other holds t u left d e) (each d u m)

module _ (n : Limits) (s : State) (e : Event) (owner : List ℕ) (O : Owned s.held owner) (T : n.threads ≤ 32) (t : e.thread < 32) (l : e.lock < 256) where
  -- the lock is free, or the event's own thread has it
  pub elsewhere_none : (get_or owner e.lock 0 ≡ 0) ⊎ (get_or owner e.lock 0 ≡ suc e.thread) → elsewhere n s e ≡ false
  elsewhere_none h = fails (tells_elsewhere n s e) (λ w. other w.0 (below_in w.0 n.threads w.1) w.2.0 w.2.1 h)
    where
      other : (u : ℕ) → u < n.threads → (u ≡ e.thread → ⊥) → In e.lock (locks (s.held u)) → (get_or owner e.lock 0 ≡ 0) ⊎ (get_or owner e.lock 0 ≡ suc e.thread) → ⊥
      other u k d i h =
          let q : get_or owner e.lock 0 ≡ suc u = eqb-true (get_or owner e.lock 0) (suc u) (sym (O.tells u e.lock (omega arith) l) ∙ (tells_holds e.lock (s.held u)).1 i) in
          ⊎_elim (λ z. let x : ⊥ = omega (arith, q, z) in x) (λ z. d (omega (arith, q, z))) h

  pub elsewhere_some : {p : ℕ} → Sound n p s → holds_it s e ≡ false → (get_or owner e.lock 0 ≡ 0 → ⊥) → elsewhere n s e ≡ true
  elsewhere_some S h z =
      let u = get_or owner e.lock 0 - 1 in
      let q : get_or owner e.lock 0 ≡ suc u = omega (arith, z) in
      let b : u < 32 = omega (arith, O.most e.lock, z) in
      let y : holds e.lock (s.held u) ≡ true = O.tells u e.lock b l ∙ eq-eqb (get_or owner e.lock 0) (suc u) q in
      let i = (tells_holds e.lock (s.held u)).0 y in
      (tells_elsewhere n s e).1 (u, in_below u n.threads ((S.each u).named e.lock i).0, (λ d. never (subst (λ (w : ℕ). holds e.lock (s.held w) ≡ true) d y) h, i))
