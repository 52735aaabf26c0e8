-- The verdict on an event and the state after it, case by case: one law for each way that a reader of events can take.
--     refuse_..     the event is refused, and why
--     pass_..       it passes
--     passed        what is so of an event that passes
--     after_..      the state after it
use Rattle.std.proofs.Common.{ℕ, ◌≤◌, ◌<◌, arith, ◌≡◌, refl, ◌∙◌, Bool, true, false, not, ◌&&◌, ◌||◌, ◌⊎◌, length, eqb, leb, eq-eqb, ne_eqb, le-leb, lt-ltb, le-ltb, leb-false, if◌then◌else◌}
use Rattle.std.proofs.lemmas.Bool.{false≢true, lt-leb, not-false}
use Rattle.laws.proofs.Tests.{tells_same, tells_or, update_there}
use Rattle.model.specs.declared.Event.{Event}
use Rattle.model.specs.declared.Limits.{Limits}
use Rattle.model.specs.Refusals.{passes, refuses, Kind, Thread, Lock, Taken, Deep, NotHeld, Full, ◌if◌else◌}
use Rattle.model.specs.Holds.{most_held, locks, taken, released}
use Rattle.model.specs.Rows.{most_rows, known}
use Rattle.model.specs.Trace.{acquires, releases, State, holds_it, elsewhere, dependency, arises, refusal, acquired, gave_up, after}
use Rattle.model.proofs.Refusals.{if_passes}

-- how many locks the event's thread holds
abbrev pub depth : State → Event → ℕ
depth s e = length (locks (s.held e.thread))

not_one : (k : ℕ) → k ≡ 2 → eqb k 1 ≡ false
not_one k e = ne_eqb k 1 (λ q. omega arith)

not_two : (k : ℕ) → k ≡ 1 → eqb k 2 ≡ false
not_two k e = ne_eqb k 2 (λ q. omega arith)

module _ (n : Limits) (s : State) (e : Event) where
  pub refuse_kind : (e.kind ≡ 1 → ⊥) → (e.kind ≡ 2 → ⊥) → refusal n s e ≡ refuses Kind
  unfolding refusal
  refuse_kind a b = rw (ne_eqb e.kind 1 a, ne_eqb e.kind 2 b)

  -- ---- of a known kind
  module _ (k : (acquires e || releases e) ≡ true) where
    pub refuse_thread : n.threads ≤ e.thread → refusal n s e ≡ refuses Thread
    unfolding refusal
    refuse_thread t = rw (k, le-leb n.threads e.thread t)

    module _ (t : e.thread < n.threads) where
      pub refuse_lock : n.locks ≤ e.lock → refusal n s e ≡ refuses Lock
      unfolding refusal
      refuse_lock l = rw (k, lt-leb n.threads e.thread t, le-leb n.locks e.lock l)

  -- ---- of an acquire
  module _ (k : e.kind ≡ 1) where
    pub acquire_known : (acquires e || releases e) ≡ true
    acquire_known = rw (eq-eqb e.kind 1 k)

    module _ (t : e.thread < n.threads) (l : e.lock < n.locks) where
      -- the tests that are left
      acquire_tests : refusal n s e ≡
          (Taken if elsewhere n s e else
          Deep if not (holds_it s e) && leb most_held (depth s e) else
          Full if arises s e && (not (known (dependency s e) s.rows) && leb most_rows (length s.rows)) else
          passes)
      unfolding refusal
      acquire_tests = rw (eq-eqb e.kind 1 k, not_two e.kind k, lt-leb n.threads e.thread t, lt-leb n.locks e.lock l)

      pub refuse_taken : elsewhere n s e ≡ true → refusal n s e ≡ refuses Taken
      refuse_taken o = acquire_tests ∙ rw o

      module _ (o : elsewhere n s e ≡ false) where
        pub pass_again : holds_it s e ≡ true → refusal n s e ≡ passes
        pass_again h = acquire_tests ∙ rw (o, h)

        module _ (h : holds_it s e ≡ false) where
          pub refuse_deep : most_held ≤ depth s e → refusal n s e ≡ refuses Deep
          refuse_deep d = acquire_tests ∙ rw (o, h, le-leb most_held (depth s e) d)

          module _ (d : depth s e < most_held) where
            pub pass_first : depth s e ≡ 0 → refusal n s e ≡ passes
            pass_first z = acquire_tests ∙ rw (o, h, lt-leb most_held (depth s e) d, le-ltb 0 (depth s e) (omega arith))

            -- a dependency arises
            module _ (z : 0 < depth s e) where
              pub pass_known : known (dependency s e) s.rows ≡ true → refusal n s e ≡ passes
              pass_known q = acquire_tests ∙ rw (o, h, lt-leb most_held (depth s e) d, lt-ltb 0 (depth s e) z, q)

              module _ (q : known (dependency s e) s.rows ≡ false) where
                pub pass_new : length s.rows < most_rows → refusal n s e ≡ passes
                pass_new r = acquire_tests ∙ rw (o, h, lt-leb most_held (depth s e) d, lt-ltb 0 (depth s e) z, q, lt-leb most_rows (length s.rows) r)

                pub refuse_full : most_rows ≤ length s.rows → refusal n s e ≡ refuses Full
                refuse_full r = acquire_tests ∙ rw (o, h, lt-leb most_held (depth s e) d, lt-ltb 0 (depth s e) z, q, le-leb most_rows (length s.rows) r)

  -- ---- of a release
  module _ (k : e.kind ≡ 2) where
    pub release_known : (acquires e || releases e) ≡ true
    release_known = rw (not_one e.kind k, eq-eqb e.kind 2 k)

    module _ (t : e.thread < n.threads) (l : e.lock < n.locks) where
      release_tests : refusal n s e ≡ (NotHeld if not (holds_it s e) else passes)
      unfolding refusal
      release_tests = rw (not_one e.kind k, eq-eqb e.kind 2 k, lt-leb n.threads e.thread t, lt-leb n.locks e.lock l)

      pub refuse_not_held : holds_it s e ≡ false → refusal n s e ≡ refuses NotHeld
      refuse_not_held h = release_tests ∙ rw h

      pub pass_release : holds_it s e ≡ true → refusal n s e ≡ passes
      pass_release h = release_tests ∙ rw h

-- ---- what is so of an event that passes

and_fails : (a b : Bool) → (a && b) ≡ false → a ≡ true → b ≡ false
and_fails true b e p = e
and_fails false b e p = absurd (false≢true p)

either_kind : (k : ℕ) → (eqb k 1 || eqb k 2) ≡ true → (k ≡ 1) ⊎ (k ≡ 2)
either_kind k h = (tells_or (tells_same k 1) (tells_same k 2)).0 h

pub record Passed (n : Limits) (s : State) (e : Event) : Type 0 where
  pub kind : (e.kind ≡ 1) ⊎ (e.kind ≡ 2)
  pub thread : e.thread < n.threads
  pub lock : e.lock < n.locks
  pub free : e.kind ≡ 1 → elsewhere n s e ≡ false
  pub room : e.kind ≡ 1 → holds_it s e ≡ false → depth s e < most_held
  pub held : e.kind ≡ 2 → holds_it s e ≡ true
  pub rows : e.kind ≡ 1 → arises s e ≡ true → known (dependency s e) s.rows ≡ false → length s.rows < most_rows

pub passed : (n : Limits) (s : State) (e : Event) → refusal n s e ≡ passes → Passed n s e
unfolding refusal
passed n s e h =
    let a = if_passes Kind _ _ h in
    let b = if_passes Thread _ _ a.1 in
    let c = if_passes Lock _ _ b.1 in
    let d = if_passes Taken _ _ c.1 in
    let f = if_passes Deep _ _ d.1 in
    let g = if_passes NotHeld _ _ f.1 in
    let i = if_passes Full _ _ g.1 in
    record {
      kind = either_kind e.kind (not-false _ a.0);
      thread = leb-false n.threads e.thread b.0;
      lock = leb-false n.locks e.lock c.0;
      free = λ k. and_fails (acquires e) (elsewhere n s e) d.0 (eq-eqb e.kind 1 k);
      room = λ k q. leb-false most_held (depth s e) (and_fails (not (holds_it s e)) _ (and_fails (acquires e) _ f.0 (eq-eqb e.kind 1 k)) (rw q));
      held = λ k. not-false _ (and_fails (releases e) _ g.0 (eq-eqb e.kind 2 k));
      rows = λ k q r. leb-false most_rows (length s.rows) (and_fails (not (known (dependency s e) s.rows)) _ (and_fails (arises s e) _ (and_fails (acquires e) _ i.0 (eq-eqb e.kind 1 k)) q) (rw r));
    }

-- ---- the state after an event

module _ (s : State) (p : ℕ) (e : Event) where
  pub after_acquire : e.kind ≡ 1 → after s p e ≡ acquired s p e
  unfolding after
  after_acquire k = rw (eq-eqb e.kind 1 k)

  pub after_release : e.kind ≡ 2 → after s p e ≡ gave_up s e
  unfolding after
  after_release k = rw (not_one e.kind k, eq-eqb e.kind 2 k)

  -- what the other threads hold
  pub held_after : (u : ℕ) → (u ≡ e.thread → ⊥) → (after s p e).held u ≡ s.held u
  unfolding after
  held_after u d = go (acquires e) (releases e)
    where
      go : (a b : Bool) → (if a then acquired s p e else if b then gave_up s e else s).held u ≡ s.held u
      go true b = update_there s.held e.thread (taken e.lock (s.held e.thread)) u d
      go false true = update_there s.held e.thread (released e.lock (s.held e.thread)) u d
      go false false = refl
