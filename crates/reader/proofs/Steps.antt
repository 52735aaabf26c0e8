-- The ways of one event: what the code answers and leaves in each is what the meaning of the trace says.
--     did_refuse, did_pass         a step by its verdict
--     again, taken_elsewhere, deep, full, acquired      the ways of an acquire
--     gave_back, not_held          the ways of a release
--     unknown_kind, refused_names  an event whose kind or names are refused
use Rattle.std.proofs.Common.{ℕ, suc, ◌+◌, ◌≤◌, ◌<◌, ◌≡◌, refl, sym, ap, ◌∙◌, Bool, true, false, ◌||◌, ◌⊎◌, inl, inr, List, ◌∷◌, [], length, get_or, take, set, arith, Ok, Err, ◌++◌, ◌-◌, replicate, eqb-true, lt-ltb, le-ltb, leb-true, leb-false, leb, if◌then◌else◌}
use Rattle.std.proofs.Math.Decide.{ℕ_discrete}
use Rattle.std.proofs.Math.Seq.{take-append-add}
use Rattle.std.proofs.lemmas.List.{take-replicate}
use Rattle.laws.proofs.Tests.{either, fails, tells_not, tells_and, tells_most, tells_itself, update_here}
use Rattle.model.specs.declared.Event.{Event}
use Rattle.model.specs.declared.EventKind.{EventKind}
use Rattle.model.specs.declared.EventKind.TheVariants.{Acquire, Release}
use Rattle.model.specs.declared.Limits.{Limits}
use Rattle.model.specs.declared.Refusal.{Refusal}
use Rattle.model.specs.declared.Refusal.TheVariants.{Kind, Taken, Deep, NotHeld, Full}
use Rattle.model.specs.Kinds.{code_of}
use Rattle.model.specs.Refusals.{passes, refuses, number, ◌if◌else◌}
use Rattle.model.specs.Holds.{most_held, locks, taken, released}
use Rattle.model.specs.Rows.{most_rows, known, full_for}
use Rattle.model.specs.Table.{key_words, padded, unused}
use Rattle.model.specs.Trace.{acquires, releases, State, holds_it, elsewhere, dependency, refusal, after}
use Rattle.model.proofs.Holds.{locks_taken_new, locks_taken_again, locks_released}
use Rattle.model.proofs.Passing.{depth, acquire_known, release_known, refuse_kind, refuse_thread, refuse_lock, refuse_taken, refuse_deep, refuse_full, refuse_not_held, pass_again, pass_first, pass_known, pass_new, pass_release, after_acquire, after_release, held_after}
use Rattle.model.proofs.Refusals.{number_of_once, refuses_passes, if_passes}
use Rattle.model.proofs.Sound.{Sound}
use Rattle.holds.specs.declared.Hold.{Hold}
use Rattle.holds.specs.declared.Asked.{Asked}
use Rattle.holds.specs.Hold.{laid, asked_of, taken_of, released_of}
use Rattle.holds.proofs.Laid.{ask_laid, take_laid, release_laid}
use Rattle.reader.specs.declared.table.Rows.{Rows}
use Rattle.reader.specs.declared.trace.Threads.{Threads}
use Rattle.reader.specs.Working.{Tabled, Keyed, Noted, Within, names_verdict, Stands, stepped, DidStep}
use Rattle.reader.proofs.Owners.{owned_same, owned_taken, owned_released, held_set, elsewhere_none, elsewhere_some}

-- of eight places the first seven
padded_seven : (xs : List ℕ) → length xs ≤ 7 → take 7 (padded most_held xs) ≡ padded 7 xs
padded_seven xs h =
    let e : 7 ≡ length xs + (7 - length xs) = omega arith in
    ap (λ (n : ℕ). take n (padded 8 xs)) e ∙ take-append-add xs (replicate (8 - length xs) unused) (7 - length xs)
    ∙ ap (λ (l : List ℕ). xs ++ l) (take-replicate (7 - length xs) (8 - length xs) unused (omega arith))

-- one refusal alone is tested, and it refuses
refuses_if : (r q : Refusal) (b : Bool) → refuses r ≡ (q if b else passes) → (b ≡ true) × (r ≡ q)
refuses_if r q true e = (refl, number_of_once r q (ap number e))
refuses_if r q false e = absurd (refuses_passes r e)

module _ {n : Limits} {s : State} {p : ℕ} (e : Event) {t₀ : List ℕ} (y : Threads) (m : Rows) where
  pub did_refuse : (r : Refusal) → refusal n s e ≡ refuses r → Stands s t₀ y m → DidStep n s p e t₀ (Err r) y m
  did_refuse r v L = record { verdict = sym v; stands = rw (v, stepped) L }

  pub did_pass : refusal n s e ≡ passes → Stands (after s p e) t₀ y m → DidStep n s p e t₀ (Ok tt) y m
  did_pass v L = record { verdict = sym v; stands = rw (v, stepped) L }

-- what stands in a place that is not there
abbrev nowhere : Hold
nowhere = record { places = []; size = 0 }

module _ {x : Threads} {m : Rows} {s : State} {p : ℕ} {e : Event} {t₀ : List ℕ} (S : Sound x.limits p s) (L : Stands s t₀ x m) (W : Within x.limits e) {i : ℕ} (I : i ≡ e.thread)
    {a : Asked} (A : a ≡ asked_of (get_or x.holds i nowhere) e.lock) where
  u : e.thread < 32
  u = omega (arith, W.thread, x.threads)

  b : e.lock < 256
  b = omega (arith, W.lock, x.locks)

  -- what the event's thread holds
  abbrev hold : Hold
  hold = get_or x.holds i nowhere

  hold_is : hold ≡ laid (s.held e.thread)
  hold_is = rw I (L.held nowhere e.thread u)

  asked_is : a.yes ≡ holds_it s e
  asked_is = ap (λ (a : Asked). a.yes) (A ∙ ap (λ (h : Hold). asked_of h e.lock) hold_is ∙ ask_laid (s.held e.thread) e.lock (S.each e.thread).few)

  size_is : hold.size ≡ depth s e
  size_is = ap (λ (h : Hold). h.size) hold_is

  -- ---- an acquire
  module _ (k : e.kind ≡ 1) where
    -- the lock is held already
    pub again : a.yes ≡ true → DidStep x.limits s p e t₀ (Ok tt) x m
    again h =
        let y : holds_it s e ≡ true = sym asked_is ∙ h in
        let q : get_or x.owner e.lock 0 ≡ suc e.thread = eqb-true (get_or x.owner e.lock 0) (suc e.thread) (sym (L.owned.tells e.thread e.lock u b) ∙ y) in
        let same : (v : ℕ) → (after s p e).held v ≡ s.held v = λ v. go y v (ℕ_discrete v e.thread) in
        did_pass e x m
        (pass_again x.limits s e k W.thread W.lock (elsewhere_none x.limits s e x.owner L.owned x.threads u b (inr q)) y)
        (record {
          rows = rw (after_acquire s p e k, y) L.rows;
          owned = owned_same s.held (after s p e).held x.owner same L.owned;
          held = λ d t l. L.held d t l ∙ sym (ap laid (same t));
        })
      where
        go : holds_it s e ≡ true → (v : ℕ) → Dec (v ≡ e.thread) → (after s p e).held v ≡ s.held v
        go y v (yes d) =
            rw d
            (ap (λ (x : State). x.held e.thread) (after_acquire s p e k)
            ∙ update_here s.held e.thread (taken e.lock (s.held e.thread)) e.thread refl ∙ locks_taken_again e.lock (s.held e.thread) y)
        go y v (no d) = held_after s p e v d

    module _ (h : a.yes ≡ false) {j : ℕ} (J : j ≡ e.lock) where
      y : holds_it s e ≡ false
      y = sym asked_is ∙ h

      pub taken_elsewhere : (get_or x.owner j 0 ≡ 0 → ⊥) → DidStep x.limits s p e t₀ (Err Taken) x m
      taken_elsewhere z =
          did_refuse e x m Taken (refuse_taken x.limits s e k W.thread W.lock (elsewhere_some x.limits s e x.owner L.owned x.threads u b S y (λ q. z (rw J q)))) L

      module _ (z : get_or x.owner j 0 ≡ 0) where
        none : elsewhere x.limits s e ≡ false
        none = elsewhere_none x.limits s e x.owner L.owned x.threads u b (inl (rw J at z))

        pub deep : most_held ≤ hold.size → DidStep x.limits s p e t₀ (Err Deep) x m
        deep d = did_refuse e x m Deep (refuse_deep x.limits s e k W.thread W.lock none y (omega (arith, size_is))) L

        module _ (d : hold.size < most_held) where
          size : depth s e < most_held
          size = omega (arith, size_is)

          -- with the rows as the event leaves them
          pub acquired : (y' : Threads) (m' : Rows) (left : Hold) → left ≡ taken_of hold e.lock → length x.owner ≡ 256 → length x.holds ≡ 32
              → y'.owner ≡ set x.owner j (e.thread + 1) → y'.holds ≡ set x.holds i left → (refusal x.limits s e ≡ passes) × Tabled (after s p e).rows t₀ m' → DidStep x.limits s p e t₀ (Ok tt) y' m'
          acquired y' m' left q long many o h w =
              did_pass e y' m' w.0
              (record {
                rows = w.1;
                owned =
                    rw (after_acquire s p e k, o, J)
                    (owned_taken s.held x.owner long L.owned e.thread e.lock (taken e.lock (s.held e.thread)) u b (rw J at z) (locks_taken_new e.lock (s.held e.thread) y));
                held =
                    rw (after_acquire s p e k, h, I)
                    (held_set s.held x.holds many L.held e.thread u (taken e.lock (s.held e.thread)) left
                    (q ∙ ap (λ (h : Hold). taken_of h e.lock) hold_is ∙ take_laid (s.held e.thread) e.lock size y));
              })

          pub first : hold.size ≡ 0 → (refusal x.limits s e ≡ passes) × Tabled (after s p e).rows t₀ m
          first f =
              let v : depth s e ≡ 0 = omega (arith, size_is) in (
                pass_first x.limits s e k W.thread W.lock none y size v,
                rw (after_acquire s p e k, y, le-ltb 0 (depth s e) (omega arith)) L.rows,
              )

          module _ (f : 0 < hold.size) {key : List ℕ} (c : key ≡ e.thread ∷ e.lock ∷ hold.size ∷ take 7 hold.places) where
            some : 0 < depth s e
            some = omega (arith, size_is)

            key_is : key ≡ key_words (dependency s e)
            key_is =
                c ∙ ap (λ (h : Hold). e.thread ∷ e.lock ∷ h.size ∷ take 7 h.places) hold_is
                ∙ ap (λ (xs : List ℕ). e.thread ∷ e.lock ∷ depth s e ∷ xs) (padded_seven (locks (s.held e.thread)) (omega (arith, size)))

            keyed : Keyed (dependency s e) s.rows
            keyed = record { this = omega (arith, size); each = λ r i. (S.rows.each r i).fair.few; apart = S.rows.apart }

            pub full : (r : Refusal) (m' : Rows) → Noted key p m (Err r) m' → DidStep x.limits s p e t₀ (Err r) x m'
            full r m' N =
                let M = N s.rows t₀ (dependency s e) key_is keyed L.rows in
                let g = refuses_if r Full (full_for (dependency s e) s.rows) M.verdict in
                let w = (tells_and (tells_not (tells_itself (known (dependency s e) s.rows))) (tells_most most_rows (length s.rows))).0 g.0 in
                let v : known (dependency s e) s.rows ≡ false = fails (tells_itself (known (dependency s e) s.rows)) w.0 in
                rw g.1
                (did_refuse e x m' Full (refuse_full x.limits s e k W.thread W.lock none y size some v w.1)
                (record { rows = rw g.0 at M.rows; owned = L.owned; held = L.held }))

            pub noted : (m' : Rows) → Noted key p m (Ok tt) m' → (refusal x.limits s e ≡ passes) × Tabled (after s p e).rows t₀ m'
            noted m' N =
                let M = N s.rows t₀ (dependency s e) key_is keyed L.rows in
                let g : full_for (dependency s e) s.rows ≡ false = (if_passes Full (full_for (dependency s e) s.rows) passes (sym M.verdict)).0 in (
                  verdict g (either (known (dependency s e) s.rows)),
                  rw (after_acquire s p e k, y, lt-ltb 0 (depth s e) some) (rw g at M.rows),
                )
              where
                verdict : full_for (dependency s e) s.rows ≡ false → (known (dependency s e) s.rows ≡ true) ⊎ (known (dependency s e) s.rows ≡ false) → refusal x.limits s e ≡ passes
                verdict g (inl v) = pass_known x.limits s e k W.thread W.lock none y size some v
                verdict g (inr v) = pass_new x.limits s e k W.thread W.lock none y size some v (leb-false most_rows (length s.rows) (rw v at g))

  -- ---- a release
  module _ (k : e.kind ≡ 2) where
    pub gave_back : a.yes ≡ true → {j : ℕ} → j ≡ e.lock → (y' : Threads) (left : Hold) → left ≡ released_of hold e.lock → length x.owner ≡ 256 → length x.holds ≡ 32
        → y'.owner ≡ set x.owner j 0 → y'.holds ≡ set x.holds i left → DidStep x.limits s p e t₀ (Ok tt) y' m
    gave_back r J y' left q long many o h =
        let y : holds_it s e ≡ true = sym asked_is ∙ r in
        did_pass e y' m (pass_release x.limits s e k W.thread W.lock y)
        (record {
          rows = rw (after_release s p e k) L.rows;
          owned =
              rw (after_release s p e k, o, J)
              (owned_released s.held x.owner long L.owned e.thread e.lock (released e.lock (s.held e.thread)) u b y (locks_released e.lock (s.held e.thread)));
          held =
              rw (after_release s p e k, h, I)
              (held_set s.held x.holds many L.held e.thread u (released e.lock (s.held e.thread)) left
              (q ∙ ap (λ (h : Hold). released_of h e.lock) hold_is ∙ release_laid (s.held e.thread) e.lock (S.each e.thread).few));
        })

    pub not_held : a.yes ≡ false → DidStep x.limits s p e t₀ (Err NotHeld) x m
    not_held h = did_refuse e x m NotHeld (refuse_not_held x.limits s e k W.thread W.lock (sym asked_is ∙ h)) L

-- ---- an event whose kind or names are refused

module _ (n : Limits) (s : State) (e : Event) where
  pub unknown_kind : ((k : EventKind) → code_of k ≡ e.kind → ⊥) → refusal n s e ≡ refuses Kind
  unknown_kind h = refuse_kind n s e (λ q. h Acquire (sym q)) (λ q. h Release (sym q))

  known_kind : (k : EventKind) → code_of k ≡ e.kind → (acquires e || releases e) ≡ true
  known_kind Acquire q = acquire_known n s e (sym q)
  known_kind Release q = release_known n s e (sym q)

  pub refused_names : (k : EventKind) → code_of k ≡ e.kind → (r : Refusal) → refuses r ≡ names_verdict n e → refusal n s e ≡ refuses r
  refused_names k q r v = go (either (leb n.threads e.thread)) (either (leb n.locks e.lock))
    where
      go : (leb n.threads e.thread ≡ true) ⊎ (leb n.threads e.thread ≡ false) → (leb n.locks e.lock ≡ true) ⊎ (leb n.locks e.lock ≡ false) → refusal n s e ≡ refuses r
      go (inl f) g = refuse_thread n s e (known_kind k q) (leb-true n.threads e.thread f) ∙ sym (rw f at v)
      go (inr f) (inl g) =
          refuse_lock n s e (known_kind k q) (leb-false n.threads e.thread f) (leb-true n.locks e.lock g) ∙ sym (rw (f, g) at v)
      go (inr f) (inr g) = absurd (refuses_passes r (rw (f, g) at v))
