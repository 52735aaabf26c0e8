-- The laws of walks over a list of runs, for any test of closed ones and any words of a chain.
--     walk_told        an answer tells what `Told` says
--     walk_complete    a complete walk lists every closed run and takes a step for each run
--     walk_within      no walk takes more steps than its budget; walk_fits: none writes more words than it has room for
--     walk_fewer       runs that are not closed may be left out: what is listed is listed first
--     walk_more        a larger budget only lengthens what is listed
use Rattle.std.proofs.Common.{ℕ, zero, suc, ◌+◌, ◌-◌, ◌≤◌, arith, ◌≡◌, refl, sym, ap, subst, ◌∙◌, Bool, true, false, inl, inr, List, [], ◌∷◌, ◌++◌, append-nil, length, length-append, leb, leb-true, leb-false}
use Rattle.laws.specs.Lists.{In, cons_if, filter, Begins}
use Rattle.laws.proofs.Tests.{never}
use Rattle.laws.proofs.Lists.{filter_all, begins_none, begins_cons}
use Rattle.model.specs.Answer.{Ending, complete, spent, no_room, Answer, stepped, visit, walk, words, Stopped, Told}

module _ (shut : List ℕ → Bool) (lay : List ℕ → List ℕ) where
  stopped_later : (b left : ℕ) (rest : List (List ℕ)) (n : ℕ) (e : Ending) (s : ℕ) → Stopped shut lay b left rest n e s → Stopped shut lay (suc b) left rest (suc n) e (suc s)
  stopped_later b left rest n complete s w = (w.0, ap suc w.1, omega (arith, w.2))
  stopped_later b left rest n spent s w = (w.0, w.1, w.2, ap suc w.3, ap suc w.4)
  stopped_later b left rest n no_room s w = (w.0, w.1, w.2, ap suc w.3, omega (arith, w.4), w.5, w.6)

  told_visit : (p : List ℕ) (ps : List (List ℕ)) (b room : ℕ) (f : ℕ → Answer) → ((m : ℕ) → Told shut lay ps b m (f m)) → (c r : Bool) → shut p ≡ c → leb (length (lay p)) room ≡ r
      → Told shut lay (p ∷ ps) (suc b) room (visit c r p (length (lay p)) room f)
  told_visit p ps b room f ih false r e q =
      let a = f room in
      let w = ih room in
      record {
        seen = p ∷ w.seen;
        rest = w.rest;
        split = ap (λ (l : List (List ℕ)). p ∷ l) w.split;
        chains = rw e w.chains;
        fit = w.fit;
        stopped = stopped_later b (room - length (words lay a)) w.rest (length w.seen) a.ending a.steps w.stopped;
      }
  told_visit p ps b room f ih true true e q =
      let m : ℕ = room - length (lay p) in
      let a = f m in
      let w = ih m in
      let k : length (lay p) ≤ room = leb-true (length (lay p)) room q in
      let h : length (lay p ++ words lay a) ≡ length (lay p) + length (words lay a) = length-append (lay p) (words lay a) in
      let z : m - length (words lay a) ≡ room - length (lay p ++ words lay a) = omega arith in
      record {
        seen = p ∷ w.seen;
        rest = w.rest;
        split = ap (λ (l : List (List ℕ)). p ∷ l) w.split;
        chains = rw e (ap (λ (l : List (List ℕ)). p ∷ l) w.chains);
        fit = omega (arith, w.fit);
        stopped = subst (λ (n : ℕ). Stopped shut lay (suc b) n w.rest (suc (length w.seen)) a.ending (suc a.steps)) z
            (stopped_later b (m - length (words lay a)) w.rest (length w.seen) a.ending a.steps w.stopped);
      }
  told_visit p ps b room f ih true false e q =
      record {
        seen = [];
        rest = p ∷ ps;
        split = refl;
        chains = refl;
        fit = omega arith;
        stopped = (p, ps, refl, refl, omega arith, e, omega (arith, leb-false (length (lay p)) room q));
      }

  pub walk_told : (xs : List (List ℕ)) (b room : ℕ) → Told shut lay xs b room (walk shut lay xs b room)
  unfolding walk
  walk_told [] b room = record { seen = []; rest = []; split = refl; chains = refl; fit = omega arith; stopped = (refl, refl, omega arith) }
  walk_told (p ∷ ps) zero room = record { seen = []; rest = p ∷ ps; split = refl; chains = refl; fit = omega arith; stopped = (p, ps, refl, refl, refl) }
  walk_told (p ∷ ps) (suc b) room = told_visit p ps b room (walk shut lay ps b) (walk_told ps b) (shut p) (leb (length (lay p)) room) refl refl

  pub walk_complete : (xs : List (List ℕ)) (b room : ℕ) → (walk shut lay xs b room).ending ≡ complete
      → ((walk shut lay xs b room).chains ≡ filter shut xs) × ((walk shut lay xs b room).steps ≡ length xs)
  walk_complete xs b room e =
      let a = walk shut lay xs b room in
      let w = walk_told xs b room in
      let s = subst (λ (x : Ending). Stopped shut lay b (room - length (words lay a)) w.rest (length w.seen) x a.steps) e w.stopped in
      let z : xs ≡ w.seen = w.split ∙ ap (λ (l : List (List ℕ)). w.seen ++ l) s.0 ∙ append-nil w.seen in
      (w.chains ∙ ap (filter shut) (sym z), s.1 ∙ ap length (sym z))

  stopped_within : (b left : ℕ) (rest : List (List ℕ)) (n : ℕ) (e : Ending) (s : ℕ) → Stopped shut lay b left rest n e s → s ≤ b
  stopped_within b left rest n complete s w = omega (arith, w.1, w.2)
  stopped_within b left rest n spent s w = omega (arith, w.3, w.4)
  stopped_within b left rest n no_room s w = omega (arith, w.3, w.4)

  pub walk_within : (xs : List (List ℕ)) (b room : ℕ) → (walk shut lay xs b room).steps ≤ b
  walk_within xs b room =
      let a = walk shut lay xs b room in
      let w = walk_told xs b room in
      stopped_within b (room - length (words lay a)) w.rest (length w.seen) a.ending a.steps w.stopped

  pub walk_fits : (xs : List (List ℕ)) (b room : ℕ) → length (words lay (walk shut lay xs b room)) ≤ room
  walk_fits xs b room = (walk_told xs b room).fit

  -- ---- two walks

  visit_begins : (c r : Bool) (p : List ℕ) (w room : ℕ) (f g : ℕ → Answer) → ((m : ℕ) → Begins (f m).chains (g m).chains) → Begins (visit c r p w room f).chains (visit c r p w room g).chains
  visit_begins false r p w room f g k = k room
  visit_begins true true p w room f g k = begins_cons p (f (room - w)).chains (g (room - w)).chains (k (room - w))
  visit_begins true false p w room f g k = begins_none []

  visit_open : (c r : Bool) (p : List ℕ) (w room : ℕ) (f : ℕ → Answer) → c ≡ false → visit c r p w room f ≡ stepped (f room)
  visit_open c r p w room f e = rw e

  -- with as much budget or more
  pub walk_fewer : (f : List ℕ → Bool) (xs : List (List ℕ)) → ((x : List ℕ) → In x xs → shut x ≡ true → f x ≡ true)
      → (b b' room : ℕ) → b ≤ b' → Begins (walk shut lay xs b room).chains (walk shut lay (filter f xs) b' room).chains
  unfolding walk
  walk_fewer f [] k b b' room l = begins_none []
  walk_fewer f (x ∷ xs) k zero b' room l = begins_none (walk shut lay (filter f (x ∷ xs)) b' room).chains
  walk_fewer f (x ∷ xs) k (suc b) zero room l = absurd (omega arith)
  walk_fewer f (x ∷ xs) k (suc b) (suc b') room l = go (f x) refl (walk_fewer f xs (λ y i. k y (inr i)) b)
    where
      skips : f x ≡ false → (d : Bool) → shut x ≡ d → shut x ≡ false
      skips e true s = absurd (never (k x (inl refl) s) e)
      skips e false s = s

      go : (d : Bool) → f x ≡ d → ((b' m : ℕ) → b ≤ b' → Begins (walk shut lay xs b m).chains (walk shut lay (filter f xs) b' m).chains)
          → Begins (visit (shut x) (leb (length (lay x)) room) x (length (lay x)) room (walk shut lay xs b)).chains (walk shut lay (cons_if d x (filter f xs)) (suc b') room).chains
      go true e ih = visit_begins (shut x) (leb (length (lay x)) room) x (length (lay x)) room (walk shut lay xs b) (walk shut lay (filter f xs) b') (λ m. ih b' m (omega arith))
      go false e ih =
          rw (visit_open (shut x) (leb (length (lay x)) room) x (length (lay x)) room (walk shut lay xs b) (skips e (shut x) refl)) (ih (suc b') room (omega arith))

  pub walk_more : (xs : List (List ℕ)) (b b' room : ℕ) → b ≤ b' → Begins (walk shut lay xs b room).chains (walk shut lay xs b' room).chains
  walk_more xs b b' room l =
      subst (λ (ys : List (List ℕ)). Begins (walk shut lay xs b room).chains (walk shut lay ys b' room).chains) (filter_all (λ x. true) xs (λ x i. refl))
      (walk_fewer (λ x. true) xs (λ x i e. refl) b b' room l)
