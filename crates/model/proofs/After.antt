-- How runs move an answer on.
--     walk_append      a walk over two lists, by walks over each
--     after_start      a walk moves the empty answer on
--     spent_ends, no_room_ends     an ending of the two is not Complete
--     after_ended      an answer that has ended otherwise than Complete stays
--     after_append     two lists move an answer on one after the other
--     after_none       no run leaves it as it is
--     after_spent, _open, _listed, _full    the next run: the budget is used up, it is not closed, it is written, it has no room
--     after_not, _fits what a row adds to a run: nothing where it does not fit; else the longer run is visited, and then what extends that
--     after_begins     what was written stays, in front; after_within, after_room: the budget and the room are kept to
use Rattle.std.proofs.Common.{ℕ, zero, suc, ◌+◌, ◌-◌, ◌≤◌, ◌<◌, arith, ◌≡◌, refl, sym, ap, ap₂, ◌∙◌, Bool, true, false, List, [], ◌∷◌, ◌++◌, append_assoc, append-nil, length, length-append, leb, le-leb}
use Rattle.std.proofs.lemmas.Bool.{lt-leb}
use Rattle.laws.specs.Lists.{flat, Begins}
use Rattle.laws.proofs.Lists.{flat_append, begins_itself, begins_longer}
use Rattle.model.specs.Rows.{Dependency}
use Rattle.model.specs.Runs.{Rule, fits, from, next}
use Rattle.model.specs.Answer.{Ending, complete, spent, no_room, Answer, ended, stepped, listed, visit, walk, words}
use Rattle.model.specs.After.{ends, writes, goes_on, after}
use Rattle.model.proofs.Walks.{walk_within, walk_fits}

-- answers of the same chains and steps
answers : (e : Ending) (cs ds : List (List ℕ)) (m n : ℕ) → cs ≡ ds → m ≡ n → ◌≡◌ {A = Answer} (record { ending = e; chains = cs; steps = m }) (record { ending = e; chains = ds; steps = n })
answers e cs ds m n p q = ap₂ (λ (c : List (List ℕ)) (k : ℕ). record { ending = e; chains = c; steps = k }) p q

on_none : (a : Answer) → a ≡ goes_on complete (ended complete 0) a
on_none a = answers a.ending a.chains a.chains a.steps (0 + a.steps) refl (omega arith)

on_stepped : (e : Ending) (a a' : Answer) → stepped (goes_on e a a') ≡ goes_on e (stepped a) a'
on_stepped complete a a' = answers a'.ending (a.chains ++ a'.chains) (a.chains ++ a'.chains) (suc (a.steps + a'.steps)) (suc a.steps + a'.steps) refl (omega arith)
on_stepped spent a a' = refl
on_stepped no_room a a' = refl

on_listed : (p : List ℕ) (e : Ending) (a a' : Answer) → listed p (goes_on e a a') ≡ goes_on e (listed p a) a'
on_listed p complete a a' =
    answers a'.ending (p ∷ (a.chains ++ a'.chains)) (p ∷ (a.chains ++ a'.chains)) (suc (a.steps + a'.steps)) (suc a.steps + a'.steps) refl (omega arith)
on_listed p spent a a' = refl
on_listed p no_room a a' = refl

on_on : (e : Ending) (a w v : Answer) → goes_on complete a (goes_on e w v) ≡ goes_on e (goes_on complete a w) v
on_on complete a w v =
    answers v.ending (a.chains ++ (w.chains ++ v.chains)) ((a.chains ++ w.chains) ++ v.chains) (a.steps + (w.steps + v.steps)) ((a.steps + w.steps) + v.steps)
    (sym (append_assoc a.chains w.chains v.chains)) (omega arith)
on_on spent a w v = refl
on_on no_room a w v = refl

pub spent_ends : (e : Ending) → e ≡ spent → e ≡ complete → ⊥
spent_ends e p q = let y : ◌≡◌ {A = ℕ} 0 1 = cc in omega arith

pub no_room_ends : (e : Ending) → e ≡ no_room → e ≡ complete → ⊥
no_room_ends e p q = let y : ◌≡◌ {A = ℕ} 0 1 = cc in omega arith

module _ (shut : List ℕ → Bool) (lay : List ℕ → List ℕ) where
  visit_append : (ys : List (List ℕ)) (b room : ℕ) (p : List ℕ) (f g : ℕ → Answer) → ((m : ℕ) → g m ≡ after shut lay ys b m (f m)) → (c r : Bool)
      → visit c r p (length (lay p)) room g ≡ after shut lay ys (suc b) room (visit c r p (length (lay p)) room f)
  visit_append ys b room p f g k false r =
      let a = f room in
      let l : ℕ = room - length (words lay a) in
      let n : b - a.steps ≡ suc b - suc a.steps = omega arith in
      ap stepped (k room) ∙ on_stepped a.ending a (walk shut lay ys (b - a.steps) l) ∙ ap (λ (n : ℕ). goes_on a.ending (stepped a) (walk shut lay ys n l)) n
  visit_append ys b room p f g k true true =
      let m : ℕ = room - length (lay p) in
      let a = f m in
      let n : b - a.steps ≡ suc b - suc a.steps = omega arith in
      let l : m - length (words lay a) ≡ room - length (lay p ++ words lay a) = omega (arith, length-append (lay p) (words lay a)) in
      ap (listed p) (k m) ∙ on_listed p a.ending a (walk shut lay ys (b - a.steps) (m - length (words lay a)))
      ∙ ap₂ (λ (n l : ℕ). goes_on a.ending (listed p a) (walk shut lay ys n l)) n l
  visit_append ys b room p f g k true false = refl

  pub walk_append : (xs ys : List (List ℕ)) (b room : ℕ) → walk shut lay (xs ++ ys) b room ≡ after shut lay ys b room (walk shut lay xs b room)
  unfolding walk
  walk_append [] ys b room =
      let n : b ≡ b - 0 = omega arith in
      let m : room ≡ room - 0 = omega arith in
      ap₂ (walk shut lay ys) n m ∙ on_none (walk shut lay ys (b - 0) (room - 0))
  walk_append (p ∷ xs) ys zero room = refl
  walk_append (p ∷ xs) ys (suc b) room = visit_append ys b room p (walk shut lay xs b) (walk shut lay (xs ++ ys) b) (walk_append xs ys b) (shut p) (leb (length (lay p)) room)

  pub after_start : (xs : List (List ℕ)) (b room : ℕ) → walk shut lay xs b room ≡ after shut lay xs b room (ended complete 0)
  unfolding walk
  after_start xs b room = walk_append [] xs b room

  pub after_ended : (xs : List (List ℕ)) (b room : ℕ) (a : Answer) → (a.ending ≡ complete → ⊥) → after shut lay xs b room a ≡ a
  after_ended xs b room a h = go a.ending refl
    where
      go : (e : Ending) → a.ending ≡ e → goes_on e a (walk shut lay xs (b - a.steps) (room - length (words lay a))) ≡ a
      go complete q = absurd (h q)
      go spent q = refl
      go no_room q = refl

  pub after_append : (xs ys : List (List ℕ)) (b room : ℕ) (a : Answer) → after shut lay (xs ++ ys) b room a ≡ after shut lay ys b room (after shut lay xs b room a)
  after_append xs ys b room a = go a.ending refl
    where
      b' : ℕ
      b' = b - a.steps

      room' : ℕ
      room' = room - length (words lay a)

      w : Answer
      w = walk shut lay xs b' room'

      left : room' - length (words lay w) ≡ room - length (flat lay (a.chains ++ w.chains))
      left = omega (arith, length-append (words lay a) (words lay w), ap length (flat_append lay a.chains w.chains))

      go : (e : Ending) → a.ending ≡ e → goes_on e a (walk shut lay (xs ++ ys) b' room') ≡ after shut lay ys b room (goes_on e a w)
      go complete q =
          let n : b' - w.steps ≡ b - (a.steps + w.steps) = omega arith in
          ap (goes_on complete a) (walk_append xs ys b' room') ∙ on_on w.ending a w (walk shut lay ys (b' - w.steps) (room' - length (words lay w)))
          ∙ ap₂ (λ (n l : ℕ). goes_on w.ending (goes_on complete a w) (walk shut lay ys n l)) n left
      go spent q = sym (after_ended ys b room a (spent_ends a.ending q))
      go no_room q = sym (after_ended ys b room a (no_room_ends a.ending q))

  -- ---- the next run

  module _ (b room : ℕ) (a : Answer) where
    pub after_none : after shut lay [] b room a ≡ a
    unfolding walk
    after_none = go a.ending refl
      where
        go : (e : Ending) → a.ending ≡ e → goes_on e a (ended complete 0) ≡ a
        go complete q = rw (← q) (answers a.ending (a.chains ++ []) a.chains (a.steps + 0) a.steps (append-nil a.chains) (omega arith))
        go spent q = refl
        go no_room q = refl

    module _ (p : List ℕ) (ps : List (List ℕ)) (e : a.ending ≡ complete) where
      pub after_spent : b ≤ a.steps → after shut lay (p ∷ ps) b room a ≡ ends spent a
      unfolding walk
      after_spent l =
          let z : b - a.steps ≡ 0 = omega arith in
          rw (e, z) (answers spent (a.chains ++ []) a.chains (a.steps + 0) a.steps (append-nil a.chains) (omega arith))

      module _ (l : a.steps < b) where
        -- the run p alone
        one : after shut lay (p ∷ []) b room a
            ≡ goes_on complete a (visit (shut p) (leb (length (lay p)) (room - length (words lay a))) p (length (lay p)) (room - length (words lay a)) (walk shut lay [] (b - suc a.steps)))
        unfolding walk
        one = let z : b - a.steps ≡ suc (b - suc a.steps) = omega arith in rw (e, z)

        on : (v : Answer) → after shut lay (p ∷ []) b room a ≡ v → after shut lay (p ∷ ps) b room a ≡ after shut lay ps b room v
        on v h = after_append (p ∷ []) ps b room a ∙ ap (after shut lay ps b room) h

        pub after_open : shut p ≡ false → after shut lay (p ∷ ps) b room a ≡ after shut lay ps b room (stepped a)
        unfolding walk
        after_open s =
            on (stepped a) (one ∙ rw (s, e) (answers complete (a.chains ++ []) a.chains (a.steps + 1) (suc a.steps) (append-nil a.chains) (omega arith)))

        module _ (s : shut p ≡ true) where
          pub after_listed : length (lay p) ≤ room - length (words lay a) → after shut lay (p ∷ ps) b room a ≡ after shut lay ps b room (writes p a)
          unfolding walk
          after_listed k =
              on (writes p a)
              (one ∙ rw (s, le-leb (length (lay p)) (room - length (words lay a)) k, e)
              (answers complete (a.chains ++ (p ∷ [])) (a.chains ++ (p ∷ [])) (a.steps + 1) (suc a.steps) refl (omega arith)))

          pub after_full : room - length (words lay a) < length (lay p) → after shut lay (p ∷ ps) b room a ≡ ends no_room (stepped a)
          unfolding walk
          after_full k =
              on (ends no_room (stepped a))
              (one ∙ rw (s, lt-leb (length (lay p)) (room - length (words lay a)) k)
              (answers no_room (a.chains ++ []) a.chains (a.steps + 1) (suc a.steps) (append-nil a.chains) (omega arith)))
              ∙ after_ended ps b room (ends no_room (stepped a)) (no_room_ends no_room refl)

    -- ---- what stays, and what is kept to

    pub after_begins : (xs : List (List ℕ)) → Begins a.chains (after shut lay xs b room a).chains
    after_begins xs = go a.ending (walk shut lay xs (b - a.steps) (room - length (words lay a)))
      where
        go : (e : Ending) (w : Answer) → Begins a.chains (goes_on e a w).chains
        go complete w = begins_longer a.chains w.chains
        go spent w = begins_itself a.chains
        go no_room w = begins_itself a.chains

    pub after_within : (xs : List (List ℕ)) → a.steps ≤ b → (after shut lay xs b room a).steps ≤ b
    after_within xs h =
        go a.ending (walk shut lay xs (b - a.steps) (room - length (words lay a))) (walk_within shut lay xs (b - a.steps) (room - length (words lay a)))
      where
        go : (e : Ending) (w : Answer) → w.steps ≤ b - a.steps → (goes_on e a w).steps ≤ b
        go complete w k = omega arith
        go spent w k = h
        go no_room w k = h

    pub after_room : (xs : List (List ℕ)) → length (words lay a) ≤ room → length (words lay (after shut lay xs b room a)) ≤ room
    after_room xs h =
        go a.ending (walk shut lay xs (b - a.steps) (room - length (words lay a))) (walk_fits shut lay xs (b - a.steps) (room - length (words lay a)))
      where
        go : (e : Ending) (w : Answer) → length (words lay w) ≤ room - length (words lay a) → length (words lay (goes_on e a w)) ≤ room
        go complete w k = omega (arith, length-append (words lay a) (words lay w), ap length (flat_append lay a.chains w.chains))
        go spent w k = h
        go no_room w k = h

    -- ---- what row i adds to the run p

    module _ (R : Rule) (ds : List Dependency) (us : List ℕ) (k : ℕ) (p : List ℕ) (i : ℕ) where
      pub after_not : fits R ds p i ≡ false → after shut lay (next R ds us k p i) b room a ≡ a
      after_not e = rw e after_none

      pub after_fits : fits R ds p i ≡ true
          → after shut lay (next R ds us k p i) b room a ≡ after shut lay (from R ds us k (p ++ (i ∷ []))) b room (after shut lay ((p ++ (i ∷ [])) ∷ []) b room a)
      after_fits e = rw e (after_append ((p ++ (i ∷ [])) ∷ []) (from R ds us k (p ++ (i ∷ []))) b room a)
