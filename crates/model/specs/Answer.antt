-- What a search answers: it visits a list of runs under a budget of steps and a room of words (docs/RULES.md, "Runs, chains and steps").
--     Ending           Complete, Spent or NoRoom
--     Answer           the ending, the chains written, and the steps
--     ended e n        ended with e after n steps, with no chain written
--     stepped a        a after one step more, over a run that is not written; listed p a: over the run p, which is
--     visit c r p w room f     the step at run p: c, it is closed; r, its w words have room; f m, what the rest answers with m words of room
--     walk shut lay xs b room  the answer over the runs xs with b steps and room words: `shut` tests which are closed, `lay` has the words of a chain
--     words lay a      the words written
--     Stopped          where a walk stopped, and why
--     Told             what an answer tells: which runs were visited, which of them are written, and where it stopped and why
use Rattle.std.specs.Prelude.{ℕ, zero, suc, ◌-◌, ◌≤◌, ◌<◌, ◌≡◌, Bool, true, false, List, [], ◌∷◌, ◌++◌, length, leb}
use Rattle.laws.specs.Lists.{filter, flat}

pub data Ending : Type 0 where
  complete : Ending
  spent : Ending
  no_room : Ending

pub record Answer : Type 0 where
  pub ending : Ending
  pub chains : List (List ℕ)
  pub steps : ℕ

abbrev pub ended : Ending → ℕ → Answer
ended e n = record { ending = e; chains = []; steps = n }

abbrev pub stepped : Answer → Answer
stepped a = record { ending = a.ending; chains = a.chains; steps = suc a.steps }

abbrev pub listed : List ℕ → Answer → Answer
listed p a = record { ending = a.ending; chains = p ∷ a.chains; steps = suc a.steps }

abbrev pub visit : Bool → Bool → List ℕ → ℕ → ℕ → (ℕ → Answer) → Answer
visit false r p w room f = stepped (f room)
visit true true p w room f = listed p (f (room - w))
visit true false p w room f = ended no_room 1

abbrev pub words : (List ℕ → List ℕ) → Answer → List ℕ
words lay a = flat lay a.chains

module _ (shut : List ℕ → Bool) (lay : List ℕ → List ℕ) where
  unfoldable pub walk : List (List ℕ) → ℕ → ℕ → Answer
  walk [] b room = ended complete 0
  walk (p ∷ ps) zero room = ended spent 0
  walk (p ∷ ps) (suc b) room = visit (shut p) (leb (length (lay p)) room) p (length (lay p)) room (walk ps b)

  -- after n runs visited in full and s steps of b, with `left` words of room left, before the runs `rest`
  abbrev pub Stopped : ℕ → ℕ → List (List ℕ) → ℕ → Ending → ℕ → Type 0
  Stopped b left rest n complete s = (rest ≡ []) × (s ≡ n) × (n ≤ b)
  Stopped b left rest n spent s = (x : List ℕ) × (xs : List (List ℕ)) × (rest ≡ x ∷ xs) × (s ≡ n) × (n ≡ b)
  Stopped b left rest n no_room s = (x : List ℕ) × (xs : List (List ℕ)) × (rest ≡ x ∷ xs) × (s ≡ suc n) × (n < b) × (shut x ≡ true) × (left < length (lay x))

  pub record Told (xs : List (List ℕ)) (b room : ℕ) (a : Answer) : Type 0 where
    pub seen : List (List ℕ)
    pub rest : List (List ℕ)
    pub split : xs ≡ seen ++ rest
    pub chains : a.chains ≡ filter shut seen
    pub fit : length (words lay a) ≤ room
    pub stopped : Stopped b (room - length (words lay a)) rest (length seen) a.ending a.steps
