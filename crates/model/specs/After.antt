-- The answer so far as a state that runs move on, list after list (docs/RULES.md, "Runs, chains and steps": each next run is visited after those before it).
--     ends e a         the answer a, ended with e
--     writes p a       the answer a after one step more, at which the chain p is written behind the others
--     goes_on e a a'    a where it has ended otherwise than Complete, and else a' behind a
--     after shut lay xs b room a   the answer a once the runs xs are visited too, of the whole budget b and the whole room
use Rattle.std.specs.Prelude.{ℕ, suc, ◌+◌, ◌-◌, Bool, List, [], ◌∷◌, ◌++◌, length}
use Rattle.model.specs.Answer.{Ending, complete, spent, no_room, Answer, walk, words}

abbrev pub ends : Ending → Answer → Answer
ends e a = record { ending = e; chains = a.chains; steps = a.steps }

abbrev pub writes : List ℕ → Answer → Answer
writes p a = record { ending = a.ending; chains = a.chains ++ (p ∷ []); steps = suc a.steps }

abbrev pub goes_on : Ending → Answer → Answer → Answer
goes_on complete a a' = record { ending = a'.ending; chains = a.chains ++ a'.chains; steps = a.steps + a'.steps }
goes_on spent a a' = a
goes_on no_room a a' = a

abbrev pub after : (List ℕ → Bool) → (List ℕ → List ℕ) → List (List ℕ) → ℕ → ℕ → Answer → Answer
after shut lay xs b room a = goes_on a.ending a (walk shut lay xs (b - a.steps) (room - length (words lay a)))
