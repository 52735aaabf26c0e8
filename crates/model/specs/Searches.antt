-- The two searches, and what is lost by searching kept rows alone: nothing (docs/RULES.md, "Runs, chains and steps"). For any rule R of which two rows
-- may stand in one run, and any words `lay p` that a chain p is written as.
--     chain_words p         the words of a chain in the base: its length and its row numbers
--     chains_of R ds us     the chains made of the rows us, in order
--     search R ds lay us b room    the answer over the runs made of the rows us, with b steps and room words
--     full R ds lay b room     the full search: all rows
--     short R ds lay b room    the short search: kept rows, under the table's own row numbers
--     NothingLost R ds lay     what the short search tells of the full one: when both are complete the same chains in no more steps; under one budget and
--                              one room whatever the full one writes, first; and a complete search that writes nothing says that there is no chain
use Rattle.std.specs.Prelude.{ℕ, ◌≤◌, ◌≡◌, ◌↔◌, List, [], ◌∷◌, length}
use Rattle.laws.specs.Lists.{filter, Begins}
use Rattle.model.specs.Rows.{Dependency}
use Rattle.model.specs.Kept.{kept_rows}
use Rattle.model.specs.Runs.{Rule, closed, Chain, runs, all_rows}
use Rattle.model.specs.Answer.{complete, Answer, walk, words}

abbrev pub chain_words : List ℕ → List ℕ
chain_words p = length p ∷ p

abbrev pub chains_of : Rule → List Dependency → List ℕ → List (List ℕ)
chains_of R ds us = filter (closed ds) (runs R ds us)

abbrev pub search : Rule → List Dependency → (List ℕ → List ℕ) → List ℕ → ℕ → ℕ → Answer
search R ds lay us b room = walk (closed ds) lay (runs R ds us) b room

abbrev pub full : Rule → List Dependency → (List ℕ → List ℕ) → ℕ → ℕ → Answer
full R ds lay = search R ds lay (all_rows ds)

abbrev pub short : Rule → List Dependency → (List ℕ → List ℕ) → ℕ → ℕ → Answer
short R ds lay = search R ds lay (kept_rows ds)

pub record NothingLost (R : Rule) (ds : List Dependency) (lay : List ℕ → List ℕ) : Type 0 where
  pub same : (b b' room room' : ℕ) → (full R ds lay b room).ending ≡ complete → (short R ds lay b' room').ending ≡ complete
      → (short R ds lay b' room').chains ≡ (full R ds lay b room).chains
  pub steps : (b b' room room' : ℕ) → (full R ds lay b room).ending ≡ complete → (short R ds lay b' room').ending ≡ complete
      → (short R ds lay b' room').steps ≤ (full R ds lay b room).steps
  pub begins : (b room : ℕ) → Begins (full R ds lay b room).chains (short R ds lay b room).chains
  pub written : (b room : ℕ) → Begins (words lay (full R ds lay b room)) (words lay (short R ds lay b room))
  pub none : (b room : ℕ) → (short R ds lay b room).ending ≡ complete → ((short R ds lay b room).chains ≡ []) ↔ ((p : List ℕ) → Chain R ds p → ⊥)
  pub none_full : (b room : ℕ) → (full R ds lay b room).ending ≡ complete → ((full R ds lay b room).chains ≡ []) ↔ ((p : List ℕ) → Chain R ds p → ⊥)
