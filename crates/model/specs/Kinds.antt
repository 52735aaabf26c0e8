-- The kinds of an event (docs/RULES.md, "The trace image").
--     code_of k        the number that stands for a kind in an image
--     IsKindOf c r     r is the kind whose number is c, or the refusal of a number that no kind has
use Rattle.std.specs.Prelude.{ℕ, ◌≡◌, Result, MatchResult}
use Rattle.model.specs.declared.EventKind.{EventKind}
use Rattle.model.specs.declared.EventKind.TheVariants.{Acquire, Release}
use Rattle.model.specs.declared.Refusal.{Refusal}
use Rattle.model.specs.declared.Refusal.TheVariants.{Kind}

abbrev pub code_of : EventKind → ℕ
code_of Acquire = 1
code_of Release = 2

abbrev pub IsKindOf : ℕ → Result EventKind Refusal → Type 0
IsKindOf c r = MatchResult r (λ k. code_of k ≡ c) (λ e. (e ≡ Kind) × ((k : EventKind) → code_of k ≡ c → ⊥))
