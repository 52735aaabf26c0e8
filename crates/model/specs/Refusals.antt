-- The numbers that a call can refuse with (docs/RULES.md, "Numbers a call can refuse with"). Each refusal has a name (`Refusal` of src/lib.rt).
--     number_of r      its number
--     Verdict          what is tested passes, or is refused
--     number v         0 where it passes, otherwise the refusal's number
--     refused_at_once r    refused with r before the first event, so with no row
--     verdict_of a     the verdict that a test answers: `Ok` where it passes, and otherwise the refusal
--     r if b else v    refused with r where the test b passes, otherwise as v says. A chain of these is tests in order: the first that passes decides
use Rattle.std.specs.Prelude.{ℕ, Bool, true, false, Result, Ok, Err}
pub use Rattle.model.specs.declared.Refusal.{Refusal}
use Rattle.model.specs.declared.Refused.{Refused}
pub use Rattle.model.specs.declared.Refusal.TheVariants.{Short, Long, Mark, Counts, Places, Kind, Thread, Lock, Taken, Deep, NotHeld, Full, Small, Rows}

infixr 1 ◌if◌else◌
abbrev pub number_of : Refusal → ℕ
number_of Short = 1
number_of Long = 2
number_of Mark = 3
number_of Counts = 4
number_of Places = 5
number_of Kind = 6
number_of Thread = 7
number_of Lock = 8
number_of Taken = 9
number_of Deep = 10
number_of NotHeld = 11
number_of Full = 12
number_of Small = 13
number_of Rows = 14

pub data Verdict : Type 0 where
  passes : Verdict
  refuses : Refusal → Verdict

abbrev pub number : Verdict → ℕ
number passes = 0
number (refuses r) = number_of r

abbrev pub ◌if◌else◌ : Refusal → Bool → Verdict → Verdict
r if true else v = refuses r
r if false else v = v

abbrev pub verdict_of : Result (Unit {0}) Refusal → Verdict
verdict_of (Ok u) = passes
verdict_of (Err r) = refuses r

abbrev pub refused_at_once : Refusal → Refused
refused_at_once r = record { refusal = r; place = 0; rows = 0 }
