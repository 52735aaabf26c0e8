-- Each refusal has a number of its own, and none has 0. A chain of tests passes where each of them fails.
use Rattle.std.proofs.Common.{ℕ, arith, ◌≡◌, refl, sym, ap, ◌∙◌, Bool, true, false, List, [], ◌∷◌, get_or, Result, Ok, Err, subst}
use Rattle.model.specs.Refusals.{Refusal, Short, Long, Mark, Counts, Places, Kind, Thread, Lock, Taken, Deep, NotHeld, Full, Small, Rows, number_of, Verdict, passes, refuses, number, verdict_of, ◌if◌else◌}

-- the table of numbers, read the other way
abbrev table : List Refusal
table = Short ∷ Long ∷ Mark ∷ Counts ∷ Places ∷ Kind ∷ Thread ∷ Lock ∷ Taken ∷ Deep ∷ NotHeld ∷ Full ∷ Small ∷ Rows ∷ []

named : ℕ → Refusal
named n = get_or (Short ∷ table) n Short

named_number : (r : Refusal) → named (number_of r) ≡ r
unfolding named
named_number Short = refl
named_number Long = refl
named_number Mark = refl
named_number Counts = refl
named_number Places = refl
named_number Kind = refl
named_number Thread = refl
named_number Lock = refl
named_number Taken = refl
named_number Deep = refl
named_number NotHeld = refl
named_number Full = refl
named_number Small = refl
named_number Rows = refl

pub number_of_once : (r q : Refusal) → number_of r ≡ number_of q → r ≡ q
number_of_once r q e = sym (named_number r) ∙ ap named e ∙ named_number q

pub number_of_some : (r : Refusal) → number_of r ≡ 0 → ⊥
number_of_some Short e = omega arith
number_of_some Long e = omega arith
number_of_some Mark e = omega arith
number_of_some Counts e = omega arith
number_of_some Places e = omega arith
number_of_some Kind e = omega arith
number_of_some Thread e = omega arith
number_of_some Lock e = omega arith
number_of_some Taken e = omega arith
number_of_some Deep e = omega arith
number_of_some NotHeld e = omega arith
number_of_some Full e = omega arith
number_of_some Small e = omega arith
number_of_some Rows e = omega arith

pub number_passes : (v : Verdict) → number v ≡ 0 → v ≡ passes
number_passes passes e = refl
number_passes (refuses r) e = absurd (number_of_some r e)

-- a verdict has a number of its own
pub number_once : (v w : Verdict) → number v ≡ number w → v ≡ w
number_once passes w e = sym (number_passes w (sym e))
number_once (refuses r) passes e = number_passes (refuses r) e
number_once (refuses r) (refuses q) e = ap refuses (number_of_once r q e)

passed : Verdict → Type 0
passed passes = Unit {0}
passed (refuses r) = ⊥

pub refuses_passes : (r : Refusal) → refuses r ≡ passes → ⊥
unfolding passed
refuses_passes r e = subst passed (sym e) tt

pub if_passes : (r : Refusal) (b : Bool) (v : Verdict) → (r if b else v) ≡ passes → (b ≡ false) × (v ≡ passes)
if_passes r true v e = absurd (refuses_passes r e)
if_passes r false v e = (refl, e)

-- what a test answers is settled by its number
pub verdict_once : (a b : Result (Unit {0}) Refusal) → number (verdict_of a) ≡ number (verdict_of b) → a ≡ b
verdict_once (Ok u) (Ok v) e = refl
verdict_once (Ok u) (Err q) e = absurd (number_of_some q (sym e))
verdict_once (Err r) (Ok v) e = absurd (number_of_some r e)
verdict_once (Err r) (Err q) e = ap Err (number_of_once r q e)
