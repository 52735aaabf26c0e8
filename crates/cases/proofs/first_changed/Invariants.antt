-- The places so far are the same.
use Rattle.cases.specs.Cases.{SameWithin}
use Rattle.cases.proofs.first_changed.Given as goal

abbrev pub invariant-loop-place : goal.invariant-loop-place
invariant-loop-place g l = SameWithin g.T.PartialEq.eq l.before l.after l.from l.place
