-- The sum over the values so far.
use Rattle.std.proofs.Common.{◌<◌, take}
use Rattle.std.specs.List.{FoldsTo}
use Rattle.cases.specs.Cases.{modulus, Mixes}
use Rattle.cases.proofs.checksum.Given as goal

abbrev pub invariant-loop-value : goal.invariant-loop-value
invariant-loop-value g l = record { small : l.sum < modulus; mixed : FoldsTo (Mixes g.T.Into.converts) 7 (take l.value-index l.values) l.sum }
