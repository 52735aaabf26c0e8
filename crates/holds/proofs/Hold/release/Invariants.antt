-- Taking out: what stays of the places passed is laid.
use Rattle.std.proofs.Common.{◌≡◌, ◌≤◌, take}
use Rattle.laws.specs.Sets.{remove}
use Rattle.holds.specs.Hold.{in_places, in_use}
use Rattle.holds.proofs.Hold.release.Given as goal

abbrev pub invariant-loop-x : goal.invariant-loop-x
invariant-loop-x l =
    record {
      items : l.x-items ≡ in_use l.fn.self;
      few : l.left.size ≤ l.x-index;
      so_far : l.left ≡ in_places (remove l.m (take l.x-index l.x-items));
    }
