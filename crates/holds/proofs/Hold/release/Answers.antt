-- What stays of the places passed is laid.
use Rattle.std.proofs.Common.{◌+◌, ◌<◌, arith, get_or, length, length-take, take, set, sym, ap, ◌∙◌}
use Rattle.laws.specs.Sets.{remove}
use Rattle.model.specs.Holds.{most_held}
use Rattle.holds.specs.declared.Hold.{Hold}
use Rattle.holds.specs.Hold.{in_places}
use Rattle.holds.proofs.Places.{remove_gone, remove_stays, laid_more}
use Rattle.holds.proofs.Hold.release.Goals.{then-x-m, else-x-m}
use Rattle.holds.proofs.Hold.release.Goals as goal

pub loop-x-preserved : goal.loop-x-preserved
loop-x-preserved c =
    let v = c.loop-x in
    let m = c.args.m in
    let xs = c.used-x-items.result.now in
    let x = get_or xs v.x-index 0 in
    elim c.if-x-m.branch [
      | then-x-m w ↦
          let few : length (remove m (take v.x-index xs)) < most_held = omega (arith, ap (λ (h : Hold). h.size) v.invariant.so_far, simp length-take at (ap length v.invariant.items)) in
          record {
            items = v.invariant.items;
            few = rw w.left-is (omega (arith, v.invariant.few));
            so_far =
                w.left-is ∙ ap (λ (h : Hold). record { places = set h.places h.size x; size = h.size + 1 }) v.invariant.so_far
                ∙ laid_more (remove m (take v.x-index xs)) x few ∙ ap in_places (sym (remove_stays m xs v.x-index (omega arith) w.if-x-m.true));
          }
      | else-x-m w ↦
          record {
            items = v.invariant.items;
            few = rw w.left-is (omega (arith, v.invariant.few));
            so_far = w.left-is ∙ v.invariant.so_far ∙ ap in_places (sym (remove_gone m xs v.x-index (omega arith) w.if-x-m.false));
          }
    ]
