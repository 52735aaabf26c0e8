-- The values passed are folded into the sum.
use Rattle.std.proofs.Common.{arith}
use Rattle.cases.proofs.Steps.{mixed_more}
use Rattle.cases.proofs.checksum.Goals as goal

pub loop-value-preserved : goal.loop-value-preserved
loop-value-preserved g c =
    let v = c.loop-value in
    record {
      small = omega arith;
      mixed = rw c.from.ensures (mixed_more g.T.Into.converts c.args.values.now v.value-index v.sum c.into-number.result c.value-item.result c.loop-value-test.true c.value-item.is v.invariant.mixed c.into-number.ensures);
    }
