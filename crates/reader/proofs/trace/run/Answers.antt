-- The events passed are in the state; the laws of `Running` carry it from one to the next.
use Rattle.std.proofs.Common.{arith, rules, ◌∙◌}
use Rattle.reader.proofs.Running.{events_are, runs_can_count, runs_on, runs_stop, runs_end}
use Rattle.reader.proofs.trace.run.Goals as goal

pub step-requires : goal.step-requires
step-requires c = runs_can_count c.loop-place.invariant.1 (omega (arith, c.as_chunks.ensures.front_len))

pub returns-in-Err : goal.returns-in-Err
returns-in-Err c =
    let tied = c.in-Err.ensures.lent ∙ c.loop-place.invariant.0 ∙ c.new-rows.ensures.lent in
    λ count h.
    rw (events_are c.args.events.now c.as_chunks.result.0.now c.as_chunks.ensures.front count h)
    (runs_stop c.loop-place.invariant.1 c.loop-place-test.true c.event_of.result c.event_of.ensures c.in-Err.ensures.did _ _ c.count.ensures (search rules))

pub loop-place-preserved : goal.loop-place-preserved
loop-place-preserved c =
    (c.in_default.ensures.lent ∙ c.loop-place.invariant.0, runs_on c.loop-place.invariant.1 c.loop-place-test.true c.event_of.result c.event_of.ensures c.in_default.ensures.limits c.in_default.ensures.did)

pub returns : goal.returns
returns c =
    let tied = c.loop-place.invariant.0 ∙ c.new-rows.ensures.lent in
    λ count h.
    rw (events_are c.args.events.now c.as_chunks.result.0.now c.as_chunks.ensures.front count h)
    (runs_end c.loop-place.invariant.1 c.loop-place-test.false _ _ c.count-2.ensures (search rules))
