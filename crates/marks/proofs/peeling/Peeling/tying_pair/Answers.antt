use Rattle.std.proofs.Common.{◌∙◌, sym, refl, subst, arith}
use Rattle.std.proofs.lemmas.Bool.{false≢true}
use Rattle.laws.specs.Lists.{In}
use Rattle.laws.proofs.Places.{place_in, in_place}
use Rattle.model.proofs.Given.{dep_at, given_few}
use Rattle.marks.proofs.Search.{passed_holder}
use Rattle.marks.proofs.peeling.Peeling.tying_pair.Goals.{then-follows+else-loop-held-test, else-follows}
use Rattle.marks.proofs.peeling.Peeling.tying_pair.Goals as goal

-- there are few rows, so a row's number fits
pub overflow_cast-found : goal.overflow_cast-found
overflow_cast-found c = let T = c.args.self.now.table in omega (arith, given_few T.rows T.words.now T.well_formed)

pub overflow_cast-found-then-held-lock : goal.overflow_cast-found-then-held-lock
overflow_cast-found-then-held-lock c = let T = c.args.self.now.table in omega (arith, given_few T.rows T.words.now T.well_formed)

-- the row does not follow, or has not the lock among those that it holds
pub loop-holder-preserved : goal.loop-holder-preserved
loop-holder-preserved c =
    let T = c.args.self.now.table in
    let next = passed_holder (dep_at T.words.now) T.rows c.args.self.now.locks.now c.args.lock c.pair.asker c.loop-holder.holder c.loop-holder.invariant.passed in
    elim c.if-follows.branch [
      | then-follows+else-loop-held-test w ↦ record {
        none = w.found-is ∙ w.loop-held.invariant.none;
        passed = next (λ p.
            let v = in_place 0 _ _ (subst (λ l. In c.args.lock l) (sym w.held-held-items.ensures.value) p.1) in
            w.loop-held.invariant.other v.0 (omega (arith, v.1)) v.2);
      }
      | else-follows w ↦ record { none = w.found-is ∙ c.loop-holder.invariant.none; passed = next (λ p. false≢true (w.if-follows.ensures.1 ((λ e. p.2.0 (e ∙ c.thread-thread.ensures)), p.2.1))) }
    ]

pub returns-then-held-lock : goal.returns-then-held-lock
returns-then-held-lock c =
    let L = c.held-held-items.result.now in
    let D = dep_at c.args.self.now.table.words.now c.loop-holder.holder in
    record {
      asker = c.pair-test.true;
      holder = c.loop-holder-test.true;
      passed = c.loop-holder.invariant.passed;
      pair = (c.if-asks.ensures.0 refl, subst (λ l. In c.args.lock l) c.held-held-items.ensures.value (subst (λ m. In m L) c.if-held-lock.true (place_in 0 L c.loop-held.held-index c.loop-held-test.true)), (let f = c.if-follows.ensures.0 refl in ((λ e. f.0 (e ∙ sym c.thread-thread.ensures)), f.1)));
    }
