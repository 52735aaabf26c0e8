-- A pair ties the lock, or none does and it is taken out.
use Rattle.marks.proofs.Peel.{peels_out, tried_found, tried_out}
use Rattle.marks.proofs.peeling.Peeling.try_lock.Goals as goal

pub returns-in-Some-clause-tried : goal.returns-in-Some-clause-tried
returns-in-Some-clause-tried c =
    tried_found _ _ _ _ c.args.self.now.peels c.args.lock c.requires c.in-Some.pair c.in-Some.ensures

pub invariant_of-self-2 : goal.invariant_of-self-2
invariant_of-self-2 c = rw c.from-place.ensures (record { peels = peels_out _ _ _ _ c.args.self.now.peels c.args.lock c.requires c.in_default.ensures (rw c.from-place.ensures at c.if-self-place-ne1.false) })

pub returns-clause-tried : goal.returns-clause-tried
returns-clause-tried c = rw c.from-place.ensures (tried_out _ _ _ _ c.args.self.now.peels c.args.lock c.requires c.in_default.ensures (rw c.from-place.ensures at c.if-self-place-ne1.false))
