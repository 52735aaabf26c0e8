-- When a sweep takes out no lock the marks are tied, and so they are those of K.
use Rattle.std.proofs.Common.{◌≡◌, subst}
use Rattle.model.specs.Given.{deps_of}
use Rattle.model.specs.Marking.{lock_marks}
use Rattle.given.specs.declared.Table.{Table}
use Rattle.marks.specs.Working.{Peels}
use Rattle.marks.proofs.Peel.{peeled}
use Rattle.marks.proofs.peeling.Peeling.peel.Goals as goal

pub returns-clause-marks : goal.returns-clause-marks
returns-clause-marks c =
    let l = c.loop in
    let s = c.sweep.new.self in
    let p = subst (λ (T : Table). Peels T.words.now T.rows s.locks.now s.pairs) c.sweep.ensures.table s.peels in
    subst (λ (T : Table). s.locks.now ≡ lock_marks (deps_of T.rows T.words.now)) l.invariant.table
    (peeled _ _ l.self.locks.now s.locks.now s.pairs p (c.sweep.ensures.swept.stays c.loop-test.false))
