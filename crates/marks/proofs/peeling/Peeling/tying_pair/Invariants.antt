-- Nothing is found, and no pair that was passed ties the lock: of the rows that ask for it, of those that follow, of the locks that one of these holds.
use Rattle.std.proofs.Common.{◌≡◌, ℕ, ◌<◌, None, get_or}
use Rattle.model.proofs.Given.{dep_at}
use Rattle.marks.specs.Working.{Passed}
use Rattle.marks.proofs.peeling.Peeling.tying_pair.Given as goal

abbrev pub invariant-loop-held : goal.invariant-loop-held
invariant-loop-held l = record { none : l.found ≡ None; other : (k : ℕ) → k < l.held-index → get_or l.held-items k 0 ≡ l.lock → ⊥ }

abbrev pub invariant-loop-holder : goal.invariant-loop-holder
invariant-loop-holder l =
    record { none : l.found ≡ None; passed : Passed (dep_at l.self.table.words.now) l.self.table.rows l.self.locks.now l.lock l.asker l.holder }

abbrev pub invariant-pair : goal.invariant-pair
invariant-pair l =
    record { none : l.found ≡ None; passed : Passed (dep_at l.self.table.words.now) l.self.table.rows l.self.locks.now l.lock l.asker l.first }
