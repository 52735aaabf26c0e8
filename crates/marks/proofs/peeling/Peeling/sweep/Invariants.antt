-- Upwards what was tried is tied or was taken out; downwards this stays so.
use Rattle.std.proofs.Common.{◌≡◌}
use Rattle.marks.specs.Working.{Sweeping, Swept}
use Rattle.marks.proofs.peeling.Peeling.sweep.Given as goal

abbrev pub invariant-loop-lock : goal.invariant-loop-lock
invariant-loop-lock l = record {
  table : l.self.table ≡ l.fn.self.table;
  same_reference : l.self.locks.ghost_name ≡ l.fn.self.locks.ghost_name;
  sweeping : Sweeping l.fn.self.table.words.now l.fn.self.table.rows l.fn.self.locks.now l.self.locks.now l.changed l.lock;
}

abbrev pub invariant-loop-lock-2 : goal.invariant-loop-lock-2
invariant-loop-lock-2 l = record {
  table : l.self.table ≡ l.fn.self.table;
  same_reference : l.self.locks.ghost_name ≡ l.fn.self.locks.ghost_name;
  swept : Swept l.fn.self.table.words.now l.fn.self.table.rows l.fn.self.locks.now l.changed l.self.locks.now;
}
