-- What the rows passed want is marked.
use Rattle.std.proofs.Common.{◌≡◌, ℕ, ◌≤◌, ◌<◌, length, get_or}
use Rattle.model.proofs.Given.{dep_at}
use Rattle.marks.specs.Working.{On}
use Rattle.marks.proofs.peeling.Peeling.new.Given as goal

abbrev pub invariant-loop-row : goal.invariant-loop-row
invariant-loop-row l = record {
  size : length l.locks ≡ 256;
  bits : (m : ℕ) → get_or l.locks m 0 ≤ 1;
  wanted : (i : ℕ) → i < l.row → On l.locks (dep_at l.table.words.now i).wanted;
}
