-- The numbers so far were read.
use Rattle.std.proofs.Common.{◌≡◌, length, take, flat_map}
use Rattle.std.specs.Int.{w32, to_le_bytes}
use Rattle.std.specs.Io.KnownBytes.{Consumes}
use Rattle.cases.proofs.read_numbers.Given as goal

abbrev pub invariant-loop-number : goal.invariant-loop-number
invariant-loop-number g l =
    record { all : length l.number-items ≡ g.row.N; read : Consumes (g.R.Read.remaining l.fn.input) (g.R.Read.remaining l.input) (flat_map (to_le_bytes w32) (take l.number-index l.number-items)) }
