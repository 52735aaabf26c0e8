-- How what one thread holds lies in eight places, and what each method makes of the places, whatever stands there.
--     in_places xs      xs in the first places, the other places unused
--     laid h           what is held, as it lies
--     in_use s          what stands in the used places
--     asked_of s m, taken_of s m, released_of s m      what the methods answer
-- `proofs/Laid.antt` shows that each does to what is laid what the meaning of the trace says.
use Rattle.std.specs.Prelude.{ℕ, ◌+◌, min, List, ◌++◌, length, take, drop, ltb, if◌then◌else◌}
use Rattle.laws.specs.Sets.{has, insert, remove}
use Rattle.model.specs.Holds.{most_held, Holding, locks}
use Rattle.model.specs.Table.{padded}
use Rattle.holds.specs.declared.Hold.{Hold}
use Rattle.holds.specs.declared.Asked.{Asked}

abbrev pub in_places : List ℕ → Hold
in_places xs = record { places = padded most_held xs; size = length xs }

abbrev pub laid : Holding → Hold
laid h = in_places (locks h)

abbrev pub in_use : Hold → List ℕ
in_use s = take (min s.size most_held) s.places

abbrev pub asked_of : Hold → ℕ → Asked
asked_of s m = record { hold = s; yes = has m (in_use s) }

abbrev pub taken_of : Hold → ℕ → Hold
taken_of s m =
    if ltb s.size most_held
    then record { places = insert m (take s.size s.places) ++ drop (s.size + 1) s.places; size = s.size + 1 }
    else s

abbrev pub released_of : Hold → ℕ → Hold
released_of s m = in_places (remove m (in_use s))
