-- What the private functions of the test say of a row's words. No public contract speaks of it.
--     Locks ws             each of the words ws is the number of a lock
--     Unused ws            none of them is a lock
--     Places ps n w        of the seven words ps the first n are locks, rise, and have not w among them, and the others are unused
--     RowParts ws          of the twelve words ws the thread and the wanted lock are within the limits, and the places are those of 1 to 7 locks
--     RowWords ws          the twelve words ws are those of the fair row that they are read as
use Rattle.std.specs.Prelude.{◌≤◌, ◌<◌, ◌≡◌, ℕ, List, get_or, take, drop, slice_index, EachIndex}
use Rattle.std.specs.List.{Contains}
use Rattle.std.specs.List.Sorted.{IsStrictlyIncreasing}
use Rattle.laws.specs.Memory.{part}
use Rattle.model.specs.Rows.{widest, Fair}
use Rattle.model.specs.Table.{unused, key_size, key_words}
use Rattle.model.specs.Given.{row_of}

abbrev pub Locks : List ℕ → Type 0
Locks ws = EachIndex ws (λ k. slice_index ws k < widest.locks)

abbrev pub Unused : List ℕ → Type 0
Unused ws = EachIndex ws (λ k. slice_index ws k ≡ unused)

pub record Places (ps : List ℕ) (n w : ℕ) : Type 0 where
  pub locks : Locks (take n ps)
  pub rising : IsStrictlyIncreasing (take n ps)
  pub other : Contains (take n ps) w → ⊥
  pub rest : Unused (drop n ps)

pub record RowParts (ws : List ℕ) : Type 0 where
  pub thread : get_or ws 0 0 < widest.threads
  pub wanted : get_or ws 1 0 < widest.locks
  pub some : 1 ≤ get_or ws 2 0
  pub few : get_or ws 2 0 ≤ 7
  pub places : Places (part 3 7 ws) (get_or ws 2 0) (get_or ws 1 0)

pub record RowWords (ws : List ℕ) : Type 0 where
  pub fair : Fair widest (row_of ws).what
  pub key : key_words (row_of ws).what ≡ take key_size ws
