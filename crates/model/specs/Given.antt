-- A table that is given to a call (docs/RULES.md, "Well formed").
--     row_of ws         the row that twelve words write
--     rows_of n t       the n rows that the words t begin with
--     deps_of n t       their dependencies
--     Given n t rs     the words t, given as n rows, begin with those of the rows rs, and these are well formed
--     fair l d         the test of `Fair l d`; well_formed ds: the test of `WellFormed ds`
--     given n t        the test: the words t are those of the n rows that they are read as, and these are well formed
use Rattle.std.specs.Prelude.{ℕ, zero, suc, ◌*◌, ◌≡◌, Bool, not, ◌&&◌, List, [], ◌∷◌, leb, ltb, length, get_or, take, drop}
use Rattle.laws.specs.Lists.{Begins, all, pairs, same}
use Rattle.laws.specs.Sets.{has}
use Rattle.laws.specs.Memory.{part}
use Rattle.model.specs.declared.Limits.{Limits}
use Rattle.model.specs.Rows.{most_rows, widest, Dependency, Row, same_dep, deps, WellFormed}
use Rattle.model.specs.Table.{row_size, table_words}

abbrev pub row_of : List ℕ → Row
row_of ws =
    record {
      what = record { thread = get_or ws 0 0; wanted = get_or ws 1 0; held = take (get_or ws 2 0) (part 3 7 ws) };
      first = get_or ws 10 0;
      times = get_or ws 11 0;
    }

unfoldable pub rows_of : ℕ → List ℕ → List Row
rows_of zero t = []
rows_of (suc n) t = row_of (take row_size t) ∷ rows_of n (drop row_size t)

abbrev pub deps_of : ℕ → List ℕ → List Dependency
deps_of n t = deps (rows_of n t)

pub record Given (n : ℕ) (t : List ℕ) (rs : List Row) : Type 0 where
  pub count : length rs ≡ n
  pub words : Begins (table_words rs) t
  pub well : WellFormed (deps rs)

abbrev pub fair : Limits → Dependency → Bool
fair l d =
    ltb d.thread l.threads
    && (ltb d.wanted l.locks
    && (all (λ m. ltb m l.locks) d.held
    && (leb 1 (length d.held)
    && (leb (length d.held) 7
    && (pairs ltb d.held
    && not (has d.wanted d.held))))))

abbrev pub well_formed : List Dependency → Bool
well_formed ds = leb (length ds) most_rows && (all (fair widest) ds && pairs (λ d e. not (same_dep d e)) ds)

unfoldable pub given : ℕ → List ℕ → Bool
given n t = well_formed (deps_of n t) && same (table_words (rows_of n t)) (take (n * row_size) t)
