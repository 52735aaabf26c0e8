-- The largest tied set and the kept rows, computed (docs/RULES.md, "Which rows are kept"): of the locks that are wanted, those that are not tied to the
-- rest are taken out, again and again. A set of locks is a list L.
--     meets L d        the test: row d holds a lock of L
--     backs L m d e    the test: row e holds m, wants a lock of L, and is of another thread than row d
--     asks ds L m d    the test: row d wants m and holds a lock of L, and some row backs it
--     tied ds L m      the test: m is tied to L
--     settled ds k L   L after k rounds, each of which takes out what is not tied to the rest
--     wanted_locks ds   the locks that rows want
--     K ds             the locks of the largest tied set
--     kept ds d        the test: row d wants a lock of K and holds a lock of K
--     kept_rows ds      the numbers of the kept rows, rising
use Rattle.std.specs.Prelude.{ℕ, zero, suc, Bool, not, ◌&&◌, List, map, length, eqb}
use Rattle.laws.specs.Lists.{any, filter, below}
use Rattle.laws.specs.Sets.{has}
use Rattle.model.specs.Rows.{Dependency, row}

abbrev pub meets : List ℕ → Dependency → Bool
meets L d = any (λ k. has k L) d.held

abbrev pub backs : List ℕ → ℕ → Dependency → Dependency → Bool
backs L m d e = has m e.held && (has e.wanted L && not (eqb d.thread e.thread))

abbrev pub asks : List Dependency → List ℕ → ℕ → Dependency → Bool
asks ds L m d = eqb d.wanted m && (meets L d && any (backs L m d) ds)

unfoldable pub tied : List Dependency → List ℕ → ℕ → Bool
tied ds L m = any (asks ds L m) ds

unfoldable pub settled : List Dependency → ℕ → List ℕ → List ℕ
settled ds zero L = L
settled ds (suc k) L = settled ds k (filter (tied ds L) L)

abbrev pub wanted_locks : List Dependency → List ℕ
wanted_locks ds = map (λ d. d.wanted) ds

unfoldable pub K : List Dependency → List ℕ
K ds = settled ds (length ds) (wanted_locks ds)

abbrev pub kept : List Dependency → Dependency → Bool
kept ds d = has d.wanted (K ds) && meets (K ds) d

abbrev pub kept_rows : List Dependency → List ℕ
kept_rows ds = filter (λ i. kept ds (row ds i)) (below (length ds))
