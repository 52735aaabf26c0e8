-- Dependencies and rows (docs/RULES.md, "From events to rows"), and well-formed tables ("Well formed").
--     Dependency       the triple (t, m, H): thread t wanted lock m and held the set H
--     row ds i         the dependency of number i; past the end stands `blank`, which holds nothing
--     Row              a dependency, the position of its first arising, and how often it arose
--     deps rs          the dependencies of rows
--     same_dep d e      the test: two dependencies are one; is_of d r: row r is d's
--     known d rs       the test: d has a row
--     new_row d p       the row of d where it arises for the first time, at position p
--     again r          row r with one occurrence more; counted d r: where it is d's
--     arose d p rs     the rows after d arises at position p: a known one has one occurrence more, a new one comes last
--     placed r         a row in all but its occurrences
--     most_rows         a table has at most so many rows
--     full_for d rs     the test: d would be one row too many
--     widest           the limits of any table (`Limits` of src/lib.rt: threads are below `threads`, locks below `locks`)
--     Fair n d         a dependency within the limits n: H has 1 to 7 locks, rises, and has not the wanted lock in it
--     WellFormed ds    the dependencies of a well-formed table. Position and occurrences are not looked at
use Rattle.std.specs.Prelude.{ℕ, ◌+◌, ◌≤◌, ◌<◌, ◌≡◌, Bool, not, ◌&&◌, List, [], ◌∷◌, ◌++◌, map, length, get_or, eqb, leb, if◌then◌else◌}
use Rattle.laws.specs.Lists.{In, Pairwise, any, same}
use Rattle.laws.specs.Sets.{Rising}
use Rattle.model.specs.declared.Limits.{Limits}

abbrev pub most_rows : ℕ
most_rows = 1024

pub record Dependency : Type 0 where
  pub thread : ℕ
  pub wanted : ℕ
  pub held : List ℕ

abbrev pub blank : Dependency
blank = record { thread = 0; wanted = 0; held = [] }

abbrev pub row : List Dependency → ℕ → Dependency
row ds i = get_or ds i blank

pub record Row : Type 0 where
  pub what : Dependency
  pub first : ℕ
  pub times : ℕ

unfoldable pub same_dep : Dependency → Dependency → Bool
same_dep d e = eqb d.thread e.thread && (eqb d.wanted e.wanted && same d.held e.held)

abbrev pub is_of : Dependency → Row → Bool
is_of d r = same_dep d r.what

abbrev pub known : Dependency → List Row → Bool
known d rs = any (is_of d) rs

abbrev pub new_row : Dependency → ℕ → Row
new_row d p = record { what = d; first = p; times = 1 }

abbrev pub again : Row → Row
again r = record { what = r.what; first = r.first; times = r.times + 1 }

abbrev pub counted : Dependency → Row → Row
counted d r = if is_of d r then again r else r

unfoldable pub arose : Dependency → ℕ → List Row → List Row
arose d p rs = if known d rs then map (counted d) rs else rs ++ (new_row d p ∷ [])

abbrev pub full_for : Dependency → List Row → Bool
full_for d rs = not (known d rs) && leb most_rows (length rs)

abbrev pub deps : List Row → List Dependency
deps rs = map (λ r. r.what) rs

abbrev pub placed : Row → Dependency × ℕ
placed r = (r.what, r.first)

abbrev pub widest : Limits
widest = record { threads = 32; locks = 256 }

pub record Fair (n : Limits) (d : Dependency) : Type 0 where
  pub thread : d.thread < n.threads
  pub wanted : d.wanted < n.locks
  pub locks : (m : ℕ) → In m d.held → m < n.locks
  pub some : 1 ≤ length d.held
  pub few : length d.held ≤ 7
  pub rising : Rising d.held
  pub other : In d.wanted d.held → ⊥

pub record WellFormed (ds : List Dependency) : Type 0 where
  pub few : length ds ≤ most_rows
  pub fair : (d : Dependency) → In d ds → Fair widest d
  pub apart : Pairwise (λ d e. d ≡ e → ⊥) ds
