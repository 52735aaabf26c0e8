-- What one thread holds (docs/RULES.md, "From events to rows"). What begins and what ends a hold is said here and nowhere else.
--     Holding          what one thread holds
--     nothing          before event 0
--     locks h          H, the set of the locks that are held
--     holds m h        the test: lock m is held
--     taken m h        after an acquire of m: one that is held already changes nothing
--     released m h     after a release of m: it ends the hold, however often m was acquired
--     most_held         a thread holds at most so many locks
use Rattle.std.specs.Prelude.{ℕ, Bool, List, [], if◌then◌else◌}
use Rattle.laws.specs.Sets.{has, insert, remove}

abbrev pub most_held : ℕ
most_held = 8

abbrev pub Holding : Type 0
Holding = List ℕ

abbrev pub nothing : Holding
nothing = []

abbrev pub locks : Holding → List ℕ
locks h = h

abbrev pub holds : ℕ → Holding → Bool
holds m h = has m (locks h)

unfoldable pub taken : ℕ → Holding → Holding
taken m h = if holds m h then h else insert m h

unfoldable pub released : ℕ → Holding → Holding
released m h = remove m h
