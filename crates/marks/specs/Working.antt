-- What the private functions of marking say of the marks while locks are taken out. No public contract speaks of it.
--     On L m               lock m is marked in the marks L
--     Meets L d            row d holds a lock that is marked
--     Asks L m d           row d wants m, and holds a lock that is marked
--     Follows L t e        row e is of another thread than t, and wants a lock that is marked
--     Pairs f L m i j      of the rows f, row i asks for m, and row j holds it and follows
--     Passed f n L m r q   no pair of the n rows that comes before rows r and q ties m to the marks
--     Found f n L m p      what a search finds: a pair at which it stops, or `None`, and no pair ties m
--     Stops f n L m p      p is a pair of the n rows that ties m, and none that comes before it does
--     no_pair              where a search begins: rows 0 and 0
--     Peels t n L P        n rows of the table t: the marks L have K in them, and for each lock no pair before the rows in P ties it
--     Tried t n L b M m    what trying lock m leaves of the marks L: M, and whether it was taken out
--     Sweeping t n L M c i    after i locks of a sweep from the marks L: M are left, and c says whether any was taken out
--     Swept t n L b M      what a sweep leaves, and whether it took out any
use Rattle.std.specs.Prelude.{ℕ, ◌≤◌, ◌<◌, ◌≡◌, Bool, true, false, Option, List, length, get_or, MatchOption}
use Rattle.std.specs.List.{Any}
use Rattle.laws.specs.Lists.{In}
use Rattle.laws.specs.Memory.{sum}
use Rattle.model.specs.Rows.{widest, Dependency}
use Rattle.model.specs.Given.{deps_of}
use Rattle.model.specs.Tied.{Ties}
use Rattle.model.specs.Kept.{K}
use Rattle.model.proofs.Given.{dep_at}
use Rattle.marks.specs.declared.peeling.Pair.{Pair}

abbrev pub On : List ℕ → ℕ → Type 0
On L m = get_or L m 0 ≡ 1

abbrev pub Meets : List ℕ → Dependency → Type 0
Meets L d = Any (On L) d.held

abbrev pub Asks : List ℕ → ℕ → Dependency → Type 0
Asks L m d = (d.wanted ≡ m) × Meets L d

abbrev pub Follows : List ℕ → ℕ → Dependency → Type 0
Follows L t e = (e.thread ≡ t → ⊥) × On L e.wanted

abbrev pub Pairs : (ℕ → Dependency) → List ℕ → ℕ → ℕ → ℕ → Type 0
Pairs f L m i j = Asks L m (f i) × In m (f j).held × Follows L (f i).thread (f j)

pub record Passed (f : ℕ → Dependency) (n : ℕ) (L : List ℕ) (m r q : ℕ) : Type 0 where
  pub before : (i j : ℕ) → i < r → j < n → Pairs f L m i j → ⊥
  pub here : (j : ℕ) → j < q → Pairs f L m r j → ⊥

pub record Stops (f : ℕ → Dependency) (n : ℕ) (L : List ℕ) (m : ℕ) (p : Pair) : Type 0 where
  pub asker : p.asker < n
  pub holder : p.holder < n
  pub passed : Passed f n L m p.asker p.holder
  pub pair : Pairs f L m p.asker p.holder

abbrev pub Found : (ℕ → Dependency) → ℕ → List ℕ → ℕ → Option Pair → Type 0
Found f n L m p = MatchOption p ((i j : ℕ) → i < n → j < n → Pairs f L m i j → ⊥) (Stops f n L m)

abbrev pub no_pair : Pair
no_pair = record { asker = 0; holder = 0 }

pub record Peels (t : List ℕ) (n : ℕ) (L : List ℕ) (P : List Pair) : Type 0 where
  pub marks : length L ≡ widest.locks
  pub searches : length P ≡ widest.locks
  pub bits : (m : ℕ) → get_or L m 0 ≤ 1
  pub inside : (m : ℕ) → In m (K (deps_of n t)) → On L m
  pub passed : (m : ℕ) → m < widest.locks → Passed (dep_at t) n L m (get_or P m no_pair).asker (get_or P m no_pair).holder

pub record Tried (t : List ℕ) (n : ℕ) (L : List ℕ) (b : Bool) (M : List ℕ) (m : ℕ) : Type 0 where
  pub stays : b ≡ false → (M ≡ L) × (On L m → Ties (deps_of n t) (On L) m)
  pub leaves : b ≡ true → sum M < sum L

pub record Sweeping (t : List ℕ) (n : ℕ) (L M : List ℕ) (c : Bool) (i : ℕ) : Type 0 where
  pub most : sum M ≤ sum L
  pub stays : c ≡ false → (M ≡ L) × ((m : ℕ) → m < i → On L m → Ties (deps_of n t) (On L) m)
  pub leaves : c ≡ true → sum M < sum L

abbrev pub Swept : List ℕ → ℕ → List ℕ → Bool → List ℕ → Type 0
Swept t n L b M = Sweeping t n L M b widest.locks
