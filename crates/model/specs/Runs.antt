-- Runs, closed runs and their order (docs/RULES.md, "Runs, chains and steps"). A run of a table with the dependencies ds is a list of row numbers.
--     most_run          a run has at most so many rows
--     Rule             which two rows may stand in one run: `Beside`, and its test `beside`. All else is the same for every list of chains
--     Decides R        the test tells which
--     Disjoint d e     the sets H of two rows have no lock in common
--     plain            the rule of the base: the sets H are disjoint in pairs
--     Differ ds i j    rows i and j are of different threads
--     Feeds ds i j     row i wants a lock that row j holds
--     Lowest ds p      the first row's thread has the lowest number
--     Stands R ds p    what is asked of the rows of a run
--     Run R ds p       one to 32 rows of which this is so
--     last i p         the last of the row i and the rows p after it
--     Closed ds p      the last row wants a lock that the first holds; closed ds p: the test of that
--     Chain R ds p     a closed run
--     Before p q       p comes before q: by row numbers read left to right, a run before its extensions
--     Apart R ds i j   rows i and j may stand in one run; apart R ds i j: the test of that
--     Fits R ds p i    row i may come next after the rows p; fits R ds p i: the test of that
--     Within us p      the rows of p are all of us
--     grown b f q      q and the extensions f q of it where b passes, and otherwise nothing
--     from R ds us k p     the extensions of p by one to k rows of us, in order
--     next R ds us k p i   row i after p where it fits, and the extensions of that by at most k rows
--     runs R ds us     the runs made of the rows us, in order
--     all_rows ds        the numbers of all rows, rising
use Rattle.std.specs.Prelude.{ℕ, zero, suc, ◌≤◌, ◌<◌, ◌≡◌, Bool, true, false, not, ◌&&◌, ◌⊎◌, List, [], ◌∷◌, ◌++◌, length, eqb, ltb}
use Rattle.laws.specs.Tests.{Tells}
use Rattle.laws.specs.Lists.{In, Pairwise, Linked, any, all, flat, below}
use Rattle.laws.specs.Sets.{has}
use Rattle.model.specs.Rows.{Dependency, row}

abbrev pub most_run : ℕ
most_run = 32

pub record Rule : Type 1 where
  pub Beside : Dependency → Dependency → Type 0
  pub beside : Dependency → Dependency → Bool

abbrev pub Decides : Rule → Type 0
Decides R = (d e : Dependency) → Tells (R.beside d e) (R.Beside d e)

abbrev pub Disjoint : Dependency → Dependency → Type 0
Disjoint d e = (m : ℕ) × In m d.held × In m e.held → ⊥

abbrev pub plain : Rule
plain = record { Beside = Disjoint; beside = λ d e. not (any (λ m. has m e.held) d.held) }

abbrev pub Differ : List Dependency → ℕ → ℕ → Type 0
Differ ds i j = (row ds i).thread ≡ (row ds j).thread → ⊥

abbrev pub Feeds : List Dependency → ℕ → ℕ → Type 0
Feeds ds i j = In (row ds i).wanted (row ds j).held

abbrev pub Lowest : List Dependency → List ℕ → Type 0
Lowest ds [] = Unit {0}
Lowest ds (f ∷ p) = (j : ℕ) → In j p → (row ds f).thread < (row ds j).thread

pub record Stands (R : Rule) (ds : List Dependency) (p : List ℕ) : Type 0 where
  pub rows : (i : ℕ) → In i p → i < length ds
  pub threads : Pairwise (Differ ds) p
  pub lowest : Lowest ds p
  pub beside : Pairwise (λ i j. R.Beside (row ds i) (row ds j)) p
  pub link : Linked (Feeds ds) p

pub record Run (R : Rule) (ds : List Dependency) (p : List ℕ) : Type 0 where
  pub some : 1 ≤ length p
  pub few : length p ≤ most_run
  pub stands : Stands R ds p

abbrev pub last : ℕ → List ℕ → ℕ
last i [] = i
last i (j ∷ p) = last j p

abbrev pub Closed : List Dependency → List ℕ → Type 0
Closed ds [] = ⊥
Closed ds (f ∷ p) = Feeds ds (last f p) f

abbrev pub closed : List Dependency → List ℕ → Bool
closed ds [] = false
closed ds (f ∷ p) = has (row ds (last f p)).wanted (row ds f).held

pub record Chain (R : Rule) (ds : List Dependency) (p : List ℕ) : Type 0 where
  pub run : Run R ds p
  pub closed : Closed ds p

abbrev pub Before : List ℕ → List ℕ → Type 0
Before [] [] = ⊥
Before [] (y ∷ ys) = Unit {0}
Before (x ∷ xs) [] = ⊥
Before (x ∷ xs) (y ∷ ys) = (x < y) ⊎ ((x ≡ y) × Before xs ys)

abbrev pub Apart : Rule → List Dependency → ℕ → ℕ → Type 0
Apart R ds i j = (Differ ds i j) × (R.Beside (row ds i) (row ds j))

abbrev pub apart : Rule → List Dependency → ℕ → ℕ → Bool
apart R ds i j = not (eqb (row ds i).thread (row ds j).thread) && R.beside (row ds i) (row ds j)

abbrev pub Fits : Rule → List Dependency → List ℕ → ℕ → Type 0
Fits R ds [] i = Unit {0}
Fits R ds (f ∷ p) i =
    ((row ds f).thread < (row ds i).thread)
    × ((j : ℕ) → In j (f ∷ p) → Apart R ds j i)
    × (Feeds ds (last f p) i)

abbrev pub fits : Rule → List Dependency → List ℕ → ℕ → Bool
fits R ds [] i = true
fits R ds (f ∷ p) i =
    ltb (row ds f).thread (row ds i).thread
    && (all (λ j. apart R ds j i) (f ∷ p)
    && has (row ds (last f p)).wanted (row ds i).held)

abbrev pub Within : List ℕ → List ℕ → Type 0
Within us p = (i : ℕ) → In i p → In i us

abbrev pub grown : Bool → (List ℕ → List (List ℕ)) → List ℕ → List (List ℕ)
grown true f q = q ∷ f q
grown false f q = []

unfoldable pub from : Rule → List Dependency → List ℕ → ℕ → List ℕ → List (List ℕ)
from R ds us zero p = []
from R ds us (suc k) p = flat (λ i. grown (fits R ds p i) (from R ds us k) (p ++ (i ∷ []))) us

abbrev pub next : Rule → List Dependency → List ℕ → ℕ → List ℕ → ℕ → List (List ℕ)
next R ds us k p i = grown (fits R ds p i) (from R ds us k) (p ++ (i ∷ []))

abbrev pub runs : Rule → List Dependency → List ℕ → List (List ℕ)
runs R ds us = from R ds us most_run []

abbrev pub all_rows : List Dependency → List ℕ
all_rows ds = below (length ds)
