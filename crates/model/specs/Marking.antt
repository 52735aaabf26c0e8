-- What marking answers and leaves (docs/RULES.md, "Which rows are kept").
--     mark b           1 where the test b passes, and 0 where it fails
--     lock_marks ds     for each lock whether it is in K
--     row_marks ds      for each row whether it is kept; past the table's end 0
--     page_of ds        the mark page: the locks' marks, then the rows'
--     page_room         how many bytes it has
--     marks_refusal n t p    the tests: the lent page p is too short, then the table of n rows in the words t is not well formed
--     Marking          marking's answer in numbers: the refusal's number or 0, and the place, which is 0
--     marks_answer a   what the answer a is in numbers: `Ok`, or `Err` of a refusal
--     Marked           what marking answers, and what the lent page holds afterwards; marked a p: the answer a, and p in the page
--     marking n t p    the outcome for n rows in the words t and the lent page p: the mark page over p, or p as it was
use Rattle.std.specs.Prelude.{ℕ, ◌+◌, ◌-◌, Bool, true, false, not, List, ◌++◌, map, ltb, length, replicate, Result, Ok, Err}
use Rattle.laws.specs.Lists.{below}
use Rattle.laws.specs.Memory.{over}
use Rattle.laws.specs.Sets.{has}
use Rattle.model.specs.Refusals.{Verdict, passes, refuses, number, number_of, Refusal, Small, Rows, ◌if◌else◌}
use Rattle.model.specs.Rows.{most_rows, widest, Dependency}
use Rattle.model.specs.Given.{deps_of, given}
use Rattle.model.specs.Kept.{K, kept}

abbrev pub mark : Bool → ℕ
mark true = 1
mark false = 0

unfoldable pub lock_marks : List Dependency → List ℕ
lock_marks ds = map (λ m. mark (has m (K ds))) (below widest.locks)

unfoldable pub row_marks : List Dependency → List ℕ
row_marks ds = map (λ d. mark (kept ds d)) ds ++ replicate (most_rows - length ds) 0

abbrev pub page_of : List Dependency → List ℕ
page_of ds = lock_marks ds ++ row_marks ds

abbrev pub page_room : ℕ
page_room = widest.locks + most_rows

abbrev pub marks_refusal : ℕ → List ℕ → List ℕ → Verdict
marks_refusal n t p = Small if ltb (length p) page_room else Rows if not (given n t) else passes

pub record Marking : Type 0 where
  pub number : ℕ
  pub place : ℕ

abbrev pub marks_answer : Result (Unit {0}) Refusal → Marking
marks_answer (Ok u) = record { number = 0; place = 0 }
marks_answer (Err r) = record { number = number_of r; place = 0 }

pub record Marked : Type 0 where
  pub answer : Marking
  pub page : List ℕ

abbrev pub marked : Marking → List ℕ → Marked
marked a p = record { answer = a; page = p }

-- the page after a verdict on the table of ds
abbrev pub page_after : Verdict → List Dependency → List ℕ → List ℕ
page_after passes ds p = over (page_of ds) p
page_after (refuses r) ds p = p

unfoldable pub marking : ℕ → List ℕ → List ℕ → Marked
marking n t p = marked (record { number = number (marks_refusal n t p); place = 0 }) (page_after (marks_refusal n t p) (deps_of n t) p)
