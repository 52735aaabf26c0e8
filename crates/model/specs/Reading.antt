-- What the calls on an image answer and leave (docs/RULES.md, "The trace image" and "Numbers a call can refuse with").
--     header_number b    the header call: the number of the first of checks 1 to 5 that refuses, or 0
--     notes_found b      the notes call: the notes, or nothing where the header is refused
--     notes_place b      and where in the image they start
--     read_image b       reading: the header's checks, then the trace
--     read_into n b      reading with n words lent: too few are refused before all else
--     turned_away r      refused with r before the first event
--     Reading           reading's answer in numbers: the refusal's number or 0, the place of the refused event or 0, and the row count
--     answer_of a       what the answer a is in numbers: `Ok` of a row count, or `Err` of a refusal, its place and the row count
--     Outcome           what reading answers, and what the lent table holds afterwards; outcome a t: the answer a, and t in the table
--     told r t          the outcome of reading as r says, with t in the table before
--     reading b t       the outcome for the image b and the lent table t: its rows' words over t, and nothing else is written
use Rattle.std.specs.Prelude.{ℕ, List, [], length, ltb, if◌then◌else◌, Result, Ok, Err}
use Rattle.laws.specs.Memory.{over}
use Rattle.model.specs.declared.Refused.{Refused}
use Rattle.model.specs.Refusals.{passes, refuses, number, number_of, Refusal, Small}
use Rattle.model.specs.Trace.{Read, start, trace}
use Rattle.model.specs.Image.{header_size, header, limits_of, notes_of, events_of}
use Rattle.model.specs.Table.{table_words, table_room}

abbrev pub header_number : List ℕ → ℕ
header_number b = number (header b)

unfoldable pub notes_found : List ℕ → List ℕ
notes_found b = elim (header b) [ passes ↦ notes_of b | refuses r ↦ [] ]

unfoldable pub notes_place : List ℕ → ℕ
notes_place b = elim (header b) [ passes ↦ header_size | refuses r ↦ 0 ]

abbrev pub turned_away : Refusal → Read
turned_away r = record { verdict = refuses r; place = 0; state = start }

unfoldable pub read_image : List ℕ → Read
read_image b = elim (header b) [ passes ↦ trace (limits_of b) (events_of b) | refuses r ↦ turned_away r ]

unfoldable pub read_into : ℕ → List ℕ → Read
read_into n b = if ltb n table_room then turned_away Small else read_image b

pub record Reading : Type 0 where
  pub number : ℕ
  pub place : ℕ
  pub rows : ℕ

abbrev pub answer_of : Result ℕ Refused → Reading
answer_of (Ok n) = record { number = 0; place = 0; rows = n }
answer_of (Err e) = record { number = number_of e.refusal; place = e.place; rows = e.rows }

pub record Outcome : Type 0 where
  pub answer : Reading
  pub table : List ℕ

abbrev pub outcome : Reading → List ℕ → Outcome
outcome a t = record { answer = a; table = t }

abbrev pub told : Read → List ℕ → Outcome
told r t =
    outcome
    (record { number = number r.verdict; place = r.place; rows = length r.state.rows })
    (over (table_words r.state.rows) t)

abbrev pub reading : List ℕ → List ℕ → Outcome
reading b t = told (read_into (length t) b) t
