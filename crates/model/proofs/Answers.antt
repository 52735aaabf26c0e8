-- What the calls on an image come to, by the verdict on its header.
--     notes_refused, _passed    the notes call
--     small_refused             reading, where too few words are lent
--     image_refused, _passed    and where enough are
--     read_well_formed          what is read is a well-formed table
--     read_given                and what it leaves is given: it passes test 14 as the rows that were read
--     one_outcome               an outcome settles the answer and every word of the table
--     answer_once               an answer is settled by its numbers
--     read_once                 so an outcome settles what reading answers
use Rattle.std.proofs.Common.{ℕ, ◌≤◌, ◌<◌, arith, ◌≡◌, refl, sym, ap, ◌∙◌, List, [], lt-ltb, le-ltb, length, drop, Result, Ok, Err}
use Rattle.std.proofs.Math.Decide.{dec_lt}
use Rattle.model.specs.declared.Refused.{Refused}
use Rattle.model.specs.Refusals.{passes, refuses, Refusal, Small}
use Rattle.model.specs.Rows.{deps, WellFormed}
use Rattle.model.specs.Trace.{start, trace}
use Rattle.model.specs.Image.{header_size, header, limits_of, notes_of, events_of}
use Rattle.model.specs.Table.{table_words, table_room}
use Rattle.model.specs.Given.{Given}
use Rattle.model.specs.Reading.{notes_found, notes_place, turned_away, read_image, read_into, Reading, answer_of, Outcome, outcome, reading}
use Rattle.model.proofs.Refusals.{number_of_once, number_of_some}
use Rattle.model.proofs.Traces.{Way, on, stop, way, trace_well_formed}
use Rattle.model.proofs.Image.{accepted}

module _ (b : List ℕ) where
  pub notes_refused : (r : Refusal) → header b ≡ refuses r → (notes_found b ≡ []) × (notes_place b ≡ 0)
  unfolding notes_found notes_place
  notes_refused r e = (rw (e, notes_found), rw (e, notes_place))

  pub notes_passed : header b ≡ passes → (notes_found b ≡ notes_of b) × (notes_place b ≡ header_size)
  unfolding notes_found notes_place
  notes_passed e = (rw (e, notes_found), rw (e, notes_place))

  pub small_refused : (n : ℕ) → n < table_room → read_into n b ≡ turned_away Small
  unfolding read_into
  small_refused n h = rw (lt-ltb n table_room h)

  module _ (n : ℕ) (h : table_room ≤ n) where
    pub image_refused : (r : Refusal) → header b ≡ refuses r → read_into n b ≡ turned_away r
    unfolding read_into read_image
    image_refused r e = rw (le-ltb n table_room h, e, read_image)

    pub image_passed : header b ≡ passes → read_into n b ≡ trace (limits_of b) (events_of b)
    unfolding read_into read_image
    image_passed e = rw (le-ltb n table_room h, e, read_image)

-- whatever is read, also up to a refusal, is a well-formed table
none_well_formed : WellFormed (deps start.rows)
none_well_formed = record { few = omega arith; fair = λ d i. absurd i; apart = tt }

pub read_well_formed : (n : ℕ) (b : List ℕ) → WellFormed (deps (read_into n b).state.rows)
read_well_formed n b = go (dec_lt n table_room) (way (header b))
  where
    go : Dec (n < table_room) → Way (header b) → WellFormed (deps (read_into n b).state.rows)
    go (yes l) w = rw (small_refused b n l) none_well_formed
    go (no l) (on e) =
        let A = accepted b e in
        rw (image_passed b n (omega arith) e) (trace_well_formed (limits_of b) (events_of b) A.few_threads A.few_locks)
    go (no l) (stop r e) = rw (image_refused b n (omega arith) r e) none_well_formed

pub read_given : (b t : List ℕ) → Given (reading b t).answer.rows (reading b t).table (read_into (length t) b).state.rows
read_given b t =
    record { count = refl; words = (drop (length (table_words (read_into (length t) b).state.rows)) t, refl); well = read_well_formed (length t) b }

pub one_outcome : (x : Outcome) (a b : Reading) (t u : List ℕ) → outcome a t ≡ x → outcome b u ≡ x → (a ≡ b) × (t ≡ u)
one_outcome x a b t u p q = let e = p ∙ sym q in (ap (λ (o : Outcome). o.answer) e, ap (λ (o : Outcome). o.table) e)

pub answer_once : (a b : Result ℕ Refused) → answer_of a ≡ answer_of b → a ≡ b
answer_once (Ok n) (Ok k) e = ap (λ (r : Reading). Ok r.rows) e
answer_once (Ok n) (Err f) e = absurd (number_of_some f.refusal (sym (ap (λ (r : Reading). r.number) e)))
answer_once (Err d) (Ok k) e = absurd (number_of_some d.refusal (ap (λ (r : Reading). r.number) e))
answer_once (Err d) (Err f) e =
    let n = number_of_once d.refusal f.refusal (ap (λ (r : Reading). r.number) e) in
    λ i. Err (record { refusal = n i; place = (e i).place; rows = (e i).rows })

pub read_once : (x : Outcome) (a b : Result ℕ Refused) (t u : List ℕ) → outcome (answer_of a) t ≡ x → outcome (answer_of b) u ≡ x → (a ≡ b) × (t ≡ u)
read_once x a b t u p q = let w = one_outcome x (answer_of a) (answer_of b) t u p q in (answer_once a b w.0, w.1)
