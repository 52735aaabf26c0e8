-- What marking comes to.
--     marking_small, _rows, _passes     each way out
--     lock_mark, row_mark_lem, past_mark    the entries of the mark page
--     lock_marked, row_marked           by the largest tied set, whichever way it is given: 1 exactly for its locks, and for the rows that it keeps
--     marking_triples                   two tables with the same triples have the same marks
--     marking_once                      an outcome settles the answer and every byte of the page
--     marks_answer_once                 an answer is settled by its numbers
--     mark_once                         so an outcome settles what marking answers
use Rattle.std.proofs.Common.{ℕ, ◌+◌, ◌-◌, ◌≤◌, ◌<◌, arith, ◌≡◌, refl, sym, ap, ◌∙◌, Bool, true, false, ◌↔◌, List, map, lt-ltb, le-ltb, length, get_or, take, take_at, replicate, length-append, get_or-append-add, Result, Ok, Err}
use Rattle.std.proofs.lemmas.Bool.{false≢true}
use Rattle.std.proofs.lemmas.List.{length-map, length-replicate, get_or-replicate}
use Rattle.std.proofs.Math.ListN.{get_or-append}
use Rattle.laws.specs.Lists.{In, below}
use Rattle.laws.specs.Memory.{over}
use Rattle.laws.specs.Sets.{has}
use Rattle.laws.specs.Tests.{Tells}
use Rattle.laws.proofs.Lists.{tells_in}
use Rattle.laws.proofs.Places.{get_or_map, length_below, get_or_below}
use Rattle.model.specs.Refusals.{Refusal}
use Rattle.model.specs.Rows.{most_rows, widest, Dependency, blank, row, Row, deps}
use Rattle.model.specs.Given.{deps_of, Given, given}
use Rattle.model.specs.Tied.{Largest, Kept}
use Rattle.model.specs.Kept.{K, kept}
use Rattle.model.specs.Marking.{mark, lock_marks, row_marks, page_of, page_room, Marking, marks_answer, Marked, marked, marking}
use Rattle.model.proofs.Given.{given_rows, given_passes}
use Rattle.model.proofs.Tied.{largest_only}
use Rattle.model.proofs.Kept.{K_largest, tells_kept}
use Rattle.model.proofs.Refusals.{number_of_once, number_of_some}

-- ---- each way out

module _ (n : ℕ) (t p : List ℕ) where
  pub marking_small : length p < page_room → marking n t p ≡ marked (record { number = 13; place = 0 }) p
  unfolding marking
  marking_small h = rw (lt-ltb (length p) page_room h) refl

  module _ (room : page_room ≤ length p) where
    pub marking_rows : given n t ≡ false → marking n t p ≡ marked (record { number = 14; place = 0 }) p
    unfolding marking
    marking_rows g = rw (le-ltb (length p) page_room room, g) refl

    pub marking_passes : given n t ≡ true → marking n t p ≡ marked (record { number = 0; place = 0 }) (over (page_of (deps_of n t)) p)
    unfolding marking
    marking_passes g = rw (le-ltb (length p) page_room room, g) refl

-- ---- the mark page

module _ (ds : List Dependency) where
  pub locks_length : length (lock_marks ds) ≡ widest.locks
  unfolding lock_marks
  locks_length = length-map (below 256) (λ m. mark (has m (K ds))) ∙ length_below 256

  pub page_locks : take widest.locks (page_of ds) ≡ lock_marks ds
  page_locks = take_at (lock_marks ds) (row_marks ds) 256 locks_length

  pub page_length : length ds ≤ most_rows → length (page_of ds) ≡ page_room
  unfolding row_marks
  page_length h =
      length-append (lock_marks ds) (row_marks ds)
      ∙ omega (arith, locks_length, length-append (map (λ d. mark (kept ds d)) ds) (replicate (1024 - length ds) 0), length-map ds (λ d. mark (kept ds d)), length-replicate {A = ℕ} (1024 - length ds) 0)

  pub lock_mark : (m : ℕ) → m < widest.locks → get_or (lock_marks ds) m 0 ≡ mark (has m (K ds))
  unfolding lock_marks
  lock_mark m h =
      let l : m < length (below 256) = omega (arith, length_below 256) in
      get_or_map (λ k. mark (has k (K ds))) 0 0 (below 256) m l ∙ ap (λ k. mark (has k (K ds))) (get_or_below 256 m h)

  after_locks : (i : ℕ) → get_or (page_of ds) (256 + i) 0 ≡ get_or (row_marks ds) i 0
  after_locks i = ap (λ (k : ℕ). get_or (page_of ds) (k + i) 0) (sym locks_length) ∙ get_or-append-add (lock_marks ds) (row_marks ds) i 0

  pub row_mark_lem : (i : ℕ) → i < length ds → get_or (page_of ds) (widest.locks + i) 0 ≡ mark (kept ds (row ds i))
  unfolding row_marks
  row_mark_lem i h =
      let l : i < length (map (λ d. mark (kept ds d)) ds) = omega (arith, length-map ds (λ d. mark (kept ds d))) in
      after_locks i ∙ get_or-append (map (λ d. mark (kept ds d)) ds) (replicate (1024 - length ds) 0) 0 i l ∙ get_or_map (λ d. mark (kept ds d)) blank 0 ds i h

  pub past_mark : (i : ℕ) → length ds ≤ i → i < most_rows → get_or (page_of ds) (widest.locks + i) 0 ≡ 0
  unfolding row_marks
  past_mark i h l =
      let e : i ≡ length (map (λ d. mark (kept ds d)) ds) + (i - length ds) = omega (arith, length-map ds (λ d. mark (kept ds d))) in
      after_locks i ∙ ap (λ (k : ℕ). get_or (row_marks ds) k 0) e
      ∙ get_or-append-add (map (λ d. mark (kept ds d)) ds) (replicate (1024 - length ds) 0) (i - length ds) 0
      ∙ get_or-replicate (1024 - length ds) (i - length ds) 0 0 (omega arith)

  -- ---- by the largest tied set

  -- a mark says what its test tells
  mark_tells : (b : Bool) (P : Type 0) → Tells b P → (mark b ≡ 1) ↔ P
  mark_tells true P d = (λ e. d.0 refl, λ p. refl)
  mark_tells false P d = (λ e. absurd (let z : ⊥ = omega arith in z), λ p. absurd (false≢true (d.1 p)))

  module _ (L : ℕ → Type 0) (l : Largest ds L) where
    into : (m : ℕ) → In m (K ds) → L m
    into = largest_only ds (λ m. In m (K ds)) L (K_largest ds) l

    back : (m : ℕ) → L m → In m (K ds)
    back = largest_only ds L (λ m. In m (K ds)) l (K_largest ds)

    pub lock_marked : (m : ℕ) → m < widest.locks → (get_or (page_of ds) m 0 ≡ 1) ↔ L m
    lock_marked m h =
        let w = mark_tells (has m (K ds)) (In m (K ds)) (tells_in m (K ds)) in
        let e = get_or-append (lock_marks ds) (row_marks ds) 0 m (omega (arith, locks_length)) ∙ lock_mark m h in
        (λ q. into m (w.0 (sym e ∙ q)), λ q. e ∙ w.1 (back m q))

    pub row_marked : (i : ℕ) → i < length ds → (get_or (page_of ds) (widest.locks + i) 0 ≡ 1) ↔ Kept L (row ds i)
    row_marked i h =
        let d = row ds i in
        let w = mark_tells (kept ds d) (Kept (λ m. In m (K ds)) d) (tells_kept ds d) in
        let e = row_mark_lem i h in (
          λ q. let k = w.0 (sym e ∙ q) in record { wanted = into d.wanted k.wanted; lock = k.lock; locked = k.locked; within = into k.lock k.within },
          λ k. e ∙ w.1 (record { wanted = back d.wanted k.wanted; lock = k.lock; locked = k.locked; within = back k.lock k.within }),
        )

-- ---- what settles the marks

pub marking_triples : (n : ℕ) (t u p : List ℕ) (rs qs : List Row) → Given n t rs → Given n u qs → deps rs ≡ deps qs → marking n t p ≡ marking n u p
unfolding marking
marking_triples n t u p rs qs g h e =
    let d : deps_of n t ≡ deps_of n u = ap deps (given_rows n t rs g) ∙ e ∙ sym (ap deps (given_rows n u qs h)) in
    rw (given_passes n t rs g, given_passes n u qs h, d) refl

pub marking_once : (x : Marked) (a b : Marking) (p q : List ℕ) → marked a p ≡ x → marked b q ≡ x → (a ≡ b) × (p ≡ q)
marking_once x a b p q f g = let e = f ∙ sym g in (ap (λ (o : Marked). o.answer) e, ap (λ (o : Marked). o.page) e)

pub marks_answer_once : (a b : Result (Unit {0}) Refusal) → marks_answer a ≡ marks_answer b → a ≡ b
marks_answer_once (Ok u) (Ok v) e = refl
marks_answer_once (Ok u) (Err q) e = absurd (number_of_some q (sym (ap (λ (m : Marking). m.number) e)))
marks_answer_once (Err r) (Ok v) e = absurd (number_of_some r (ap (λ (m : Marking). m.number) e))
marks_answer_once (Err r) (Err q) e = ap Err (number_of_once r q (ap (λ (m : Marking). m.number) e))

pub mark_once : (x : Marked) (a b : Result (Unit {0}) Refusal) (p q : List ℕ) → marked (marks_answer a) p ≡ x → marked (marks_answer b) q ≡ x → (a ≡ b) × (p ≡ q)
mark_once x a b p q f g = let w = marking_once x (marks_answer a) (marks_answer b) p q f g in (marks_answer_once a b w.0, w.1)
