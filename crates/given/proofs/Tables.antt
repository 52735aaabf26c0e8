-- A table row by row.
--     Checked t i          the first i rows are fair, and no two of them have one key
--     checked_none, _next  how it goes on
--     not_few, not_room, not_row, not_apart    each way in which a table is not well formed
--     checked_given        all rows are checked: it is
--     key_now             the words that are lent as a row's key
use Rattle.std.proofs.Common.{ℕ, ◌+◌, ◌-◌, ◌*◌, ◌≤◌, ◌<◌, arith, ◌≡◌, refl, sym, ap, subst, ◌∙◌, true, false, List, length, get_or, take, drop, take-take}
use Rattle.std.specs.List.{All}
use Rattle.std.proofs.Math.Decide.{ℕ_discrete}
use Rattle.laws.specs.Memory.{part}
use Rattle.laws.proofs.Tests.{fails, tells_itself}
use Rattle.laws.proofs.Memory.{part_length}
use Rattle.laws.proofs.Places.{place_in}
use Rattle.model.specs.Rows.{most_rows}
use Rattle.model.specs.Table.{row_size, key_at}
use Rattle.model.specs.Given.{given}
use Rattle.model.proofs.Given.{dep_at, RowWell, given_few, given_room, given_row, given_apart, given_of}
use Rattle.given.specs.Working.{RowParts}
use Rattle.given.proofs.Places.{row_words, words_row}

-- the words of a row
abbrev row_at : List ℕ → ℕ → List ℕ
row_at t i = part (i * row_size) row_size t

module _ (t : List ℕ) (i : ℕ) where
  pub key_now : take 10 (row_at t i) ≡ key_at t i
  key_now = take-take 10 row_size (drop (i * row_size) t) (omega arith)

  module _ (room : i * row_size + row_size ≤ length t) where
    pub row_long : length (row_at t i) ≡ 12
    row_long = part_length t (i * row_size) row_size room

    pub well_row : RowParts (row_at t i) → RowWell t i
    unfolding dep_at
    well_row R = let W = row_words (row_at t i) row_long R in record { fair = W.fair; key = W.key ∙ key_now }

    pub row_well : RowWell t i → RowParts (row_at t i)
    unfolding dep_at
    row_well W = words_row (row_at t i) row_long (record { fair = W.fair; key = W.key ∙ sym key_now })

-- ---- the rows of a given table

module _ (t : List ℕ) (i : ℕ) where
  pub thread_at : get_or (row_at t i) 0 0 ≡ (dep_at t i).thread
  unfolding dep_at
  thread_at = refl

  pub wanted_at : get_or (row_at t i) 1 0 ≡ (dep_at t i).wanted
  unfolding dep_at
  wanted_at = refl

module _ (n : ℕ) (t : List ℕ) (g : given n t ≡ true) (i : ℕ) (h : i < n) where
  pub row_here : (i < most_rows) × (i * row_size + row_size ≤ length t)
  row_here = (omega (arith, given_few n t g), omega (arith, given_room n t g))

  pub size_few : get_or (row_at t i) 2 0 ≤ 7
  size_few = (row_well t i row_here.1 (given_row n t g i h)).few

  -- of the places of H and what lies behind them so many words are taken as H has locks
  pub held_now : (w : List ℕ) (s : ℕ) → w ≡ row_at t i → s ≡ get_or w 2 0 → take s (take (length w - 3) (drop 3 w)) ≡ (dep_at t i).held
  unfolding dep_at
  held_now w s v e =
      let l = row_long t i row_here.1 in
      ap (λ n. take n (take (length w - 3) (drop 3 w))) e ∙ ap (λ x. take (get_or x 2 0) (take (length x - 3) (drop 3 x))) v
      ∙ take-take (get_or (row_at t i) 2 0) (length (row_at t i) - 3) (drop 3 (row_at t i)) (omega (arith, l, size_few))
      ∙ sym (take-take (get_or (row_at t i) 2 0) 7 (drop 3 (row_at t i)) size_few)

  pub wanted_lock : (dep_at t i).wanted < 256
  wanted_lock = (given_row n t g i h).fair.wanted

  pub held_locks : All (λ m. m < 256) (dep_at t i).held
  held_locks k d l = (given_row n t g i h).fair.locks _ (place_in d (dep_at t i).held k l)

-- ---- row by row

pub record Checked (t : List ℕ) (i : ℕ) : Type 0 where
  pub rows : (j : ℕ) → j < i → RowWell t j
  pub apart : (j k : ℕ) → j < k → k < i → key_at t j ≡ key_at t k → ⊥

module _ (t : List ℕ) where
  pub checked_none : Checked t 0
  checked_none = record { rows = λ j h. absurd (let z : ⊥ = omega arith in z); apart = λ j k h l. absurd (let z : ⊥ = omega arith in z) }

  pub checked_next : (i : ℕ) → Checked t i → RowWell t i → ((q : ℕ) → q < i → key_at t q ≡ key_at t i → ⊥) → Checked t (i + 1)
  checked_next i C W n = record { rows = λ j h. rows j (ℕ_discrete j i) h; apart = λ j k h l. apart j k h (ℕ_discrete k i) l }
    where
      rows : (j : ℕ) → Dec (j ≡ i) → j < i + 1 → RowWell t j
      rows j (yes e) h = subst (RowWell t) (sym e) W
      rows j (no e) h = C.rows j (omega arith)

      apart : (j k : ℕ) → j < k → Dec (k ≡ i) → k < i + 1 → key_at t j ≡ key_at t k → ⊥
      apart j k h (yes e) l = λ q. n j (omega arith) (q ∙ ap (key_at t) e)
      apart j k h (no e) l = C.apart j k h (omega arith)

  module _ (n : ℕ) where
    refuted : (given n t ≡ true → ⊥) → false ≡ given n t
    refuted h = sym (fails (tells_itself (given n t)) h)

    pub not_few : most_rows < n → false ≡ given n t
    not_few h = refuted (λ g. let z : ⊥ = omega (arith, given_few n t g) in z)

    pub not_room : length t < n * row_size → false ≡ given n t
    not_room h = refuted (λ g. let z : ⊥ = omega (arith, given_room n t g) in z)

    pub not_row : (i : ℕ) → i < n → i * row_size + row_size ≤ length t → (RowParts (row_at t i) → ⊥) → false ≡ given n t
    not_row i h room w = refuted (λ g. w (row_well t i room (given_row n t g i h)))

    pub not_apart : (j i : ℕ) → j < i → i < n → key_at t j ≡ key_at t i → false ≡ given n t
    not_apart j i h l e = refuted (λ g. given_apart n t g j i h l e)

    pub checked_given : n ≤ most_rows → n * row_size ≤ length t → (i : ℕ) → n ≤ i → Checked t i → true ≡ given n t
    checked_given few room i h C = sym (given_of n t few room (λ j l. C.rows j (omega arith)) (λ j k l m. C.apart j k l (omega arith)))
