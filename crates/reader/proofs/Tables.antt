-- Rows where they lie in the lent table.
--     Short rs                 each row's H fits in its seven places
--     Split, split, split_in   the row in a place, with those before and after it
--     key_there, times_there   the key of a row, and its occurrences, by its place
--     key_counted, key_put     counting and a new row leave the keys of the other rows
--     tabled_counted           one occurrence more
--     put_words                how a row is put
--     tabled_new               one row more
--     known_there, known_nowhere    whether a dependency has a row, by the keys
use Rattle.std.proofs.Common.{ℕ, suc, ◌+◌, ◌*◌, ◌-◌, ◌≤◌, ◌<◌, ◌≡◌, refl, sym, ap, ap₂, subst, ◌∙◌, false, inl, inr, List, [], ◌∷◌, ◌++◌, append_assoc, map, length, get_or, take, drop, set, length-append, length-take-le, arith, append-nil, take-append-drop, take_at, drop-drop, drop-set-lt}
use Rattle.std.proofs.Math.Decide.{dec_le}
use Rattle.std.proofs.Math.Seq.{split_at}
use Rattle.std.proofs.lemmas.List.{length-map, set_at, get_or_at, drop-set-add, take-set-le}
use Rattle.std.proofs.lemmas.List.Edits.{sets, sets-eq}
use borrow.Rule.Slice.PartMut.{put_mid}
use Rattle.laws.specs.Lists.{In, Pairwise}
use Rattle.laws.specs.Memory.{part, over}
use Rattle.laws.proofs.Tests.{fails}
use Rattle.laws.proofs.Lists.{in_left, in_right, map_in, map_append, flat_append, append_pairwise}
use Rattle.laws.proofs.Memory.{uncons, part_first, part_after, over_more}
use Rattle.model.specs.Rows.{Dependency, Row, known, new_row, again, counted, deps}
use Rattle.model.specs.Table.{row_size, key_words, row_words, table_words, key_size, key_at}
use Rattle.model.proofs.Rows.{tells_same_dep, tells_known, what_counted, counted_none}
use Rattle.model.proofs.Table.{row_length, table_length, key_length, key_once}

abbrev pub Short : List Row → Type 0
Short rs = (r : Row) → In r rs → length r.what.held ≤ 7

-- ---- the row in place r: those before it, itself, those after it

pub record Split (rs : List Row) (r : ℕ) : Type 0 where
  pub before : List Row
  pub row : Row
  pub after : List Row
  pub parts : rs ≡ before ++ row ∷ after
  pub place : length before ≡ r

blank : Row
blank = record { what = record { thread = 0; wanted = 0; held = [] }; first = 0; times = 0 }

pub split : (rs : List Row) (r : ℕ) → r < length rs → Split rs r
split rs r h =
    record {
      before = take r rs;
      row = get_or rs r blank;
      after = drop (suc r) rs;
      parts = split_at rs r blank h;
      place = length-take-le r rs (omega arith);
    }

pub split_in : (rs : List Row) (r : ℕ) (w : Split rs r) → In w.row rs
split_in rs r w = subst (λ (l : List Row). In w.row l) (sym w.parts) (in_right w.row w.before (w.row ∷ w.after) (inl refl))

module _ (rs : List Row) (s : Short rs) (t : List ℕ) (r : ℕ) (w : Split rs r) where
  front : List ℕ
  front = table_words w.before

  back : List ℕ
  back = table_words w.after ++ drop (length (table_words rs)) t

  short_before : Short w.before
  short_before q i = s q (subst (λ (l : List Row). In q l) (sym w.parts) (in_left q w.before (w.row ∷ w.after) i))

  short_row : length w.row.what.held ≤ 7
  short_row = s w.row (split_in rs r w)

  front_length : length front ≡ r * row_size
  unfolding front
  front_length = table_length w.before short_before ∙ ap (λ (n : ℕ). n * row_size) w.place

  -- the whole table: what is in front of the row's key, the key, position, occurrences, and what is behind
  laid_out : over (table_words rs) t ≡ front ++ (key_words w.row.what ++ (w.row.first ∷ w.row.times ∷ back))
  unfolding front back
  laid_out =
      ap (λ (l : List Row). table_words l ++ drop (length (table_words rs)) t) w.parts
      ∙ ap (λ (l : List ℕ). l ++ drop (length (table_words rs)) t) (flat_append row_words w.before (w.row ∷ w.after))
      ∙ simp append_assoc

  pub key_there : key_at (over (table_words rs) t) r ≡ key_words w.row.what
  key_there =
      ap (part (r * row_size) key_size) laid_out
      ∙ part_after front (key_words w.row.what ++ (w.row.first ∷ w.row.times ∷ back)) (r * row_size) key_size front_length
      ∙ take_at (key_words w.row.what) (w.row.first ∷ w.row.times ∷ back) key_size (key_length w.row.what short_row)

  -- in front of the occurrences
  upto : List ℕ
  upto = (front ++ key_words w.row.what) ++ (w.row.first ∷ [])

  upto_length : length upto ≡ r * row_size + 11
  unfolding upto
  upto_length =
      length-append (front ++ key_words w.row.what) (w.row.first ∷ [])
      ∙ omega (arith, length-append front (key_words w.row.what), front_length, key_length w.row.what short_row)

  counted_out : over (table_words rs) t ≡ upto ++ (w.row.times ∷ back)
  unfolding upto
  counted_out = laid_out ∙ simp append_assoc

  pub times_there : get_or (over (table_words rs) t) (r * row_size + 11) 0 ≡ w.row.times
  times_there = ap (λ (l : List ℕ). get_or l (r * row_size + 11) 0) counted_out ∙ get_or_at upto w.row.times back 0 (r * row_size + 11) upto_length

  module _ (d : Dependency) (e : w.row.what ≡ d) (a : Pairwise (λ x y. x ≡ y → ⊥) (deps rs)) where
    other : (In d (deps w.before) → ⊥) × (In d (deps w.after) → ⊥)
    other =
        let q = append_pairwise (λ x y. x ≡ y → ⊥) (deps w.before) (w.row.what ∷ deps w.after)
        (subst (Pairwise (λ x y. x ≡ y → ⊥)) (ap deps w.parts ∙ map_append (λ (x : Row). x.what) w.before (w.row ∷ w.after)) a) in
        (λ i. q.2 d w.row.what i (inl refl) (sym e), λ i. q.1.0 d i e)

    -- one row is d's, and it alone is counted
    once : map (counted d) rs ≡ w.before ++ again w.row ∷ w.after
    once =
        ap (map (counted d)) w.parts
        ∙ map_append (counted d) w.before (w.row ∷ w.after)
        ∙ ap₂ ◌++◌ (counted_none d w.before other.0) (ap₂ (λ x xs. x ∷ xs) (rw ((tells_same_dep d w.row.what).1 (sym e))) (counted_none d w.after other.1))

    as_long : length (table_words (map (counted d) rs)) ≡ length (table_words rs)
    as_long = table_length (map (counted d) rs) short ∙ rw (length-map rs (counted d)) (sym (table_length rs s))
      where
        short : Short (map (counted d) rs)
        short q i = let v = map_in (counted d) q rs i in rw (v.2, what_counted d v.0) (s v.0 v.1)

    counted_words : over (table_words (map (counted d) rs)) t ≡ upto ++ ((w.row.times + 1) ∷ back)
    unfolding upto front back
    counted_words =
        ap (λ (n : ℕ). table_words (map (counted d) rs) ++ drop n t) as_long
        ∙ ap (λ (l : List Row). table_words l ++ drop (length (table_words rs)) t) once
        ∙ ap (λ (l : List ℕ). l ++ drop (length (table_words rs)) t) (flat_append row_words w.before (again w.row ∷ w.after))
        ∙ simp append_assoc

    pub tabled_counted : set (over (table_words rs) t) (r * row_size + 11) (get_or (over (table_words rs) t) (r * row_size + 11) 0 + 1) ≡ over (table_words (map (counted d) rs)) t
    tabled_counted =
        ap (λ (n : ℕ). set (over (table_words rs) t) (r * row_size + 11) (n + 1)) times_there
        ∙ ap (λ (l : List ℕ). set l (r * row_size + 11) (w.row.times + 1)) counted_out
        ∙ set_at upto w.row.times back (w.row.times + 1) (r * row_size + 11) upto_length
        ∙ sym counted_words

-- ---- a new row

module _ (rs : List Row) (s : Short rs) (t : List ℕ) (d : Dependency) (p : ℕ) (h : length d.held ≤ 7) (room : length rs * row_size + row_size ≤ length t) where
  pub tabled_new : sets (over (table_words rs) t) (length rs * row_size) (key_words d ++ p ∷ 1 ∷ []) ≡ over (table_words (rs ++ (new_row d p ∷ []))) t
  tabled_new =
      let n = table_length rs s in
      let l : length (table_words rs) + length (row_words (new_row d p)) ≤ length t = omega (arith, row_length (new_row d p) h) in
      rw (← n, flat_append row_words rs (new_row d p ∷ []), append-nil (row_words (new_row d p))) (over_more (table_words rs) (row_words (new_row d p)) t l)

-- ---- keys that stay

-- as a row is counted
pub key_counted : (ws : List ℕ) (r v q : ℕ) → key_at (set ws (r * row_size + 11) v) q ≡ key_at ws q
key_counted ws r v q = go (dec_le (q * row_size) (r * row_size + 11))
  where
    go : Dec (q * row_size ≤ r * row_size + 11) → key_at (set ws (r * row_size + 11) v) q ≡ key_at ws q
    go (yes l) =
        let k : r * row_size + 11 ≡ q * row_size + (r * row_size + 11 - q * row_size) = omega arith in
        let m : 10 ≤ r * row_size + 11 - q * row_size = omega arith in
        ap (λ (n : ℕ). part (q * row_size) key_size (set ws n v)) k
        ∙ ap (take key_size) (drop-set-add (q * row_size) ws (r * row_size + 11 - q * row_size) v)
        ∙ take-set-le key_size (drop (q * row_size) ws) (r * row_size + 11 - q * row_size) v m
    go (no l) = ap (take key_size) (drop-set-lt (q * row_size) ws (r * row_size + 11) v (omega arith))

-- as a row is put: its key is copied, then the two words behind it are set
pub put_words : (t key : List ℕ) (at p k : ℕ) (copied : List ℕ) → copied ≡ key → k ≡ key_size → length key ≡ key_size → at + row_size ≤ length t
    → set (set (put_mid at k t copied) (at + 10) p) (at + 11) 1 ≡ sets t at (key ++ p ∷ 1 ∷ [])
put_words t key at p k copied e f l room =
    let a = get_or t (at + 10) 0 in
    let b = get_or t (at + 11) 0 in
    let front = take at t ++ key in
    let back = drop (at + 12) t in
    let i : at + 10 + 1 ≡ at + 11 = omega arith in
    let j : at + 11 + 1 ≡ at + 12 = omega arith in
    let long : length front ≡ at + 10 = length-append (take at t) key ∙ omega (arith, length-take-le at t (omega arith)) in
    let rest : drop k (drop at t) ≡ a ∷ b ∷ back =
    ap (λ (n : ℕ). drop n (drop at t)) f ∙ drop-drop 10 at t ∙ uncons 0 t (at + 10) (omega arith)
    ∙ ap (λ (v : List ℕ). a ∷ v) (ap (λ (n : ℕ). drop n t) i ∙ uncons 0 t (at + 11) (omega arith) ∙ ap (λ (n : ℕ). b ∷ drop n t) j) in
    let whole : length (key ++ p ∷ 1 ∷ []) ≡ 12 = length-append key (p ∷ 1 ∷ []) ∙ omega arith in
    let start : put_mid at k t copied ≡ front ++ (a ∷ b ∷ back) = rw (e, rest) (sym (append_assoc (take at t) key (a ∷ b ∷ back))) in
    let end : sets t at (key ++ p ∷ 1 ∷ []) ≡ front ++ (p ∷ 1 ∷ back) =
    sets-eq (key ++ p ∷ 1 ∷ []) t at (omega (arith, whole)) ∙ ap (λ (n : ℕ). take at t ++ (key ++ p ∷ 1 ∷ []) ++ drop (at + n) t) whole ∙ simp append_assoc in
    ap (λ (v : List ℕ). set (set v (at + 10) p) (at + 11) 1) start
    ∙ ap (λ (v : List ℕ). set v (at + 11) 1) (set_at front a (b ∷ back) p (at + 10) long ∙ sym (append_assoc front (p ∷ []) (b ∷ back)))
    ∙ set_at (front ++ p ∷ []) b back 1 (at + 11) (length-append front (p ∷ []) ∙ omega (arith, long))
    ∙ append_assoc front (p ∷ []) (1 ∷ back)
    ∙ sym end

-- as a row is put behind n others
module _ (ws key : List ℕ) (n p : ℕ) (k : length key ≡ key_size) (room : n * row_size + row_size ≤ length ws) where
  vs_length : length (key ++ p ∷ 1 ∷ []) ≡ row_size
  vs_length = length-append key (p ∷ 1 ∷ []) ∙ omega arith

  there : sets ws (n * row_size) (key ++ p ∷ 1 ∷ []) ≡ take (n * row_size) ws ++ (key ++ (p ∷ 1 ∷ drop (n * row_size + length (key ++ p ∷ 1 ∷ [])) ws))
  there = sets-eq (key ++ p ∷ 1 ∷ []) ws (n * row_size) (omega (arith, vs_length)) ∙ simp append_assoc

  front_put : length (take (n * row_size) ws) ≡ n * row_size
  front_put = length-take-le (n * row_size) ws (omega arith)

  pub key_put : key_at (sets ws (n * row_size) (key ++ p ∷ 1 ∷ [])) n ≡ key
  key_put =
      ap (part (n * row_size) key_size) there
      ∙ part_after (take (n * row_size) ws) (key ++ (p ∷ 1 ∷ drop (n * row_size + length (key ++ p ∷ 1 ∷ [])) ws)) (n * row_size) key_size front_put
      ∙ take_at key (p ∷ 1 ∷ drop (n * row_size + length (key ++ p ∷ 1 ∷ [])) ws) key_size k

  pub key_others : (q : ℕ) → q < n → key_at (sets ws (n * row_size) (key ++ p ∷ 1 ∷ [])) q ≡ key_at ws q
  key_others q l =
      let m : q * row_size + key_size ≤ length (take (n * row_size) ws) = omega (arith, front_put) in
      ap (part (q * row_size) key_size) there
      ∙ part_first (take (n * row_size) ws) (key ++ (p ∷ 1 ∷ drop (n * row_size + length (key ++ p ∷ 1 ∷ [])) ws)) (q * row_size) key_size m
      ∙ sym (part_first (take (n * row_size) ws) (drop (n * row_size) ws) (q * row_size) key_size m)
      ∙ ap (part (q * row_size) key_size) (take-append-drop (n * row_size) ws)

-- ---- whether a dependency has a row

module _ (rs : List Row) (s : Short rs) (t : List ℕ) (d : Dependency) where
  -- by its key it has
  pub known_there : (r : ℕ) (w : Split rs r) → key_at (over (table_words rs) t) r ≡ key_words d → w.row.what ≡ d
  known_there r w e = key_once w.row.what d (sym (key_there rs s t r w) ∙ e)

  place_of : (qs : List Row) → In d (deps qs) → (r : ℕ) × (r < length qs) × ((get_or qs r blank).what ≡ d)
  place_of [] i = absurd i
  place_of (x ∷ qs) (inl e) = (0, omega arith, sym e)
  place_of (x ∷ qs) (inr i) = let w = place_of qs i in (suc w.0, omega (arith, w.1), w.2)

  pub known_nowhere : ((r : ℕ) → r < length rs → key_at (over (table_words rs) t) r ≡ key_words d → ⊥) → known d rs ≡ false
  unfolding split
  known_nowhere h =
      fails (tells_known d rs)
      (λ i.
      let w = place_of rs i in
      h w.0 w.1 (key_there rs s t w.0 (split rs w.0 w.1) ∙ ap key_words w.2))
