-- A table that is given to a call: what the test of it tells, and what it says of each row's words.
--     tells_fair, tells_well_formed     the tests of rows
--     tells_given          the test of the words: they are those of the rows that they are read as
--     given_rows           and of no others
--     length_rows, deps_at      how many rows are read, and each of them
--     RowWell t i          the words in place i are a fair row's
--     given_few, _room, _row, _apart    what a given table has
--     given_of             and a table that has it is given
--     Lies t i d           where each part of the row d lies; well_lies, given_lies: so it is with a fair row, and each row of a given table
use Rattle.std.proofs.Common.{ℕ, zero, suc, ◌+◌, ◌*◌, ◌-◌, ◌≤◌, ◌<◌, le_of_suc-le-suc, arith, ◌≡◌, refl, sym, ap, ap₂, subst, ◌∙◌, true, inl, inr, List, [], ◌∷◌, ◌++◌, append_assoc, ltb, length, get_or, take, drop, replicate, length-append, length-take, length-drop, take-append-drop, drop_of_length-le, drop-cons, take-take, take_at, drop_at, take-add, drop-drop, get_or-take, not}
use Rattle.std.proofs.lemmas.List.{length-map, get_or_at}
use Rattle.std.proofs.Math.Seq.{take-append_seam}
use Rattle.laws.specs.Tests.{Tells}
use Rattle.laws.specs.Lists.{In}
use Rattle.laws.specs.Memory.{part}
use Rattle.laws.proofs.Tests.{tells_less, tells_most, tells_not, tells_and, tells_as}
use Rattle.laws.proofs.Lists.{in_map, tells_all, tells_pairs, tells_in, tells_same_list}
use Rattle.laws.proofs.Memory.{part_length, part_at}
use Rattle.laws.proofs.Places.{place_in, in_place, pairwise_place, place_pairwise}
use Rattle.model.specs.declared.Limits.{Limits}
use Rattle.model.specs.Rows.{most_rows, widest, Dependency, blank, row, Row, same_dep, Fair, WellFormed}
use Rattle.model.specs.Table.{key_at, unused, padded, row_size, key_words, row_words, table_words}
use Rattle.model.specs.Given.{row_of, rows_of, deps_of, Given, fair, well_formed, given}
use Rattle.model.proofs.Rows.{tells_same_dep}
use Rattle.model.proofs.Table.{key_length, row_length, table_length, key_once}

pub tells_fair : (l : Limits) (d : Dependency) → Tells (fair l d) (Fair l d)
tells_fair l d =
    tells_as
    (tells_and (tells_less d.thread l.threads)
    (tells_and (tells_less d.wanted l.locks)
    (tells_and (tells_all (λ m. ltb m l.locks) (λ m. tells_less m l.locks) d.held)
    (tells_and (tells_most 1 (length d.held))
    (tells_and (tells_most (length d.held) 7)
    (tells_and (tells_pairs ltb tells_less d.held)
    (tells_not (tells_in d.wanted d.held))))))))
    (λ w.
    record {
      thread = w.0;
      wanted = w.1.0;
      locks = w.1.1.0;
      some = w.1.1.1.0;
      few = w.1.1.1.1.0;
      rising = w.1.1.1.1.1.0;
      other = w.1.1.1.1.1.1;
    })
    (λ w. (w.thread, (w.wanted, (w.locks, (w.some, (w.few, (w.rising, w.other)))))))

pub tells_well_formed : (ds : List Dependency) → Tells (well_formed ds) (WellFormed ds)
tells_well_formed ds =
    tells_as
    (tells_and (tells_most (length ds) most_rows)
    (tells_and (tells_all (fair widest) (tells_fair widest) ds) (tells_pairs (λ d e. not (same_dep d e)) (λ d e. tells_not (tells_same_dep d e)) ds)))
    (λ w. record { few = w.0; fair = w.1.0; apart = w.1.1 })
    (λ w. (w.few, (w.fair, w.apart)))

-- ---- a row's words

held_short : (ws : List ℕ) → length (row_of ws).what.held ≤ 7
held_short ws = simp (length-take, length-drop) (omega arith)

-- a row's words are read as that row
row_back : (r : Row) → length r.what.held ≤ 7 → row_of (row_words r) ≡ r
row_back r h =
    let k : length (key_words r.what) ≡ 10 = key_length r.what h in
    let p : length (padded 7 r.what.held) ≡ 7 = omega arith in
    let q : take 7 (padded 7 r.what.held ++ (r.first ∷ r.times ∷ [])) ≡ padded 7 r.what.held = take_at (padded 7 r.what.held) (r.first ∷ r.times ∷ []) 7 p in
    let e : take (length r.what.held) (part 3 7 (row_words r)) ≡ r.what.held = ap (take (length r.what.held)) q ∙ take-append_seam r.what.held (replicate (7 - length r.what.held) unused) in
    let f : get_or (row_words r) 10 0 ≡ r.first = get_or_at (key_words r.what) r.first (r.times ∷ []) 0 10 k in
    let g : get_or (row_words r) 11 0 ≡ r.times =
    ap (λ (l : List ℕ). get_or l 11 0) (sym (append_assoc (key_words r.what) (r.first ∷ []) (r.times ∷ [])))
    ∙ get_or_at (key_words r.what ++ (r.first ∷ [])) r.times [] 0 11 (length-append (key_words r.what) (r.first ∷ []) ∙ omega arith) in
    λ i. record { what = record { thread = r.what.thread; wanted = r.what.wanted; held = e i }; first = f i; times = g i }

-- ---- the rows that words are read as

pub length_rows : (n : ℕ) (t : List ℕ) → length (rows_of n t) ≡ n
unfolding rows_of
length_rows zero t = refl
length_rows (suc n) t = ap suc (length_rows n (drop row_size t))

pub length_deps : (n : ℕ) (t : List ℕ) → length (deps_of n t) ≡ n
length_deps n t = length-map (rows_of n t) (λ r. r.what) ∙ length_rows n t

-- the dependency of the row in place i
unfoldable pub dep_at : List ℕ → ℕ → Dependency
dep_at t i = (row_of (part (i * row_size) row_size t)).what

pub deps_at : (n : ℕ) (t : List ℕ) (i : ℕ) → i < n → row (deps_of n t) i ≡ dep_at t i
unfolding rows_of dep_at
deps_at zero t i h = absurd (let z : ⊥ = omega arith in z)
deps_at (suc n) t zero h = refl
deps_at (suc n) t (suc i) h =
    let e : suc i * row_size ≡ row_size + i * row_size = omega arith in
    deps_at n (drop row_size t) i (le_of_suc-le-suc h) ∙ ap (λ (l : List ℕ). (row_of (take row_size l)).what) (drop-drop (i * row_size) row_size t ∙ ap (λ (k : ℕ). drop k t) (sym e))

rows_short : (n : ℕ) (t : List ℕ) (r : Row) → In r (rows_of n t) → length r.what.held ≤ 7
unfolding rows_of
rows_short zero t r i = absurd i
rows_short (suc n) t r (inl e) = rw e (held_short (take row_size t))
rows_short (suc n) t r (inr i) = rows_short n (drop row_size t) r i

read_length : (n : ℕ) (t : List ℕ) → length (table_words (rows_of n t)) ≡ n * row_size
read_length n t = table_length (rows_of n t) (rows_short n t) ∙ ap (λ (k : ℕ). k * row_size) (length_rows n t)

-- words that are those of the rows they are read as
abbrev Whole : ℕ → List ℕ → Type 0
Whole n t = table_words (rows_of n t) ≡ take (n * row_size) t

whole_room : (n : ℕ) (t : List ℕ) → Whole n t → n * row_size ≤ length t
whole_room n t e = omega (arith, sym (read_length n t) ∙ ap length e ∙ length-take (n * row_size) t)

module _ (n : ℕ) (t : List ℕ) where
  more : take (suc n * row_size) t ≡ take row_size t ++ take (n * row_size) (drop row_size t)
  more = let e : suc n * row_size ≡ row_size + n * row_size = omega arith in ap (λ (k : ℕ). take k t) e ∙ take-add row_size (n * row_size) t

  whole_parts : Whole (suc n) t → (row_words (row_of (take row_size t)) ≡ take row_size t) × Whole n (drop row_size t)
  unfolding rows_of
  whole_parts e =
      let r = row_of (take row_size t) in
      let a : length (row_words r) ≡ row_size = row_length r (held_short (take row_size t)) in
      let b : length (take row_size t) ≡ row_size = length-take row_size t ∙ omega (arith, whole_room (suc n) t e) in
      let q = e ∙ more in (
        sym (take_at (row_words r) (table_words (rows_of n (drop row_size t))) row_size a) ∙ ap (take row_size) q ∙ take_at (take row_size t) (take (n * row_size) (drop row_size t)) row_size b,
        sym (drop_at (row_words r) (table_words (rows_of n (drop row_size t))) row_size a) ∙ ap (drop row_size) q ∙ drop_at (take row_size t) (take (n * row_size) (drop row_size t)) row_size b,
      )

  parts_whole : row_words (row_of (take row_size t)) ≡ take row_size t → Whole n (drop row_size t) → Whole (suc n) t
  unfolding rows_of
  parts_whole a b = ap₂ ◌++◌ a b ∙ sym more

-- ---- the test of the words

pub tells_given : (n : ℕ) (t : List ℕ) → Tells (given n t) (Given n t (rows_of n t))
unfolding given
tells_given n t =
    tells_as (tells_and (tells_well_formed (deps_of n t)) (tells_same_list (table_words (rows_of n t)) (take (n * row_size) t)))
    (λ w.
    record {
      count = length_rows n t;
      words = (drop (n * row_size) t, sym (take-append-drop (n * row_size) t) ∙ ap (λ (l : List ℕ). l ++ drop (n * row_size) t) (sym w.1));
      well = w.0;
    })
    (λ g. (g.well, sym (take_at (table_words (rows_of n t)) g.words.0 (n * row_size) (read_length n t)) ∙ ap (take (n * row_size)) (sym g.words.1)))

-- rows are told from their words
rows_back : (rs : List Row) (zs : List ℕ) → ((r : Row) → In r rs → length r.what.held ≤ 7) → rows_of (length rs) (table_words rs ++ zs) ≡ rs
unfolding rows_of
rows_back [] zs s = refl
rows_back (r ∷ rs) zs s =
    let l = row_length r (s r (inl refl)) in
    let e = append_assoc (row_words r) (table_words rs) zs in
    let a : take row_size ((row_words r ++ table_words rs) ++ zs) ≡ row_words r = ap (take row_size) e ∙ take_at (row_words r) (table_words rs ++ zs) row_size l in
    let b : drop row_size ((row_words r ++ table_words rs) ++ zs) ≡ table_words rs ++ zs = ap (drop row_size) e ∙ drop_at (row_words r) (table_words rs ++ zs) row_size l in
    ap₂ (λ x xs. x ∷ xs) (ap row_of a ∙ row_back r (s r (inl refl))) (ap (rows_of (length rs)) b ∙ rows_back rs zs (λ q i. s q (inr i)))

pub given_rows : (n : ℕ) (t : List ℕ) (rs : List Row) → Given n t rs → rows_of n t ≡ rs
given_rows n t rs g =
    ap₂ rows_of (sym g.count) g.words.1 ∙ rows_back rs g.words.0 (λ r i. (g.well.fair r.what (in_map (λ (q : Row). q.what) r rs i)).few)

-- so words that are given as some rows pass the test
pub given_passes : (n : ℕ) (t : List ℕ) (rs : List Row) → Given n t rs → given n t ≡ true
given_passes n t rs g = (tells_given n t).1 (subst (Given n t) (sym (given_rows n t rs g)) g)

-- ---- row by row

pub record RowWell (t : List ℕ) (i : ℕ) : Type 0 where
  pub fair : Fair widest (dep_at t i)
  pub key : key_words (dep_at t i) ≡ key_at t i

module _ (ws : List ℕ) (l : length ws ≡ row_size) where
  whole_row : key_words (row_of ws).what ≡ take 10 ws → row_words (row_of ws) ≡ ws
  whole_row e =
      let h : length ws ≤ 12 = omega arith in
      let f : drop 12 ws ≡ [] = drop_of_length-le ws h in
      let g : drop 10 ws ≡ get_or ws 10 0 ∷ get_or ws 11 0 ∷ [] = drop-cons ws 10 0 (omega arith) ∙ ap (λ (q : List ℕ). get_or ws 10 0 ∷ q) (drop-cons ws 11 0 (omega arith) ∙ ap (λ (q : List ℕ). get_or ws 11 0 ∷ q) f) in
      ap₂ ◌++◌ e (sym g) ∙ take-append-drop 10 ws

  whole_key : row_words (row_of ws) ≡ ws → key_words (row_of ws).what ≡ take 10 ws
  whole_key e = sym (take_at (key_words (row_of ws).what) ((row_of ws).first ∷ (row_of ws).times ∷ []) 10 (key_length (row_of ws).what (held_short ws))) ∙ ap (take 10) e

key_part : (t : List ℕ) (i : ℕ) → take 10 (part (i * row_size) row_size t) ≡ key_at t i
key_part t i = take-take 10 row_size (drop (i * row_size) t) (omega arith)

later : (t : List ℕ) (i : ℕ) → part (i * row_size) row_size (drop row_size t) ≡ part (suc i * row_size) row_size t
later t i = let e : row_size + i * row_size ≡ suc i * row_size = omega arith in ap (take row_size) (drop-drop (i * row_size) row_size t ∙ ap (λ (k : ℕ). drop k t) e)

abbrev WholeAt : List ℕ → ℕ → Type 0
WholeAt t i = row_words (row_of (part (i * row_size) row_size t)) ≡ part (i * row_size) row_size t

whole_at : (n : ℕ) (t : List ℕ) → Whole n t → (i : ℕ) → i < n → WholeAt t i
whole_at zero t w i h = absurd (let z : ⊥ = omega arith in z)
whole_at (suc n) t w zero h = (whole_parts n t w).0
whole_at (suc n) t w (suc i) h = subst (λ (q : List ℕ). row_words (row_of q) ≡ q) (later t i) (whole_at n (drop row_size t) (whole_parts n t w).1 i (le_of_suc-le-suc h))

whole_of : (n : ℕ) (t : List ℕ) → ((i : ℕ) → i < n → WholeAt t i) → Whole n t
unfolding rows_of
whole_of zero t h = refl
whole_of (suc n) t h = parts_whole n t (h 0 (omega arith)) (whole_of n (drop row_size t) (λ i l. subst (λ (q : List ℕ). row_words (row_of q) ≡ q) (sym (later t i)) (h (suc i) (omega arith))))

row_room : (n : ℕ) (t : List ℕ) (i : ℕ) → n * row_size ≤ length t → i < n → i * row_size + row_size ≤ length t
row_room n t i h l = omega arith

module _ (n : ℕ) (t : List ℕ) (g : given n t ≡ true) where
  well : WellFormed (deps_of n t)
  well = ((tells_given n t).0 g).well

  whole : Whole n t
  unfolding given
  whole = ((tells_and (tells_well_formed (deps_of n t)) (tells_same_list (table_words (rows_of n t)) (take (n * row_size) t))).0 g).1

  pub given_well : WellFormed (deps_of n t)
  given_well = well

  pub given_few : n ≤ most_rows
  given_few = omega (arith, well.few, length_deps n t)

  pub given_room : n * row_size ≤ length t
  given_room = whole_room n t whole

  pub given_row : (i : ℕ) → i < n → RowWell t i
  unfolding dep_at
  given_row i h =
      record {
        fair = subst (Fair widest) (deps_at n t i h) (well.fair (row (deps_of n t) i) (place_in blank (deps_of n t) i (omega (arith, length_deps n t))));
        key =
            whole_key (part (i * row_size) row_size t) (part_length t (i * row_size) row_size (row_room n t i given_room h)) (whole_at n t whole i h) ∙ key_part t i;
      }

  pub given_apart : (i j : ℕ) → i < j → j < n → key_at t i ≡ key_at t j → ⊥
  given_apart i j h l e =
      let p = (given_row i (omega arith)).key in
      let q = (given_row j l).key in
      pairwise_place blank (λ d e. d ≡ e → ⊥) (deps_of n t) well.apart i j h (omega (arith, length_deps n t))
      (deps_at n t i (omega arith) ∙ key_once (dep_at t i) (dep_at t j) (p ∙ e ∙ sym q) ∙ sym (deps_at n t j l))

pub given_of : (n : ℕ) (t : List ℕ) → n ≤ most_rows → n * row_size ≤ length t → ((i : ℕ) → i < n → RowWell t i) → ((i j : ℕ) → i < j → j < n → key_at t i ≡ key_at t j → ⊥) → given n t ≡ true
unfolding given dep_at
given_of n t few room rows apart =
    (tells_and (tells_well_formed (deps_of n t)) (tells_same_list (table_words (rows_of n t)) (take (n * row_size) t))).1 (
      record {
        few = omega (arith, length_deps n t);
        fair = λ d i. let w = in_place blank (deps_of n t) d i in
            let l : w.0 < n = omega (arith, w.1, length_deps n t) in
            subst (Fair widest) (sym (deps_at n t w.0 l) ∙ w.2) (rows w.0 l).fair;
        apart = place_pairwise blank (λ d e. d ≡ e → ⊥) (deps_of n t)
            (λ i j h l e.
            let m : j < n = omega (arith, l, length_deps n t) in
            let k : i < n = omega arith in
            apart i j h m (sym (rows i k).key ∙ ap key_words (sym (deps_at n t i k) ∙ e ∙ deps_at n t j m) ∙ (rows j m).key));
      },
      whole_of n t (λ i h. whole_row (part (i * row_size) row_size t) (part_length t (i * row_size) row_size (row_room n t i room h)) ((rows i h).key ∙ sym (key_part t i))),
    )

-- ---- where each part of a row lies

pub record Lies (t : List ℕ) (i : ℕ) (d : Dependency) : Type 0 where
  pub room : i * row_size + row_size ≤ length t
  pub thread : get_or t (i * row_size) 0 ≡ d.thread
  pub wanted : get_or t (i * row_size + 1) 0 ≡ d.wanted
  pub size : get_or t (i * row_size + 2) 0 ≡ length d.held
  pub held : (k : ℕ) → k < length d.held → get_or t (i * row_size + 3 + k) 0 ≡ get_or d.held k 0
  pub fair : Fair widest d

-- a fair row's words are where they should be
pub well_lies : (t : List ℕ) (i : ℕ) → i * row_size + row_size ≤ length t → RowWell t i → Lies t i (dep_at t i)
unfolding dep_at
well_lies t i room W =
    record {
      room = room;
      thread = let e : i * row_size + 0 ≡ i * row_size = omega arith in sym (at 0 (omega arith) ∙ ap (λ (q : ℕ). get_or t q 0) e);
      wanted = sym (at 1 (omega arith));
      size = size;
      held = held;
      fair = W.fair;
    }
  where
    -- the words of the row by those of the table
    at : (k : ℕ) → k < row_size → get_or (part (i * row_size) row_size t) k 0 ≡ get_or t (i * row_size + k) 0
    at k l = part_at t (i * row_size) row_size k l

    size : get_or t (i * row_size + 2) 0 ≡ length (dep_at t i).held
    size = sym (part_at t (i * row_size) 10 2 (omega arith)) ∙ ap (λ (l : List ℕ). get_or l 2 0) (sym W.key)

    held : (k : ℕ) → k < length (dep_at t i).held → get_or t (i * row_size + 3 + k) 0 ≡ get_or (dep_at t i).held k 0
    held k l =
        let ws = part (i * row_size) row_size t in
        let m : k < 7 = omega (arith, W.fair.few) in
        let s : k < get_or ws 2 0 = omega (arith, size, at 2 (omega arith)) in
        let e : i * row_size + 3 + k ≡ i * row_size + (3 + k) = omega arith in
        sym (get_or-take (get_or ws 2 0) (part 3 7 ws) k 0 s ∙ part_at ws 3 7 k m ∙ at (3 + k) (omega arith) ∙ ap (λ (q : ℕ). get_or t q 0) (sym e))

pub given_lies : (n : ℕ) (t : List ℕ) → given n t ≡ true → (i : ℕ) → i < n → Lies t i (dep_at t i)
given_lies n t g i h = well_lies t i (row_room n t i (given_room n t g) h) (given_row n t g i h)
