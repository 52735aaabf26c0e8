-- The mark page, part by part.
--     keeps_kept               what the marks of K say of a row is whether it is kept
--     bool_mark                a test as a byte
--     row_marked               one more row has its mark
--     rows_marked              the marks of the rows and the zeros make the second part of the page; both_parts: the two parts make the page
use Rattle.std.proofs.Common.{ℕ, ◌+◌, ◌-◌, ◌≤◌, ◌<◌, arith, ◌≡◌, refl, sym, ap, ap₂, ◌∙◌, Bool, true, false, ◌⊎◌, inl, inr, ◌↔◌, List, ◌++◌, append_assoc, map, length, get_or, drop, set, replicate, length-append, ext_get_or, get_or-set_same, get_or-set_other, drop-drop, IsTrue}
use Rattle.std.proofs.lemmas.List.{length-map}
use Rattle.std.proofs.Math.Decide.{ℕ_discrete}
use mir.Val.{bool_byte}
use Rattle.laws.specs.Lists.{In}
use Rattle.laws.specs.Memory.{over}
use Rattle.laws.specs.Sets.{has}
use Rattle.laws.proofs.Tests.{either, tells_equal, tells_itself, tells_as}
use Rattle.laws.proofs.Lists.{tells_in}
use Rattle.laws.proofs.Places.{get_or_map}
use Rattle.model.specs.Rows.{widest, Dependency, blank, Fair}
use Rattle.model.specs.Given.{deps_of}
use Rattle.model.specs.Kept.{K, kept}
use Rattle.model.specs.Marking.{mark, lock_marks, row_marks, page_of}
use Rattle.model.proofs.Given.{dep_at, deps_at, length_deps}
use Rattle.model.proofs.Kept.{tells_kept}
use Rattle.model.proofs.Marks.{locks_length, lock_mark, page_length}
use Rattle.marks.specs.Working.{On, Meets}
use Rattle.marks.proofs.Search.{meets_in, in_meets}

module _ (ds : List Dependency) where
  on_in : (m : ℕ) → m < 256 → On (lock_marks ds) m → In m (K ds)
  on_in m h o = go (either (has m (K ds)))
    where
      go : (has m (K ds) ≡ true) ⊎ (has m (K ds) ≡ false) → In m (K ds)
      go (inl e) = (tells_in m (K ds)).0 e
      go (inr e) = absurd (let z : ⊥ = omega (arith, sym o ∙ lock_mark ds m h ∙ ap mark e) in z)

  in_on : (m : ℕ) → m < 256 → In m (K ds) → On (lock_marks ds) m
  in_on m h i = lock_mark ds m h ∙ ap mark ((tells_in m (K ds)).1 i)

  pub keeps_kept : (b : Bool) (d : Dependency) → Fair widest d → IsTrue b ↔ (On (lock_marks ds) d.wanted × Meets (lock_marks ds) d) → b ≡ kept ds d
  keeps_kept b d f s =
      tells_equal
      (tells_as (tells_itself b)
      (λ e. let w = s.0 e in
      let v = meets_in (lock_marks ds) d w.1 in
      record { wanted = on_in d.wanted f.wanted w.0; lock = v.0; locked = v.1; within = on_in v.0 (f.locks v.0 v.1) v.2 })
      (λ w. s.1 (in_on d.wanted f.wanted w.wanted, in_meets (lock_marks ds) d w.lock w.locked (in_on w.lock (f.locks w.lock w.locked) w.within))))
      (tells_kept ds d)

rows_length : (ds : List Dependency) → length ds ≤ 1024 → length (row_marks ds) ≡ 1024
rows_length ds few = omega (arith, page_length ds few, length-append (lock_marks ds) (row_marks ds), locks_length ds)

-- the two parts of a page
pub both_parts : (ds : List Dependency) (L M p : List ℕ) → L ≡ lock_marks ds → M ≡ over (row_marks ds) (drop 256 p) → L ++ M ≡ over (page_of ds) p
both_parts ds L M p e f =
    let k : 256 + length (row_marks ds) ≡ length (page_of ds) = omega (arith, length-append (lock_marks ds) (row_marks ds), locks_length ds) in
    ap₂ (λ a b. a ++ b) e f ∙ sym (append_assoc (lock_marks ds) (row_marks ds) (drop (length (row_marks ds)) (drop 256 p)))
    ∙ ap (λ q. page_of ds ++ q) (drop-drop (length (row_marks ds)) 256 p ∙ ap (λ j. drop j p) k)

pub bool_mark : (b : Bool) → bool_byte b ≡ mark b
bool_mark true = refl
bool_mark false = refl

module _ (n : ℕ) (t : List ℕ) where
  -- the marks of the first i rows
  abbrev pub RowMarks : List ℕ → ℕ → Type 0
  RowMarks xs i = (j : ℕ) → j < i → get_or xs j 0 ≡ mark (kept (deps_of n t) (dep_at t j))

  pub row_marked : (xs : List ℕ) (i x : ℕ) → i < length xs → RowMarks xs i → x ≡ mark (kept (deps_of n t) (dep_at t i)) → RowMarks (set xs i x) (i + 1)
  row_marked xs i x l h e j k = go (ℕ_discrete j i)
    where
      go : Dec (j ≡ i) → get_or (set xs i x) j 0 ≡ mark (kept (deps_of n t) (dep_at t j))
      go (yes q) = rw (q, get_or-set_same xs i x 0 l) e
      go (no q) = get_or-set_other xs i j x 0 q ∙ h j (omega arith)

  pub rows_marked : (xs zs p : List ℕ) → n ≤ 1024 → length xs ≡ n → RowMarks xs n → zs ≡ replicate (1024 - n) 0 → xs ++ (zs ++ drop 1024 p) ≡ over (row_marks (deps_of n t)) p
  unfolding row_marks
  rows_marked xs zs p few l h z =
      let M = map (λ d. mark (kept (deps_of n t) d)) (deps_of n t) in
      let r : xs ≡ M = ext_get_or 0 xs M (l ∙ sym marks_length) (λ j k. let q : j < n = omega (arith, k, l) in h j q ∙ sym (mark_at j q)) in
      let y : zs ≡ replicate (1024 - length (deps_of n t)) 0 = z ∙ ap (λ k. replicate (1024 - k) 0) (sym (length_deps n t)) in
      ap₂ (λ a b. a ++ (b ++ drop 1024 p)) r y ∙ sym (append_assoc M (replicate (1024 - length (deps_of n t)) 0) (drop 1024 p))
      ∙ ap (λ k. row_marks (deps_of n t) ++ drop k p) (sym (rows_length (deps_of n t) (omega (arith, length_deps n t))))
    where
      marks_length : length (map (λ d. mark (kept (deps_of n t) d)) (deps_of n t)) ≡ n
      marks_length = length-map (deps_of n t) (λ d. mark (kept (deps_of n t) d)) ∙ length_deps n t

      mark_at : (j : ℕ) → j < n → get_or (map (λ d. mark (kept (deps_of n t) d)) (deps_of n t)) j 0 ≡ mark (kept (deps_of n t) (dep_at t j))
      mark_at j q = get_or_map (λ d. mark (kept (deps_of n t) d)) blank 0 (deps_of n t) j (omega (arith, length_deps n t)) ∙ ap (λ d. mark (kept (deps_of n t) d)) (deps_at n t j q)
