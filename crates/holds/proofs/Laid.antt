-- What the methods make of what is laid in the places is what the meaning of a trace says.
use Rattle.std.proofs.Common.{ℕ, suc, ◌+◌, ◌-◌, ◌≤◌, ◌<◌, min, arith, ◌≡◌, sym, ap, ◌∙◌, List, false, lt-ltb, length, drop, replicate}
use Rattle.std.proofs.Math.Seq.{take-append_seam, drop-append-add}
use Rattle.laws.specs.Sets.{insert}
use Rattle.laws.proofs.Sets.{length_insert}
use Rattle.model.specs.Holds.{most_held, Holding, locks, holds, taken, released}
use Rattle.model.specs.Table.{unused, padded}
use Rattle.model.proofs.Holds.{locks_taken_new, locks_released}
use Rattle.holds.specs.Hold.{in_places, laid, in_use, asked_of, taken_of, released_of}

in_use_places : (xs : List ℕ) → length xs ≤ most_held → in_use (in_places xs) ≡ xs
in_use_places xs h =
    let e : min (length xs) 8 ≡ length xs = omega arith in
    rw e (take-append_seam xs (replicate (8 - length xs) unused))

put_in : (m : ℕ) (xs : List ℕ) → length xs < most_held → taken_of (in_places xs) m ≡ in_places (insert m xs)
put_in m xs h =
    let n : 8 - length xs ≡ suc (8 - suc (length xs)) = omega arith in
    let l : length xs + 1 ≡ suc (length xs) = omega arith in
    let d : drop (length xs + 1) (padded 8 xs) ≡ replicate (8 - suc (length xs)) unused = drop-append-add xs (replicate (8 - length xs) unused) 1 ∙ ap (λ (q : ℕ). drop 1 (replicate q unused)) n in
    rw (lt-ltb (length xs) 8 h, take-append_seam xs (replicate (8 - length xs) unused), d, length_insert m xs, l)

module _ (h : Holding) (m : ℕ) where
  pub ask_laid : length (locks h) ≤ most_held → asked_of (laid h) m ≡ record { hold = laid h; yes = holds m h }
  ask_laid l = rw (in_use_places (locks h) l)

  pub take_laid : length (locks h) < most_held → holds m h ≡ false → taken_of (laid h) m ≡ laid (taken m h)
  take_laid l e = put_in m (locks h) l ∙ ap in_places (sym (locks_taken_new m h e))

  pub release_laid : length (locks h) ≤ most_held → released_of (laid h) m ≡ laid (released m h)
  release_laid l = rw (in_use_places (locks h) l) (ap in_places (sym (locks_released m h)))
