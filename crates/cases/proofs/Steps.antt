-- One step of a loop.
--     mixed_more     one more value goes into a checksum
use Rattle.std.proofs.Common.{◌≡◌, ℕ, add-one, ◌+◌, ◌*◌, ◌%◌, ◌<◌, List, ◌∷◌, ◌++◌, [], length, get_or, take, refl}
use Rattle.std.proofs.Math.Seq.{take-suc}
use Rattle.std.proofs.lemmas.Fn.{FoldsTo-push}
use Rattle.std.specs.List.{FoldsTo}
use Rattle.cases.specs.Cases.{modulus, Mixes}

pub mixed_more : {A : Type 0} (R : A → ℕ → Type 0) (xs : List A) (i s n : ℕ) (x : A) → i < length xs → x ≡ get_or xs i x → FoldsTo (Mixes R) 7 (take i xs) s → R x n → FoldsTo (Mixes R) 7 (take (i + 1) xs) ((s * 31 + n) % modulus)
mixed_more {A} R xs i s n x l e F r =
    let z : take (i + 1) xs ≡ take i xs ++ (x ∷ []) = rw (add-one, take-suc xs i x l, ← e) refl in
    rw z (FoldsTo-push (Mixes R) 7 (take i xs) s x _ F (n, r, refl))
