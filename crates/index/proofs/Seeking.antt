-- Searching the index for a key.
--     Seeking          no row from k on has the key, and row k - 1 is in its bucket
--     seek_start, seek_next     the first row of the bucket, and the next
--     found_some, found_none    what `is_some` says of an answer
--     found_once       two answers of a search are one
use Rattle.std.proofs.Common.{ℕ, suc, ◌≤◌, ◌<◌, arith, ◌≡◌, refl, ap, ◌∙◌, true, false, List, eqb-true, eq-eqb, get_or, Option, None, Some, is_some}
use Rattle.std.proofs.Math.Decide.{ℕ_discrete, dec_le}
use Rattle.laws.proofs.Tests.{never}
use Rattle.model.specs.Table.{key_at}
use Rattle.index.specs.Index.{bucket_of, in_bucket, last_below, Linked, Last, Found}
use Rattle.index.proofs.Linked.{bucket_below, last_most, last_passes, last_skips}

pub record Seeking (ws key : List ℕ) (rows k : ℕ) : Type 0 where
  pub within : k ≤ rows
  pub bucket : (r : ℕ) → k ≡ suc r → in_bucket ws (bucket_of key) r ≡ true
  pub unseen : (r : ℕ) → k ≤ r → r < rows → key_at ws r ≡ key → ⊥

module _ {ws key head next : List ℕ} {rows : ℕ} (L : Linked ws rows head next) where
  -- a row that is not in the key's bucket has not the key
  elsewhere : (r : ℕ) → in_bucket ws (bucket_of key) r ≡ false → key_at ws r ≡ key → ⊥
  elsewhere r f q = never (eq-eqb (bucket_of (key_at ws r)) (bucket_of key) (ap bucket_of q)) f

  pub seek_start : Seeking ws key rows (get_or head (bucket_of key) 0)
  seek_start =
      let f = in_bucket ws (bucket_of key) in
      let z : get_or head (bucket_of key) 0 ≡ last_below f rows = L.first (bucket_of key) (bucket_below key) in
      rw z (record { within = last_most f rows; bucket = last_passes f rows; unseen = λ r h l. elsewhere r (last_skips f rows r h l) })

  module _ {k r : ℕ} (S : Seeking ws key rows k) (h : k ≡ suc r) where
    behind : get_or next r 0 ≡ last_below (in_bucket ws (bucket_of key)) r
    behind = L.before r (omega (arith, S.within)) ∙ ap (λ (c : ℕ). last_below (in_bucket ws c) r) (eqb-true (bucket_of (key_at ws r)) (bucket_of key) (S.bucket r h))

    pub seek_falls : get_or next r 0 < k
    seek_falls = omega (arith, behind, last_most (in_bucket ws (bucket_of key)) r)

    -- after row r, which has not the key
    pub seek_next : (key_at ws r ≡ key → ⊥) → Seeking ws key rows (get_or next r 0)
    seek_next d =
        let f = in_bucket ws (bucket_of key) in
        rw behind (
        record {
          within = omega (arith, last_most f r, S.within);
          bucket = last_passes f r;
          unseen = λ q a l. unseen q a l (dec_le k q) (ℕ_discrete q r);
        }
        )
      where
        unseen : (q : ℕ) → last_below (in_bucket ws (bucket_of key)) r ≤ q → q < rows → Dec (k ≤ q) → Dec (q ≡ r) → key_at ws q ≡ key → ⊥
        unseen q a l (yes m) c = S.unseen q m l
        unseen q a l (no m) (yes c) = rw c d
        unseen q a l (no m) (no c) = elsewhere q (last_skips (in_bucket ws (bucket_of key)) r q a (omega arith))

-- what the test of an answer says
pub found_some : {ws key : List ℕ} {rows : ℕ} (r : Option ℕ) → Found ws key rows r → is_some r ≡ true → (q : ℕ) × Last ws key rows q
found_some None F e = cc
found_some (Some q) F e = (q, F.some q refl)

pub found_none : {ws key : List ℕ} {rows : ℕ} (r : Option ℕ) → Found ws key rows r → is_some r ≡ false → (q : ℕ) → q < rows → key_at ws q ≡ key → ⊥
found_none None F e = F.none refl
found_none (Some q) F e = cc

pub found_once : (ws key : List ℕ) (rows : ℕ) (r s : Option ℕ) → Found ws key rows r → Found ws key rows s → r ≡ s
found_once ws key rows None None R S = refl
found_once ws key rows None (Some q) R S = let w = S.some q refl in absurd (R.none refl q w.within w.same)
found_once ws key rows (Some q) None R S = let w = R.some q refl in absurd (S.none refl q w.within w.same)
found_once ws key rows (Some q) (Some p) R S = go (R.some q refl) (S.some p refl) (dec_le q p) (dec_le p q)
  where
    go : Last ws key rows q → Last ws key rows p → Dec (q ≤ p) → Dec (p ≤ q) → Some q ≡ Some p
    go v w (yes l) (yes m) = ap Some (omega arith)
    go v w (no l) m = absurd (w.last q (omega arith) v.within v.same)
    go v w (yes l) (no m) = absurd (v.last p (omega arith) w.within w.same)
