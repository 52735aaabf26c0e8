-- The index of rows by buckets of keys.
--     last_..          the last number below n that passes
--     bucket_below     a key's bucket is one of them
--     linked_start     no rows yet
--     linked_kept      the index stands while the keys do
--     linked_new       with one row more
use Rattle.std.proofs.Common.{ℕ, zero, suc, ◌+◌, ◌≤◌, ◌<◌, arith, ◌≡◌, refl, sym, ap, ◌∙◌, Bool, true, false, ◌⊎◌, inl, inr, ⊎_elim, List, eq-eqb, ne_eqb, eqb, length, get_or, set, replicate, get_or-set_same, get_or-set_other}
use Rattle.std.proofs.Math.Decide.{ℕ_discrete}
use Rattle.std.proofs.lemmas.List.{get_or-replicate}
use Rattle.laws.proofs.Tests.{either}
use Rattle.model.specs.Rows.{most_rows}
use Rattle.model.specs.Table.{key_at}
use Rattle.index.specs.Index.{buckets, bucket_of, in_bucket, last_below, Linked}

module _ (f : ℕ → Bool) where
  last_here : (n : ℕ) → f n ≡ true → last_below f (suc n) ≡ suc n
  unfolding last_below
  last_here n e = rw e

  last_on : (n : ℕ) → f n ≡ false → last_below f (suc n) ≡ last_below f n
  unfolding last_below
  last_on n e = rw e

  pub last_zero : last_below f 0 ≡ 0
  unfolding last_below
  last_zero = refl

  pub last_most : (n : ℕ) → last_below f n ≤ n
  last_most zero = omega (arith, last_zero)
  last_most (suc n) = ⊎_elim (λ e. omega (arith, last_here n e)) (λ e. omega (arith, last_on n e, last_most n)) (either (f n))

  pub last_passes : (n r : ℕ) → last_below f n ≡ suc r → f r ≡ true
  last_passes zero r q = absurd (let z : ⊥ = omega (arith, last_zero) in z)
  last_passes (suc n) r q = go (either (f n)) (last_passes n r)
    where
      go : (f n ≡ true) ⊎ (f n ≡ false) → (last_below f n ≡ suc r → f r ≡ true) → f r ≡ true
      go (inl e) ih = let z : r ≡ n = omega (arith, last_here n e) in rw z e
      go (inr e) ih = ih (sym (last_on n e) ∙ q)

  pub last_skips : (n r : ℕ) → last_below f n ≤ r → r < n → f r ≡ false
  last_skips zero r h l = absurd (let z : ⊥ = omega arith in z)
  last_skips (suc n) r h l = go (either (f n)) (ℕ_discrete r n) (last_skips n r)
    where
      go : (f n ≡ true) ⊎ (f n ≡ false) → Dec (r ≡ n) → (last_below f n ≤ r → r < n → f r ≡ false) → f r ≡ false
      go (inl e) d ih = absurd (let z : ⊥ = omega (arith, last_here n e) in z)
      go (inr e) (yes q) ih = rw q e
      go (inr e) (no q) ih = ih (omega (arith, last_on n e)) (omega arith)

last_same : (f g : ℕ → Bool) (n : ℕ) → ((r : ℕ) → r < n → f r ≡ g r) → last_below f n ≡ last_below g n
last_same f g zero h = last_zero f ∙ sym (last_zero g)
last_same f g (suc n) h = go (either (f n)) (last_same f g n (λ r l. h r (omega arith)))
  where
    here : f n ≡ g n
    here = h n (omega arith)

    go : (f n ≡ true) ⊎ (f n ≡ false) → last_below f n ≡ last_below g n → last_below f (suc n) ≡ last_below g (suc n)
    go (inl e) ih = last_here f n e ∙ sym (last_here g n (sym here ∙ e))
    go (inr e) ih = last_on f n e ∙ ih ∙ sym (last_on g n (sym here ∙ e))

pub bucket_below : (k : List ℕ) → bucket_of k < buckets
unfolding bucket_of
bucket_below k = omega arith

pub linked_start : (ws : List ℕ) → Linked ws 0 (replicate buckets 0) (replicate most_rows 0)
linked_start ws =
    record { first = λ b l. get_or-replicate buckets b 0 0 l ∙ sym (last_zero (in_bucket ws b)); before = λ r l. absurd (let z : ⊥ = omega arith in z) }

module _ (ws ws' : List ℕ) (n : ℕ) (head next : List ℕ) (kept : (r : ℕ) → r < n → key_at ws' r ≡ key_at ws r) (L : Linked ws n head next) where
  same_bucket : (b k : ℕ) → k ≤ n → last_below (in_bucket ws b) k ≡ last_below (in_bucket ws' b) k
  same_bucket b k h = last_same (in_bucket ws b) (in_bucket ws' b) k (λ r l. ap (λ (q : List ℕ). eqb (bucket_of q) b) (sym (kept r (omega arith))))

  pub linked_kept : Linked ws' n head next
  linked_kept =
      record {
        first = λ b l. L.first b l ∙ same_bucket b n (omega arith);
        before = λ r l. L.before r l ∙ same_bucket (bucket_of (key_at ws r)) r (omega arith) ∙ rw (kept r l);
      }

  module _ (key : List ℕ) (here : key_at ws' n ≡ key) (heads : length head ≡ buckets) (nexts : length next ≡ most_rows) (l : n < most_rows) where
    pub linked_new : Linked ws' (n + 1) (set head (bucket_of key) (n + 1)) (set next n (get_or head (bucket_of key) 0))
    linked_new = record { first = λ b h. first b h (ℕ_discrete b (bucket_of key)); before = λ r h. before r h (ℕ_discrete r n) }
      where
        more : n + 1 ≡ suc n
        more = omega arith

        m : bucket_of key < buckets
        m = bucket_below key

        first : (b : ℕ) → b < buckets → Dec (b ≡ bucket_of key) → get_or (set head (bucket_of key) (n + 1)) b 0 ≡ last_below (in_bucket ws' b) (n + 1)
        first b h (yes e) =
            rw (e, more, get_or-set_same head (bucket_of key) (suc n) 0 (omega arith)) (sym (last_here (in_bucket ws' (bucket_of key)) n (eq-eqb (bucket_of (key_at ws' n)) (bucket_of key) (ap bucket_of here))))
        first b h (no e) =
            rw (get_or-set_other head (bucket_of key) b (n + 1) 0 e, more)
            (linked_kept.first b h ∙ sym (last_on (in_bucket ws' b) n (ne_eqb (bucket_of (key_at ws' n)) b (λ q. e (sym q ∙ ap bucket_of here)))))

        before : (r : ℕ) → r < n + 1 → Dec (r ≡ n) → get_or (set next n (get_or head (bucket_of key) 0)) r 0 ≡ last_below (in_bucket ws' (bucket_of (key_at ws' r))) r
        before r h (yes e) =
            rw (e, get_or-set_same next n (get_or head (bucket_of key) 0) 0 (omega arith), here) (linked_kept.first (bucket_of key) m)
        before r h (no e) = rw (get_or-set_other next n r (get_or head (bucket_of key) 0) 0 e) (linked_kept.before r (omega arith))
