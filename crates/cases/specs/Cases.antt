-- What the functions that the programs share answer.
--     SameWithin E xs ys low high    by the test E the two lists are the same from place low up to high
--     DiffersAt E xs ys k      by the test E they differ at place k
--     modulus           a checksum is below it
--     Mixes R s x t     the checksum s becomes t with the value x, whose number is told by R
use Rattle.std.specs.Prelude.{ℕ, ◌+◌, ◌*◌, ◌%◌, ◌≤◌, ◌<◌, ◌≡◌, Bool, true, false, List}
use Rattle.std.specs.List.{slice_index_or}

abbrev pub SameWithin : {A : Type 0} → (A → A → Bool) → List A → List A → ℕ → ℕ → Type 0
SameWithin {A} E xs ys low high = (k : ℕ) (x y : A) → low ≤ k → k < high → E (slice_index_or xs k x) (slice_index_or ys k y) ≡ true

abbrev pub DiffersAt : {A : Type 0} → (A → A → Bool) → List A → List A → ℕ → Type 0
DiffersAt {A} E xs ys k = (x y : A) → E (slice_index_or xs k x) (slice_index_or ys k y) ≡ false

abbrev pub modulus : ℕ
modulus = 4294967291

abbrev pub Mixes : {A : Type 0} → (A → ℕ → Type 0) → ℕ → A → ℕ → Type 0
Mixes R s x t = (n : ℕ) × R x n × (t ≡ (s * 31 + n) % modulus)
