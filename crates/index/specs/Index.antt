-- An index of the rows that lie in a table, by their keys. It is working memory: no contract of a call on an image or on a table of rows speaks of it.
--     buckets              how many buckets there are
--     bucket_of k           the bucket of a key; in_bucket ws b r: the test that row r is in bucket b
--     last_below f n        one more than the last number below n that passes f, or 0 where there is none
--     Linked ws n head next    the index of n rows: the last row of each bucket, and for each row the one before it in its bucket
--     Indexes ws n x        x is the index of n rows
--     no_rows              an index with no rows in it
--     with_row k n x        the index x with row n, which has the key k, as the last of its bucket
--     Last ws k n r         r is the last of n rows that has the key k
--     Found ws k n r       r is the last of n rows that has the key k, or `None` where none has
use Rattle.std.specs.Prelude.{Option, ℕ, zero, suc, ◌+◌, ◌*◌, ◌%◌, ◌<◌, ◌≡◌, Bool, List, replicate, set, get_or, eqb, if◌then◌else◌}
use Rattle.std.specs.Option.{ForSome, ForNone}
use Rattle.model.specs.Rows.{most_rows}
use Rattle.model.specs.Table.{key_at}
use Rattle.index.specs.declared.Index.{Index}

abbrev pub buckets : ℕ
buckets = 512

unfoldable pub bucket_of : List ℕ → ℕ
bucket_of k = (get_or k 0 0 * 331 + get_or k 1 0 * 67 + (get_or k 3 0 * 17 + get_or k 4 0 * 29 + get_or k 5 0 * 41 + get_or k 6 0 * 53)) % buckets

abbrev pub in_bucket : List ℕ → ℕ → ℕ → Bool
in_bucket ws b r = eqb (bucket_of (key_at ws r)) b

unfoldable pub last_below : (ℕ → Bool) → ℕ → ℕ
last_below f zero = 0
last_below f (suc n) = if f n then suc n else last_below f n

pub record Linked (ws : List ℕ) (n : ℕ) (head next : List ℕ) : Type 0 where
  pub first : (b : ℕ) → b < buckets → get_or head b 0 ≡ last_below (in_bucket ws b) n
  pub before : (r : ℕ) → r < n → get_or next r 0 ≡ last_below (in_bucket ws (bucket_of (key_at ws r))) r

abbrev pub Indexes : List ℕ → ℕ → Index → Type 0
Indexes ws n x = Linked ws n x.head x.next

abbrev pub no_rows : Index
no_rows = record { head = replicate buckets 0; next = replicate most_rows 0 }

abbrev pub with_row : List ℕ → ℕ → Index → Index
with_row k n x = record { head = set x.head (bucket_of k) (n + 1); next = set x.next n (get_or x.head (bucket_of k) 0) }

pub record Last (ws key : List ℕ) (n r : ℕ) : Type 0 where
  pub within : r < n
  pub same : key_at ws r ≡ key
  pub last : (q : ℕ) → r < q → q < n → key_at ws q ≡ key → ⊥

pub record Found (ws key : List ℕ) (n : ℕ) (r : Option ℕ) : Type 0 where
  pub some : ForSome r (λ q. Last ws key n q)
  pub none : ForNone r ((q : ℕ) → q < n → key_at ws q ≡ key → ⊥)
