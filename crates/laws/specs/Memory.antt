-- Memory: bytes and words where they lie.
--     little bs       the number that the bytes bs write, low byte first
--     part at n xs    n entries of xs, from place `at` on
--     field at n b    the number that n bytes of b write, from place `at` on
--     over ws xs      the words ws laid over the beginning of xs: the rest of xs stays
--     sum xs          the sum of the entries
use Rattle.std.specs.Prelude.{ℕ, ◌+◌, ◌*◌, List, [], ◌∷◌, ◌++◌, length, take, drop}

abbrev pub little : List ℕ → ℕ
little [] = 0
little (b ∷ bs) = b + 256 * little bs

abbrev pub part : ℕ → ℕ → List ℕ → List ℕ
part at n xs = take n (drop at xs)

abbrev pub field : ℕ → ℕ → List ℕ → ℕ
field at n b = little (part at n b)

abbrev pub over : List ℕ → List ℕ → List ℕ
over ws xs = ws ++ drop (length ws) xs

abbrev pub sum : List ℕ → ℕ
sum [] = 0
sum (x ∷ xs) = x + sum xs
