-- How rows lie in a lent table of 16-bit words (docs/RULES.md, "From events to rows").
--     unused            the word in a place that is not used
--     padded n xs       xs in n places, the others unused
--     key_words d        a dependency's words: thread, wanted lock, size of H, seven places for H
--     row_words r        a row's words: its dependency's, the position of its first arising, its occurrences
--     row_size           how many they are; key_size: how many of them are its dependency's
--     key_at t i         of the row in place i of the table t the words of its dependency
--     table_words rs     the rows' words, one row after the other
--     table_room         how many words a table needs to be lent
use Rattle.std.specs.Prelude.{ℕ, ◌*◌, ◌-◌, List, [], ◌∷◌, ◌++◌, length, replicate}
use Rattle.laws.specs.Lists.{flat}
use Rattle.laws.specs.Memory.{part}
use Rattle.model.specs.Rows.{most_rows, Dependency, Row}

abbrev pub unused : ℕ
unused = 65535

abbrev pub padded : ℕ → List ℕ → List ℕ
padded n xs = xs ++ replicate (n - length xs) unused

abbrev pub key_words : Dependency → List ℕ
key_words d = d.thread ∷ d.wanted ∷ length d.held ∷ padded 7 d.held

abbrev pub row_words : Row → List ℕ
row_words r = key_words r.what ++ (r.first ∷ r.times ∷ [])

abbrev pub row_size : ℕ
row_size = 12

abbrev pub key_size : ℕ
key_size = 10

abbrev pub key_at : List ℕ → ℕ → List ℕ
key_at t i = part (i * row_size) key_size t

abbrev pub table_words : List Row → List ℕ
table_words rs = flat row_words rs

abbrev pub table_room : ℕ
table_room = most_rows * row_size
