-- How rows lie in a table of words.
--     key_length       a key has ten words
--     row_length, table_length     how many words a row has, and a table
--     key_once         two dependencies with one key are one
use Rattle.std.proofs.Common.{ℕ, ◌*◌, ◌-◌, ◌≤◌, arith, ◌≡◌, refl, sym, ap, ap₂, ◌∙◌, inl, inr, List, [], ◌∷◌, length, get_or, take, drop, replicate, length-append}
use Rattle.std.proofs.lemmas.List.{length-replicate}
use Rattle.std.proofs.Math.Seq.{take-append_seam}
use Rattle.laws.specs.Lists.{In}
use Rattle.model.specs.Rows.{Dependency, Row}
use Rattle.model.specs.Table.{unused, padded, row_size, key_words, row_words, table_words}

pub key_length : (d : Dependency) → length d.held ≤ 7 → length (key_words d) ≡ 10
key_length d h = let e : length (padded 7 d.held) ≡ 7 = simp (length-append, length-replicate) (omega arith) in omega arith

pub row_length : (r : Row) → length r.what.held ≤ 7 → length (row_words r) ≡ row_size
row_length r h = length-append (key_words r.what) (r.first ∷ r.times ∷ []) ∙ omega (arith, key_length r.what h)

pub table_length : (rs : List Row) → ((r : Row) → In r rs → length r.what.held ≤ 7) → length (table_words rs) ≡ length rs * row_size
table_length [] s = refl
table_length (r ∷ rs) s = length-append (row_words r) (table_words rs) ∙ omega (arith, row_length r (s r (inl refl)), table_length rs (λ q i. s q (inr i)))

pub key_once : (d e : Dependency) → key_words d ≡ key_words e → d ≡ e
key_once d e q =
    let t : d.thread ≡ e.thread = ap (λ (l : List ℕ). get_or l 0 0) q in
    let w : d.wanted ≡ e.wanted = ap (λ (l : List ℕ). get_or l 1 0) q in
    let n : length d.held ≡ length e.held = ap (λ (l : List ℕ). get_or l 2 0) q in
    let p : padded 7 d.held ≡ padded 7 e.held = ap (drop 3) q in
    let h : d.held ≡ e.held = sym (take-append_seam d.held (replicate (7 - length d.held) unused)) ∙ ap₂ take n p ∙ take-append_seam e.held (replicate (7 - length e.held) unused) in
    λ i. record { thread = t i; wanted = w i; held = h i }
