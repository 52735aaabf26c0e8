-- The three ways in which an arising is noted.
--     indexed_known, indexed_new          what the index then is of
--     note_known, note_full, note_new     what the table then holds
use Rattle.std.proofs.Common.{ℕ, ◌+◌, ◌*◌, ◌≤◌, ◌<◌, ◌≡◌, refl, sym, ap, subst, ◌∙◌, true, false, List, [], ◌∷◌, ◌++◌, length, get_or, set, length-set, length-append, arith, Ok, Err, le-leb}
use Rattle.std.proofs.Math.Seq.{length-sets}
use Rattle.std.proofs.lemmas.Bool.{lt-leb}
use Rattle.std.proofs.lemmas.List.{length-map}
use Rattle.std.proofs.lemmas.List.Edits.{sets}
use Rattle.laws.specs.Lists.{In}
use Rattle.laws.proofs.Lists.{in_map}
use Rattle.model.specs.declared.Refusal.TheVariants.{Full}
use Rattle.model.specs.Rows.{most_rows, Dependency, Row, known, new_row, counted, deps}
use Rattle.model.specs.Table.{row_size, key_words, table_room, key_size, key_at}
use Rattle.model.proofs.Rows.{tells_known, arose_known, arose_new}
use Rattle.index.specs.declared.Index.{Index}
use Rattle.index.specs.Index.{buckets, with_row, Indexes}
use Rattle.index.proofs.Linked.{linked_kept, linked_new}
use Rattle.reader.specs.declared.table.Rows.{Rows}
use Rattle.reader.specs.Working.{Tabled, Keyed, NotedRow}
use Rattle.reader.proofs.Tables.{split, split_in, tabled_counted, tabled_new, key_counted, key_put, key_others, known_there, known_nowhere}

-- ---- the index

pub indexed_known : (ws : List ℕ) (rows r v : ℕ) (x : Index) → Indexes ws rows x → Indexes (set ws (r * row_size + 11) v) rows x
indexed_known ws rows r v x L = linked_kept ws (set ws (r * row_size + 11) v) rows x.head x.next (λ q l. key_counted ws r v q) L

pub indexed_new : (ws key : List ℕ) (rows p : ℕ) (x : Index) → Indexes ws rows x → length x.head ≡ buckets → length x.next ≡ most_rows → length key ≡ key_size → rows < most_rows → table_room ≤ length ws
    → Indexes (sets ws (rows * row_size) (key ++ p ∷ 1 ∷ [])) (rows + 1) (with_row key rows x)
indexed_new ws key rows p x L m n k l room =
    let h : rows * row_size + row_size ≤ length ws = omega arith in
    linked_new ws (sets ws (rows * row_size) (key ++ p ∷ 1 ∷ [])) rows x.head x.next (key_others ws key rows p k h) L key (key_put ws key rows p k h) m n l

-- ---- the rows

module _ {x : Rows} {key : List ℕ} (p : ℕ) (rs : List Row) (t₀ : List ℕ) (d : Dependency) (e : key ≡ key_words d) (K : Keyed d rs) (T : Tabled rs t₀ x) where
  pub note_known : (y : Rows) (r : ℕ) → r < x.count → key_at x.table.now r ≡ key
      → y.count ≡ x.count → y.table.now ≡ set x.table.now (r * row_size + 11) (get_or x.table.now (r * row_size + 11) 0 + 1) → NotedRow d p rs t₀ (Ok tt) y
  note_known y r l q n v =
      let ws = x.table.now in
      let h : r < length rs = omega (arith, T.count) in
      let w = split rs r h in
      let z : w.row.what ≡ d = known_there rs K.each t₀ d r w (ap (λ (v : List ℕ). key_at v r) (sym T.words) ∙ q ∙ e) in
      let k : known d rs ≡ true = (tells_known d rs).1 (subst (λ (z : Dependency). In z (deps rs)) z (in_map (λ (z : Row). z.what) w.row rs (split_in rs r w))) in
      record {
        verdict = rw k refl;
        rows =
            rw (k, arose_known d p rs k)
            (record {
              count = length-map rs (counted d) ∙ T.count ∙ sym n;
              same = T.same ∙ sym (ap length v ∙ length-set ws (r * row_size + 11) (get_or ws (r * row_size + 11) 0 + 1));
              words = v ∙ ap (λ (v : List ℕ). set v (r * row_size + 11) (get_or v (r * row_size + 11) 0 + 1)) T.words ∙ tabled_counted rs K.each t₀ r w d z K.apart;
            });
      }

  module _ (u : (r : ℕ) → r < x.count → key_at x.table.now r ≡ key → ⊥) where
    unknown : known d rs ≡ false
    unknown = known_nowhere rs K.each t₀ d (λ r l q. u r (omega (arith, T.count)) (ap (λ (v : List ℕ). key_at v r) T.words ∙ q ∙ sym e))

    pub note_full : most_rows ≤ x.count → NotedRow d p rs t₀ (Err Full) x
    note_full l =
        let m : most_rows ≤ length rs = omega (arith, T.count) in
        record { verdict = rw (unknown, le-leb most_rows (length rs) m) refl; rows = rw (unknown, le-leb most_rows (length rs) m) T }

    pub note_new : (y : Rows) → x.count < most_rows → table_room ≤ length x.table.now → y.count ≡ x.count + 1 → y.table.now ≡ sets x.table.now (x.count * row_size) (key ++ p ∷ 1 ∷ []) → NotedRow d p rs t₀ (Ok tt) y
    note_new y l room n v =
        let m : length rs < most_rows = omega (arith, T.count) in
        let h : length rs * row_size + row_size ≤ length t₀ = omega (arith, T.same) in
        record {
          verdict = rw (unknown, lt-leb most_rows (length rs) m) refl;
          rows =
              rw (unknown, lt-leb most_rows (length rs) m, arose_new d p rs unknown)
              (record {
                count = length-append rs (new_row d p ∷ []) ∙ ap (λ (z : ℕ). z + 1) T.count ∙ sym n;
                same = T.same ∙ sym (ap length v ∙ length-sets x.table.now (x.count * row_size) (key ++ p ∷ 1 ∷ []));
                words = v ∙ rw (e, T.words, ← T.count) (tabled_new rs K.each t₀ d p K.this h);
              });
        }
