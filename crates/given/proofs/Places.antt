-- What a row's words and its seven places make of the row.
--     row_words, words_row     words of which each part is as it should be are those of a fair row, and the other way round
use Rattle.std.proofs.Common.{ℕ, ◌+◌, ◌-◌, ◌≤◌, ◌<◌, arith, ◌≡◌, sym, ap, subst, ◌∙◌, List, ◌∷◌, ◌++◌, length, get_or, take, drop, replicate, length-take, length-drop, take-append-drop, drop-cons, ext_get_or, drop_at}
use Rattle.std.proofs.lemmas.List.{get_or-replicate, length-replicate}
use Rattle.std.proofs.lemmas.List.Kept.{AllPairs-from_increasing}
use Rattle.laws.specs.Lists.{In}
use Rattle.laws.specs.Memory.{part}
use Rattle.laws.proofs.Memory.{part_length}
use Rattle.laws.proofs.Places.{place_in, in_place, pairwise_place, place_pairwise}
use Rattle.model.specs.Table.{unused, padded}
use Rattle.given.specs.Working.{Unused, RowParts, RowWords}

module _ (ws : List ℕ) (room : length ws ≡ 12) where
  ps_length : length (part 3 7 ws) ≡ 7
  ps_length = part_length ws 3 7 (omega arith)

  -- the words of a row that tell its dependency
  key : take 10 ws ≡ get_or ws 0 0 ∷ get_or ws 1 0 ∷ get_or ws 2 0 ∷ part 3 7 ws
  key =
      ap (take 10)
      (drop-cons ws 0 0 (omega arith) ∙ ap (λ l. get_or ws 0 0 ∷ l) (drop-cons ws 1 0 (omega arith) ∙ ap (λ l. get_or ws 1 0 ∷ l) (drop-cons ws 2 0 (omega arith))))

  -- the locks that are held
  abbrev H : List ℕ
  H = take (get_or ws 2 0) (part 3 7 ws)

  module _ (few : get_or ws 2 0 ≤ 7) where
    size : length (take (get_or ws 2 0) (part 3 7 ws)) ≡ get_or ws 2 0
    size = length-take (get_or ws 2 0) (part 3 7 ws) ∙ omega (arith, ps_length)

    rest_length : length (drop (get_or ws 2 0) (part 3 7 ws)) ≡ 7 - get_or ws 2 0
    rest_length = length-drop (get_or ws 2 0) (part 3 7 ws) ∙ omega (arith, ps_length)

    -- the seven places are those of the held locks
    places : Unused (drop (get_or ws 2 0) (part 3 7 ws)) → padded 7 H ≡ part 3 7 ws
    places U =
        let e : replicate (7 - get_or ws 2 0) unused ≡ drop (get_or ws 2 0) (part 3 7 ws) =
        ext_get_or 0 _ _ (length-replicate {A = ℕ} (7 - get_or ws 2 0) unused ∙ sym rest_length)
        (λ k h. let l : k < 7 - get_or ws 2 0 = omega (arith, length-replicate {A = ℕ} (7 - get_or ws 2 0) unused) in
        get_or-replicate (7 - get_or ws 2 0) k unused 0 l ∙ sym (U k (omega (arith, rest_length)))) in
        ap (λ n. H ++ replicate (7 - n) unused) size ∙ ap (λ l. H ++ l) e ∙ take-append-drop (get_or ws 2 0) (part 3 7 ws)

    unused_rest : get_or ws 0 0 ∷ get_or ws 1 0 ∷ length H ∷ padded 7 H ≡ take 10 ws → Unused (drop (get_or ws 2 0) (part 3 7 ws))
    unused_rest e k h =
        let p : padded 7 H ≡ part 3 7 ws = ap (drop 3) (e ∙ key) in
        let q : drop (get_or ws 2 0) (part 3 7 ws) ≡ replicate (7 - get_or ws 2 0) unused =
        ap (drop (get_or ws 2 0)) (sym p) ∙ drop_at H (replicate (7 - length H) unused) (get_or ws 2 0) size ∙ ap (λ n. replicate (7 - n) unused) size in
        ap (λ l. get_or l k 0) q ∙ get_or-replicate (7 - get_or ws 2 0) k unused 0 (omega (arith, rest_length))

  pub row_words : RowParts ws → RowWords ws
  row_words R = let P = R.places in
      record {
        fair =
            record {
              thread = R.thread;
              wanted = R.wanted;
              locks = λ m i. let v = in_place 0 _ m i in subst (λ x. x < 256) v.2 (P.locks v.0 v.1);
              some = omega (arith, R.some, size R.few);
              few = omega (arith, R.few, size R.few);
              rising = place_pairwise 0 ◌<◌ _ (λ i j. AllPairs-from_increasing _ P.rising i j 0);
              other = λ i. P.other (in_place (get_or ws 1 0) _ (get_or ws 1 0) i);
            };
        key = ap (λ n. get_or ws 0 0 ∷ get_or ws 1 0 ∷ n ∷ padded 7 H) (size R.few) ∙ ap (λ l. get_or ws 0 0 ∷ get_or ws 1 0 ∷ get_or ws 2 0 ∷ l) (places R.few P.rest) ∙ sym key;
      }

  pub words_row : RowWords ws → RowParts ws
  words_row W =
      let e = ap (λ l. get_or l 2 0) (W.key ∙ key) in
      let few : get_or ws 2 0 ≤ 7 = omega (arith, e, W.fair.few) in
      record {
        thread = W.fair.thread;
        wanted = W.fair.wanted;
        some = omega (arith, W.fair.some, e);
        few = few;
        places =
            record {
              locks = λ k h. W.fair.locks _ (place_in 0 _ k h);
              rising = λ k h. pairwise_place 0 ◌<◌ _ W.fair.rising k (k + 1) (omega arith) h;
              other = λ v. W.fair.other (subst (λ m. In m H) v.2 (place_in (get_or ws 1 0) H v.0 v.1));
              rest = unused_rest few W.key;
            };
      }
