-- A text that is written piece by piece, and may be cut short.
use Rattle.std.proofs.Common.{◌≡◌, ◌∙◌, ℕ, zero, suc, ◌+◌, List, [], ◌∷◌, ◌++◌, length, take, drop, map, Some, decimal, codes, refl, sym, ap, append_assoc}
use Rattle.std.specs.Prelude.{slice_get, flat_map}
use Rattle.std.proofs.lemmas.Option.{slice_get_within, get_or_from_slice_get}
use Rattle.std.proofs.lemmas.List.{drop_more}
use Rattle.taxi_base.specs.declared.rows.Step.{Step}
use Rattle.taxi_base.specs.declared.rows.LabelRow.{LabelRow}
use Rattle.taxi_base.specs.Airport.{Airport}
use Rattle.replies.specs.declared.block.Block.TheVariants.{Route}
use Rattle.replies.specs.declared.entries.Entry.{Entry}
use Rattle.replies.specs.declared.entries.Entry.TheVariants as entry
use Rattle.replies.specs.Texts.{line_text, lines_text, step_words, label_words, entry_lines, block_text}
use Rattle.block_writer.specs.Printed.{IsCutShort, rows_text, entries_text}
use Rattle.block_writer.proofs.Pieces.{HasCome}

-- what had come when a piece was refused
pub refused : {text old rest before new : List ℕ} → HasCome text old rest before → new ≡ before → IsCutShort text old new
refused {rest = rest} come same = record { written = come.0; rest = rest; parts = come.1; grown = same ∙ come.2 }

-- a piece before another is cut short
pub cut-front : (a b old new : List ℕ) → IsCutShort a old new → IsCutShort (a ++ b) old new
cut-front a b old new cut = record {
  written = cut.written;
  rest = cut.rest ++ b;
  parts = ap (λ (t : List ℕ). t ++ b) cut.parts ∙ append_assoc cut.written cut.rest b;
  grown = cut.grown;
}

-- the last piece is cut short
pub cut-last : (a b old before new : List ℕ) → before ≡ old ++ a → IsCutShort b before new → IsCutShort (a ++ b) old new
cut-last a b old before new is cut = record {
  written = a ++ cut.written;
  rest = cut.rest;
  parts = ap (λ (t : List ℕ). a ++ t) cut.parts ∙ sym (append_assoc a cut.written cut.rest);
  grown = cut.grown ∙ ap (λ (t : List ℕ). t ++ cut.written) is ∙ append_assoc old a cut.written;
}

-- ---- texts

lines-both : (a b : List (List (List ℕ))) → lines_text (a ++ b) ≡ lines_text a ++ lines_text b
lines-both [] b = refl
lines-both (l ∷ a) b = ap (λ (t : List ℕ). line_text l ++ t) (lines-both a b) ∙ sym (append_assoc (line_text l) (lines_text a) (lines_text b))

-- the text of some rows, in two pieces
rows_text-split : {X : Type 0} (words : X → List (List ℕ)) (n : ℕ) (rows : List X) → rows_text words (take n rows) ++ rows_text words (drop n rows) ≡ rows_text words rows
rows_text-split words zero rows = refl
rows_text-split words (suc n) [] = refl
rows_text-split words (suc n) (row ∷ rows) =
    append_assoc (line_text (words row)) (rows_text words (take n rows)) (rows_text words (drop n rows)) ∙ ap (λ (t : List ℕ). line_text (words row) ++ t) (rows_text-split words n rows)

-- the first of the rows that were left come too
pub more_come : {X : Type 0} (words : X → List (List ℕ)) (n : ℕ) (rows : List X) (text old before lines new : List ℕ)
    → HasCome text old (rows_text words rows) before → lines ≡ rows_text words (take n rows) → new ≡ before ++ lines → HasCome text old (rows_text words (drop n rows)) new
more_come words n rows text old before lines new come is grown =
    let written : List ℕ = come.0 in
    let rest : List ℕ = rows_text words (drop n rows) in
    let both : rows_text words rows ≡ lines ++ rest = sym (rows_text-split words n rows) ∙ ap (λ (t : List ℕ). t ++ rest) (sym is) in (
      written ++ lines,
      come.1 ∙ ap (λ (t : List ℕ). written ++ t) both ∙ sym (append_assoc written lines rest),
      grown ∙ ap (λ (t : List ℕ). t ++ lines) come.2 ∙ append_assoc old written lines,
    )

abbrev pub route_head : List ℕ → ℕ → ℕ → ℕ → List ℕ
route_head flight second steps labels = line_text (codes "route" ∷ flight ∷ decimal second ∷ decimal steps ∷ decimal labels ∷ [])

-- a route's text is its first line, its steps and its labels
pub route_text-is : (airport : Airport) (flight : List ℕ) (second : ℕ) (steps : List Step) (labels : List LabelRow)
    → route_head flight second (length steps) (length labels) ++ (rows_text (step_words airport) steps ++ rows_text (label_words airport) labels)
    ≡ block_text airport (Route flight second steps labels)
unfolding block_text
route_text-is airport flight second steps labels =
    ap (λ (t : List ℕ). route_head flight second (length steps) (length labels) ++ t)
    (sym (lines-both (map (step_words airport) steps) (map (label_words airport) labels)))

-- the same of what was written for them
pub route_text-by : (airport : Airport) (flight : List ℕ) (second : ℕ) (steps : List Step) (labels : List LabelRow) (line : List ℕ) (s : List Step) (l : List LabelRow)
    → line ≡ route_head flight second (length s) (length l) → s ≡ steps → l ≡ labels
    → line ++ (rows_text (step_words airport) s ++ rows_text (label_words airport) l) ≡ block_text airport (Route flight second steps labels)
route_text-by airport flight second steps labels line s l is same_steps same_labels =
    ap (λ (t : List ℕ). t ++ (rows_text (step_words airport) s ++ rows_text (label_words airport) l)) is
    ∙ ap (λ (t : List Step). route_head flight second (length t) (length l) ++ (rows_text (step_words airport) t ++ rows_text (label_words airport) l)) same_steps
    ∙ ap (λ (t : List LabelRow). route_head flight second (length steps) (length t) ++ (rows_text (step_words airport) steps ++ rows_text (label_words airport) t)) same_labels
    ∙ route_text-is airport flight second steps labels

-- ---- entries

abbrev pub next_line : List ℕ → List ℕ
next_line name = line_text (codes "next" ∷ name ∷ [])

-- the text of an entry with a route, as it was written
pub entry_route-by : (airport : Airport) (name : List ℕ) (second : ℕ) (steps : List Step) (labels : List LabelRow) (line head : List ℕ) (s : List Step) (l : List LabelRow)
    → line ≡ next_line name ++ head → head ≡ route_head name second (length s) (length l) → s ≡ steps → l ≡ labels
    → line ++ (rows_text (step_words airport) s ++ rows_text (label_words airport) l) ≡ lines_text (entry_lines airport (name, entry.Route second steps labels))
unfolding block_text
entry_route-by airport name second steps labels line head s l is head_is same_steps same_labels =
    let rows : List ℕ = rows_text (step_words airport) s ++ rows_text (label_words airport) l in
    ap (λ (t : List ℕ). t ++ rows) is ∙ append_assoc (next_line name) head rows
    ∙ ap (λ (t : List ℕ). next_line name ++ t) (route_text-by airport name second steps labels head s l head_is same_steps same_labels)

module _ (airport : Airport) (entries : List (List ℕ × Entry)) (place : ℕ) (told : List ℕ × Entry) (there : slice_get entries place ≡ Some told) where
  -- the text of the entries from a place on is that of the entry there, and of those behind it
  entries-from : entries_text airport (drop place entries) ≡ lines_text (entry_lines airport told) ++ entries_text airport (drop (place + 1) entries)
  entries-from =
      let within = slice_get_within entries place told there in
      let at = get_or_from_slice_get entries place told told there in
      ap (entries_text airport) (drop_more entries place told within ∙ ap (λ (e : List ℕ × Entry). e ∷ drop (place + 1) entries) at)
      ∙ lines-both (entry_lines airport told) (flat_map (entry_lines airport) (drop (place + 1) entries))

  -- one more entry comes
  pub entry_comes : (text old before new : List ℕ) → HasCome text old (entries_text airport (drop place entries)) before → new ≡ before ++ lines_text (entry_lines airport told)
      → HasCome text old (entries_text airport (drop (place + 1) entries)) new
  entry_comes text old before new come grown =
      let lines : List ℕ = lines_text (entry_lines airport told) in
      let rest : List ℕ = entries_text airport (drop (place + 1) entries) in (
        come.0 ++ lines,
        come.1 ∙ ap (λ (t : List ℕ). come.0 ++ t) entries-from ∙ sym (append_assoc come.0 lines rest),
        grown ∙ ap (λ (t : List ℕ). t ++ lines) come.2 ∙ append_assoc old come.0 lines,
      )

  -- it is cut short
  pub entry_cut : (text old before new : List ℕ) → HasCome text old (entries_text airport (drop place entries)) before → IsCutShort (lines_text (entry_lines airport told)) before new
      → IsCutShort text old new
  entry_cut text old before new come cut =
      let rest : List ℕ = entries_text airport (drop (place + 1) entries) in
      record {
        written = come.0 ++ cut.written;
        rest = cut.rest ++ rest;
        parts = come.1 ∙ ap (λ (t : List ℕ). come.0 ++ t) (entries-from ∙ ap (λ (t : List ℕ). t ++ rest) cut.parts ∙ append_assoc cut.written cut.rest rest) ∙ sym (append_assoc come.0 cut.written (cut.rest ++ rest));
        grown = cut.grown ∙ ap (λ (t : List ℕ). t ++ cut.written) come.2 ∙ append_assoc old come.0 cut.written;
      }
