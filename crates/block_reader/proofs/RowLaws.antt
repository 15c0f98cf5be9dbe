-- Each row is read as it was printed, and so are the lines of rows behind a count.
use Rattle.std.proofs.Common.{◌≡◌, ◌∙◌, ℕ, List, [], ◌∷◌, ◌++◌, length, Option, Some, codes, decimal, map, refl, sym, ap, subst, append_assoc}
use Rattle.std.specs.Prelude.{All, ⊤}
use Rattle.std.specs.List.{flat_map}
use Rattle.std.proofs.lemmas.List.Elements.{recursion_from_All, All-from_recursion}
use Rattle.taxi_base.specs.declared.rows.Step.{Step}
use Rattle.taxi_base.specs.declared.rows.LabelRow.{LabelRow}
use Rattle.taxi_base.specs.declared.rows.FlightRow.{FlightRow}
use Rattle.taxi_base.specs.Airport.{Airport, IsWellFormed}
use Rattle.airport_file.specs.Words.{segment_word}
use Rattle.replies.specs.declared.block.Block.{Block}
use Rattle.replies.specs.Texts.{line_text, lines_text, step_words, label_words, window_words, held_words, flight_words}
use Rattle.replies.specs.Printable.{IsShort, IsCount, IsName, HasSegment, HasClass, IsPrintableStep, IsPrintableLabel, IsPrintableWindow, IsPrintableHeld, IsPrintableFlight}
use Rattle.block_reader.specs.Fields.{count_of, segment_of_word}
use Rattle.block_reader.specs.Reading.{word_then, word_last, rows_at}
use Rattle.block_reader.specs.Blocks.{step_at, label_at, window_at, held_at, flight_at, counted_at, of_segment_at}
use Rattle.block_reader.proofs.Spellings.{some-both, some-map, IsSpelling, last-spelling, then-spelling, after-spelling, made-spelling, rows-again, rows-takes}
use Rattle.taxi_base.specs.declared.numbers.Segment.{Segment}
use Rattle.block_reader.proofs.Words.{number-word, count-word, name-word, kind-word}
use Rattle.block_reader.proofs.Places.{class-word, segment-word, arc-spelled}

-- ---- rows

pub window-spelling : (airport : Airport) → IsSpelling IsPrintableWindow (λ window. line_text (window_words window)) (window_at airport)
unfolding window_at
window-spelling airport =
    after-spelling (codes "window ") (made-spelling (λ p. record { from = p.0; until = p.1 }) (λ window. (window.from, window.until)) (λ window. refl) (λ p. refl)
    (then-spelling number-word (last-spelling number-word)))

module _ (airport : Airport) (well : IsWellFormed airport) where
  pub step-spelling : IsSpelling (IsPrintableStep airport) (λ step. line_text (step_words airport step)) (step_at airport)
  unfolding step_at
  step-spelling =
      after-spelling (codes "step ") (made-spelling (λ p. record { arc = p.0; enter = p.1.0; leave = p.1.1 }) (λ step. (step.arc, (step.enter, step.leave))) (λ step. refl) (λ p. refl)
      (then-spelling (arc-spelled airport well) (then-spelling number-word (last-spelling number-word))))

  pub label-spelling : IsSpelling (IsPrintableLabel airport) (λ label. line_text (label_words airport label)) (label_at airport)
  unfolding label_at
  label-spelling =
      after-spelling (codes "label ") (made-spelling (λ p. record { arc = p.0; from = p.1.0; until = p.1.1.0; value = p.1.1.1 }) (λ label. (label.arc, (label.from, (label.until, label.value)))) (λ label. refl) (λ p. refl)
      (then-spelling (arc-spelled airport well) (then-spelling number-word (then-spelling number-word (last-spelling number-word)))))

  pub held-spelling : IsSpelling (IsPrintableHeld airport) (λ row. line_text (held_words airport row)) (held_at airport)
  unfolding held_at
  held-spelling =
      after-spelling (codes "held ") (made-spelling (λ p. record { from = p.0; until = p.1.0; flight = p.1.1.0; segment = p.1.1.1 }) (λ row. (row.from, (row.until, (row.flight, row.segment)))) (λ row. refl) (λ p. refl)
      (then-spelling number-word (then-spelling number-word (then-spelling name-word (last-spelling (segment-word airport well))))))

  -- every kind of flight has a word
  flight_as_read : IsSpelling (λ (row : FlightRow). IsName row.flight × (⊤ × (HasClass airport row.class × (IsShort row.start × IsShort row.end)))) (λ row. line_text (flight_words airport row)) (flight_at airport)
  unfolding flight_at
  flight_as_read =
      after-spelling (codes "flight ")
      (made-spelling (λ p. record { flight = p.0; kind = p.1.0; class = p.1.1.0; start = p.1.1.1.0; end = p.1.1.1.1 }) (λ row. (row.flight, (row.kind, (row.class, (row.start, row.end))))) (λ row. refl) (λ p. refl)
      (then-spelling name-word (then-spelling kind-word (then-spelling (class-word airport well) (then-spelling number-word (last-spelling number-word))))))

  pub flight-spelling : IsSpelling (IsPrintableFlight airport) (λ row. line_text (flight_words airport row)) (flight_at airport)
  flight-spelling = record {
    again = λ row rest good. flight_as_read.again row rest (good.0, (tt, good.1));
    takes = λ bytes row rest e. let t = flight_as_read.takes bytes row rest e in ((t.0.0, t.0.1.1), t.1);
  }

-- ---- lines of rows

pub lines-before : {X : Type 0} (words : X → List (List ℕ)) (xs : List X) (more : List (List (List ℕ))) → lines_text (map words xs ++ more) ≡ flat_map (λ x. line_text (words x)) xs ++ lines_text more
lines-before words [] more = refl
lines-before words (x ∷ xs) more = ap (λ (t : List ℕ). line_text (words x) ++ t) (lines-before words xs more) ∙ sym (append_assoc (line_text (words x)) (flat_map (λ y. line_text (words y)) xs) (lines_text more))

pub lines-all : {X : Type 0} (words : X → List (List ℕ)) (xs : List X) → lines_text (map words xs) ≡ flat_map (λ x. line_text (words x)) xs
lines-all words [] = refl
lines-all words (x ∷ xs) = ap (λ (t : List ℕ). line_text (words x) ++ t) (lines-all words xs)

abbrev pub steps_text : Airport → List Step → List ℕ
steps_text airport steps = flat_map (λ step. line_text (step_words airport step)) steps

abbrev pub labels_text : Airport → List LabelRow → List ℕ
labels_text airport labels = flat_map (λ label. line_text (label_words airport label)) labels

-- the lines of rows behind a count
abbrev pub counted_text : {X : Type 0} → (X → List (List ℕ)) → List X → List ℕ
counted_text words rows = (decimal (length rows) ++ 10 ∷ []) ++ flat_map (λ row. line_text (words row)) rows

-- and behind a segment and a count
abbrev pub of_segment_text : {X : Type 0} → Airport → (X → List (List ℕ)) → Segment → List X → List ℕ
of_segment_text airport words segment rows =
    (segment_word airport segment ++ 32 ∷ (decimal (length rows) ++ 10 ∷ [])) ++ flat_map (λ row. line_text (words row)) rows

pub count-spelling : IsSpelling IsCount (λ n. decimal n ++ 10 ∷ []) (word_last count_of)
count-spelling = last-spelling count-word

module _ {X : Type 0} {Good : X → Type 0} (words : X → List (List ℕ)) {row : List ℕ → Option (X × List ℕ)} (own : IsSpelling Good (λ x. line_text (words x)) row) where
  abbrev lines : List X → List ℕ
  lines rows = flat_map (λ x. line_text (words x)) rows

  -- rows behind a count are read as they were printed, and nothing else is read
  pub counted-again : (make : List X → Block) (rows : List X) (rest : List ℕ) → IsCount (length rows) × All Good rows → counted_at make row (counted_text words rows ++ rest) ≡ Some (make rows, rest)
  counted-again make rows rest good =
      ap (counted_at make row) (append_assoc (decimal (length rows) ++ 10 ∷ []) (lines rows) rest)
      ∙ rw (count-spelling.again (length rows) (lines rows ++ rest) good.0, rows-again own rows rest (recursion_from_All Good rows good.1)) refl

  pub record IsCountedRead (make : List X → Block) (bytes : List ℕ) (block : Block) (rest : List ℕ) : Type 0 where
    pub rows : List X
    pub made : make rows ≡ block
    pub good : IsCount (length rows) × All Good rows
    pub is : bytes ≡ counted_text words rows ++ rest

  -- a count and so many rows make one text
  counted-is : (count : ℕ) (rows : List X) (bytes more rest : List ℕ) → bytes ≡ (decimal count ++ 10 ∷ []) ++ more → length rows ≡ count → more ≡ lines rows ++ rest → bytes ≡ counted_text words rows ++ rest
  counted-is count rows bytes more rest head counted is =
      head ∙ ap (λ (n : ℕ). (decimal n ++ 10 ∷ []) ++ more) (sym counted) ∙ ap (λ (t : List ℕ). (decimal (length rows) ++ 10 ∷ []) ++ t) is
      ∙ sym (append_assoc (decimal (length rows) ++ 10 ∷ []) (lines rows) rest)

  pub counted-takes : (make : List X → Block) (bytes : List ℕ) (block : Block) (rest : List ℕ) → counted_at make row bytes ≡ Some (block, rest) → IsCountedRead make bytes block rest
  counted-takes make bytes block rest e =
      let a = some-both (word_last count_of bytes) _ (block, rest) e in
      let b = some-map (rows_at row a.0.0 a.0.1) _ (block, rest) a.2 in
      let head = count-spelling.takes bytes a.0.0 a.0.1 a.1 in
      let rows = rows-takes own a.0.0 a.0.1 b.0.0 b.0.1 b.1 in
      let behind : b.0.1 ≡ rest = ap (λ (p : Block × List ℕ). p.1) b.2 in
      record {
        rows = b.0.0;
        made = ap (λ (p : Block × List ℕ). p.0) b.2;
        good = (subst IsCount (sym rows.0) head.0, All-from_recursion Good b.0.0 rows.1);
        is = counted-is a.0.0 b.0.0 bytes a.0.1 rest head.1 rows.0 (rows.2 ∙ ap (λ (r : List ℕ). lines b.0.0 ++ r) behind);
      }

  -- the same of a segment, a count and rows
  module _ (airport : Airport) (well : IsWellFormed airport) where
    abbrev head : Segment → ℕ → List ℕ
    head segment count = segment_word airport segment ++ 32 ∷ (decimal count ++ 10 ∷ [])

    pub of_segment-again : (make : Segment → List X → Block) (segment : Segment) (rows : List X) (rest : List ℕ) → (HasSegment airport segment × IsCount (length rows)) × All Good rows
        → of_segment_at airport make row (of_segment_text airport words segment rows ++ rest) ≡ Some (make segment rows, rest)
    of_segment-again make segment rows rest good =
        ap (of_segment_at airport make row) (append_assoc (head segment (length rows)) (lines rows) rest)
        ∙ rw (
          (then-spelling (segment-word airport well) count-spelling).again (segment, length rows) (lines rows ++ rest) good.0,
          rows-again own rows rest (recursion_from_All Good rows good.1),
        ) refl

    pub record IsOfSegmentRead (make : Segment → List X → Block) (bytes : List ℕ) (block : Block) (rest : List ℕ) : Type 0 where
      pub segment : Segment
      pub rows : List X
      pub made : make segment rows ≡ block
      pub good : (HasSegment airport segment × IsCount (length rows)) × All Good rows
      pub is : bytes ≡ of_segment_text airport words segment rows ++ rest

    of_segment-is : (segment : Segment) (count : ℕ) (rows : List X) (bytes more rest : List ℕ) → bytes ≡ head segment count ++ more → length rows ≡ count → more ≡ lines rows ++ rest
        → bytes ≡ of_segment_text airport words segment rows ++ rest
    of_segment-is segment count rows bytes more rest first counted is =
        first ∙ ap (λ (n : ℕ). head segment n ++ more) (sym counted) ∙ ap (λ (t : List ℕ). head segment (length rows) ++ t) is
        ∙ sym (append_assoc (head segment (length rows)) (lines rows) rest)

    pub of_segment-takes : (make : Segment → List X → Block) (bytes : List ℕ) (block : Block) (rest : List ℕ) → of_segment_at airport make row bytes ≡ Some (block, rest)
        → IsOfSegmentRead make bytes block rest
    of_segment-takes make bytes block rest e =
        let a = some-both (word_then (segment_of_word airport) (word_last count_of) bytes) _ (block, rest) e in
        let b = some-map (rows_at row a.0.0.1 a.0.1) _ (block, rest) a.2 in
        let first = (then-spelling (segment-word airport well) count-spelling).takes bytes a.0.0 a.0.1 a.1 in
        let rows = rows-takes own a.0.0.1 a.0.1 b.0.0 b.0.1 b.1 in
        let behind : b.0.1 ≡ rest = ap (λ (p : Block × List ℕ). p.1) b.2 in
        record {
          segment = a.0.0.0;
          rows = b.0.0;
          made = ap (λ (p : Block × List ℕ). p.0) b.2;
          good = ((first.0.0, subst IsCount (sym rows.0) first.0.1), All-from_recursion Good b.0.0 rows.1);
          is = of_segment-is a.0.0.0 a.0.0.1 b.0.0 bytes a.0.1 rest first.1 rows.0 (rows.2 ∙ ap (λ (r : List ℕ). lines b.0.0 ++ r) behind);
        }
