-- A batch is read as it was printed, and so is what is told where a flight is late.
use Rattle.std.proofs.Common.{◌≡◌, ◌∙◌, ◌<◌, ◌^◌, ◌++◌, ◌∷◌, [], ℕ, true, List, length, codes, decimal, Some, refl, sym, ap, subst, append_assoc, IsTrue}
use Rattle.std.specs.Prelude.{All}
use Rattle.std.specs.List.{list_all, flat_map}
use Rattle.std.proofs.lemmas.List.Elements.{recursion_from_All, All-from_recursion}
use Rattle.taxi_base.specs.Airport.{Airport, IsWellFormed}
use Rattle.taxi_text.specs.Fields.{name_of}
use Rattle.taxi_text.specs.Commands.{is_batch_count}
use Rattle.replies.specs.declared.block.Block.{Block}
use Rattle.replies.specs.declared.block.Block.TheVariants.{Batch, Late}
use Rattle.replies.specs.declared.entries.Entry.{Entry}
use Rattle.replies.specs.Texts.{lines_text, entry_lines, block_text}
use Rattle.replies.specs.Printable.{IsCount, IsName, IsTold, is_told, IsPrintableEntry, IsPrintable}
use Rattle.replies.proofs.ToldEntries.{told-all}
use Rattle.block_reader.specs.Fields.{some_count_of, batch_count_of, total_of}
use Rattle.block_reader.specs.Reading.{word_then, word_last, rows_at}
use Rattle.block_reader.specs.Blocks.{batch_of, entry_at, batch_at, late_at}
use Rattle.block_reader.proofs.Spellings.{some-both, some-map, IsSpelling, last-spelling, then-spelling, rows-again, rows-takes}
use Rattle.block_reader.proofs.Words.{kept, some_count-word, batch_count-word, total-word, name-word}
use Rattle.block_reader.proofs.RouteLaws.{text, IsRest}
use Rattle.block_reader.proofs.EntryLaws.{text_of, entry-spelling}

-- ---- lines of several

lines-append : (xs ys : List (List (List ℕ))) → lines_text (xs ++ ys) ≡ lines_text xs ++ lines_text ys
lines-append [] ys = refl
lines-append (x ∷ xs) ys = rw (lines-append xs ys) (sym (append_assoc _ (lines_text xs) (lines_text ys)))

lines-of : {X : Type 0} (lines : X → List (List (List ℕ))) (xs : List X) → lines_text (flat_map lines xs) ≡ flat_map (λ x. lines_text (lines x)) xs
lines-of lines [] = refl
lines-of lines (x ∷ xs) = lines-append (lines x) (flat_map lines xs) ∙ ap (λ (t : List ℕ). lines_text (lines x) ++ t) (lines-of lines xs)

-- ---- first lines

abbrev IsBatchHead : ℕ × ℕ → Type 0
IsBatchHead p = IsTrue (is_batch_count p.0) × (p.1 < 2 ^ 32)

abbrev batch_head_text : ℕ × ℕ → List ℕ
batch_head_text p = decimal p.0 ++ 32 ∷ (decimal p.1 ++ 10 ∷ [])

batch_head-spelling : IsSpelling IsBatchHead batch_head_text (word_then batch_count_of (word_last total_of))
batch_head-spelling = then-spelling batch_count-word (last-spelling total-word)

abbrev IsLateHead : List ℕ × ℕ → Type 0
IsLateHead p = IsName p.0 × ((0 < p.1) × IsCount p.1)

abbrev late_head_text : List ℕ × ℕ → List ℕ
late_head_text p = p.0 ++ 32 ∷ (decimal p.1 ++ 10 ∷ [])

late_head-spelling : IsSpelling IsLateHead late_head_text (word_then name_of (word_last some_count_of))
late_head-spelling = then-spelling name-word (last-spelling some_count-word)

module _ (airport : Airport) where
  abbrev all_text : List (List ℕ × Entry) → List ℕ
  all_text entries = flat_map (text_of airport) entries

  pub batch_text : ℕ → List (List ℕ × Entry) → List ℕ
  batch_text total entries = batch_head_text (length entries, total) ++ all_text entries

  pub batch_text-is : (total : ℕ) (entries : List (List ℕ × Entry)) → codes "batch " ++ batch_text total entries ≡ text airport (Batch total entries)
  unfolding block_text batch_text
  batch_text-is total entries = ap (λ (t : List ℕ). codes "batch " ++ (batch_head_text (length entries, total) ++ t)) (sym (lines-of (entry_lines airport) entries))

  pub late_text : List ℕ → List (List ℕ × Entry) → List ℕ
  late_text flight entries = late_head_text (flight, length entries) ++ all_text entries

  pub late_text-is : (flight : List ℕ) (entries : List (List ℕ × Entry)) → codes "late " ++ late_text flight entries ≡ text airport (Late flight entries)
  unfolding block_text late_text
  late_text-is flight entries = ap (λ (t : List ℕ). codes "late " ++ (late_head_text (flight, length entries) ++ t)) (sym (lines-of (entry_lines airport) entries))

  -- so many entries behind a first line that tells how many there are
  behind-head : (head : ℕ → List ℕ) (count : ℕ) (entries : List (List ℕ × Entry)) (bytes more rest : List ℕ) → bytes ≡ head count ++ more → length entries ≡ count
      → more ≡ all_text entries ++ rest → bytes ≡ (head (length entries) ++ all_text entries) ++ rest
  behind-head head count entries bytes more rest first counted is =
      first ∙ ap (λ (n : ℕ). head n ++ more) (sym counted) ∙ ap (λ (t : List ℕ). head (length entries) ++ t) is
      ∙ sym (append_assoc (head (length entries)) (all_text entries) rest)

  module _ (well : IsWellFormed airport) where
    -- ---- what is printed is read again

    pub batch-again : (total : ℕ) (entries : List (List ℕ × Entry)) (rest : List ℕ) → IsPrintable airport (Batch total entries)
        → batch_at airport (batch_text total entries ++ rest) ≡ Some (Batch total entries, rest)
    unfolding batch_at batch_text
    batch-again total entries rest good =
        let told : list_all is_told entries ≡ true = (told-all entries).1 good.1.0 in
        ap (batch_at airport) (append_assoc (batch_head_text (length entries, total)) (all_text entries) rest)
        ∙ rw (
          batch_head-spelling.again (length entries, total) (all_text entries ++ rest) good.0,
          rows-again (entry-spelling airport well) entries rest (recursion_from_All (IsPrintableEntry airport) entries good.1.1),
          told,
        ) refl

    pub late-again : (flight : List ℕ) (entries : List (List ℕ × Entry)) (rest : List ℕ) → IsPrintable airport (Late flight entries)
        → late_at airport (late_text flight entries ++ rest) ≡ Some (Late flight entries, rest)
    unfolding late_at late_text
    late-again flight entries rest good =
        ap (late_at airport) (append_assoc (late_head_text (flight, length entries)) (all_text entries) rest)
        ∙ rw (
          late_head-spelling.again (flight, length entries) (all_text entries ++ rest) (good.0, good.1.0),
          rows-again (entry-spelling airport well) entries rest (recursion_from_All (IsPrintableEntry airport) entries good.1.1),
        ) refl

    -- ---- what is read is printed so

    -- so many entries behind a first line that was read make a batch, where none is dropped
    batch-is : (count total : ℕ) (entries : List (List ℕ × Entry)) (bytes more rest : List ℕ) → IsBatchHead (count, total) → bytes ≡ batch_head_text (count, total) ++ more
        → length entries ≡ count → All IsTold entries → All (IsPrintableEntry airport) entries → more ≡ all_text entries ++ rest
        → IsRest airport (codes "batch " ++ bytes) (Batch total entries) rest
    unfolding batch_text
    batch-is count total entries bytes more rest good head counted told each is =
        let whole : bytes ≡ batch_text total entries ++ rest = behind-head (λ n. batch_head_text (n, total)) count entries bytes more rest head counted is in (
          ((subst (λ (n : ℕ). IsTrue (is_batch_count n)) (sym counted) good.0, good.1), (told, each)),
          ap (λ (t : List ℕ). codes "batch " ++ t) whole ∙ ap (λ (t : List ℕ). t ++ rest) (batch_text-is total entries),
        )

    pub batch-takes : (bytes : List ℕ) (block : Block) (rest : List ℕ) → batch_at airport bytes ≡ Some (block, rest) → IsRest airport (codes "batch " ++ bytes) block rest
    unfolding batch_at
    batch-takes bytes block rest e =
        let a = some-both (word_then batch_count_of (word_last total_of) bytes) _ (block, rest) e in
        let b = some-both (rows_at (entry_at airport) a.0.0.0 a.0.1) _ (block, rest) a.2 in
        let d = some-map (batch_of a.0.0.1 b.0.0) _ (block, rest) b.2 in
        let told = kept (list_all is_told b.0.0) (Batch a.0.0.1 b.0.0) d.0 d.1 in
        let head = batch_head-spelling.takes bytes a.0.0 a.0.1 a.1 in
        let entries = rows-takes (entry-spelling airport well) a.0.0.0 a.0.1 b.0.0 b.0.1 b.1 in
        subst (λ (p : Block × List ℕ). IsRest airport (codes "batch " ++ bytes) p.0 p.1) d.2
        (subst (λ (batch : Block). IsRest airport (codes "batch " ++ bytes) batch b.0.1) told.1
        (batch-is a.0.0.0 a.0.0.1 b.0.0 bytes a.0.1 b.0.1 head.0 head.1 entries.0 ((told-all b.0.0).0 told.0) (All-from_recursion (IsPrintableEntry airport) b.0.0 entries.1) entries.2))

    -- the same where a flight is late
    late-is : (flight : List ℕ) (count : ℕ) (entries : List (List ℕ × Entry)) (bytes more rest : List ℕ) → IsLateHead (flight, count) → bytes ≡ late_head_text (flight, count) ++ more
        → length entries ≡ count → All (IsPrintableEntry airport) entries → more ≡ all_text entries ++ rest → IsRest airport (codes "late " ++ bytes) (Late flight entries) rest
    unfolding late_text
    late-is flight count entries bytes more rest good head counted each is =
        let whole : bytes ≡ late_text flight entries ++ rest = behind-head (λ n. late_head_text (flight, n)) count entries bytes more rest head counted is in (
          (good.0, (subst (λ (n : ℕ). (0 < n) × IsCount n) (sym counted) good.1, each)),
          ap (λ (t : List ℕ). codes "late " ++ t) whole ∙ ap (λ (t : List ℕ). t ++ rest) (late_text-is flight entries),
        )

    pub late-takes : (bytes : List ℕ) (block : Block) (rest : List ℕ) → late_at airport bytes ≡ Some (block, rest) → IsRest airport (codes "late " ++ bytes) block rest
    unfolding late_at
    late-takes bytes block rest e =
        let a = some-both (word_then name_of (word_last some_count_of) bytes) _ (block, rest) e in
        let b = some-map (rows_at (entry_at airport) a.0.0.1 a.0.1) _ (block, rest) a.2 in
        let head = late_head-spelling.takes bytes a.0.0 a.0.1 a.1 in
        let entries = rows-takes (entry-spelling airport well) a.0.0.1 a.0.1 b.0.0 b.0.1 b.1 in
        subst (λ (p : Block × List ℕ). IsRest airport (codes "late " ++ bytes) p.0 p.1) b.2
        (late-is a.0.0.0 a.0.0.1 b.0.0 bytes a.0.1 b.0.1 head.0 head.1 entries.0 (All-from_recursion (IsPrintableEntry airport) b.0.0 entries.1) entries.2)
