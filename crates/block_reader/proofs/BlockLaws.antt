-- Each block is read as it was printed, and nothing else is read.
use Rattle.std.proofs.Common.{◌≡◌, ◌∙◌, ℕ, List, [], ◌∷◌, ◌++◌, length, Some, codes, decimal, refl, sym, ap, subst, append-nil}
use Rattle.std.specs.Prelude.{option_map}
use Rattle.taxi_base.specs.declared.numbers.Segment.{Segment}
use Rattle.taxi_base.specs.declared.rows.Span.{Span}
use Rattle.taxi_base.specs.declared.rows.HeldRow.{HeldRow}
use Rattle.taxi_base.specs.declared.rows.FlightRow.{FlightRow}
use Rattle.taxi_base.specs.declared.answers.Refusal.{Refusal}
use Rattle.taxi_base.specs.declared.answers.Refusal.TheVariants as refusal
use Rattle.taxi_base.specs.Airport.{Airport, IsWellFormed}
use Rattle.taxi_text.specs.Fields.{name_of}
use Rattle.airport_file.specs.Words.{segment_word}
use Rattle.replies.specs.declared.block.Block.{Block}
use Rattle.replies.specs.declared.block.Block.TheVariants.{Refused, Filed, Cancelled, Route, NoRoute, Windows, Occupancy, Timetable, Batch, Late}
use Rattle.replies.specs.Texts.{line_text, window_words, held_words, flight_words, refusal_words, block_text}
use Rattle.replies.specs.Printable.{IsShort, IsName, IsPrintable}
use Rattle.block_reader.specs.Fields.{number_of}
use Rattle.block_reader.specs.Reading.{word_then, word_last}
use Rattle.block_reader.specs.Blocks.{refused_at, filed_at, cancelled_at, found_at, windows_at, occupancy_at, timetable_at, block_at}
use Rattle.block_reader.proofs.Spellings.{Takes, IsSpelling, last-spelling, then-spelling, made-takes, either-takes}
use Rattle.block_reader.proofs.RefusalLaws.{refusal_text, refusal-spelling}
use Rattle.block_reader.proofs.Words.{number-word, name-word}
use Rattle.block_reader.proofs.RowLaws.{lines-all, counted_text, counted-again, counted-takes, window-spelling, held-spelling, flight-spelling, of_segment_text, of_segment-again, of_segment-takes}
use Rattle.block_reader.proofs.RouteLaws.{text, IsRest, route_text-is, no_route_text-is, route-again, no_route-again, found-takes}
use Rattle.block_reader.proofs.EntryBlocks.{batch_text-is, batch-takes, batch-again, late_text-is, late-takes, late-again}

-- ---- short blocks

refused_text-is : (why : Refusal) → codes "refused " ++ refusal_text why ≡ line_text (codes "refused" ∷ refusal_words why)
refused_text-is refusal.BadLine = refl
refused_text-is refusal.InForce = refl
refused_text-is refusal.UnknownClass = refl
refused_text-is refusal.UnknownNode = refl
refused_text-is refusal.WrongKind = refl
refused_text-is refusal.UnknownSegment = refl
refused_text-is refusal.NotInForce = refl
refused_text-is refusal.NotRouted = refl
refused_text-is refusal.NotArrival = refl
refused_text-is (refusal.AlreadyDone end) = refl
refused_text-is (refusal.AlreadyMoving start) = refl
refused_text-is refusal.Full = refl
refused_text-is (refusal.Step fault) = refl
refused_text-is (refusal.NotMoving start) = refl
refused_text-is (refusal.NotLate leave) = refl
refused_text-is (refusal.PastEnd horizon) = refl
refused_text-is refusal.Memory = refl

filed_text : List ℕ × (ℕ × ℕ) → List ℕ
filed_text p = p.0 ++ 32 ∷ (decimal p.1.0 ++ 32 ∷ (decimal p.1.1 ++ 10 ∷ []))

filed-spelling : IsSpelling (λ (p : List ℕ × (ℕ × ℕ)). IsName p.0 × (IsShort p.1.0 × IsShort p.1.1)) filed_text (word_then name_of (word_then number_of (word_last number_of)))
unfolding filed_text
filed-spelling = then-spelling name-word (then-spelling number-word (last-spelling number-word))

cancelled-spelling : IsSpelling IsName (λ name. name ++ 10 ∷ []) (word_last name_of)
cancelled-spelling = last-spelling name-word

module _ (airport : Airport) where
  timetable_text-is : (flights : List FlightRow) → codes "timetable " ++ counted_text (flight_words airport) flights ≡ text airport (Timetable flights)
  unfolding block_text
  timetable_text-is flights = ap (λ (t : List ℕ). codes "timetable " ++ ((decimal (length flights) ++ 10 ∷ []) ++ t)) (sym (lines-all (flight_words airport) flights))

  windows_text-is : (segment : Segment) (windows : List Span) → codes "windows " ++ of_segment_text airport window_words segment windows ≡ text airport (Windows segment windows)
  unfolding block_text
  windows_text-is segment windows = ap (λ (t : List ℕ). codes "windows " ++ ((segment_word airport segment ++ 32 ∷ (decimal (length windows) ++ 10 ∷ [])) ++ t)) (sym (lines-all window_words windows))

  occupancy_text-is : (segment : Segment) (held : List HeldRow) → codes "occupancy " ++ of_segment_text airport (held_words airport) segment held ≡ text airport (Occupancy segment held)
  unfolding block_text
  occupancy_text-is segment held = ap (λ (t : List ℕ). codes "occupancy " ++ ((segment_word airport segment ++ 32 ∷ (decimal (length held) ++ 10 ∷ [])) ++ t)) (sym (lines-all (held_words airport) held))

  -- ---- what is read is printed so

  filed_text-is : (p : List ℕ × (ℕ × ℕ)) → codes "filed " ++ filed_text p ≡ text airport (Filed p.0 p.1.0 p.1.1)
  unfolding block_text filed_text
  filed_text-is p = sym (append-nil _)

  cancelled_text-is : (name : List ℕ) → codes "cancelled " ++ (name ++ 10 ∷ []) ≡ text airport (Cancelled name)
  unfolding block_text
  cancelled_text-is name = sym (append-nil _)

  refusal_text-is : (why : Refusal) → codes "refused " ++ refusal_text why ≡ text airport (Refused why)
  unfolding block_text
  refusal_text-is why = refused_text-is why ∙ sym (append-nil _)

  module _ (well : IsWellFormed airport) where
    timetable-takes : (bytes : List ℕ) (block : Block) (rest : List ℕ) → timetable_at airport bytes ≡ Some (block, rest) → IsRest airport (codes "timetable " ++ bytes) block rest
    unfolding timetable_at
    timetable-takes bytes block rest e =
        let t = counted-takes (flight_words airport) (flight-spelling airport well) Timetable bytes block rest e in
        subst (λ b. IsRest airport (codes "timetable " ++ bytes) b rest) t.made
        (t.good, ap (λ (r : List ℕ). codes "timetable " ++ r) t.is ∙ ap (λ (r : List ℕ). r ++ rest) (timetable_text-is t.rows))

    windows-takes : (bytes : List ℕ) (block : Block) (rest : List ℕ) → windows_at airport bytes ≡ Some (block, rest) → IsRest airport (codes "windows " ++ bytes) block rest
    unfolding windows_at
    windows-takes bytes block rest e =
        let t = of_segment-takes window_words (window-spelling airport) airport well Windows bytes block rest e in
        subst (λ b. IsRest airport (codes "windows " ++ bytes) b rest) t.made
        (t.good, ap (λ (r : List ℕ). codes "windows " ++ r) t.is ∙ ap (λ (r : List ℕ). r ++ rest) (windows_text-is t.segment t.rows))

    occupancy-takes : (bytes : List ℕ) (block : Block) (rest : List ℕ) → occupancy_at airport bytes ≡ Some (block, rest) → IsRest airport (codes "occupancy " ++ bytes) block rest
    unfolding occupancy_at
    occupancy-takes bytes block rest e =
        let t = of_segment-takes (held_words airport) (held-spelling airport well) airport well Occupancy bytes block rest e in
        subst (λ b. IsRest airport (codes "occupancy " ++ bytes) b rest) t.made
        (t.good, ap (λ (r : List ℕ). codes "occupancy " ++ r) t.is ∙ ap (λ (r : List ℕ). r ++ rest) (occupancy_text-is t.segment t.rows))

    -- what is read is a printable block, whose text stands at the front
    pub block-takes : Takes (IsPrintable airport) (text airport) (block_at airport)
    unfolding block_at refused_at filed_at cancelled_at
    block-takes =
        either-takes (IsPrintable airport) (text airport) (codes "refused ")
        (made-takes refusal_text (IsPrintable airport) (text airport) Refused (codes "refused ") (λ why good. good) refusal_text-is refusal-spelling.takes)
        (either-takes (IsPrintable airport) (text airport) (codes "filed ")
        (made-takes filed_text (IsPrintable airport) (text airport) (λ p. Filed p.0 p.1.0 p.1.1) (codes "filed ") (λ p good. good) filed_text-is filed-spelling.takes)
        (either-takes (IsPrintable airport) (text airport) (codes "cancelled ")
        (made-takes (λ name. name ++ 10 ∷ []) (IsPrintable airport) (text airport) Cancelled (codes "cancelled ") (λ name good. good) cancelled_text-is cancelled-spelling.takes)
        (either-takes (IsPrintable airport) (text airport) (codes "windows ") windows-takes
        (either-takes (IsPrintable airport) (text airport) (codes "occupancy ") occupancy-takes
        (either-takes (IsPrintable airport) (text airport) (codes "timetable ") timetable-takes
        (either-takes (IsPrintable airport) (text airport) (codes "batch ") (batch-takes airport well)
        (either-takes (IsPrintable airport) (text airport) (codes "late ") (late-takes airport well) (found-takes airport well))))))))

    -- ---- what is printed is read again

    timetable-again : (flights : List FlightRow) (rest : List ℕ) → IsPrintable airport (Timetable flights) → timetable_at airport (counted_text (flight_words airport) flights ++ rest) ≡ Some (Timetable flights, rest)
    unfolding timetable_at
    timetable-again flights rest good = counted-again (flight_words airport) (flight-spelling airport well) Timetable flights rest good

    windows-again : (segment : Segment) (windows : List Span) (rest : List ℕ) → IsPrintable airport (Windows segment windows)
        → windows_at airport (of_segment_text airport window_words segment windows ++ rest) ≡ Some (Windows segment windows, rest)
    unfolding windows_at
    windows-again segment windows rest good = of_segment-again window_words (window-spelling airport) airport well Windows segment windows rest good

    occupancy-again : (segment : Segment) (held : List HeldRow) (rest : List ℕ) → IsPrintable airport (Occupancy segment held)
        → occupancy_at airport (of_segment_text airport (held_words airport) segment held ++ rest) ≡ Some (Occupancy segment held, rest)
    unfolding occupancy_at
    occupancy-again segment held rest good = of_segment-again (held_words airport) (held-spelling airport well) airport well Occupancy segment held rest good

    pub block-again : (block : Block) (rest : List ℕ) → IsPrintable airport block → block_at airport (text airport block ++ rest) ≡ Some (block, rest)
    unfolding block_at refused_at filed_at cancelled_at found_at
    block-again (Refused why) rest good =
        ap (λ (t : List ℕ). block_at airport (t ++ rest)) (sym (refusal_text-is why)) ∙ ap (option_map (λ x. (Refused x.0, x.1))) (refusal-spelling.again why rest good)
    block-again (Filed flight start end) rest good =
        ap (λ (t : List ℕ). block_at airport (t ++ rest)) (sym (filed_text-is (flight, (start, end)))) ∙ ap (option_map (λ x. (Filed x.0.0 x.0.1.0 x.0.1.1, x.1))) (filed-spelling.again (flight, (start, end)) rest good)
    block-again (Cancelled flight) rest good =
        ap (λ (t : List ℕ). block_at airport (t ++ rest)) (sym (cancelled_text-is flight)) ∙ ap (option_map (λ x. (Cancelled x.0, x.1))) (cancelled-spelling.again flight rest good)
    block-again (Route flight second steps labels) rest good =
        ap (λ (t : List ℕ). block_at airport (t ++ rest)) (sym (route_text-is airport flight second steps labels)) ∙ route-again airport well flight second steps labels rest good
    block-again (NoRoute labels) rest good = ap (λ (t : List ℕ). block_at airport (t ++ rest)) (sym (no_route_text-is airport labels)) ∙ no_route-again airport well labels rest good
    block-again (Windows segment windows) rest good = ap (λ (t : List ℕ). block_at airport (t ++ rest)) (sym (windows_text-is segment windows)) ∙ windows-again segment windows rest good
    block-again (Occupancy segment held) rest good = ap (λ (t : List ℕ). block_at airport (t ++ rest)) (sym (occupancy_text-is segment held)) ∙ occupancy-again segment held rest good
    block-again (Timetable flights) rest good = ap (λ (t : List ℕ). block_at airport (t ++ rest)) (sym (timetable_text-is flights)) ∙ timetable-again flights rest good
    block-again (Batch total entries) rest good =
        ap (λ (t : List ℕ). block_at airport (t ++ rest)) (sym (batch_text-is airport total entries)) ∙ batch-again airport well total entries rest good
    block-again (Late flight entries) rest good =
        ap (λ (t : List ℕ). block_at airport (t ++ rest)) (sym (late_text-is airport flight entries)) ∙ late-again airport well flight entries rest good
