-- An object gives the lines of its block again.
use Rattle.std.proofs.Common.{◌≡◌, suc, ◌<◌, ◌≤◌, ◌++◌, ◌∷◌, ◌∙◌, [], inl, inr, ℕ, List, map, flat_map, codes, decimal, length, Option, Some, None, refl, ap, ap₂, subst}
use Rattle.std.specs.Prelude.{◌⊎◌, All, IsTrue, get_or, unwrap_or, encode_utf8_all}
use Rattle.std.specs.List.{slice_get}
use Rattle.std.proofs.lemmas.List.Elements.{All-head, All-tail}
use Rattle.std.proofs.lemmas.Option.{slice_get_cases, slice_get-map}
use Rattle.taxi_base.specs.declared.numbers.Arc.{Arc}
use Rattle.taxi_base.specs.declared.numbers.Class.{Class}
use Rattle.taxi_base.specs.declared.numbers.Segment.{Segment}
use Rattle.taxi_base.specs.declared.rows.Step.{Step}
use Rattle.taxi_base.specs.declared.rows.Span.{Span}
use Rattle.taxi_base.specs.declared.rows.LabelRow.{LabelRow}
use Rattle.taxi_base.specs.declared.rows.HeldRow.{HeldRow}
use Rattle.taxi_base.specs.declared.rows.FlightRow.{FlightRow}
use Rattle.taxi_base.specs.declared.answers.StepCause.{StepCause}
use Rattle.taxi_base.specs.declared.answers.StepCause.TheVariants.{ClassBarred, BadTurn, TooFast, PastHorizon, Taken}
use Rattle.taxi_base.specs.declared.answers.StepFault.{StepFault}
use Rattle.taxi_base.specs.declared.answers.Refusal.{Refusal}
use Rattle.taxi_base.specs.declared.answers.Refusal.TheVariants as refusal
use Rattle.taxi_base.specs.Words.{is_name}
use Rattle.taxi_base.specs.Airport.{Airport, AreNames, IsWellFormed, segment_of}
use Rattle.taxi_base.proofs.NameDigits.{name-bytes}
use Rattle.airport_file.specs.Words.{class_word, segment_word, word_of_arc}
use Rattle.replies.specs.Texts.{lines_text, kind_word, step_words, label_words, window_words, held_words, flight_words, route_lines, no_route_lines, entry_lines, block_lines, block_text}
use Rattle.replies.specs.Printable.{IsName, IsPrintableHeld, IsPrintableFlight, IsPrintableCause, IsPrintableRefusal, IsPrintableEntry, IsPrintable}
use Rattle.replies.specs.declared.block.Block.{Block}
use Rattle.replies.specs.declared.block.Block.TheVariants.{Refused, Filed, Cancelled, Route, NoRoute, Windows, Occupancy, Timetable, Batch, Late}
use Rattle.replies.specs.declared.entries.Entry.{Entry}
use Rattle.replies.specs.declared.entries.Entry.TheVariants as entry
use Rattle.transcripts.specs.Runs.{done_line, blocks_text, transcript}
use Rattle.serde_json.specs.Data.{Data}
use Rattle.serde_json.specs.View.{items_of}
use Rattle.reply_json.specs.Replies.{step_object, label_object, window_object, held_object, flight_object, entry_object}
use Rattle.reply_json.specs.Lines.{command_object}
use Rattle.reply_json.specs.Reading.{Words, words_at, values_of, entry_at, block_at, block_text_of, transcript_of, TellOf}
use Rattle.reply_json.proofs.Quoted.{ArePlain, encode-plain, names-plain, plain-append, sign-plain}

-- ---- names

name-same : (name : List ℕ) → IsName name → encode_utf8_all name ≡ name
name-same name is = encode-plain name (names-plain name (name-bytes name is))

named-plain : (most : ℕ) (names : List (List ℕ)) (k : ℕ) → AreNames most names → ArePlain (unwrap_or (slice_get names k) [])
named-plain most names k are = go (slice_get_cases names k).1 where
  go : ((x : List ℕ) × (k < length names) × (slice_get names k ≡ Some x) × (get_or names k x ≡ x)) ⊎ ((length names ≤ k) × (slice_get names k ≡ None)) → ArePlain (unwrap_or (slice_get names k) [])
  go (inl (x, within, found, is)) = rw found (names-plain x (name-bytes x (subst (λ (n : List ℕ). IsTrue (is_name n)) is (are.each k x within))))
  go (inr (past, none)) = rw none tt

module _ (airport : Airport) (rules : IsWellFormed airport) where
  segment-plain : (segment : Segment) → ArePlain (segment_word airport segment)
  segment-plain segment = subst (λ (o : Option (List ℕ)). ArePlain (unwrap_or o [])) (slice_get-map (λ s. s.name) airport.segments segment.0) (named-plain 10000 (map (λ s. s.name) airport.segments) segment.0 rules.segments)

  segment-same : (segment : Segment) → encode_utf8_all (segment_word airport segment) ≡ segment_word airport segment
  segment-same segment = encode-plain (segment_word airport segment) (segment-plain segment)

  class-same : (class : Class) → encode_utf8_all (class_word airport class) ≡ class_word airport class
  class-same class =
      encode-plain (class_word airport class)
      (subst (λ (o : Option (List ℕ)). ArePlain (unwrap_or o [])) (slice_get-map (λ c. c.name) airport.classes class.0) (named-plain 32 (map (λ c. c.name) airport.classes) class.0 rules.classes))

  arc-same : (arc : Arc) → encode_utf8_all (word_of_arc airport arc) ≡ word_of_arc airport arc
  arc-same arc = encode-plain (word_of_arc airport arc) (plain-append (segment_word airport (segment_of arc)) _ (segment-plain (segment_of arc)) (sign-plain _, tt))

  -- ---- rows

  count-same : {X : Type 0} (value : X → Data) (rows : List X) → length (values_of (items_of (map value rows))) ≡ length rows
  count-same value [] = refl
  count-same value (row ∷ rows) = ap suc (count-same value rows)

  step-same : (steps : List Step) → map (λ row. codes "step" ∷ words_at (codes "arc" ∷ codes "enter" ∷ codes "leave" ∷ []) row) (values_of (items_of (map (step_object airport) steps))) ≡ map (step_words airport) steps
  step-same [] = refl
  step-same (step ∷ steps) = ap₂ (λ (w : List ℕ) (l : List Words). (codes "step" ∷ w ∷ decimal step.enter ∷ decimal step.leave ∷ []) ∷ l) (arc-same step.arc) (step-same steps)

  label-same : (labels : List LabelRow) → map (λ row. codes "label" ∷ words_at (codes "arc" ∷ codes "from" ∷ codes "until" ∷ codes "value" ∷ []) row) (values_of (items_of (map (label_object airport) labels))) ≡ map (label_words airport) labels
  label-same [] = refl
  label-same (label ∷ labels) = ap₂ (λ (w : List ℕ) (l : List Words). (codes "label" ∷ w ∷ decimal label.from ∷ decimal label.until ∷ decimal label.value ∷ []) ∷ l) (arc-same label.arc) (label-same labels)

  window-same : (windows : List Span) → map (λ row. codes "window" ∷ words_at (codes "from" ∷ codes "until" ∷ []) row) (values_of (items_of (map window_object windows))) ≡ map window_words windows
  window-same [] = refl
  window-same (window ∷ windows) = ap (λ (l : List Words). window_words window ∷ l) (window-same windows)

  held-same : (rows : List HeldRow) → All (IsPrintableHeld airport) rows → map (λ row. codes "held" ∷ words_at (codes "from" ∷ codes "until" ∷ codes "flight" ∷ codes "segment" ∷ []) row) (values_of (items_of (map (held_object airport) rows))) ≡ map (held_words airport) rows
  held-same [] all = refl
  held-same (row ∷ rows) all =
      let first = All-head (IsPrintableHeld airport) row rows all in
      ap₂ (λ (w : Words) (l : List Words). (codes "held" ∷ decimal row.from ∷ decimal row.until ∷ w) ∷ l)
      (ap₂ (λ (a : List ℕ) (b : List ℕ). a ∷ b ∷ []) (name-same row.flight first.1.1.0) (segment-same row.segment)) (held-same rows (All-tail (IsPrintableHeld airport) row rows all))

  flight-same : (rows : List FlightRow) → All (IsPrintableFlight airport) rows → map (λ row. codes "flight" ∷ words_at (codes "flight" ∷ codes "kind" ∷ codes "class" ∷ codes "start" ∷ codes "end" ∷ []) row) (values_of (items_of (map (flight_object airport) rows))) ≡ map (flight_words airport) rows
  flight-same [] all = refl
  flight-same (row ∷ rows) all =
      let first = All-head (IsPrintableFlight airport) row rows all in
      ap₂ (λ (w : Words) (l : List Words). (codes "flight" ∷ w) ∷ l)
      (ap₂ (λ (a : List ℕ) (b : List ℕ). a ∷ kind_word row.kind ∷ b ∷ decimal row.start ∷ decimal row.end ∷ []) (name-same row.flight first.0) (class-same row.class)) (flight-same rows (All-tail (IsPrintableFlight airport) row rows all))

  -- ---- routes

  -- what a route's members give
  route-lines : (name : List ℕ) (second : ℕ) (steps : List Step) (labels : List LabelRow) → IsName name
      → ((codes "route" ∷ encode_utf8_all name ∷ decimal second ∷ decimal (length (values_of (items_of (map (step_object airport) steps)))) ∷ decimal (length (values_of (items_of (map (label_object airport) labels)))) ∷ [])
      ∷ (map (λ row. codes "step" ∷ words_at (codes "arc" ∷ codes "enter" ∷ codes "leave" ∷ []) row) (values_of (items_of (map (step_object airport) steps)))
      ++ map (λ row. codes "label" ∷ words_at (codes "arc" ∷ codes "from" ∷ codes "until" ∷ codes "value" ∷ []) row) (values_of (items_of (map (label_object airport) labels)))))
      ≡ route_lines airport name second steps labels
  route-lines name second steps labels is = rw (name-same name is, count-same (step_object airport) steps, count-same (label_object airport) labels, step-same steps, label-same labels) refl

  no_route-lines : (labels : List LabelRow)
      → ((codes "no-route" ∷ decimal (length (values_of (items_of (map (label_object airport) labels)))) ∷ [])
      ∷ map (λ row. codes "label" ∷ words_at (codes "arc" ∷ codes "from" ∷ codes "until" ∷ codes "value" ∷ []) row) (values_of (items_of (map (label_object airport) labels))))
      ≡ no_route_lines airport labels
  no_route-lines labels = rw (count-same (label_object airport) labels, label-same labels) refl

  entry-same : (one : List ℕ × Entry) → IsPrintableEntry airport one → entry_at (entry_object airport one) ≡ entry_lines airport one
  entry-same (name, entry.Route second steps labels) is =
      ap₂ (λ (w : List ℕ) (l : List Words). (codes "next" ∷ w ∷ []) ∷ l) (name-same name is.0.0) (route-lines name second steps labels is.0.0)
  entry-same (name, entry.NoRoute labels) is = ap₂ (λ (w : List ℕ) (l : List Words). (codes "next" ∷ w ∷ []) ∷ l) (name-same name is.0) (no_route-lines labels)
  entry-same (name, entry.Dropped) is = ap (λ (w : List ℕ). (codes "dropped" ∷ w ∷ []) ∷ []) (name-same name is)

  entries-same : (entries : List (List ℕ × Entry)) → All (IsPrintableEntry airport) entries → flat_map entry_at (values_of (items_of (map (entry_object airport) entries))) ≡ flat_map (entry_lines airport) entries
  entries-same [] all = refl
  entries-same (one ∷ entries) all = ap₂ (λ (a : List Words) (b : List Words). a ++ b) (entry-same one (All-head (IsPrintableEntry airport) one entries all)) (entries-same entries (All-tail (IsPrintableEntry airport) one entries all))

  -- ---- blocks

  module _ (command line : ℕ) (text : List ℕ) where
    abbrev told : Block → Data
    told block = command_object airport command line text block

    step-refused : (fault : StepFault) → IsPrintableCause fault.cause → block_at (told (Refused (refusal.Step fault))) ≡ block_lines airport (Refused (refusal.Step fault))
    step-refused fault is = go fault.number fault.cause is where
      go : (number : ℕ) (cause : StepCause) → IsPrintableCause cause
          → block_at (told (Refused (refusal.Step (record { number = number; cause = cause })))) ≡ block_lines airport (Refused (refusal.Step (record { number = number; cause = cause })))
      go number ClassBarred is = refl
      go number BadTurn is = refl
      go number TooFast is = refl
      go number PastHorizon is = refl
      go number (Taken at by) is = ap (λ (w : List ℕ). (codes "refused" ∷ codes "step" ∷ decimal number ∷ codes "taken" ∷ decimal at ∷ w ∷ []) ∷ []) (name-same by is.1)

    refused-same : (why : Refusal) → IsPrintableRefusal why → block_at (told (Refused why)) ≡ block_lines airport (Refused why)
    refused-same refusal.BadLine is = refl
    refused-same refusal.InForce is = refl
    refused-same refusal.UnknownClass is = refl
    refused-same refusal.UnknownNode is = refl
    refused-same refusal.WrongKind is = refl
    refused-same refusal.UnknownSegment is = refl
    refused-same refusal.NotInForce is = refl
    refused-same refusal.NotRouted is = refl
    refused-same refusal.NotArrival is = refl
    refused-same (refusal.AlreadyDone end) is = refl
    refused-same (refusal.AlreadyMoving start) is = refl
    refused-same refusal.Full is = refl
    refused-same (refusal.Step fault) is = step-refused fault is.1
    refused-same (refusal.NotMoving start) is = refl
    refused-same (refusal.NotLate leave) is = refl
    refused-same (refusal.PastEnd horizon) is = refl
    refused-same refusal.Memory is = refl

    pub block-same : (block : Block) → IsPrintable airport block → block_at (told block) ≡ block_lines airport block
    block-same (Refused why) is = refused-same why is
    block-same (Filed flight start end) is = ap (λ (w : List ℕ). (codes "filed" ∷ w ∷ decimal start ∷ decimal end ∷ []) ∷ []) (name-same flight is.0)
    block-same (Cancelled flight) is = ap (λ (w : List ℕ). (codes "cancelled" ∷ w ∷ []) ∷ []) (name-same flight is)
    block-same (Route flight second steps labels) is = route-lines flight second steps labels is.0.0
    block-same (NoRoute labels) is = no_route-lines labels
    block-same (Windows segment windows) is = rw (segment-same segment, count-same window_object windows, window-same windows) refl
    block-same (Occupancy segment held) is = rw (segment-same segment, count-same (held_object airport) held, held-same held is.1) refl
    block-same (Timetable flights) is = rw (count-same (flight_object airport) flights, flight-same flights is.1) refl
    block-same (Batch total entries) is = rw (count-same (entry_object airport) entries, entries-same entries is.1.1) refl
    block-same (Late flight entries) is = rw (name-same flight is.0, count-same (entry_object airport) entries, entries-same entries is.1.1) refl

    pub text-same : (block : Block) → IsPrintable airport block → block_text_of (told block) ≡ block_text airport block
    unfolding block_text_of block_text
    text-same block is = ap lines_text (block-same block is)

  -- ---- a run

  texts-same : (blocks : List Block) (objects : List Data) → All (IsPrintable airport) blocks → TellOf airport objects blocks → flat_map block_text_of objects ≡ blocks_text airport blocks
  texts-same [] [] all tell = refl
  texts-same [] (one ∷ objects) all tell = absurd tell
  texts-same (block ∷ blocks) [] all tell = absurd tell
  texts-same (block ∷ blocks) (one ∷ objects) all tell =
      let gives = tell.0 in
      ap₂ (λ (a : List ℕ) (b : List ℕ). a ++ b) (ap block_text_of gives.3 ∙ text-same gives.0 gives.1 gives.2 block (All-head (IsPrintable airport) block blocks all)) (texts-same blocks objects (All-tail (IsPrintable airport) block blocks all) tell.1)

  as-many : (blocks : List Block) (objects : List Data) → TellOf airport objects blocks → length objects ≡ length blocks
  as-many [] [] tell = refl
  as-many [] (one ∷ objects) tell = absurd tell
  as-many (block ∷ blocks) [] tell = absurd tell
  as-many (block ∷ blocks) (one ∷ objects) tell = ap suc (as-many blocks objects tell.1)

  pub whole-same : (blocks : List Block) (objects : List Data) → All (IsPrintable airport) blocks → TellOf airport objects blocks → transcript_of objects ≡ transcript airport blocks
  whole-same blocks objects all tell = ap₂ (λ (a : List ℕ) (n : ℕ). a ++ done_line n) (texts-same blocks objects all tell) (as-many blocks objects tell)
