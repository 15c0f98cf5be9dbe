-- The text of each object, piece by piece.
use Rattle.std.proofs.Common.{◌≡◌, ◌++◌, ◌∷◌, ◌∙◌, [], ℕ, List, map, codes, decimal, ap}
use Rattle.taxi_base.specs.declared.numbers.Segment.{Segment}
use Rattle.taxi_base.specs.declared.rows.Step.{Step}
use Rattle.taxi_base.specs.declared.rows.Span.{Span}
use Rattle.taxi_base.specs.declared.rows.LabelRow.{LabelRow}
use Rattle.taxi_base.specs.declared.rows.HeldRow.{HeldRow}
use Rattle.taxi_base.specs.declared.rows.FlightRow.{FlightRow}
use Rattle.taxi_base.specs.Airport.{Airport}
use Rattle.taxi_text.specs.Words.{words_of}
use Rattle.airport_file.specs.Words.{class_word, segment_word, word_of_arc}
use Rattle.replies.specs.Texts.{kind_word}
use Rattle.replies.specs.declared.block.Block.TheVariants.{Filed, Cancelled, Route, NoRoute, Windows, Occupancy, Timetable, Batch, Late}
use Rattle.replies.specs.declared.entries.Entry.{Entry}
use Rattle.replies.specs.declared.entries.Entry.TheVariants as entry
use Rattle.serde_json.specs.Written.{compact_text}
use Rattle.serde_json.proofs.OnLiterals.{serde_json_on_literals}
use Rattle.reply_json.specs.Values.{text_value, word_value, list_value}
use Rattle.reply_json.specs.Replies.{step_object, label_object, window_object, held_object, flight_object, entry_object}
use Rattle.reply_json.specs.Lines.{command_object}
use Rattle.reply_json.proofs.InARow.{after, in_a_row-after, part-after}

-- the text of a string, and of lists
abbrev quoted : List ℕ → List ℕ
quoted bytes = compact_text (text_value bytes)

abbrev words_text : List ℕ → List ℕ
words_text text = compact_text (list_value (map text_value (words_of text)))

abbrev steps_text : Airport → List Step → List ℕ
steps_text airport steps = compact_text (list_value (map (step_object airport) steps))

abbrev labels_text : Airport → List LabelRow → List ℕ
labels_text airport labels = compact_text (list_value (map (label_object airport) labels))

-- ---- rows

pub step-text : (airport : Airport) (step : Step) (old : List ℕ)
    → after old (codes "{\"arc\":" ∷ quoted (word_of_arc airport step.arc) ∷ codes ",\"enter\":" ∷ decimal step.enter ∷ codes ",\"leave\":" ∷ decimal step.leave ∷ codes "}" ∷ [])
    ≡ old ++ compact_text (step_object airport step)
unfolding serde_json_on_literals
step-text airport step old = in_a_row-after old (codes "{\"arc\":" ∷ quoted (word_of_arc airport step.arc) ∷ codes ",\"enter\":" ∷ decimal step.enter ∷ codes ",\"leave\":" ∷ decimal step.leave ∷ codes "}" ∷ [])

pub label-text : (airport : Airport) (label : LabelRow) (old : List ℕ)
    → after old (codes "{\"arc\":" ∷ quoted (word_of_arc airport label.arc) ∷ codes ",\"from\":" ∷ decimal label.from ∷ codes ",\"until\":" ∷ decimal label.until ∷ codes ",\"value\":" ∷ decimal label.value ∷ codes "}" ∷ [])
    ≡ old ++ compact_text (label_object airport label)
unfolding serde_json_on_literals
label-text airport label old = in_a_row-after old (codes "{\"arc\":" ∷ quoted (word_of_arc airport label.arc) ∷ codes ",\"from\":" ∷ decimal label.from ∷ codes ",\"until\":" ∷ decimal label.until ∷ codes ",\"value\":" ∷ decimal label.value ∷ codes "}" ∷ [])

pub window-text : (window : Span) (old : List ℕ)
    → after old (codes "{\"from\":" ∷ decimal window.from ∷ codes ",\"until\":" ∷ decimal window.until ∷ codes "}" ∷ []) ≡ old ++ compact_text (window_object window)
unfolding serde_json_on_literals
window-text window old = in_a_row-after old (codes "{\"from\":" ∷ decimal window.from ∷ codes ",\"until\":" ∷ decimal window.until ∷ codes "}" ∷ [])

pub held-text : (airport : Airport) (row : HeldRow) (old : List ℕ)
    → after old (codes "{\"flight\":" ∷ quoted row.flight ∷ codes ",\"from\":" ∷ decimal row.from ∷ codes ",\"segment\":" ∷ quoted (segment_word airport row.segment) ∷ codes ",\"until\":" ∷ decimal row.until ∷ codes "}" ∷ [])
    ≡ old ++ compact_text (held_object airport row)
unfolding serde_json_on_literals
held-text airport row old = in_a_row-after old (codes "{\"flight\":" ∷ quoted row.flight ∷ codes ",\"from\":" ∷ decimal row.from ∷ codes ",\"segment\":" ∷ quoted (segment_word airport row.segment) ∷ codes ",\"until\":" ∷ decimal row.until ∷ codes "}" ∷ [])

pub flight-text : (airport : Airport) (row : FlightRow) (old : List ℕ)
    → after old (codes "{\"class\":" ∷ quoted (class_word airport row.class) ∷ codes ",\"end\":" ∷ decimal row.end ∷ codes ",\"flight\":" ∷ quoted row.flight ∷ codes ",\"kind\":" ∷ compact_text (word_value (kind_word row.kind))
    ∷ codes ",\"start\":" ∷ decimal row.start ∷ codes "}" ∷ [])
    ≡ old ++ compact_text (flight_object airport row)
unfolding serde_json_on_literals
flight-text airport row old = in_a_row-after old (codes "{\"class\":" ∷ quoted (class_word airport row.class) ∷ codes ",\"end\":" ∷ decimal row.end ∷ codes ",\"flight\":" ∷ quoted row.flight ∷ codes ",\"kind\":" ∷ compact_text (word_value (kind_word row.kind)) ∷ codes ",\"start\":" ∷ decimal row.start ∷ codes "}" ∷ [])

-- ---- entries

pub entry_route-text : (airport : Airport) (name : List ℕ) (second : ℕ) (steps : List Step) (labels : List LabelRow) (old : List ℕ)
    → after old (codes "{\"flight\":" ∷ quoted name ∷ codes ",\"labels\":" ∷ labels_text airport labels ∷ codes ",\"reply\":\"route\",\"second\":" ∷ decimal second ∷ codes ",\"steps\":" ∷ steps_text airport steps ∷ codes "}" ∷ [])
    ≡ old ++ compact_text (entry_object airport (name, entry.Route second steps labels))
unfolding serde_json_on_literals
entry_route-text airport name second steps labels old = in_a_row-after old (codes "{\"flight\":" ∷ quoted name ∷ codes ",\"labels\":" ∷ labels_text airport labels ∷ codes ",\"reply\":\"route\",\"second\":" ∷ decimal second ∷ codes ",\"steps\":" ∷ steps_text airport steps ∷ codes "}" ∷ [])

pub entry_none-text : (airport : Airport) (name : List ℕ) (labels : List LabelRow) (old : List ℕ)
    → after old (codes "{\"flight\":" ∷ quoted name ∷ codes ",\"labels\":" ∷ labels_text airport labels ∷ codes ",\"reply\":\"no-route\"}" ∷ [])
    ≡ old ++ compact_text (entry_object airport (name, entry.NoRoute labels))
unfolding serde_json_on_literals
entry_none-text airport name labels old = in_a_row-after old (codes "{\"flight\":" ∷ quoted name ∷ codes ",\"labels\":" ∷ labels_text airport labels ∷ codes ",\"reply\":\"no-route\"}" ∷ [])

pub dropped-text : (airport : Airport) (name old : List ℕ)
    → after old (codes "{\"flight\":" ∷ quoted name ∷ codes ",\"reply\":\"dropped\"}" ∷ []) ≡ old ++ compact_text (entry_object airport (name, entry.Dropped))
unfolding serde_json_on_literals
dropped-text airport name old = in_a_row-after old (codes "{\"flight\":" ∷ quoted name ∷ codes ",\"reply\":\"dropped\"}" ∷ [])

-- ---- replies

module _ (airport : Airport) (command line : ℕ) (text : List ℕ) (old : List ℕ) where
  pub route-text : (flight : List ℕ) (second : ℕ) (steps : List Step) (labels : List LabelRow)
      → after old (codes "{\"command\":" ∷ decimal command ∷ codes ",\"flight\":" ∷ quoted flight ∷ codes ",\"labels\":" ∷ labels_text airport labels ∷ codes ",\"line\":" ∷ decimal line
      ∷ codes ",\"reply\":\"route\",\"second\":" ∷ decimal second ∷ codes ",\"steps\":" ∷ steps_text airport steps ∷ codes ",\"words\":" ∷ words_text text ∷ (125 ∷ []) ∷ [])
      ≡ old ++ compact_text (command_object airport command line text (Route flight second steps labels))
  unfolding serde_json_on_literals
  route-text flight second steps labels = in_a_row-after old (codes "{\"command\":" ∷ decimal command ∷ codes ",\"flight\":" ∷ quoted flight ∷ codes ",\"labels\":" ∷ labels_text airport labels ∷ codes ",\"line\":" ∷ decimal line ∷ codes ",\"reply\":\"route\",\"second\":" ∷ decimal second ∷ codes ",\"steps\":" ∷ steps_text airport steps ∷ codes ",\"words\":" ∷ words_text text ∷ (125 ∷ []) ∷ [])

  pub no_route-text : (labels : List LabelRow)
      → after old (codes "{\"command\":" ∷ decimal command ∷ codes ",\"labels\":" ∷ labels_text airport labels ∷ codes ",\"line\":" ∷ decimal line ∷ codes ",\"reply\":\"no-route\""
      ∷ codes ",\"words\":" ∷ words_text text ∷ (125 ∷ []) ∷ [])
      ≡ old ++ compact_text (command_object airport command line text (NoRoute labels))
  unfolding serde_json_on_literals
  no_route-text labels = in_a_row-after old (codes "{\"command\":" ∷ decimal command ∷ codes ",\"labels\":" ∷ labels_text airport labels ∷ codes ",\"line\":" ∷ decimal line ∷ codes ",\"reply\":\"no-route\"" ∷ codes ",\"words\":" ∷ words_text text ∷ (125 ∷ []) ∷ [])

  pub filed-text : (flight : List ℕ) (start end : ℕ)
      → after old (codes "{\"command\":" ∷ decimal command ∷ codes ",\"end\":" ∷ decimal end ∷ codes ",\"flight\":" ∷ quoted flight ∷ codes ",\"line\":" ∷ decimal line
      ∷ codes ",\"reply\":\"filed\",\"start\":" ∷ decimal start ∷ codes ",\"words\":" ∷ words_text text ∷ (125 ∷ []) ∷ [])
      ≡ old ++ compact_text (command_object airport command line text (Filed flight start end))
  unfolding serde_json_on_literals
  filed-text flight start end = in_a_row-after old (codes "{\"command\":" ∷ decimal command ∷ codes ",\"end\":" ∷ decimal end ∷ codes ",\"flight\":" ∷ quoted flight ∷ codes ",\"line\":" ∷ decimal line ∷ codes ",\"reply\":\"filed\",\"start\":" ∷ decimal start ∷ codes ",\"words\":" ∷ words_text text ∷ (125 ∷ []) ∷ [])

  pub cancelled-text : (flight : List ℕ)
      → after old (codes "{\"command\":" ∷ decimal command ∷ codes ",\"flight\":" ∷ quoted flight ∷ codes ",\"line\":" ∷ decimal line ∷ codes ",\"reply\":\"cancelled\""
      ∷ codes ",\"words\":" ∷ words_text text ∷ (125 ∷ []) ∷ [])
      ≡ old ++ compact_text (command_object airport command line text (Cancelled flight))
  unfolding serde_json_on_literals
  cancelled-text flight = in_a_row-after old (codes "{\"command\":" ∷ decimal command ∷ codes ",\"flight\":" ∷ quoted flight ∷ codes ",\"line\":" ∷ decimal line ∷ codes ",\"reply\":\"cancelled\"" ∷ codes ",\"words\":" ∷ words_text text ∷ (125 ∷ []) ∷ [])

  pub windows-text : (segment : Segment) (windows : List Span)
      → after old (codes "{\"command\":" ∷ decimal command ∷ codes ",\"line\":" ∷ decimal line ∷ codes ",\"reply\":\"windows\"" ∷ codes ",\"segment\":" ∷ quoted (segment_word airport segment)
      ∷ codes ",\"windows\":" ∷ compact_text (list_value (map window_object windows)) ∷ codes ",\"words\":" ∷ words_text text ∷ (125 ∷ []) ∷ [])
      ≡ old ++ compact_text (command_object airport command line text (Windows segment windows))
  unfolding serde_json_on_literals
  windows-text segment windows = in_a_row-after old (codes "{\"command\":" ∷ decimal command ∷ codes ",\"line\":" ∷ decimal line ∷ codes ",\"reply\":\"windows\"" ∷ codes ",\"segment\":" ∷ quoted (segment_word airport segment) ∷ codes ",\"windows\":" ∷ compact_text (list_value (map window_object windows)) ∷ codes ",\"words\":" ∷ words_text text ∷ (125 ∷ []) ∷ [])

  pub occupancy-text : (segment : Segment) (held : List HeldRow)
      → after old (codes "{\"command\":" ∷ decimal command ∷ codes ",\"held\":" ∷ compact_text (list_value (map (held_object airport) held)) ∷ codes ",\"line\":" ∷ decimal line ∷ codes ",\"reply\":\"occupancy\""
      ∷ codes ",\"segment\":" ∷ quoted (segment_word airport segment) ∷ codes ",\"words\":" ∷ words_text text ∷ (125 ∷ []) ∷ [])
      ≡ old ++ compact_text (command_object airport command line text (Occupancy segment held))
  unfolding serde_json_on_literals
  occupancy-text segment held = in_a_row-after old (codes "{\"command\":" ∷ decimal command ∷ codes ",\"held\":" ∷ compact_text (list_value (map (held_object airport) held)) ∷ codes ",\"line\":" ∷ decimal line ∷ codes ",\"reply\":\"occupancy\"" ∷ codes ",\"segment\":" ∷ quoted (segment_word airport segment) ∷ codes ",\"words\":" ∷ words_text text ∷ (125 ∷ []) ∷ [])

  pub timetable-text : (flights : List FlightRow)
      → after old (codes "{\"command\":" ∷ decimal command ∷ codes ",\"flights\":" ∷ compact_text (list_value (map (flight_object airport) flights)) ∷ codes ",\"line\":" ∷ decimal line ∷ codes ",\"reply\":\"timetable\""
      ∷ codes ",\"words\":" ∷ words_text text ∷ (125 ∷ []) ∷ [])
      ≡ old ++ compact_text (command_object airport command line text (Timetable flights))
  unfolding serde_json_on_literals
  timetable-text flights = in_a_row-after old (codes "{\"command\":" ∷ decimal command ∷ codes ",\"flights\":" ∷ compact_text (list_value (map (flight_object airport) flights)) ∷ codes ",\"line\":" ∷ decimal line ∷ codes ",\"reply\":\"timetable\"" ∷ codes ",\"words\":" ∷ words_text text ∷ (125 ∷ []) ∷ [])

  pub batch-text : (total : ℕ) (entries : List (List ℕ × Entry))
      → after old (codes "{\"command\":" ∷ decimal command ∷ codes ",\"entries\":" ∷ compact_text (list_value (map (entry_object airport) entries)) ∷ codes ",\"line\":" ∷ decimal line
      ∷ codes ",\"reply\":\"batch\",\"total\":" ∷ decimal total ∷ codes ",\"words\":" ∷ words_text text ∷ (125 ∷ []) ∷ [])
      ≡ old ++ compact_text (command_object airport command line text (Batch total entries))
  unfolding serde_json_on_literals
  batch-text total entries = in_a_row-after old (codes "{\"command\":" ∷ decimal command ∷ codes ",\"entries\":" ∷ compact_text (list_value (map (entry_object airport) entries)) ∷ codes ",\"line\":" ∷ decimal line ∷ codes ",\"reply\":\"batch\",\"total\":" ∷ decimal total ∷ codes ",\"words\":" ∷ words_text text ∷ (125 ∷ []) ∷ [])

-- ---- what is written, step by step

pub route-written : (airport : Airport) (command line : ℕ) (text : List ℕ) (flight : List ℕ) (second : ℕ) (steps : List Step) (labels : List LabelRow) (old a1 a2 a3 a4 a5 : List ℕ)
    → a1 ≡ (old ++ codes "{\"command\":") ++ decimal command
    → a2 ≡ (((a1 ++ codes ",\"flight\":") ++ quoted flight) ++ codes ",\"labels\":") ++ labels_text airport labels
    → a3 ≡ (a2 ++ codes ",\"line\":") ++ decimal line
    → a4 ≡ (((a3 ++ codes ",\"reply\":\"route\",\"second\":") ++ decimal second) ++ codes ",\"steps\":") ++ steps_text airport steps
    → a5 ≡ ((a4 ++ codes ",\"words\":") ++ words_text text) ++ (125 ∷ [])
    → a5 ≡ old ++ compact_text (command_object airport command line text (Route flight second steps labels))
route-written airport command line text flight second steps labels old a1 a2 a3 a4 a5 p1 p2 p3 p4 p5 = rw (p5, p4, p3, p2, p1) (route-text airport command line text old flight second steps labels)

pub no_route-written : (airport : Airport) (command line : ℕ) (text : List ℕ) (labels : List LabelRow) (old a1 a2 a3 a4 a5 a6 : List ℕ)
    → a1 ≡ (old ++ codes "{\"command\":") ++ decimal command
    → a2 ≡ a1 ++ codes ",\"labels\":"
    → a3 ≡ a2 ++ labels_text airport labels
    → a4 ≡ (a3 ++ codes ",\"line\":") ++ decimal line
    → a5 ≡ a4 ++ codes ",\"reply\":\"no-route\""
    → a6 ≡ ((a5 ++ codes ",\"words\":") ++ words_text text) ++ (125 ∷ [])
    → a6 ≡ old ++ compact_text (command_object airport command line text (NoRoute labels))
no_route-written airport command line text labels old a1 a2 a3 a4 a5 a6 p1 p2 p3 p4 p5 p6 = rw (p6, p5, p4, p3, p2, p1) (no_route-text airport command line text old labels)

pub filed-written : (airport : Airport) (command line : ℕ) (text : List ℕ) (flight : List ℕ) (start end : ℕ) (old a1 a2 a3 a4 a5 a6 a7 a8 a9 : List ℕ)
    → a1 ≡ (old ++ codes "{\"command\":") ++ decimal command
    → a2 ≡ a1 ++ codes ",\"end\":"
    → a3 ≡ a2 ++ decimal end
    → a4 ≡ a3 ++ codes ",\"flight\":"
    → a5 ≡ a4 ++ quoted flight
    → a6 ≡ (a5 ++ codes ",\"line\":") ++ decimal line
    → a7 ≡ a6 ++ codes ",\"reply\":\"filed\",\"start\":"
    → a8 ≡ a7 ++ decimal start
    → a9 ≡ ((a8 ++ codes ",\"words\":") ++ words_text text) ++ (125 ∷ [])
    → a9 ≡ old ++ compact_text (command_object airport command line text (Filed flight start end))
filed-written airport command line text flight start end old a1 a2 a3 a4 a5 a6 a7 a8 a9 p1 p2 p3 p4 p5 p6 p7 p8 p9 = rw (p9, p8, p7, p6, p5, p4, p3, p2, p1) (filed-text airport command line text old flight start end)

pub cancelled-written : (airport : Airport) (command line : ℕ) (text : List ℕ) (flight : List ℕ) (old a1 a2 a3 a4 a5 a6 : List ℕ)
    → a1 ≡ (old ++ codes "{\"command\":") ++ decimal command
    → a2 ≡ a1 ++ codes ",\"flight\":"
    → a3 ≡ a2 ++ quoted flight
    → a4 ≡ (a3 ++ codes ",\"line\":") ++ decimal line
    → a5 ≡ a4 ++ codes ",\"reply\":\"cancelled\""
    → a6 ≡ ((a5 ++ codes ",\"words\":") ++ words_text text) ++ (125 ∷ [])
    → a6 ≡ old ++ compact_text (command_object airport command line text (Cancelled flight))
cancelled-written airport command line text flight old a1 a2 a3 a4 a5 a6 p1 p2 p3 p4 p5 p6 = rw (p6, p5, p4, p3, p2, p1) (cancelled-text airport command line text old flight)

pub windows-written : (airport : Airport) (command line : ℕ) (text : List ℕ) (segment : Segment) (windows : List Span) (old a1 a2 a3 a4 a5 a6 a7 : List ℕ)
    → a1 ≡ (old ++ codes "{\"command\":") ++ decimal command
    → a2 ≡ (a1 ++ codes ",\"line\":") ++ decimal line
    → a3 ≡ a2 ++ codes ",\"reply\":\"windows\""
    → a4 ≡ (a3 ++ codes ",\"segment\":") ++ quoted (segment_word airport segment)
    → a5 ≡ a4 ++ codes ",\"windows\":"
    → a6 ≡ a5 ++ compact_text (list_value (map window_object windows))
    → a7 ≡ ((a6 ++ codes ",\"words\":") ++ words_text text) ++ (125 ∷ [])
    → a7 ≡ old ++ compact_text (command_object airport command line text (Windows segment windows))
windows-written airport command line text segment windows old a1 a2 a3 a4 a5 a6 a7 p1 p2 p3 p4 p5 p6 p7 = rw (p7, p6, p5, p4, p3, p2, p1) (windows-text airport command line text old segment windows)

pub occupancy-written : (airport : Airport) (command line : ℕ) (text : List ℕ) (segment : Segment) (held : List HeldRow) (old a1 a2 a3 a4 a5 a6 a7 : List ℕ)
    → a1 ≡ (old ++ codes "{\"command\":") ++ decimal command
    → a2 ≡ a1 ++ codes ",\"held\":"
    → a3 ≡ a2 ++ compact_text (list_value (map (held_object airport) held))
    → a4 ≡ (a3 ++ codes ",\"line\":") ++ decimal line
    → a5 ≡ a4 ++ codes ",\"reply\":\"occupancy\""
    → a6 ≡ (a5 ++ codes ",\"segment\":") ++ quoted (segment_word airport segment)
    → a7 ≡ ((a6 ++ codes ",\"words\":") ++ words_text text) ++ (125 ∷ [])
    → a7 ≡ old ++ compact_text (command_object airport command line text (Occupancy segment held))
occupancy-written airport command line text segment held old a1 a2 a3 a4 a5 a6 a7 p1 p2 p3 p4 p5 p6 p7 = rw (p7, p6, p5, p4, p3, p2, p1) (occupancy-text airport command line text old segment held)

pub timetable-written : (airport : Airport) (command line : ℕ) (text : List ℕ) (flights : List FlightRow) (old a1 a2 a3 a4 a5 a6 : List ℕ)
    → a1 ≡ (old ++ codes "{\"command\":") ++ decimal command
    → a2 ≡ a1 ++ codes ",\"flights\":"
    → a3 ≡ a2 ++ compact_text (list_value (map (flight_object airport) flights))
    → a4 ≡ (a3 ++ codes ",\"line\":") ++ decimal line
    → a5 ≡ a4 ++ codes ",\"reply\":\"timetable\""
    → a6 ≡ ((a5 ++ codes ",\"words\":") ++ words_text text) ++ (125 ∷ [])
    → a6 ≡ old ++ compact_text (command_object airport command line text (Timetable flights))
timetable-written airport command line text flights old a1 a2 a3 a4 a5 a6 p1 p2 p3 p4 p5 p6 = rw (p6, p5, p4, p3, p2, p1) (timetable-text airport command line text old flights)

pub batch-written : (airport : Airport) (command line : ℕ) (text : List ℕ) (total : ℕ) (entries : List (List ℕ × Entry)) (old a1 a2 a3 a4 a5 a6 a7 : List ℕ)
    → a1 ≡ (old ++ codes "{\"command\":") ++ decimal command
    → a2 ≡ a1 ++ codes ",\"entries\":"
    → a3 ≡ a2 ++ compact_text (list_value (map (entry_object airport) entries))
    → a4 ≡ (a3 ++ codes ",\"line\":") ++ decimal line
    → a5 ≡ a4 ++ codes ",\"reply\":\"batch\",\"total\":"
    → a6 ≡ a5 ++ decimal total
    → a7 ≡ ((a6 ++ codes ",\"words\":") ++ words_text text) ++ (125 ∷ [])
    → a7 ≡ old ++ compact_text (command_object airport command line text (Batch total entries))
batch-written airport command line text total entries old a1 a2 a3 a4 a5 a6 a7 p1 p2 p3 p4 p5 p6 p7 = rw (p7, p6, p5, p4, p3, p2, p1) (batch-text airport command line text old total entries)

pub entry_route-written : (airport : Airport) (name : List ℕ) (second : ℕ) (steps : List Step) (labels : List LabelRow) (old a1 a2 a3 a4 a5 : List ℕ)
    → a1 ≡ (old ++ codes "{\"flight\":") ++ quoted name
    → a2 ≡ a1 ++ codes ",\"labels\":"
    → a3 ≡ a2 ++ labels_text airport labels
    → a4 ≡ (((a3 ++ codes ",\"reply\":\"route\",\"second\":") ++ decimal second) ++ codes ",\"steps\":") ++ steps_text airport steps
    → a5 ≡ a4 ++ codes "}"
    → a5 ≡ old ++ compact_text (entry_object airport (name, entry.Route second steps labels))
entry_route-written airport name second steps labels old a1 a2 a3 a4 a5 p1 p2 p3 p4 p5 = rw (p5, p4, p3, p2, p1) (entry_route-text airport name second steps labels old)

pub entry_none-written : (airport : Airport) (name : List ℕ) (labels : List LabelRow) (old a1 a2 a3 a4 : List ℕ)
    → a1 ≡ (old ++ codes "{\"flight\":") ++ quoted name
    → a2 ≡ a1 ++ codes ",\"labels\":"
    → a3 ≡ a2 ++ labels_text airport labels
    → a4 ≡ a3 ++ codes ",\"reply\":\"no-route\"}"
    → a4 ≡ old ++ compact_text (entry_object airport (name, entry.NoRoute labels))
entry_none-written airport name labels old a1 a2 a3 a4 p1 p2 p3 p4 = rw (p4, p3, p2, p1) (entry_none-text airport name labels old)

pub dropped-written : (airport : Airport) (name : List ℕ) (old a1 a2 : List ℕ)
    → a1 ≡ (old ++ codes "{\"flight\":") ++ quoted name
    → a2 ≡ a1 ++ codes ",\"reply\":\"dropped\"}"
    → a2 ≡ old ++ compact_text (entry_object airport (name, entry.Dropped))
dropped-written airport name old a1 a2 p1 p2 = rw (p2, p1) (dropped-text airport name old)

pub step-written : (airport : Airport) (step : Step) (old t1 a1 t2 a2 : List ℕ)
    → t1 ≡ after [] (codes "{\"arc\":" ∷ quoted (word_of_arc airport step.arc) ∷ codes ",\"enter\":" ∷ decimal step.enter ∷ [])
    → a1 ≡ old ++ t1
    → t2 ≡ after [] (codes ",\"leave\":" ∷ decimal step.leave ∷ codes "}" ∷ [])
    → a2 ≡ a1 ++ t2
    → a2 ≡ old ++ compact_text (step_object airport step)
step-written airport step old t1 a1 t2 a2 e1 w1 e2 w2 =
    part-after a1 t2 a2 (codes ",\"leave\":" ∷ decimal step.leave ∷ codes "}" ∷ []) e2 w2
    ∙ ap (λ (t : List ℕ). after t (codes ",\"leave\":" ∷ decimal step.leave ∷ codes "}" ∷ [])) (part-after old t1 a1 (codes "{\"arc\":" ∷ quoted (word_of_arc airport step.arc) ∷ codes ",\"enter\":" ∷ decimal step.enter ∷ []) e1 w1)
    ∙ step-text airport step old

pub label-written : (airport : Airport) (label : LabelRow) (old t1 a1 t2 a2 : List ℕ)
    → t1 ≡ after [] (codes "{\"arc\":" ∷ quoted (word_of_arc airport label.arc) ∷ codes ",\"from\":" ∷ decimal label.from ∷ [])
    → a1 ≡ old ++ t1
    → t2 ≡ after [] (codes ",\"until\":" ∷ decimal label.until ∷ codes ",\"value\":" ∷ decimal label.value ∷ codes "}" ∷ [])
    → a2 ≡ a1 ++ t2
    → a2 ≡ old ++ compact_text (label_object airport label)
label-written airport label old t1 a1 t2 a2 e1 w1 e2 w2 =
    part-after a1 t2 a2 (codes ",\"until\":" ∷ decimal label.until ∷ codes ",\"value\":" ∷ decimal label.value ∷ codes "}" ∷ []) e2 w2
    ∙ ap (λ (t : List ℕ). after t (codes ",\"until\":" ∷ decimal label.until ∷ codes ",\"value\":" ∷ decimal label.value ∷ codes "}" ∷ [])) (part-after old t1 a1 (codes "{\"arc\":" ∷ quoted (word_of_arc airport label.arc) ∷ codes ",\"from\":" ∷ decimal label.from ∷ []) e1 w1)
    ∙ label-text airport label old

pub held-written : (airport : Airport) (row : HeldRow) (old t1 a1 t2 a2 : List ℕ)
    → t1 ≡ after [] (codes "{\"flight\":" ∷ quoted row.flight ∷ codes ",\"from\":" ∷ decimal row.from ∷ [])
    → a1 ≡ old ++ t1
    → t2 ≡ after [] (codes ",\"segment\":" ∷ quoted (segment_word airport row.segment) ∷ codes ",\"until\":" ∷ decimal row.until ∷ codes "}" ∷ [])
    → a2 ≡ a1 ++ t2
    → a2 ≡ old ++ compact_text (held_object airport row)
held-written airport row old t1 a1 t2 a2 e1 w1 e2 w2 =
    part-after a1 t2 a2 (codes ",\"segment\":" ∷ quoted (segment_word airport row.segment) ∷ codes ",\"until\":" ∷ decimal row.until ∷ codes "}" ∷ []) e2 w2
    ∙ ap (λ (t : List ℕ). after t (codes ",\"segment\":" ∷ quoted (segment_word airport row.segment) ∷ codes ",\"until\":" ∷ decimal row.until ∷ codes "}" ∷ [])) (part-after old t1 a1 (codes "{\"flight\":" ∷ quoted row.flight ∷ codes ",\"from\":" ∷ decimal row.from ∷ []) e1 w1)
    ∙ held-text airport row old

pub flight-written : (airport : Airport) (row : FlightRow) (old t1 a1 t2 a2 t3 a3 : List ℕ)
    → t1 ≡ after [] (codes "{\"class\":" ∷ quoted (class_word airport row.class) ∷ codes ",\"end\":" ∷ decimal row.end ∷ [])
    → a1 ≡ old ++ t1
    → t2 ≡ after [] (codes ",\"flight\":" ∷ quoted row.flight ∷ codes ",\"kind\":" ∷ compact_text (word_value (kind_word row.kind)) ∷ [])
    → a2 ≡ a1 ++ t2
    → t3 ≡ after [] (codes ",\"start\":" ∷ decimal row.start ∷ codes "}" ∷ [])
    → a3 ≡ a2 ++ t3
    → a3 ≡ old ++ compact_text (flight_object airport row)
flight-written airport row old t1 a1 t2 a2 t3 a3 e1 w1 e2 w2 e3 w3 =
    part-after a2 t3 a3 (codes ",\"start\":" ∷ decimal row.start ∷ codes "}" ∷ []) e3 w3
    ∙ ap (λ (t : List ℕ). after t (codes ",\"start\":" ∷ decimal row.start ∷ codes "}" ∷ [])) (part-after a1 t2 a2 (codes ",\"flight\":" ∷ quoted row.flight ∷ codes ",\"kind\":" ∷ compact_text (word_value (kind_word row.kind)) ∷ []) e2 w2)
    ∙ ap (λ (t : List ℕ). after (after t (codes ",\"flight\":" ∷ quoted row.flight ∷ codes ",\"kind\":" ∷ compact_text (word_value (kind_word row.kind)) ∷ [])) (codes ",\"start\":" ∷ decimal row.start ∷ codes "}" ∷ [])) (part-after old t1 a1 (codes "{\"class\":" ∷ quoted (class_word airport row.class) ∷ codes ",\"end\":" ∷ decimal row.end ∷ []) e1 w1)
    ∙ flight-text airport row old

pub window-written : (window : Span) (old t1 a1 : List ℕ) → t1 ≡ after [] (codes "{\"from\":" ∷ decimal window.from ∷ codes ",\"until\":" ∷ decimal window.until ∷ codes "}" ∷ []) → a1 ≡ old ++ t1
    → a1 ≡ old ++ compact_text (window_object window)
window-written window old t1 a1 e1 w1 =
    part-after old t1 a1 (codes "{\"from\":" ∷ decimal window.from ∷ codes ",\"until\":" ∷ decimal window.until ∷ codes "}" ∷ []) e1 w1 ∙ window-text window old

-- ---- a late flight

late-text : (airport : Airport) (command line : ℕ) (text old flight : List ℕ) (entries : List (List ℕ × Entry))
    → after old (codes "{\"command\":" ∷ decimal command ∷ codes ",\"entries\":" ∷ compact_text (list_value (map (entry_object airport) entries)) ∷ codes ",\"flight\":" ∷ quoted flight ∷ codes ",\"line\":" ∷ decimal line ∷ codes ",\"reply\":\"late\"" ∷ codes ",\"words\":" ∷ words_text text ∷ (125 ∷ []) ∷ []) ≡ old ++ compact_text (command_object airport command line text (Late flight entries))
unfolding serde_json_on_literals
late-text airport command line text old flight entries = in_a_row-after old (codes "{\"command\":" ∷ decimal command ∷ codes ",\"entries\":" ∷ compact_text (list_value (map (entry_object airport) entries)) ∷ codes ",\"flight\":" ∷ quoted flight ∷ codes ",\"line\":" ∷ decimal line ∷ codes ",\"reply\":\"late\"" ∷ codes ",\"words\":" ∷ words_text text ∷ (125 ∷ []) ∷ [])

pub late-written : (airport : Airport) (command line : ℕ) (text : List ℕ) (flight : List ℕ) (entries : List (List ℕ × Entry)) (old a1 a2 a3 a4 a5 a6 a7 a8 : List ℕ)
    → a1 ≡ (old ++ codes "{\"command\":") ++ decimal command
    → a2 ≡ a1 ++ codes ",\"entries\":"
    → a3 ≡ a2 ++ compact_text (list_value (map (entry_object airport) entries))
    → a4 ≡ a3 ++ codes ",\"flight\":"
    → a5 ≡ a4 ++ quoted flight
    → a6 ≡ (a5 ++ codes ",\"line\":") ++ decimal line
    → a7 ≡ a6 ++ codes ",\"reply\":\"late\""
    → a8 ≡ ((a7 ++ codes ",\"words\":") ++ words_text text) ++ (125 ∷ [])
    → a8 ≡ old ++ compact_text (command_object airport command line text (Late flight entries))
late-written airport command line text flight entries old a1 a2 a3 a4 a5 a6 a7 a8 p1 p2 p3 p4 p5 p6 p7 p8 =
    rw (p8, p7, p6, p5, p4, p3, p2, p1) (late-text airport command line text old flight entries)
