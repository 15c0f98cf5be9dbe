-- Which members tell of a reply?
use Rattle.std.specs.Prelude.{ℕ, List, [], ◌∷◌, codes, map}
use Rattle.taxi_base.specs.declared.rows.Step.{Step}
use Rattle.taxi_base.specs.declared.rows.Span.{Span}
use Rattle.taxi_base.specs.declared.rows.LabelRow.{LabelRow}
use Rattle.taxi_base.specs.declared.rows.HeldRow.{HeldRow}
use Rattle.taxi_base.specs.declared.rows.FlightRow.{FlightRow}
use Rattle.taxi_base.specs.declared.answers.StepCause.{StepCause}
use Rattle.taxi_base.specs.declared.answers.StepCause.TheVariants.{ClassBarred, BadTurn, TooFast, PastHorizon, Taken}
use Rattle.taxi_base.specs.declared.answers.Refusal.{Refusal}
use Rattle.taxi_base.specs.declared.answers.Refusal.TheVariants as refusal
use Rattle.taxi_base.specs.Airport.{Airport}
use Rattle.airport_file.specs.Words.{class_word, segment_word, word_of_arc}
use Rattle.replies.specs.Texts.{kind_word}
use Rattle.replies.specs.declared.block.Block.{Block}
use Rattle.replies.specs.declared.block.Block.TheVariants.{Refused, Filed, Cancelled, Route, NoRoute, Windows, Occupancy, Timetable, Batch, Late}
use Rattle.replies.specs.declared.entries.Entry.{Entry}
use Rattle.replies.specs.declared.entries.Entry.TheVariants as entry
use Rattle.serde_json.specs.Data.{Data}
use Rattle.reply_json.specs.Values.{text_value, word_value, number_value, list_value, Member, object_value}

-- ---- rows

abbrev pub step_object : Airport → Step → Data
step_object airport step =
    object_value ((codes "arc", text_value (word_of_arc airport step.arc)) ∷ (codes "enter", number_value step.enter) ∷ (codes "leave", number_value step.leave) ∷ [])

abbrev pub label_object : Airport → LabelRow → Data
label_object airport label =
    object_value ((codes "arc", text_value (word_of_arc airport label.arc)) ∷ (codes "from", number_value label.from) ∷ (codes "until", number_value label.until)
    ∷ (codes "value", number_value label.value) ∷ [])

abbrev pub window_object : Span → Data
window_object window = object_value ((codes "from", number_value window.from) ∷ (codes "until", number_value window.until) ∷ [])

abbrev pub held_object : Airport → HeldRow → Data
held_object airport row =
    object_value ((codes "flight", text_value row.flight) ∷ (codes "from", number_value row.from) ∷ (codes "segment", text_value (segment_word airport row.segment))
    ∷ (codes "until", number_value row.until) ∷ [])

abbrev pub flight_object : Airport → FlightRow → Data
flight_object airport row =
    object_value ((codes "class", text_value (class_word airport row.class)) ∷ (codes "end", number_value row.end) ∷ (codes "flight", text_value row.flight)
    ∷ (codes "kind", word_value (kind_word row.kind)) ∷ (codes "start", number_value row.start) ∷ [])

-- ---- refusals

-- the word that says why, and the second or the step that goes with it
abbrev pub why_member : List ℕ → Member
why_member word = (codes "why", word_value word)

-- the cause, and for a second that is taken which second and by whom
abbrev pub cause_members : StepCause → List Member
cause_members ClassBarred = (codes "cause", word_value (codes "class-barred")) ∷ []
cause_members BadTurn = (codes "cause", word_value (codes "bad-turn")) ∷ []
cause_members TooFast = (codes "cause", word_value (codes "too-fast")) ∷ []
cause_members PastHorizon = (codes "cause", word_value (codes "past-horizon")) ∷ []
cause_members (Taken at by) = (codes "at", number_value at) ∷ (codes "by", text_value by) ∷ (codes "cause", word_value (codes "taken")) ∷ []

abbrev pub refusal_members : Refusal → List Member
refusal_members refusal.BadLine = why_member (codes "bad-line") ∷ []
refusal_members refusal.InForce = why_member (codes "in-force") ∷ []
refusal_members refusal.UnknownClass = why_member (codes "unknown-class") ∷ []
refusal_members refusal.UnknownNode = why_member (codes "unknown-node") ∷ []
refusal_members refusal.WrongKind = why_member (codes "wrong-kind") ∷ []
refusal_members refusal.UnknownSegment = why_member (codes "unknown-segment") ∷ []
refusal_members refusal.NotInForce = why_member (codes "not-in-force") ∷ []
refusal_members refusal.NotRouted = why_member (codes "not-routed") ∷ []
refusal_members refusal.NotArrival = why_member (codes "not-arrival") ∷ []
refusal_members (refusal.AlreadyDone end) = (codes "end", number_value end) ∷ why_member (codes "already-done") ∷ []
refusal_members (refusal.AlreadyMoving start) = (codes "start", number_value start) ∷ why_member (codes "already-moving") ∷ []
refusal_members refusal.Full = why_member (codes "full") ∷ []
refusal_members (refusal.Step fault) = (codes "step", number_value fault.number) ∷ why_member (codes "step") ∷ cause_members fault.cause
refusal_members (refusal.NotMoving start) = (codes "start", number_value start) ∷ why_member (codes "not-moving") ∷ []
refusal_members (refusal.NotLate leave) = (codes "leave", number_value leave) ∷ why_member (codes "not-late") ∷ []
refusal_members (refusal.PastEnd horizon) = (codes "horizon", number_value horizon) ∷ why_member (codes "past-end") ∷ []
refusal_members refusal.Memory = why_member (codes "memory") ∷ []

-- ---- routes

-- the first word of a reply
abbrev pub reply_member : List ℕ → Member
reply_member word = (codes "reply", word_value word)

abbrev pub labels_member : Airport → List LabelRow → Member
labels_member airport labels = (codes "labels", list_value (map (label_object airport) labels))

abbrev pub route_members : Airport → List ℕ → ℕ → List Step → List LabelRow → List Member
route_members airport flight second steps labels =
    reply_member (codes "route") ∷ (codes "flight", text_value flight) ∷ (codes "second", number_value second)
    ∷ (codes "steps", list_value (map (step_object airport) steps)) ∷ labels_member airport labels ∷ []

abbrev pub no_route_members : Airport → List LabelRow → List Member
no_route_members airport labels = reply_member (codes "no-route") ∷ labels_member airport labels ∷ []

-- what is told of one of several flights
abbrev pub entry_object : Airport → List ℕ × Entry → Data
entry_object airport (name, entry.Route second steps labels) = object_value (route_members airport name second steps labels)
entry_object airport (name, entry.NoRoute labels) = object_value ((codes "flight", text_value name) ∷ no_route_members airport labels)
entry_object airport (name, entry.Dropped) = object_value ((codes "flight", text_value name) ∷ reply_member (codes "dropped") ∷ [])

-- ---- blocks

-- the members by which a block is told
abbrev pub reply_members : Airport → Block → List Member
reply_members airport (Refused why) = reply_member (codes "refused") ∷ refusal_members why
reply_members airport (Filed flight start end) =
    reply_member (codes "filed") ∷ (codes "flight", text_value flight) ∷ (codes "start", number_value start) ∷ (codes "end", number_value end) ∷ []
reply_members airport (Cancelled flight) = reply_member (codes "cancelled") ∷ (codes "flight", text_value flight) ∷ []
reply_members airport (Route flight second steps labels) = route_members airport flight second steps labels
reply_members airport (NoRoute labels) = no_route_members airport labels
reply_members airport (Windows segment windows) =
    reply_member (codes "windows") ∷ (codes "segment", text_value (segment_word airport segment)) ∷ (codes "windows", list_value (map window_object windows)) ∷ []
reply_members airport (Occupancy segment held) =
    reply_member (codes "occupancy") ∷ (codes "segment", text_value (segment_word airport segment)) ∷ (codes "held", list_value (map (held_object airport) held)) ∷ []
reply_members airport (Timetable flights) = reply_member (codes "timetable") ∷ (codes "flights", list_value (map (flight_object airport) flights)) ∷ []
reply_members airport (Batch total entries) =
    reply_member (codes "batch") ∷ (codes "total", number_value total) ∷ (codes "entries", list_value (map (entry_object airport) entries)) ∷ []
reply_members airport (Late flight entries) =
    reply_member (codes "late") ∷ (codes "flight", text_value flight) ∷ (codes "entries", list_value (map (entry_object airport) entries)) ∷ []
