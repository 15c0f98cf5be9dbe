-- The object of a command is read back from its line, which has no line feed but the last byte.
use Rattle.std.proofs.Common.{◌<◌, ◌^◌, [], ◌∷◌, ℕ, suc, List, map, codes, arith}
use Rattle.std.specs.Prelude.{⊤, All}
use Rattle.std.proofs.lemmas.List.Elements.{All-head, All-tail}
use Rattle.taxi_base.specs.declared.rows.Step.{Step}
use Rattle.taxi_base.specs.declared.rows.LabelRow.{LabelRow}
use Rattle.taxi_base.specs.declared.rows.HeldRow.{HeldRow}
use Rattle.taxi_base.specs.declared.rows.FlightRow.{FlightRow}
use Rattle.taxi_base.specs.declared.rows.Span.{Span}
use Rattle.taxi_base.specs.declared.answers.StepCause.{StepCause}
use Rattle.taxi_base.specs.declared.answers.StepCause.TheVariants.{ClassBarred, BadTurn, TooFast, PastHorizon, Taken}
use Rattle.taxi_base.specs.declared.answers.Refusal.{Refusal}
use Rattle.taxi_base.specs.declared.answers.Refusal.TheVariants as refusal
use Rattle.taxi_base.specs.Airport.{Airport}
use Rattle.taxi_text.specs.Words.{words_of}
use Rattle.airport_file.specs.Words.{class_word, segment_word, word_of_arc}
use Rattle.replies.specs.Texts.{kind_word}
use Rattle.replies.specs.Printable.{IsShort, IsPrintableStep, IsPrintableLabel, IsPrintableWindow, IsPrintableHeld, IsPrintableFlight, IsPrintableCause, IsPrintableRefusal, IsPrintableEntry, IsPrintable}
use Rattle.replies.specs.declared.block.Block.{Block}
use Rattle.replies.specs.declared.block.Block.TheVariants.{Refused, Filed, Cancelled, Route, NoRoute, Windows, Occupancy, Timetable, Batch, Late}
use Rattle.replies.specs.declared.entries.Entry.{Entry}
use Rattle.replies.specs.declared.entries.Entry.TheVariants as entry
use Rattle.serde_json.specs.Data.{Data, Members, no_members, put}
use Rattle.serde_json.specs.View.{items_of}
use Rattle.reply_json.specs.Values.{text_value, word_value, number_value, list_value, Member, with_members, object_value}
use Rattle.reply_json.specs.Replies.{step_object, label_object, window_object, held_object, flight_object, cause_members, refusal_members, reply_member, route_members, no_route_members, entry_object, reply_members}
use Rattle.reply_json.specs.Lines.{command_object}
use Rattle.reply_json.proofs.Readable.{AreRising, CanBeRead, ItemsCanBeRead, MembersCanBeRead, can-put, rising-put}

-- ---- objects and lists

abbrev AreRead : List Member → ℕ → Type 0
AreRead [] deep = ⊤
AreRead (first ∷ more) deep = CanBeRead first.1 deep × AreRead more deep

with-read : (more : List Member) (others : Members) (deep : ℕ) → AreRead more deep → MembersCanBeRead others deep → AreRising others
    → MembersCanBeRead (with_members more others) deep × AreRising (with_members more others)
with-read [] others deep are can rising = (can, rising)
with-read (first ∷ more) others deep are can rising =
    with-read more (put first.0 first.1 others) deep are.1 (can-put first.0 first.1 others deep are.0 can) (rising-put first.0 first.1 others rising)

object-read : (members : List Member) (deep : ℕ) → AreRead members deep → CanBeRead (object_value members) (suc deep)
object-read members deep are = with-read members no_members deep are tt tt

items-read : {X : Type 0} (value : X → Data) (P : X → Type 0) (rows : List X) (deep : ℕ) → ((row : X) → P row → CanBeRead (value row) deep) → All P rows → ItemsCanBeRead (items_of (map value rows)) deep
items-read value P [] deep each all = tt
items-read value P (row ∷ rows) deep each all = (each row (All-head P row rows all), items-read value P rows deep each (All-tail P row rows all))

texts-read : (words : List (List ℕ)) (deep : ℕ) → ItemsCanBeRead (items_of (map text_value words)) deep
texts-read [] deep = tt
texts-read (word ∷ words) deep = (tt, texts-read words deep)

-- a number of at most 7 digits fits 64 bits
fits : (n : ℕ) → IsShort n → n < 2 ^ 64
fits n short = omega (arith, short)

module _ (airport : Airport) (deep : ℕ) where
  step-read : (step : Step) → IsPrintableStep airport step → CanBeRead (step_object airport step) (suc deep)
  step-read step is =
      object-read ((codes "arc", text_value (word_of_arc airport step.arc)) ∷ (codes "enter", number_value step.enter) ∷ (codes "leave", number_value step.leave) ∷ []) deep
      (tt, (fits step.enter is.1.0, (fits step.leave is.1.1, tt)))

  label-read : (label : LabelRow) → IsPrintableLabel airport label → CanBeRead (label_object airport label) (suc deep)
  label-read label is =
      object-read ((codes "arc", text_value (word_of_arc airport label.arc)) ∷ (codes "from", number_value label.from) ∷ (codes "until", number_value label.until)
      ∷ (codes "value", number_value label.value) ∷ []) deep
      (tt, (fits label.from is.1.0, (fits label.until is.1.1.0, (fits label.value is.1.1.1, tt))))

  window-read : (window : Span) → IsPrintableWindow window → CanBeRead (window_object window) (suc deep)
  window-read window is = object-read ((codes "from", number_value window.from) ∷ (codes "until", number_value window.until) ∷ []) deep (fits window.from is.0, (fits window.until is.1, tt))

  held-read : (row : HeldRow) → IsPrintableHeld airport row → CanBeRead (held_object airport row) (suc deep)
  held-read row is =
      object-read ((codes "flight", text_value row.flight) ∷ (codes "from", number_value row.from) ∷ (codes "segment", text_value (segment_word airport row.segment))
      ∷ (codes "until", number_value row.until) ∷ []) deep
      (tt, (fits row.from is.0, (tt, (fits row.until is.1.0, tt))))

  flight-read : (row : FlightRow) → IsPrintableFlight airport row → CanBeRead (flight_object airport row) (suc deep)
  flight-read row is =
      object-read ((codes "class", text_value (class_word airport row.class)) ∷ (codes "end", number_value row.end) ∷ (codes "flight", text_value row.flight)
      ∷ (codes "kind", word_value (kind_word row.kind)) ∷ (codes "start", number_value row.start) ∷ []) deep
      (tt, (fits row.end is.1.1.1, (tt, (tt, (fits row.start is.1.1.0, tt)))))

  route-read : (name : List ℕ) (second : ℕ) (steps : List Step) (labels : List LabelRow) → IsShort second → All (IsPrintableStep airport) steps → All (IsPrintableLabel airport) labels
      → AreRead (route_members airport name second steps labels) (suc (suc deep))
  route-read name second steps labels short all each = (
    tt,
    (
      tt,
      (
        fits second short,
        (
          items-read (step_object airport) (IsPrintableStep airport) steps (suc deep) step-read all,
          (items-read (label_object airport) (IsPrintableLabel airport) labels (suc deep) label-read each, tt),
        ),
      ),
    ),
  )

  no_route-read : (labels : List LabelRow) → All (IsPrintableLabel airport) labels → AreRead (no_route_members airport labels) (suc (suc deep))
  no_route-read labels each = (tt, (items-read (label_object airport) (IsPrintableLabel airport) labels (suc deep) label-read each, tt))

  entry-read : (told : List ℕ × Entry) → IsPrintableEntry airport told → CanBeRead (entry_object airport told) (suc (suc (suc deep)))
  entry-read (name, entry.Route second steps labels) is =
      object-read (route_members airport name second steps labels) (suc (suc deep)) (route-read name second steps labels is.0.1.0 is.1.0 is.1.1)
  entry-read (name, entry.NoRoute labels) is =
      object-read ((codes "flight", text_value name) ∷ no_route_members airport labels) (suc (suc deep)) (tt, no_route-read labels is.1.1)
  entry-read (name, entry.Dropped) is = object-read ((codes "flight", text_value name) ∷ reply_member (codes "dropped") ∷ []) (suc (suc deep)) (tt, (tt, tt))

  cause-read : (cause : StepCause) → IsPrintableCause cause → AreRead (cause_members cause) deep
  cause-read ClassBarred is = (tt, tt)
  cause-read BadTurn is = (tt, tt)
  cause-read TooFast is = (tt, tt)
  cause-read PastHorizon is = (tt, tt)
  cause-read (Taken at by) is = (fits at is.0, (tt, (tt, tt)))

  refusal-read : (why : Refusal) → IsPrintableRefusal why → AreRead (refusal_members why) deep
  refusal-read refusal.BadLine is = (tt, tt)
  refusal-read refusal.InForce is = (tt, tt)
  refusal-read refusal.UnknownClass is = (tt, tt)
  refusal-read refusal.UnknownNode is = (tt, tt)
  refusal-read refusal.WrongKind is = (tt, tt)
  refusal-read refusal.UnknownSegment is = (tt, tt)
  refusal-read refusal.NotInForce is = (tt, tt)
  refusal-read refusal.NotRouted is = (tt, tt)
  refusal-read refusal.NotArrival is = (tt, tt)
  refusal-read (refusal.AlreadyDone end) is = (fits end is, (tt, tt))
  refusal-read (refusal.AlreadyMoving start) is = (fits start is, (tt, tt))
  refusal-read refusal.Full is = (tt, tt)
  refusal-read (refusal.Step fault) is = (omega (arith, is.0.1), (tt, cause-read fault.cause is.1))
  refusal-read (refusal.NotMoving start) is = (fits start is, (tt, tt))
  refusal-read (refusal.NotLate leave) is = (fits leave is, (tt, tt))
  refusal-read (refusal.PastEnd horizon) is = (fits horizon is, (tt, tt))
  refusal-read refusal.Memory is = (tt, tt)

-- ---- blocks

module _ (airport : Airport) where
  reply-read : (block : Block) → IsPrintable airport block → AreRead (reply_members airport block) 4
  reply-read (Refused why) is = (tt, refusal-read airport 4 why is)
  reply-read (Filed flight start end) is = (tt, (tt, (fits start is.1.0, (fits end is.1.1, tt))))
  reply-read (Cancelled flight) is = (tt, (tt, tt))
  reply-read (Route flight second steps labels) is = route-read airport 2 flight second steps labels is.0.1.0 is.1.0 is.1.1
  reply-read (NoRoute labels) is = no_route-read airport 2 labels is.1
  reply-read (Windows segment windows) is = (tt, (tt, (items-read window_object IsPrintableWindow windows 3 (window-read airport 2) is.1, tt)))
  reply-read (Occupancy segment held) is = (tt, (tt, (items-read (held_object airport) (IsPrintableHeld airport) held 3 (held-read airport 2) is.1, tt)))
  reply-read (Timetable flights) is = (tt, (items-read (flight_object airport) (IsPrintableFlight airport) flights 3 (flight-read airport 2) is.1, tt))
  reply-read (Batch total entries) is = (tt, (omega (arith, is.0.1), (items-read (entry_object airport) (IsPrintableEntry airport) entries 3 (entry-read airport 0) is.1.1, tt)))
  reply-read (Late flight entries) is = (tt, (tt, (items-read (entry_object airport) (IsPrintableEntry airport) entries 3 (entry-read airport 0) is.1.1, tt)))

  pub command-read : (block : Block) (command line : ℕ) (text : List ℕ) → IsPrintable airport block → command < 2 ^ 64 → line < 2 ^ 64 → CanBeRead (command_object airport command line text block) 5
  command-read block command line text is few short =
      object-read ((codes "command", number_value command) ∷ (codes "line", number_value line) ∷ (codes "words", list_value (map text_value (words_of text)))
      ∷ reply_members airport block) 4
      (few, (short, (texts-read (words_of text) 3, reply-read block is)))
