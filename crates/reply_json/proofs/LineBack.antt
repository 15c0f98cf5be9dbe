-- An object gives the line of its command again.
use Rattle.std.proofs.Common.{◌≡◌, ◌∙◌, ℕ, ◌<◌, List, [], ◌∷◌, ◌++◌, map, codes, true, Some, refl, ap, ap₂, arith}
use Rattle.std.specs.Prelude.{All, chars, encode_utf8_all}
use Rattle.std.specs.List.{join_with_byte}
use Rattle.std.specs.Str.{all_scalars}
use Rattle.std.proofs.lemmas.Bool.{and_from}
use Rattle.std.proofs.lemmas.List.Elements.{All-nil, All-cons, All-head, All-tail}
use Rattle.std.proofs.lemmas.List.Splits.{join_with_byte-slice_split}
use Rattle.std.proofs.lemmas.Str.{chars-encodes}
use lib.Utf8.{scalar, low_scalar}
use Rattle.taxi_base.specs.declared.answers.StepCause.{StepCause}
use Rattle.taxi_base.specs.declared.answers.StepCause.TheVariants.{ClassBarred, BadTurn, TooFast, PastHorizon, Taken}
use Rattle.taxi_base.specs.declared.answers.Refusal.{Refusal}
use Rattle.taxi_base.specs.declared.answers.Refusal.TheVariants as refusal
use Rattle.taxi_base.specs.Airport.{Airport}
use Rattle.taxi_text.specs.Words.{words_of}
use Rattle.replies.specs.declared.block.Block.{Block}
use Rattle.replies.specs.declared.block.Block.TheVariants.{Refused, Filed, Cancelled, Route, NoRoute, Windows, Occupancy, Timetable, Batch, Late}
use Rattle.serde_json.specs.Find.{get}
use Rattle.serde_json.specs.View.{items_of}
use Rattle.reply_json.specs.Values.{text_value, list_value}
use Rattle.reply_json.specs.Lines.{command_object}
use Rattle.reply_json.specs.Reading.{values_of, values_in, bytes_in, command_line_of}

abbrev AreBytes : List ℕ → Type 0
AreBytes bytes = All (λ byte. byte < 256) bytes

-- ---- bytes

are-characters : (bytes : List ℕ) → AreBytes bytes → all_scalars bytes ≡ true
are-characters [] small = refl
are-characters (b ∷ bytes) small =
    let first = All-head (λ byte. byte < 256) b bytes small in
    and_from (scalar b) (all_scalars bytes) (low_scalar b (omega (arith, first))) (are-characters bytes (All-tail (λ byte. byte < 256) b bytes small))

bytes-same : (bytes : List ℕ) → AreBytes bytes → chars (encode_utf8_all bytes) ≡ bytes
bytes-same bytes small = chars-encodes bytes (are-characters bytes small)

-- ---- words

words-same : (words : List (List ℕ)) → All AreBytes words → map bytes_in (values_of (items_of (map text_value words))) ≡ words
words-same [] small = refl
words-same (word ∷ words) small =
    ap₂ (λ (w : List ℕ) (ws : List (List ℕ)). w ∷ ws) (bytes-same word (All-head AreBytes word words small)) (words-same words (All-tail AreBytes word words small))

-- what holds of each byte of joined words holds of each byte of each word
both-parts : (xs ys : List ℕ) → AreBytes (xs ++ ys) → AreBytes xs × AreBytes ys
both-parts [] ys small = (All-nil (λ byte. byte < 256), small)
both-parts (x ∷ xs) ys small =
    let rest = both-parts xs ys (All-tail (λ byte. byte < 256) x (xs ++ ys) small) in
    (All-cons (λ byte. byte < 256) x xs (All-head (λ byte. byte < 256) x (xs ++ ys) small) rest.0, rest.1)

each-word : (words : List (List ℕ)) → AreBytes (join_with_byte 32 words) → All AreBytes words
each-word [] small = All-nil AreBytes
each-word (word ∷ []) small = All-cons AreBytes word [] small (All-nil AreBytes)
each-word (word ∷ next ∷ words) small =
    let parts = both-parts word (32 ∷ join_with_byte 32 (next ∷ words)) small in
    All-cons AreBytes word (next ∷ words) parts.0 (each-word (next ∷ words) (All-tail (λ byte. byte < 256) 32 (join_with_byte 32 (next ∷ words)) parts.1))

-- ---- the object

module _ (airport : Airport) (command line : ℕ) (text : List ℕ) where
  -- the words stand under their key, whatever else the block puts into the object
  abbrev HasWords : Block → Type 0
  HasWords block = get (codes "words") (command_object airport command line text block) ≡ Some (list_value (map text_value (words_of text)))

  step-there : (number : ℕ) (cause : StepCause) → HasWords (Refused (refusal.Step (record { number = number; cause = cause })))
  step-there number ClassBarred = refl
  step-there number BadTurn = refl
  step-there number TooFast = refl
  step-there number PastHorizon = refl
  step-there number (Taken at by) = refl

  refused-there : (why : Refusal) → HasWords (Refused why)
  refused-there refusal.BadLine = refl
  refused-there refusal.InForce = refl
  refused-there refusal.UnknownClass = refl
  refused-there refusal.UnknownNode = refl
  refused-there refusal.WrongKind = refl
  refused-there refusal.UnknownSegment = refl
  refused-there refusal.NotInForce = refl
  refused-there refusal.NotRouted = refl
  refused-there refusal.NotArrival = refl
  refused-there (refusal.AlreadyDone end) = refl
  refused-there (refusal.AlreadyMoving start) = refl
  refused-there refusal.Full = refl
  refused-there (refusal.Step fault) = step-there fault.number fault.cause
  refused-there (refusal.NotMoving start) = refl
  refused-there (refusal.NotLate leave) = refl
  refused-there (refusal.PastEnd horizon) = refl
  refused-there refusal.Memory = refl

  words-there : (block : Block) → HasWords block
  words-there (Refused why) = refused-there why
  words-there (Filed flight start end) = refl
  words-there (Cancelled flight) = refl
  words-there (Route flight second steps labels) = refl
  words-there (NoRoute labels) = refl
  words-there (Windows segment windows) = refl
  words-there (Occupancy segment held) = refl
  words-there (Timetable flights) = refl
  words-there (Batch total entries) = refl
  words-there (Late flight entries) = refl

pub line-same : (airport : Airport) (block : Block) (command line : ℕ) (text : List ℕ) → AreBytes text → command_line_of (command_object airport command line text block) ≡ text
unfolding command_line_of
line-same airport block command line text small =
    let same = join_with_byte-slice_split 32 text in
    ap (λ o. join_with_byte 32 (map bytes_in (values_in o))) (words-there airport command line text block)
    ∙ ap (join_with_byte 32) (words-same (words_of text) (each-word (words_of text) (rw same small)))
    ∙ same
