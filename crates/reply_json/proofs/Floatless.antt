-- No value that tells of a refusal has a float, so each has a text.
use Rattle.std.proofs.Common.{◌≡◌, ◌||◌, [], ◌∷◌, ℕ, List, map, codes, Bool, true, false, Ordering, Less, Equal, Greater, nat_cmp, refl}
use Rattle.std.specs.Prelude.{⊤}
use Rattle.std.proofs.lemmas.Bool.{or_parts}
use Rattle.std.specs.Ordering.{match_ordering}
use Rattle.std.specs.Cmp.Lexicographic.{slice_cmp}
use Rattle.taxi_base.specs.declared.answers.StepCause.{StepCause}
use Rattle.taxi_base.specs.declared.answers.StepCause.TheVariants.{ClassBarred, BadTurn, TooFast, PastHorizon, Taken}
use Rattle.taxi_base.specs.declared.answers.Refusal.{Refusal}
use Rattle.taxi_base.specs.declared.answers.Refusal.TheVariants as refusal
use Rattle.taxi_base.specs.Airport.{Airport}
use Rattle.taxi_text.specs.Words.{words_of}
use Rattle.replies.specs.declared.block.Block.TheVariants.{Refused}
use Rattle.serde_json.specs.Data.{Data, Members, no_members, member, put}
use Rattle.serde_json.specs.View.{items_of}
use Rattle.serde_json.specs.Written.{has_float, items_have_float, members_have_float}
use Rattle.reply_json.specs.Values.{text_value, number_value, list_value, Member, with_members, object_value}
use Rattle.reply_json.specs.Replies.{cause_members, refusal_members, reply_members}
use Rattle.reply_json.specs.Lines.{command_object}

-- ---- objects and lists

neither : (a b : Bool) → a ≡ false → b ≡ false → (a || b) ≡ false
neither true b one other = one
neither false b one other = other

whichever : (o : Ordering) (a b c : Members) → members_have_float a ≡ false → members_have_float b ≡ false → members_have_float c ≡ false → members_have_float (match_ordering o a b c) ≡ false
whichever Less a b c x y z = x
whichever Equal a b c x y z = y
whichever Greater a b c x y z = z

floatless-put : (key : List ℕ) (value : Data) (members : Members) → has_float value ≡ false → members_have_float members ≡ false → members_have_float (put key value members) ≡ false
floatless-put key value no_members one none = neither (has_float value) false one refl
floatless-put key value (member k d ms) one none =
    let parts = or_parts (has_float d) (members_have_float ms) none in
    whichever (slice_cmp nat_cmp key k) (member key value (member k d ms)) (member k value ms) (member k d (put key value ms))
    (neither (has_float value) (members_have_float (member k d ms)) one none)
    (neither (has_float value) (members_have_float ms) one parts.1)
    (neither (has_float d) (members_have_float (put key value ms)) parts.0 (floatless-put key value ms one parts.1))

abbrev AreFloatless : List Member → Type 0
AreFloatless [] = ⊤
AreFloatless (first ∷ more) = (has_float first.1 ≡ false) × AreFloatless more

floatless-with : (members : List Member) (before : Members) → AreFloatless members → members_have_float before ≡ false → members_have_float (with_members members before) ≡ false
floatless-with [] before are none = none
floatless-with (first ∷ more) before are none = floatless-with more (put first.0 first.1 before) are.1 (floatless-put first.0 first.1 before are.0 none)

object-floatless : (members : List Member) → AreFloatless members → has_float (object_value members) ≡ false
object-floatless members are = floatless-with members no_members are refl

list-floatless : {X : Type 0} (value_of : X → Data) → ((x : X) → has_float (value_of x) ≡ false) → (xs : List X) → has_float (list_value (map value_of xs)) ≡ false
list-floatless {X} value_of each xs = go xs where
  go : (xs : List X) → items_have_float (items_of (map value_of xs)) ≡ false
  go [] = refl
  go (x ∷ xs) = neither (has_float (value_of x)) (items_have_float (items_of (map value_of xs))) (each x) (go xs)

-- ---- refusals

cause-floatless : (cause : StepCause) → AreFloatless (cause_members cause)
cause-floatless ClassBarred = (refl, tt)
cause-floatless BadTurn = (refl, tt)
cause-floatless TooFast = (refl, tt)
cause-floatless PastHorizon = (refl, tt)
cause-floatless (Taken at by) = (refl, (refl, (refl, tt)))

refusal-floatless : (why : Refusal) → AreFloatless (refusal_members why)
refusal-floatless refusal.BadLine = (refl, tt)
refusal-floatless refusal.InForce = (refl, tt)
refusal-floatless refusal.UnknownClass = (refl, tt)
refusal-floatless refusal.UnknownNode = (refl, tt)
refusal-floatless refusal.WrongKind = (refl, tt)
refusal-floatless refusal.UnknownSegment = (refl, tt)
refusal-floatless refusal.NotInForce = (refl, tt)
refusal-floatless refusal.NotRouted = (refl, tt)
refusal-floatless refusal.NotArrival = (refl, tt)
refusal-floatless (refusal.AlreadyDone end) = (refl, (refl, tt))
refusal-floatless (refusal.AlreadyMoving start) = (refl, (refl, tt))
refusal-floatless refusal.Full = (refl, tt)
refusal-floatless (refusal.Step fault) = (refl, (refl, cause-floatless fault.cause))
refusal-floatless (refusal.NotMoving start) = (refl, (refl, tt))
refusal-floatless (refusal.NotLate leave) = (refl, (refl, tt))
refusal-floatless (refusal.PastEnd horizon) = (refl, (refl, tt))
refusal-floatless refusal.Memory = (refl, tt)

pub refused-floatless : (airport : Airport) (command line : ℕ) (text : List ℕ) (why : Refusal) → has_float (command_object airport command line text (Refused why)) ≡ false
refused-floatless airport command line text why =
    object-floatless
    ((codes "command", number_value command) ∷ (codes "line", number_value line) ∷ (codes "words", list_value (map text_value (words_of text))) ∷ reply_members airport (Refused why))
    (refl, (refl, (list-floatless text_value (λ word. refl) (words_of text), (refl, refusal-floatless why))))

pub words-floatless : (line : List ℕ) → has_float (list_value (map text_value (words_of line))) ≡ false
words-floatless line = list-floatless text_value (λ word. refl) (words_of line)
