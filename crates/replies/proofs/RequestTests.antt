-- The requests of a batch, tried one after the other, as a loop does: what those before a place ask for, and what refuses the batch.
use Rattle.std.proofs.Common.{◌≡◌, ◌∙◌, ◌<◌, ◌+◌, ◌++◌, ◌∷◌, [], ℕ, suc, Bool, true, false, ◌||◌, List, length, take, drop, get_or, add-one, append_assoc, Option, Some, None, option_map, option_and_then, refl, sym, ap}
use Rattle.std.specs.List.{list_any}
use Rattle.std.proofs.Math.Seq.{drop-cons}
use Rattle.std.proofs.lemmas.List.{take_more}
use Rattle.taxi_base.specs.declared.answers.Refusal.{Refusal}
use Rattle.taxi_base.specs.declared.answers.Refusal.TheVariants as refusal
use Rattle.taxi_base.specs.Airport.{Airport}
use Rattle.taxi_base.specs.State.{State, has_holder}
use Rattle.taxi_text.specs.declared.command.BatchRequest.{BatchRequest}
use Rattle.taxi_text.specs.declared.command.Command.TheVariants as command
use Rattle.replies.specs.declared.wish.Wish.{Wish}
use Rattle.replies.specs.Batches.{wish_of, wishes_of}
use Rattle.replies.specs.Refusals.{refused_if, first_of, full_with, is_name_of, in_force, in_force_or_before, tests_of_request, tests_of_requests, first_refusal}

-- ---- tests, one behind the other

pub passed : (tests more : List (Option Refusal)) → first_of tests ≡ None → first_of (tests ++ more) ≡ first_of more
passed [] more e = refl
passed (None ∷ tests) more e = passed tests more e
passed (Some why ∷ tests) more e = absurd (cc e)

pub stopped : (tests more : List (Option Refusal)) (why : Refusal) → first_of tests ≡ Some why → first_of (tests ++ more) ≡ Some why
stopped [] more why e = absurd (cc e)
stopped (None ∷ tests) more why e = stopped tests more why e
stopped (Some first ∷ tests) more why e = e

-- ---- the name of a request

-- no request before it has the name
pub new-before : (state : State) (before : List BatchRequest) (name : List ℕ) → list_any (is_name_of name) before ≡ false → in_force_or_before state before name ≡ in_force state name
new-before state before name e = rw e (held (has_holder name state)) where
  held : (b : Bool) → refused_if (b || false) refusal.InForce ≡ refused_if b refusal.InForce
  held true = refl
  held false = refl

-- ---- request by request

wishes-more : (airport : Airport) (before : List BatchRequest) (request : BatchRequest) (wishes : List Wish) (wish : Wish) → wishes_of airport before ≡ Some wishes → wish_of airport request ≡ Some wish
    → wishes_of airport (before ++ request ∷ []) ≡ Some (wishes ++ wish ∷ [])
wishes-more airport [] request wishes wish all one = rw one (ap (λ (w : List Wish). Some (w ++ wish ∷ [])) (none wishes all)) where
  none : (wishes : List Wish) → Some [] ≡ Some wishes → [] ≡ wishes
  none wishes e = cc
wishes-more airport (first ∷ before) request wishes wish all one =
    go (wish_of airport first) refl (wishes_of airport before) (λ others e. wishes-more airport before request others wish e one) all
  where
    go : (f : Option Wish) → wish_of airport first ≡ f → (o : Option (List Wish)) → ((others : List Wish) → o ≡ Some others → wishes_of airport (before ++ request ∷ []) ≡ Some (others ++ wish ∷ []))
        → option_and_then (λ w. option_map (λ ws. w ∷ ws) o) f ≡ Some wishes → wishes_of airport (first ∷ (before ++ request ∷ [])) ≡ Some (wishes ++ wish ∷ [])
    go None f o rest e = absurd (cc e)
    go (Some w) f None rest e = absurd (cc e)
    go (Some w) f (Some others) rest e =
        let same : w ∷ others ≡ wishes = cc e in
        rw (f, rest others refl) (ap (λ (ws : List Wish). Some (ws ++ wish ∷ [])) same)

module _ (airport : Airport) (state : State) where
  -- the requests before a place were tried, and none was refused
  pub record AreTried (requests : List BatchRequest) (place : ℕ) (wishes : List Wish) : Type 0 where
    pub known : wishes_of airport (take place requests) ≡ Some wishes
    pub come : (more : List (Option Refusal)) → first_of (tests_of_requests airport state [] requests ++ more) ≡ first_of (tests_of_requests airport state (take place requests) (drop place requests) ++ more)

  module _ (requests : List BatchRequest) (place : ℕ) (request : BatchRequest) (within : place < length requests) (is : request ≡ get_or requests place request) where
    abbrev before : List BatchRequest
    before = take place requests

    abbrev later : List BatchRequest
    later = drop (place + 1) requests

    abbrev own : List (Option Refusal)
    own = tests_of_request airport state before request

    -- it is tried before those behind it
    in-turn : drop place requests ≡ request ∷ later
    in-turn =
        drop-cons requests place request within ∙ ap (λ (r : BatchRequest). r ∷ drop (suc place) requests) (sym is)
        ∙ ap (λ (n : ℕ). request ∷ drop n requests) (sym (add-one place))

    so-far : take (place + 1) requests ≡ before ++ request ∷ []
    so-far = take_more requests place request within ∙ ap (λ (r : BatchRequest). before ++ r ∷ []) (sym is)

    parted : (more : List (Option Refusal)) → tests_of_requests airport state before (drop place requests) ++ more ≡ own ++ (tests_of_requests airport state (take (place + 1) requests) later ++ more)
    parted more =
        ap (λ (rs : List BatchRequest). tests_of_requests airport state before rs ++ more) in-turn
        ∙ append_assoc own (tests_of_requests airport state (before ++ request ∷ []) later) more
        ∙ ap (λ (rs : List BatchRequest). own ++ (tests_of_requests airport state rs later ++ more)) (sym so-far)

    pub one-tried : (wishes : List Wish) (wish : Wish) → AreTried requests place wishes → wish_of airport request ≡ Some wish → first_of own ≡ None → AreTried requests (place + 1) (wishes ++ wish ∷ [])
    one-tried wishes wish tried names none = record {
      known = ap (wishes_of airport) so-far ∙ wishes-more airport before request wishes wish tried.known names;
      come = λ more. tried.come more ∙ ap first_of (parted more) ∙ passed own _ none;
    }

    pub one-refused : (wishes : List Wish) (why : Refusal) → AreTried requests place wishes → first_of own ≡ Some why → first_refusal airport state (command.Batch requests) ≡ Some why
    one-refused wishes why tried some =
        let more : List (Option Refusal) = full_with (length requests) state ∷ [] in
        tried.come more ∙ ap first_of (parted more) ∙ stopped own _ why some
