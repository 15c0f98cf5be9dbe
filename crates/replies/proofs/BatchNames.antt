-- A batch that is refused nothing has new names, and its wishes are known by them.
use Rattle.std.proofs.Common.{◌≡◌, ◌∙◌, ℕ, ◌+◌, ◌≤◌, List, [], ◌∷◌, ◌++◌, length, map, IsFalse, Option, Some, None, option_map, inl, inr, refl, sym, ap, subst, arith, bytes_eq}
use Rattle.std.specs.Prelude.{All, AllPairs}
use Rattle.std.specs.List.{list_any}
use Rattle.std.proofs.lemmas.Option.{same_Some}
use Rattle.std.proofs.lemmas.Bool.{or_parts, cases_lt, lt-ltb}
use Rattle.std.proofs.lemmas.List.Elements.{All-nil, All-cons, All-head, All-tail, All-weaker}
use Rattle.std.proofs.lemmas.List.{length-map}
use Rattle.std.proofs.lemmas.List.Folds.{list_any-append}
use Rattle.taxi_base.specs.declared.answers.Refusal.{Refusal}
use Rattle.taxi_base.specs.declared.answers.Refusal.TheVariants as refusal
use Rattle.taxi_base.specs.declared.answers.Request.{Request}
use Rattle.taxi_base.specs.Airport.{Airport, class_named}
use Rattle.taxi_base.specs.State.{State, has_holder, holder_count}
use Rattle.std.proofs.lemmas.List.Kept.{AllPairs-cons}
use Rattle.taxi_base.proofs.NameLaws.{differ-turned}
use Rattle.taxi_text.specs.declared.command.Asked.{Asked}
use Rattle.taxi_text.specs.declared.command.BatchRequest.{BatchRequest}
use Rattle.taxi_text.specs.declared.command.BatchRequest.TheVariants as requested
use Rattle.taxi_text.specs.declared.command.Command.TheVariants as command
use Rattle.replies.specs.declared.wish.Wish.{Wish}
use Rattle.replies.specs.Asked.{asked_in, arrival_named, departure_named}
use Rattle.replies.specs.Batches.{wish_for, wish_of, wishes_of, names_of}
use Rattle.replies.specs.Refusals.{first_of, most_holders, full_with, is_name_of, in_force_or_before, tests_of_words, tests_of_request, tests_of_requests, first_refusal}
use Rattle.replies.proofs.FiledLaws.{and_then-some, map-some}
use Rattle.replies.proofs.RefusalLaws.{none-first, not_refused}
use Rattle.replies.proofs.NewNames.{AreNew, different-pairs}

-- ---- none of the tests gives a refusal

none-append : (tests more : List (Option Refusal)) → first_of (tests ++ more) ≡ None → (first_of tests ≡ None) × (first_of more ≡ None)
none-append [] more e = (refl, e)
none-append (None ∷ tests) more e = none-append tests more e
none-append (Some why ∷ tests) more e = absurd (cc e)

not-full_with : (more : ℕ) (state : State) → full_with more state ≡ None → holder_count state + more ≤ most_holders
not-full_with more state e =
    elim (cases_lt most_holders (holder_count state + more)) [
      | inl many ↦ absurd (cc (rw (lt-ltb most_holders (holder_count state + more) many) at e))
      | inr room ↦ room
    ]

-- ---- the names of requests

abbrev pub names_asked : List BatchRequest → List (List ℕ)
names_asked requests = map (λ request. (asked_in request).flight) requests

-- of two names in a list the later is not the sooner
abbrev Differ : List ℕ → List ℕ → Type 0
Differ sooner later = IsFalse (bytes_eq later sooner)

-- ---- the wishes of requests

-- what a request asks for, in the airport's own terms
abbrev pub request_named : Airport → BatchRequest → Option Request
request_named airport (requested.Arrival asked) = arrival_named airport asked
request_named airport (requested.Departure asked) = departure_named airport asked

module _ (airport : Airport) where
  wish-parts : (asked : Asked) (o : Option Request) (wish : Wish) → wish_for airport asked o ≡ Some wish → (wish.name ≡ asked.flight) × (o ≡ Some wish.request)
  wish-parts asked o wish e =
      let class = and_then-some (λ class. option_map (λ r. record { name = asked.flight; class = class; request = r }) o) (class_named airport asked.class) wish e in
      let of = map-some (λ r. record { name = asked.flight; class = class.0; request = r }) o wish class.2 in
      (sym (ap (λ (w : Wish). w.name) of.2), of.1 ∙ ap (λ (w : Wish). Some w.request) of.2)

  -- a wish has the name and the request of its words
  pub wish-is : (request : BatchRequest) (wish : Wish) → wish_of airport request ≡ Some wish → (wish.name ≡ (asked_in request).flight) × (request_named airport request ≡ Some wish.request)
  wish-is (requested.Arrival asked) wish e = wish-parts asked (arrival_named airport asked) wish e
  wish-is (requested.Departure asked) wish e = wish-parts asked (departure_named airport asked) wish e

  -- the first request's wish, and those of the others
  pub wishes-cons : (request : BatchRequest) (later : List BatchRequest) (wishes : List Wish) → wishes_of airport (request ∷ later) ≡ Some wishes
      → (wish : Wish) × (others : List Wish) × (wish_of airport request ≡ Some wish) × (wishes_of airport later ≡ Some others) × (wish ∷ others ≡ wishes)
  wishes-cons request later wishes e =
      let wish = and_then-some (λ wish. option_map (λ wishes. wish ∷ wishes) (wishes_of airport later)) (wish_of airport request) wishes e in
      let others = map-some (λ wishes. wish.0 ∷ wishes) (wishes_of airport later) wishes wish.2 in
      (wish.0, others.0, wish.1, others.1, others.2)

  pub wishes-names : (requests : List BatchRequest) (wishes : List Wish) → wishes_of airport requests ≡ Some wishes → names_of wishes ≡ names_asked requests
  wishes-names [] wishes e = sym (ap names_of (same_Some [] wishes e))
  wishes-names (request ∷ later) wishes e =
      let parts = wishes-cons request later wishes e in
      let rest = wishes-names later parts.1 parts.3 in
      let first = (wish-is request parts.0 parts.2).0 in
      sym (ap names_of parts.4) ∙ (λ i. first i ∷ rest i)

  pub wishes-many : (requests : List BatchRequest) (wishes : List Wish) → wishes_of airport requests ≡ Some wishes → length wishes ≡ length requests
  wishes-many [] wishes e = sym (ap (λ (ws : List Wish). length ws) (same_Some [] wishes e))
  wishes-many (request ∷ later) wishes e =
      let parts = wishes-cons request later wishes e in
      omega (arith, ap (λ (ws : List Wish). length ws) parts.4, wishes-many later parts.1 parts.3)

  -- what holds of each request holds of its wish
  pub wishes-all : (IsAsked : BatchRequest → Type 0) (IsWished : Wish → Type 0) → ((request : BatchRequest) (wish : Wish) → wish_of airport request ≡ Some wish → IsAsked request → IsWished wish)
      → (requests : List BatchRequest) (wishes : List Wish) → wishes_of airport requests ≡ Some wishes → All IsAsked requests → All IsWished wishes
  wishes-all IsAsked IsWished each [] wishes e all = subst (All IsWished) (same_Some [] wishes e) (All-nil IsWished)
  wishes-all IsAsked IsWished each (request ∷ later) wishes e all =
      let parts = wishes-cons request later wishes e in
      subst (All IsWished) parts.4
      (All-cons IsWished parts.0 parts.1 (each request parts.0 parts.2 (All-head IsAsked request later all)) (wishes-all IsAsked IsWished each later parts.1 parts.3 (All-tail IsAsked request later all)))

-- ---- the names are free

module _ (airport : Airport) (state : State) where
  -- no holder has the name, and no request before has it
  record IsFree (before : List BatchRequest) (name : List ℕ) : Type 0 where
    absent : IsFalse (has_holder name state)
    unasked : IsFalse (list_any (is_name_of name) before)

  free-fewer : (before : List BatchRequest) (request : BatchRequest) (name : List ℕ) → IsFree (before ++ request ∷ []) name → IsFree before name
  free-fewer before request name free = record {
    absent = free.absent;
    unasked = (or_parts (list_any (is_name_of name) before) (list_any (is_name_of name) (request ∷ [])) (sym (list_any-append (is_name_of name) before (request ∷ [])) ∙ free.unasked)).0;
  }

  free-differ : (before : List BatchRequest) (request : BatchRequest) (name : List ℕ) → IsFree (before ++ request ∷ []) name → Differ (asked_in request).flight name
  free-differ before request name free =
      let here = (or_parts (list_any (is_name_of name) before) (list_any (is_name_of name) (request ∷ [])) (sym (list_any-append (is_name_of name) before (request ∷ [])) ∙ free.unasked)).1 in
      differ-turned (asked_in request).flight name (or_parts (bytes_eq (asked_in request).flight name) (list_any (is_name_of name) []) here).0

  requests-free : (before requests : List BatchRequest) → first_of (tests_of_requests airport state before requests) ≡ None → All (IsFree before) (names_asked requests) × AllPairs Differ (names_asked requests)
  requests-free before [] e = (All-nil (IsFree before), λ i j d low high. absurd (omega (arith, high)))
  requests-free before (request ∷ later) e =
      let parts = none-append (tests_of_request airport state before request) (tests_of_requests airport state (before ++ request ∷ []) later) e in
      let name : List ℕ = (asked_in request).flight in
      let neither = or_parts (has_holder name state) (list_any (is_name_of name) before) (not_refused _ refusal.InForce (none-first (in_force_or_before state before name) (tests_of_words airport request) parts.0)) in
      let rest = requests-free (before ++ request ∷ []) later parts.1 in (
        All-cons (IsFree before) name (names_asked later) (record { absent = neither.0; unasked = neither.1 })
            (All-weaker (IsFree (before ++ request ∷ [])) (IsFree before) (λ n free. free-fewer before request n free) (names_asked later) rest.0),
        AllPairs-cons Differ name (names_asked later) (All-weaker (IsFree (before ++ request ∷ [])) (Differ name) (λ n free. free-differ before request n free) (names_asked later) rest.0) rest.1,
      )

  -- ---- a batch that is refused nothing

  pub batch-free : (requests : List BatchRequest) (wishes : List Wish) → wishes_of airport requests ≡ Some wishes → first_refusal airport state (command.Batch requests) ≡ None
      → All (λ n. IsFalse (has_holder n state)) (names_of wishes) × AllPairs (λ sooner later. IsFalse (bytes_eq later sooner)) (names_of wishes) × (holder_count state + length (names_of wishes) ≤ most_holders)
  batch-free requests wishes known none =
      let parts = none-append (tests_of_requests airport state [] requests) (full_with (length requests) state ∷ []) none in
      let free = requests-free [] requests parts.0 in
      let names = wishes-names airport requests wishes known in
      let long : length (names_of wishes) ≡ length requests = omega (arith, length-map wishes (λ (w : Wish). w.name), wishes-many airport requests wishes known) in
      let room = not-full_with (length requests) state (none-first (full_with (length requests) state) [] parts.1) in (
        subst (All (λ n. IsFalse (has_holder n state))) (sym names) (All-weaker (IsFree []) (λ n. IsFalse (has_holder n state)) (λ n is. is.absent) (names_asked requests) free.0),
        subst (AllPairs Differ) (sym names) free.1,
        omega (arith, room, long),
      )

  pub batch-new : (requests : List BatchRequest) (wishes : List Wish) → wishes_of airport requests ≡ Some wishes → first_refusal airport state (command.Batch requests) ≡ None
      → AreNew state (names_of wishes)
  batch-new requests wishes known none =
      let free = batch-free requests wishes known none in
      record { absent = free.0; differ = different-pairs (names_of wishes) free.1; room = free.2 }
