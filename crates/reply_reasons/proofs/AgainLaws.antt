-- What a reroute asks for.
use Rattle.std.proofs.Common.{◌≡◌, ◌∙◌, ℕ, ◌-◌, ◌≤◌, false, List, [], ◌∷◌, Option, Some, None, is_some, refl, sym, subst, arith}
use Rattle.std.proofs.lemmas.List.Elements.{All-contains}
use Rattle.taxi_base.specs.declared.answers.Request.{Request}
use Rattle.taxi_base.specs.declared.answers.Request.TheVariants as request
use Rattle.taxi_base.specs.declared.answers.Flight.{Flight}
use Rattle.taxi_base.specs.declared.answers.Refusal.{Refusal}
use Rattle.taxi_base.specs.declared.answers.Refusal.TheVariants as refusal
use Rattle.taxi_base.specs.Airport.{Airport, IsWellFormed}
use Rattle.taxi_base.specs.Walks.{Meets}
use Rattle.taxi_base.specs.State.{State, flight_named, without, conditions_of, IsSound}
use Rattle.taxi_text.specs.declared.command.Command.TheVariants as command
use Rattle.replies.specs.Refusals.{first_of, refused_if, is_filed, not_routed, already_done, already_moving}
use Rattle.replies.proofs.FlightLaws.{flight_named-there}
use Rattle.reroute.proofs.FoundAnew.{departure-early}
use Rattle.reply_reasons.specs.declared.asking.Asking.{Asking}
use Rattle.reply_reasons.specs.Asking.{asking_on, IsEarly, IsAskedBy}
use Rattle.reply_reasons.proofs.AskingLaws.{asked-due}

-- where the first test fails, no route was given by hand
not-filed : (asked : Request) (tests : List (Option Refusal)) → first_of (refused_if (is_filed asked) refusal.NotRouted ∷ tests) ≡ None → is_filed asked ≡ false
not-filed request.Filed tests due = absurd (cc due)
not-filed (request.Arrival from to time hold) tests due = refl
not-filed (request.Departure from to time queue) tests due = refl

no-some : (o : Option Refusal) → false ≡ is_some o → o ≡ None
no-some None e = refl
no-some (Some why) e = absurd (cc e)

same-some : (a b : Flight) → ◌≡◌ {A = Option Flight} (Some a) (Some b) → a ≡ b
same-some a b e = cc

module _ (airport : Airport) (rules : IsWellFormed airport) (state : State) (sound : IsSound airport state) (name : List ℕ) (flight : Flight) (found : flight_named name state.flights ≡ Some flight) where
  met : Meets (conditions_of airport state flight) flight.request flight.steps
  met = All-contains (λ (f : Flight). Meets (conditions_of airport state f) f.request f.steps) state.flights flight sound.requests (flight_named-there name state.flights flight found)

  early-where : (asked : Request) → Meets (conditions_of airport state flight) asked flight.steps → is_filed asked ≡ false → IsEarly asked
  early-where request.Filed meets unfiled = absurd (cc unfiled)
  early-where (request.Arrival from to asked hold) meets unfiled = tt
  early-where (request.Departure from to asked queue) meets unfiled =
      let in_time : asked - queue ≤ airport.horizon = departure-early (conditions_of airport state flight) from to asked queue flight.steps meets in
      omega (arith, in_time, rules.horizon)

  early : (tests : List (Option Refusal)) → first_of (not_routed flight ∷ tests) ≡ None → IsEarly flight.request
  early tests due = early-where flight.request met (not-filed flight.request tests due)

  pub reroute-asked : (time : ℕ) → first_of (not_routed flight ∷ already_done time flight ∷ already_moving time flight ∷ []) ≡ None → (after : State) → after ≡ without name state
      → IsAskedBy airport state (command.Reroute name time) after (Some (asking_on name flight time flight.request))
  reroute-asked time due after is = record {
    due = sym (asked-due airport state (command.Reroute name time) (asking_on name flight time flight.request) (rw found due) (rw found refl));
    others = is;
    timely = early (already_done time flight ∷ already_moving time flight ∷ []) due;
  }

-- nothing refuses the flight that is found, and it is the one that is taken out
pub reroute-found : (airport : Airport) → IsWellFormed airport → (state : State) → IsSound airport state → (name : List ℕ) (time : ℕ) (first out : Flight)
    → Some first ≡ flight_named name state.flights → flight_named name state.flights ≡ Some out
    → (why : Option Refusal) → why ≡ first_of (not_routed first ∷ already_done time first ∷ already_moving time first ∷ []) → false ≡ is_some why
    → (after : State) → after ≡ without name state → (asking : Asking) → asking ≡ asking_on name out time out.request
    → IsAskedBy airport state (command.Reroute name time) after (Some asking)
reroute-found airport rules state sound name time first out is found why told none after left asking asked =
    let same : first ≡ out = same-some first out (is ∙ found) in
    let due = subst (λ (f : Flight). first_of (not_routed f ∷ already_done time f ∷ already_moving time f ∷ []) ≡ None) same (sym told ∙ no-some why none) in
    subst (λ (a : Asking). IsAskedBy airport state (command.Reroute name time) after (Some a)) (sym asked) (reroute-asked airport rules state sound name out found time due after left)
