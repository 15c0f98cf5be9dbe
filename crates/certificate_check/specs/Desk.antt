-- When are the parts of a checker in order?
use Rattle.std.specs.Prelude.{All, IsTrue, ⊤}
use Rattle.taxi_base.specs.declared.answers.Request.{Request}
use Rattle.taxi_base.specs.declared.answers.Request.TheVariants as request
use Rattle.taxi_base.specs.Airport.{Airport, layout_of, arc_exists}
use Rattle.taxi_base.specs.State.{IsSound}
use Rattle.checked_state.specs.declared.flights.HeldFlights.{HeldFlights}
use Rattle.checked_state.specs.Flights.{state_of, HasSpansOf}
use Rattle.check_rows.specs.declared.known.KnownWindows.{KnownWindows}
use Rattle.due_refusals.specs.KnownIn.{AreKnownIn}
use Rattle.check_walks.specs.Told.{CanBeSought}

-- what a flight in force asked for can be sought again
abbrev pub CanGoOn : Airport → Request → Type 0
CanGoOn airport request.Filed = ⊤
CanGoOn airport (request.Arrival from to time hold) = CanBeSought airport (request.Arrival from to time hold)
CanGoOn airport (request.Departure from to time queue) = CanBeSought airport (request.Departure from to time queue)

-- the state is sound, the spans are those of its holders, each flight's request can be sought again, and the windows that are known are those that they leave
pub record IsReady (airport : Airport) (held : HeldFlights) (known : KnownWindows) : Type 0 where
  pub is_sound : IsSound airport (state_of held)
  pub has_spans : HasSpansOf airport (state_of held) held
  pub can_go_on : All (λ f. CanGoOn airport f.request) (state_of held).flights
  pub are_known : AreKnownIn airport (state_of held) known

-- The same of a state that may not be sound: its flights are on arcs of the airport.
pub record IsTidy (airport : Airport) (held : HeldFlights) (known : KnownWindows) : Type 0 where
  pub has_spans : HasSpansOf airport (state_of held) held
  pub on_arcs : All (λ f. All (λ step. IsTrue (arc_exists (layout_of airport) step.arc)) f.steps) (state_of held).flights
  pub can_go_on : All (λ f. CanGoOn airport f.request) (state_of held).flights
  pub are_known : AreKnownIn airport (state_of held) known
