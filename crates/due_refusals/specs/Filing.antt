-- What is due to a route that is given by hand, and which second is the first outside some windows?
use Rattle.std.specs.Prelude.{ℕ, ◌≡◌, ◌≤◌, List, Some, None, IsFalse}
use Rattle.taxi_base.specs.declared.rows.Span.{Span}
use Rattle.taxi_base.specs.declared.answers.Flight.{Flight}
use Rattle.taxi_base.specs.declared.answers.Request.TheVariants as request
use Rattle.taxi_base.specs.Airport.{Airport, class_named}
use Rattle.taxi_base.specs.Windows.{AllFree, covers}
use Rattle.taxi_base.specs.State.{State}
use Rattle.taxi_text.specs.declared.command.Filed.{Filed}
use Rattle.taxi_text.specs.declared.command.Command.TheVariants as command
use Rattle.replies.specs.Asked.{filed_steps}
use Rattle.replies.specs.Refusals.{first_refusal}
use Rattle.due_refusals.specs.declared.filed.Due.{Due}
use Rattle.due_refusals.specs.declared.filed.Due.TheVariants.{Refused, Accepted}

-- the flight that takes the route, which is not refused
pub record IsAccepted (airport : Airport) (state : State) (filed : Filed) (flight : Flight) : Type 0 where
  pub unrefused : first_refusal airport state (command.File filed) ≡ None
  pub same_name : flight.name ≡ filed.flight
  pub by_hand : flight.request ≡ request.Filed
  pub class_known : class_named airport filed.class ≡ Some flight.class
  pub steps_known : filed_steps airport filed.start filed.steps ≡ Some flight.steps

-- the refusal is the first, or there is none, and this is the flight
abbrev pub IsDueOf : Airport → State → Filed → Due → Type 0
IsDueOf airport state filed (Refused why) = first_refusal airport state (command.File filed) ≡ Some why
IsDueOf airport state filed (Accepted flight) = IsAccepted airport state filed flight

-- each second from one on is covered up to the first that is not
pub record IsFirstOutside (windows : List Span) (from first : ℕ) : Type 0 where
  pub on : from ≤ first
  pub covered : AllFree (covers windows) (record { from = from; until = first })
  pub outside : IsFalse (covers windows first)
