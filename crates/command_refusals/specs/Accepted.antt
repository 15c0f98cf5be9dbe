-- What is taken of a command that puts a flight or a work party in force by hand, and what a refusal is.
use Rattle.std.specs.Prelude.{◌≡◌, ◌≤◌, ◌<◌, ◌⊎◌, false, length, Some, None}
use Rattle.taxi_base.specs.declared.answers.Request.TheVariants as request
use Rattle.taxi_base.specs.declared.answers.Flight.{Flight}
use Rattle.taxi_base.specs.declared.answers.Party.{Party}
use Rattle.taxi_base.specs.declared.answers.Refusal.{Refusal}
use Rattle.taxi_base.specs.declared.answers.Refusal.TheVariants as refusal
use Rattle.taxi_base.specs.Airport.{Airport}
use Rattle.taxi_base.specs.Walks.{IsFeasibleWalk, begin_of, end_of}
use Rattle.taxi_base.specs.State.{State, holder_count, has_holder, with_flight, with_party, party_hold, IsFeasibleHold}
use Rattle.taxi_base.specs.Faults.{conditions_in}
use Rattle.taxi_text.specs.declared.command.Command.{Command}
use Rattle.replies.specs.declared.block.Block.TheVariants.{Filed}
use Rattle.replies.specs.Printable.{IsName}
use Rattle.replies.specs.Refusals.{first_refusal}
use Rattle.replies.specs.Replies.{IsDueTo}

-- a flight that a command is due to put in force by its route, which is a feasible walk among the holders before
pub record IsAccepted (airport : Airport) (state : State) (command : Command) (flight : Flight) : Type 0 where
  pub due : IsDueTo airport state command (Filed flight.name (begin_of flight.steps) (end_of flight.steps)) (with_flight flight state)
  pub request : flight.request ≡ request.Filed
  pub name : IsName flight.name
  pub absent : has_holder flight.name state ≡ false
  pub few : holder_count state < 4096
  pub some : 1 ≤ length flight.steps
  pub feasible : IsFeasibleWalk (conditions_in airport flight.class state) flight.steps

-- a work party that a command is due to put in force, where its segment may be shut among the holders before
pub record IsAcceptedParty (airport : Airport) (state : State) (command : Command) (party : Party) : Type 0 where
  pub due : IsDueTo airport state command (Filed party.name party.from party.until) (with_party party state)
  pub name : IsName party.name
  pub absent : has_holder party.name state ≡ false
  pub few : holder_count state < 4096
  pub feasible : IsFeasibleHold airport state (party_hold party)

-- a refusal that is due, or stands for want of memory
abbrev pub IsRefused : Airport → State → Command → Refusal → Type 0
IsRefused airport state command why = (why ≡ refusal.Memory) ⊎ (first_refusal airport state command ≡ Some why)

-- the same where all that could be refused was tried before memory was asked for
abbrev pub IsRefusedOrUnprepared : Airport → State → Command → Refusal → Type 0
IsRefusedOrUnprepared airport state command why =
    ((why ≡ refusal.Memory) × (first_refusal airport state command ≡ None)) ⊎ (first_refusal airport state command ≡ Some why)
