-- What may a line be answered, and what does the answer promise?
use Rattle.std.specs.Prelude.{ℕ, ◌≡◌, ◌⊎◌, Bool, List, [], ◌∷◌, Option, Some, All, Contains, IsTrue, IsFalse, MatchOption, bytes_eq, ⊤}
use Rattle.std.specs.List.{list_any}
use Rattle.taxi_base.specs.declared.rows.Step.{Step}
use Rattle.taxi_base.specs.declared.answers.Flight.{Flight}
use Rattle.taxi_base.specs.declared.answers.Party.{Party}
use Rattle.taxi_base.specs.declared.answers.Refusal.{Refusal}
use Rattle.taxi_base.specs.declared.answers.Refusal.TheVariants as refusal
use Rattle.taxi_base.specs.Airport.{Airport, IsWellFormed}
use Rattle.taxi_base.specs.Windows.{is_free, AreWindows}
use Rattle.taxi_base.specs.Walks.{IsFeasibleWalk, Meets, begin_of, end_of}
use Rattle.taxi_base.specs.State.{State, has_holder, with_flight, with_party, without, party_hold, holds_in, conditions_of, IsFeasibleHold, IsClashFree, IsSound}
use Rattle.taxi_base.specs.Faults.{conditions_in}
use Rattle.taxi_base.specs.Reports.{timetable_rows, AreHeldRows}
use Rattle.taxi_text.specs.declared.command.Command.{Command}
use Rattle.taxi_text.specs.declared.command.Command.TheVariants as command
use Rattle.taxi_text.specs.Commands.{command_of}
use Rattle.replies.specs.declared.block.Block.{Block}
use Rattle.replies.specs.declared.block.Block.TheVariants.{Refused, Filed, Cancelled, Route, NoRoute, Windows, Occupancy, Timetable, Batch, Late}
use Rattle.replies.specs.declared.entries.Entry.{Entry}
use Rattle.replies.specs.declared.entries.Entry.TheVariants as entry
use Rattle.replies.specs.Printable.{IsName, IsPrintable}
use Rattle.replies.specs.Refusals.{first_refusal}
use Rattle.replies.specs.CarriedOut.{Reply, IsOf, second_of, IsCarriedOut}

-- ---- what is due

-- a refusal leaves the state as it is
abbrev pub refused : State → Refusal → Reply
refused state why = record { block = Refused why; after = state }

-- a command is due its first refusal, and where it has none, that it is carried out
abbrev pub IsDueTo : Airport → State → Command → Block → State → Type 0
IsDueTo airport state command block after =
    MatchOption (first_refusal airport state command) (IsCarriedOut airport state command block after) (λ why. IsOf (refused state why) block after)

-- a line that is no command is a bad line
unfoldable pub IsDue : Airport → State → List ℕ → Block → State → Type 0
IsDue airport state line block after =
    MatchOption (command_of line) (IsOf (refused state refusal.BadLine) block after) (λ command. IsDueTo airport state command block after)

-- ---- what may be answered

-- The lines whose reply never wants for memory: those that take a flight or a work party out.
abbrev pub NeedsNoMemory : Option Command → Type 0
NeedsNoMemory (Some (command.Cancel flight)) = ⊤
NeedsNoMemory (Some (command.WorkDone name)) = ⊤
NeedsNoMemory _ = ⊥

-- A block and the state afterwards answer a line: as is due, or for want of memory, which changes nothing and never
-- answers a line that needs none.
pub data IsReply (airport : Airport) (state : State) (line : List ℕ) : Block → State → Type 0 where
  as_due : (block : Block) (after : State) → IsDue airport state line block after → IsReply airport state line block after
  no_memory : (NeedsNoMemory (command_of line) → ⊥) → IsReply airport state line (Refused refusal.Memory) state

-- ---- what a reply promises

-- a flight goes in, from its begin to its end, on a route that is a feasible walk among the holders before
pub record IsFlightIn (airport : Airport) (state : State) (name : List ℕ) (start end : ℕ) (after : State) : Type 0 where
  pub flight : Flight
  pub name_told : flight.name ≡ name
  pub goes_in : after ≡ with_flight flight state
  pub walk : IsFeasibleWalk (conditions_in airport flight.class state) flight.steps
  pub start_told : begin_of flight.steps ≡ start
  pub end_told : end_of flight.steps ≡ end

-- a work party goes in, for a span for which its segment may be shut among the holders before
pub record IsPartyIn (airport : Airport) (state : State) (name : List ℕ) (start end : ℕ) (after : State) : Type 0 where
  pub party : Party
  pub name_told : party.name ≡ name
  pub goes_in : after ≡ with_party party state
  pub hold : IsFeasibleHold airport state (party_hold party)
  pub start_told : party.from ≡ start
  pub end_told : party.until ≡ end

-- a flight has a route that does what it asked for among the other holders
abbrev pub IsRouteIn : Airport → State → List ℕ → ℕ → List Step → State → Type 0
IsRouteIn airport state name second steps after =
    (flight : Flight) × (flight.name ≡ name) × (flight.steps ≡ steps) × (after ≡ with_flight flight (without flight.name state))
    × Meets (conditions_of airport state flight) flight.request flight.steps × (second_of flight.request flight.steps ≡ second)

-- what an entry says is so
abbrev pub DoesEntry : Airport → State → List ℕ × Entry → State → Type 0
DoesEntry airport state (name, entry.Route second steps labels) after = IsRouteIn airport state name second steps after
DoesEntry airport state (name, entry.NoRoute labels) after = after ≡ state
DoesEntry airport state (name, entry.Dropped) after = ⊥

-- entries in turn, each in the state after the one before
abbrev pub DoInTurn : Airport → State → List (List ℕ × Entry) → State → Type 0
DoInTurn airport state [] after = after ≡ state
DoInTurn airport state (told ∷ entries) after = (mid : State) × DoesEntry airport state told mid × DoInTurn airport mid entries after

-- whether some entries tell of a name
abbrev pub is_told_of : List (List ℕ × Entry) → List ℕ → Bool
is_told_of entries name = list_any (λ told. bytes_eq told.0 name) entries

-- a flight for which a route is told is in force on it
abbrev pub IsHeldAsTold : State → List ℕ × Entry → Type 0
IsHeldAsTold after (name, entry.Route second steps labels) = (flight : Flight) × Contains after.flights flight × (flight.name ≡ name) × (flight.steps ≡ steps)
IsHeldAsTold after (name, entry.NoRoute labels) = ⊤
IsHeldAsTold after (name, entry.Dropped) = ⊤

-- Each route that is told is in force. Flights and work parties that are not told of are as before.
pub record IsRepairIn (state : State) (entries : List (List ℕ × Entry)) (after : State) : Type 0 where
  pub known : All (λ told. IsTrue (has_holder told.0 state)) entries
  pub routes : All (IsHeldAsTold after) entries
  pub flights_stay : (flight : Flight) → Contains state.flights flight → IsFalse (is_told_of entries flight.name) → Contains after.flights flight
  pub flights_were : (flight : Flight) → Contains after.flights flight → IsFalse (is_told_of entries flight.name) → Contains state.flights flight
  pub parties_stay : (party : Party) → Contains state.parties party → IsFalse (is_told_of entries party.name) → Contains after.parties party
  pub parties_were : (party : Party) → Contains after.parties party → Contains state.parties party

-- What a block says is so, and nothing else changes: what is filed is a flight or a work party, and goes in; what is cancelled
-- was in force, and goes out; a route does what its flight asked for among the other holders, and its flight has it afterwards;
-- the windows of a segment are those that the holders leave; the rows of an occupancy are those of all that holds a segment in
-- conflict with it; the rows of a timetable are those of the flights in force; the entries of a batch do so in turn;
-- where a flight is late each route that is told is in force, and who is not told of is as before.
abbrev pub DoesAsItSays : Airport → State → Block → State → Type 0
DoesAsItSays airport state (Filed name start end) after = IsFlightIn airport state name start end after ⊎ IsPartyIn airport state name start end after
DoesAsItSays airport state (Cancelled name) after = IsTrue (has_holder name state) × (after ≡ without name state)
DoesAsItSays airport state (Route name second steps labels) after = IsRouteIn airport state name second steps after
DoesAsItSays airport state (NoRoute labels) after = after ≡ state
DoesAsItSays airport state (Windows segment windows) after =
    AreWindows (is_free airport.conflicts airport.horizon (holds_in airport state) segment) windows × (after ≡ state)
DoesAsItSays airport state (Occupancy segment held) after = AreHeldRows airport state segment held × (after ≡ state)
DoesAsItSays airport state (Timetable flights) after = (flights ≡ timetable_rows state) × (after ≡ state)
DoesAsItSays airport state (Batch total entries) after = DoInTurn airport state entries after
DoesAsItSays airport state (Late flight entries) after = IsRepairIn state entries after
DoesAsItSays airport state (Refused why) after = after ≡ state

-- the name of each holder is a name
abbrev pub HaveNames : State → Type 0
HaveNames state = All (λ f. IsName f.name) state.flights × All (λ p. IsName p.name) state.parties

-- A line is answered by a block: the block is a reply to it, what it says is so, and the state afterwards is sound: no two
-- holders hold conflicting segments at one second. In an airport that keeps the rules the block has a text in the grammar,
-- where holders have names, and they have names afterwards.
pub record IsAnswered (airport : Airport) (state : State) (line : List ℕ) (block : Block) (after : State) : Type 0 where
  pub reply : IsReply airport state line block after
  pub as_it_says : DoesAsItSays airport state block after
  pub sound : IsSound airport after
  pub clash_free : IsClashFree airport after
  pub printable : IsWellFormed airport → HaveNames state → IsPrintable airport block
  pub named : IsWellFormed airport → HaveNames state → HaveNames after
