-- Which searches does a block tell of, one after the other, and what does each seek? A block tells of one, of none, or, where it answers
-- a batch or a late flight, of one for each entry that is not dropped.
use Rattle.std.specs.Prelude.{ℕ, List, [], ◌∷◌, flat_map, Option, None, option_map, option_and_then}
use Rattle.std.specs.Option.{option_map_or}
use Rattle.taxi_base.specs.Airport.{Airport}
use Rattle.taxi_base.specs.State.{State}
use Rattle.taxi_base.specs.Late.{base_state}
use Rattle.taxi_text.specs.declared.command.Command.{Command}
use Rattle.taxi_text.specs.declared.command.Command.TheVariants as command
use Rattle.taxi_text.specs.Commands.{command_of}
use Rattle.replies.specs.declared.entries.Entry.{Entry}
use Rattle.replies.specs.declared.entries.Entry.TheVariants as entry
use Rattle.replies.specs.declared.block.Block.{Block}
use Rattle.replies.specs.declared.block.Block.TheVariants.{Route, NoRoute, Batch, Late}
use Rattle.replies.specs.Batches.{wishes_of, wish_named}
use Rattle.replies.specs.Repairs.{delay_of, sought_at_turn}
use Rattle.replies.specs.Sought.{Sought, sought_of, sought_wish}

-- one search: what is sought, and what is told of it, which is a route or that there is none
pub record Turn : Type 0 where
  pub sought : Sought
  pub told : Block

-- what is told in an entry, as a block of its own; nothing of a flight that is dropped
abbrev pub told_of : List ℕ × Entry → List Block
told_of (name, entry.Route second steps labels) = Route name second steps labels ∷ []
told_of (name, entry.NoRoute labels) = NoRoute labels ∷ []
told_of (name, entry.Dropped) = []

-- what a block tells of searches, in its order
abbrev pub told_in : Block → List Block
told_in (Route name second steps labels) = Route name second steps labels ∷ []
told_in (NoRoute labels) = NoRoute labels ∷ []
told_in (Batch total entries) = flat_map told_of entries
told_in (Late flight entries) = flat_map told_of entries
told_in _ = []

-- the state after a search: a route is in force
abbrev pub after_told : Sought → Block → State
after_told s (Route name second steps labels) = s.with_steps steps
after_told s _ = s.with_none

-- ---- what is told, with what is sought in the state that it finds

pub record Telling : Type 0 where
  pub sought_in : State → Option Sought
  pub told : Block

-- What a command given in a state seeks for the flight of a name: in a batch what a line of its own would seek, and where a flight is late
-- what is sought at its turn.
abbrev pub sought_for : Airport → State → Command → List ℕ → State → Option Sought
sought_for airport before (command.Batch requests) name state = option_map (sought_wish airport state) (option_and_then (wish_named name) (wishes_of airport requests))
sought_for airport before (command.Late flight time until) name state =
    option_and_then (λ delay. sought_at_turn airport delay before name state) (delay_of before flight time until)
sought_for airport before other name state = None

abbrev pub tellings_of : Airport → State → Command → List ℕ × Entry → List Telling
tellings_of airport before command (name, entry.Route second steps labels) =
    record { sought_in = sought_for airport before command name; told = Route name second steps labels } ∷ []
tellings_of airport before command (name, entry.NoRoute labels) = record { sought_in = sought_for airport before command name; told = NoRoute labels } ∷ []
tellings_of airport before command (name, entry.Dropped) = []

abbrev pub tellings : Airport → State → Command → Block → List Telling
tellings airport before command (Route name second steps labels) =
    record { sought_in = λ state. sought_of airport state command; told = Route name second steps labels } ∷ []
tellings airport before command (NoRoute labels) = record { sought_in = λ state. sought_of airport state command; told = NoRoute labels } ∷ []
tellings airport before command (Batch total entries) = flat_map (tellings_of airport before command) entries
tellings airport before command (Late flight entries) = flat_map (tellings_of airport before command) entries
tellings airport before command _ = []

-- the state that the searches of a block begin in: where a flight is late, those in its way have given way at once
abbrev pub begins_for : Airport → State → Command → Block → State
begins_for airport state (command.Late name time until) (Late flight entries) = option_map_or (base_state airport state) (delay_of state name time until) state
begins_for airport state command block = state

-- ---- the searches in turn

-- Each seeks what is sought for what is told in the state after the one before. Where nothing is, the turns end.
abbrev pub in_turns : State → List Telling → List Turn
in_turns state [] = []
in_turns state (telling ∷ later) =
    option_map_or (λ s. record { sought = s; told = telling.told } ∷ in_turns (after_told s telling.told) later) (telling.sought_in state) []

-- the searches of a block that answers a command
abbrev pub turns_for : Airport → State → Command → Block → List Turn
turns_for airport state command block = in_turns (begins_for airport state command block) (tellings airport state command block)

-- the searches of a block that answers a line
abbrev pub turns_of : Airport → State → List ℕ → Block → List Turn
turns_of airport state line block = option_map_or (λ command. turns_for airport state command block) (command_of line) []

-- the state that they begin in
abbrev pub begins_of : Airport → State → List ℕ → Block → State
begins_of airport state line block = option_map_or (λ command. begins_for airport state command block) (command_of line) state

-- the state after all of them
abbrev pub after_turns : State → List Turn → State
after_turns state [] = state
after_turns state (turn ∷ later) = after_turns (after_told turn.sought turn.told) later
