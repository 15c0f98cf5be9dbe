-- What does a run over a checkpoint bring back, and what is it answered?
use Rattle.std.specs.Prelude.{not, List, ◌++◌, map, filter}
use Rattle.taxi_base.specs.declared.answers.Request.TheVariants as request
use Rattle.taxi_base.specs.declared.answers.Flight.{Flight}
use Rattle.taxi_base.specs.declared.answers.Party.{Party}
use Rattle.taxi_base.specs.Walks.{begin_of, end_of}
use Rattle.taxi_base.specs.State.{State}
use Rattle.replies.specs.declared.block.Block.{Block}
use Rattle.replies.specs.declared.block.Block.TheVariants.{Filed}
use Rattle.checkpoint_file.specs.Lines.{is_too_long}

-- the flights whose routes a command can file
abbrev pub fileable : List Flight → List Flight
fileable flights = filter (λ flight. not (is_too_long flight)) flights

-- a flight on its route, as one that was filed
abbrev pub as_filed : Flight → Flight
as_filed flight = record flight { request = request.Filed }

-- the flights whose routes a command can file, each as filed, and all work parties
abbrev pub restored : State → State
restored state = record { flights = map as_filed (fileable state.flights); parties = state.parties }

-- the reply that a flight is in force, and that a work party is
abbrev pub flight_filed : Flight → Block
flight_filed flight = Filed flight.name (begin_of flight.steps) (end_of flight.steps)

abbrev pub party_filed : Party → Block
party_filed party = Filed party.name party.from party.until

-- that all holders are, one after the other
abbrev pub all_filed : State → List Block
all_filed state = map flight_filed state.flights ++ map party_filed state.parties
