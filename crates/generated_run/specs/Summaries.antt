-- What comes of the commands of a made input?
use Rattle.std.specs.Prelude.{ℕ, ◌≡◌, ◌-◌, ◌++◌, ◌∷◌, [], Bool, true, false, List, All, length, count_by, sum_by, codes, decimal}
use Rattle.taxi_base.specs.Airport.{Airport}
use Rattle.taxi_base.specs.State.{State, no_holder}
use Rattle.taxi_base.specs.Walks.{begin_of, end_of}
use Rattle.replies.specs.declared.block.Block.{Block}
use Rattle.replies.specs.declared.block.Block.TheVariants.{Route, NoRoute}
use Rattle.transcripts.specs.Runs.{IsRun}
pub use Rattle.transcripts.specs.Supplied.{FoundMemory}
use Rattle.traffic_generator.specs.Grid.{grid_airport}
use Rattle.traffic_generator.specs.Flights.{command_lines}
use Rattle.generated_run.specs.declared.summary.Summary.{Summary}

-- ---- counts

-- whether a block tells a route that was found
abbrev pub is_route : Block → Bool
is_route (Route flight second steps labels) = true
is_route _ = false

-- whether a block tells that there is no route
abbrev pub is_no_route : Block → Bool
is_no_route (NoRoute labels) = true
is_no_route _ = false

-- how long a route that was found is under way: its end less its begin; no other block tells of seconds
abbrev pub seconds_of : Block → ℕ
seconds_of (Route flight second steps labels) = end_of steps - begin_of steps
seconds_of _ = 0

-- what came of commands over an airport, which were answered by these blocks
abbrev pub summary_of : Airport → List Block → Summary
summary_of airport blocks = record {
  nodes = length airport.nodes;
  segments = length airport.segments;
  commands = length blocks;
  routes = count_by is_route blocks;
  no_routes = count_by is_no_route blocks;
  seconds = sum_by seconds_of blocks;
}

-- ---- runs

-- what came of a run over lines from no holder on, in which memory ran out for no command
pub record IsSummaryOf (airport : Airport) (lines : List (List ℕ)) (summary : Summary) : Type 0 where
  pub blocks : List Block
  pub after : State
  pub run : IsRun airport no_holder lines blocks after
  pub found_memory : All FoundMemory blocks
  pub counted : summary ≡ summary_of airport blocks

-- the same of the airport and the commands that are made from a number, a side and a count of flights
abbrev pub IsSummary : ℕ → ℕ → ℕ → Summary → Type 0
IsSummary number side flights = IsSummaryOf (grid_airport number side) (command_lines number side flights)

-- ---- the text

-- a name and a count
abbrev pub count_line : List ℕ → ℕ → List ℕ
count_line name count = name ++ 32 ∷ decimal count ++ 10 ∷ []

abbrev pub six_lines : Summary → List ℕ
six_lines summary =
    count_line (codes "nodes") summary.nodes
    ++ count_line (codes "segments") summary.segments
    ++ count_line (codes "commands") summary.commands
    ++ count_line (codes "routes") summary.routes
    ++ count_line (codes "no-route") summary.no_routes
    ++ count_line (codes "seconds") summary.seconds
