-- What holds of a session's parts between two calls.
use Rattle.std.specs.Prelude.{◌≡◌, ◌≤◌, [], ℕ, List, Bool, true, Ok, IfSome, length}
use Rattle.taxi_base.specs.Airport.{Airport}
use Rattle.taxi_base.specs.State.{no_holder}
use Rattle.airport_file.specs.Reading.{airport_of}
use Rattle.block_reader.specs.Read.{IsBlockText}
use Rattle.command_run.specs.Supplied.{IsKeptRun}
use Rattle.run_figures.specs.Counts.{AreCounts}
use Rattle.taxi_engine.specs.Engine.{EngineState}
use Rattle.engine_texts.specs.declared.log.Log.{Log}
use Rattle.engine_texts.specs.Log.{lines_in, last_of}

-- The log is of the run that brought the engine to its state: it has the run's lines, and counts its replies. The last of them is the reply that
-- the engine has.
pub record IsRunLogged (engine : EngineState) (log : Log) : Type 0 where
  pub run : IsKeptRun engine.airport (lines_in log.lines) engine.state (λ blocks. AreCounts engine.airport blocks log.counts)
  pub reply : IfSome (last_of (lines_in log.lines)) (λ line. IsBlockText engine.airport engine.reply)

-- The engine is over the airport of these bytes, and a log that is whole is of its run.
pub record IsInStep (bytes : List ℕ) (engine : EngineState) (whole : Bool) (log : Log) : Type 0 where
  pub few : length bytes ≤ 4194304
  pub airport : airport_of bytes ≡ Ok engine.airport
  pub logged : whole ≡ true → IsRunLogged engine log

-- no line is logged, and no reply is counted
pub record IsEmptyLog (log : Log) : Type 0 where
  pub lines : lines_in log.lines ≡ []
  pub counts : (airport : Airport) → AreCounts airport [] log.counts

-- what a session begins with: an engine over the airport of these bytes with nothing in force, and an empty log
pub record IsBeginning (bytes : List ℕ) (log : Log) (engine : EngineState) : Type 0 where
  pub few : length bytes ≤ 4194304
  pub airport : airport_of bytes ≡ Ok engine.airport
  pub state : engine.state ≡ no_holder
  pub empty : IsEmptyLog log
