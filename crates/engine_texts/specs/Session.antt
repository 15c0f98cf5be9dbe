-- What contracts see of a session.
use Rattle.std.specs.Prelude.{◌≡◌, ◌≤◌, ◌++◌, ◌∷◌, [], ℕ, List, Bool, true, false, Option, Some, None, Ok, length, ⊤}
use Rattle.taxi_base.specs.State.{no_holder}
use Rattle.airport_file.specs.Reading.{airport_of}
use Rattle.taxi_engine.specs.Engine.{EngineState}

-- The engine; the lines of all commands that it answered, unless memory ran out for one of them or for its line; and the text that was asked for
-- last.
pub record SessionState : Type 0 where
  pub engine : EngineState
  pub log : Option (List (List ℕ))
  pub told : List ℕ

-- the lines, if they are all that there were
abbrev pub log_of : Bool → List (List ℕ) → Option (List (List ℕ))
log_of true lines = Some lines
log_of false lines = None

-- The session is over the airport of these bytes, with nothing in force, no command and no text.
pub record IsNew (bytes : List ℕ) (session : SessionState) : Type 0 where
  pub airport : airport_of bytes ≡ Ok session.engine.airport
  pub state : session.engine.state ≡ no_holder
  pub reply : session.engine.reply ≡ []
  pub log : session.log ≡ Some []
  pub told : session.told ≡ []

-- The log that there is after an answer has one line more than the one before. Once there is none, there is none again.
abbrev pub IsLogged : Option (List (List ℕ)) → List ℕ → Option (List (List ℕ)) → Type 0
IsLogged before line None = ⊤
IsLogged (Some commands) line (Some after) = after ≡ commands ++ line ∷ []
IsLogged None line (Some after) = ⊥
