-- How is a step written in the command that files a route? No public clause cites this file.
use Rattle.std.specs.Prelude.{ℕ, List, ◌∷◌, ◌++◌, decimal}
use Rattle.taxi_base.specs.declared.rows.Step.{Step}
use Rattle.taxi_base.specs.Airport.{Airport}
use Rattle.airport_file.specs.Words.{word_of_arc}

-- its arc and when it is left, each behind a blank
abbrev pub step_text : Airport → Step → List ℕ
step_text airport step = (32 ∷ word_of_arc airport step.arc) ++ 32 ∷ decimal step.leave
