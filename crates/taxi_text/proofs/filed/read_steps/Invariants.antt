use Rattle.std.proofs.Common.{◌≡◌, List, length}
use Rattle.taxi_text.specs.declared.command.FiledStep.{FiledStep}
use Rattle.taxi_text.specs.Commands.{steps_of}
use Rattle.taxi_text.proofs.Gathering.{going_on}
use Rattle.taxi_text.specs.Words.{words_left}
use Rattle.taxi_text.specs.Reading.{StandsFor}
use Rattle.taxi_text.proofs.filed.read_steps.Given as goal

-- what was read stands for some steps, and the words that are left give the others
abbrev pub invariant-loop-arc : goal.invariant-loop-arc
invariant-loop-arc l = (done : List FiledStep) × StandsFor done l.gathered × (steps_of (words_left l.initial.words) ≡ going_on done (steps_of (words_left l.words)))

abbrev pub decreases-loop-arc : goal.decreases-loop-arc
decreases-loop-arc l = length (words_left l.words)
