use Rattle.std.proofs.Common.{◌≡◌, ◌≤◌, List, length}
use Rattle.taxi_text.specs.declared.command.BatchRequest.{BatchRequest}
use Rattle.taxi_text.specs.Commands.{requests_of}
use Rattle.taxi_text.specs.Words.{words_left}
use Rattle.taxi_text.specs.Reading.{StandsFor}
use Rattle.taxi_text.proofs.Gathering.{going_on}
use Rattle.taxi_text.proofs.batch.read_batch.Given as goal

-- what was read stands for some requests, and the words that are left give the others
abbrev pub invariant-loop-verb : goal.invariant-loop-verb
invariant-loop-verb l =
    (done : List BatchRequest) × StandsFor done l.gathered × (l.gathered.count ≤ 6) × (requests_of (words_left l.initial.words) ≡ going_on done (requests_of (words_left l.words)))

abbrev pub decreases-loop-verb : goal.decreases-loop-verb
decreases-loop-verb l = length (words_left l.words)
