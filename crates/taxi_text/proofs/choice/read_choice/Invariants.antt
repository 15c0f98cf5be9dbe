use Rattle.std.proofs.Common.{◌≡◌, ◌≤◌, ℕ, List, length}
use Rattle.taxi_text.specs.Commands.{names_of}
use Rattle.taxi_text.specs.Words.{words_left}
use Rattle.taxi_text.specs.Reading.{StandsFor}
use Rattle.taxi_text.proofs.Gathering.{going_on}
use Rattle.taxi_text.proofs.choice.read_choice.Given as goal

-- what was read stands for some names, and the words that are left give the others
abbrev pub invariant-loop-word : goal.invariant-loop-word
invariant-loop-word l =
    (done : List (List ℕ)) × StandsFor done l.gathered × (l.gathered.count ≤ 16) × (names_of (words_left l.initial.words) ≡ going_on done (names_of (words_left l.words)))

abbrev pub decreases-loop-word : goal.decreases-loop-word
decreases-loop-word l = length (words_left l.words)
