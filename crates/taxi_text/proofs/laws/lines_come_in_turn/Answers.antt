use Rattle.taxi_text.proofs.FirstPlace.{lines-first, lines-last}
use Rattle.taxi_text.proofs.laws.lines_come_in_turn.Goals as goal

pub returns-clause-first : goal.returns-clause-first
returns-clause-first c = lines-first

pub returns-clause-last : goal.returns-clause-last
returns-clause-last c = lines-last
