use Rattle.replies.specs.declared.block.Block.TheVariants.{Route, NoRoute}
use Rattle.replies.proofs.BestLaws.{passed-best, passed-sound}
use Rattle.replies.proofs.TurnLaws.{best-route, best-none}
use Rattle.replies.proofs.laws.what_passes_is_best.Goals as goal

pub returns-clause-best : goal.returns-clause-best
returns-clause-best c = λ airport state line block after well sound passed. passed-best airport state well sound line block after passed

pub returns-clause-route : goal.returns-clause-route
returns-clause-route c = λ airport state line name second steps labels after well sound passed.
    best-route airport state line name second steps labels (passed-best airport state well sound line (Route name second steps labels) after passed)

pub returns-clause-no_route : goal.returns-clause-no_route
returns-clause-no_route c = λ airport state line labels after well sound passed. best-none airport state line labels (passed-best airport state well sound line (NoRoute labels) after passed)

pub returns-clause-sound : goal.returns-clause-sound
returns-clause-sound c = λ airport state line block after well sound passed. passed-sound airport state well sound line block after passed
