use Rattle.replies.proofs.OrderLaws.{sequenced-no_dearer}
use Rattle.replies.proofs.laws.exchanges_lower_totals.Goals as goal

pub returns : goal.returns
returns c = λ airport state wishes total entries after well done. sequenced-no_dearer airport state wishes total entries after well done
