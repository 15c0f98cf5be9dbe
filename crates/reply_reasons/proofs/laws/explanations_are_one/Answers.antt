use Rattle.reply_reasons.proofs.OneExplanation.{explained-same}
use Rattle.reply_reasons.proofs.laws.explanations_are_one.Goals as goal

pub returns : goal.returns
returns c = λ airport state line reasons others well told also. explained-same airport well state reasons others line told also
