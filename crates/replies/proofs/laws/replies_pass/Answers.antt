use Rattle.replies.proofs.PassLaws.{reply-passes}
use Rattle.replies.proofs.laws.replies_pass.Goals as goal

pub returns : goal.returns
returns c = λ airport state line block after well sound reply. reply-passes airport state line block after well sound reply
