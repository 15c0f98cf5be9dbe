use Rattle.replies.proofs.OneReply.{IsDue-same, IsCarriedOut-same}
use Rattle.replies.proofs.laws.due_replies_are_one.Goals as goal

pub returns-clause-due : goal.returns-clause-due
returns-clause-due c = λ airport state line block other after others well one two. IsDue-same block after other others airport state well line one two

pub returns-clause-carried_out : goal.returns-clause-carried_out
returns-clause-carried_out c = λ airport state command block other after others well one two. IsCarriedOut-same block after other others airport state well command one two
