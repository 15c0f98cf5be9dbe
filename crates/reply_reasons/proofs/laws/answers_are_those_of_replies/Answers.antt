use Rattle.reply_reasons.proofs.ToldLaws.{carried-told, line-told}
use Rattle.reply_reasons.proofs.laws.answers_are_those_of_replies.Goals as goal

pub returns-clause-carried_out : goal.returns-clause-carried_out
returns-clause-carried_out c = λ airport state command asking block after reasons due done told. carried-told airport state command asking block after reasons due done told

pub returns-clause-line : goal.returns-clause-line
returns-clause-line c = λ airport state line block after reasons second due explained. line-told airport state line block after reasons second due explained
