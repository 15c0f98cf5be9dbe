use Rattle.what_if.proofs.BackLaws.{route-back, filed-back}
use Rattle.what_if.proofs.laws.asking_and_cancelling_changes_nothing.Goals as goal

pub returns-clause-route : goal.returns-clause-route
returns-clause-route c = λ airport state mid after line other name second steps labels sound none asked cancelled. route-back airport state mid after line other name sound none second steps labels asked cancelled

pub returns-clause-filed : goal.returns-clause-filed
returns-clause-filed c = λ airport state mid after line other name start end sound none asked cancelled. filed-back airport state mid after line other name sound none start end asked cancelled
