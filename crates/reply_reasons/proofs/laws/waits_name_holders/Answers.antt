use Rattle.reply_reasons.proofs.NamedLaws.{arrivals-named, departures-waited, departures-named}
use Rattle.reply_reasons.proofs.laws.waits_name_holders.Goals as goal

pub returns-clause-arrivals : goal.returns-clause-arrivals
returns-clause-arrivals c = λ airport asking others reasons from to time hold is new told. arrivals-named airport asking others reasons from to time hold is new told

pub returns-clause-departures : goal.returns-clause-departures
returns-clause-departures c = λ airport asking others reasons from to time queue is told. departures-waited airport asking others reasons from to time queue is told

pub returns-clause-queues : goal.returns-clause-queues
returns-clause-queues c = λ airport asking others reasons from to time queue is told short. departures-named airport asking others reasons from to time queue is told short
