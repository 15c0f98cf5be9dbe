use Rattle.reply_reasons.proofs.AskingLaws.{arrival-asked}
use Rattle.reply_reasons.proofs.asking.asked_to_arrive.Goals as goal

pub returns-in-Ok : goal.returns-in-Ok
returns-in-Ok c =
    arrival-asked c.args.airport.now c.args.ledger.now.state c.args.asked.now c.in-Ok.trip c.in-Ok.ensures.named c.requires.grammar c.in-Ok.ensures.ok c.arrival.result c.arrival.ensures
