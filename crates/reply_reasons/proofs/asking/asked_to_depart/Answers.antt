use Rattle.reply_reasons.proofs.AskingLaws.{departure-asked}
use Rattle.reply_reasons.proofs.asking.asked_to_depart.Goals as goal

pub returns-in-Ok : goal.returns-in-Ok
returns-in-Ok c =
    departure-asked c.args.airport.now c.args.ledger.now.state c.args.asked.now c.in-Ok.trip c.in-Ok.ensures.named c.requires.grammar c.in-Ok.ensures.ok c.departure.result c.departure.ensures
