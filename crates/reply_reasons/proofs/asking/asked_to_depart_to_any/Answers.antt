use Rattle.reply_reasons.proofs.AskingLaws.{departure_any-asked}
use Rattle.reply_reasons.proofs.asking.asked_to_depart_to_any.Goals as goal

pub returns-in-Ok : goal.returns-in-Ok
returns-in-Ok c =
    departure_any-asked c.args.airport.now c.args.ledger.now.state c.args.asked.now c.in-Ok.trip c.in-Ok.ensures.named c.requires.time c.requires.slack c.in-Ok.ensures.ok
    c.first_departure.result c.first_departure.ensures
