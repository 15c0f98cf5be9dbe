use Rattle.reply_reasons.proofs.AskingLaws.{arrival_any-asked}
use Rattle.reply_reasons.proofs.asking.asked_to_arrive_at_any.Goals as goal

pub returns-in-Ok : goal.returns-in-Ok
returns-in-Ok c =
    arrival_any-asked c.args.airport.now c.args.ledger.now.state c.args.asked.now c.in-Ok.trip c.in-Ok.ensures.named c.requires.time c.requires.slack c.in-Ok.ensures.ok
    c.first_arrival.result c.first_arrival.ensures
