use Rattle.std.proofs.lemmas.Result.{on_ok_weaker}
use Rattle.reply_json.proofs.ObjectTexts.{route-written}
use Rattle.reply_json.proofs.routes.write_route.Goals as goal

pub returns : goal.returns
returns c =
    on_ok_weaker c.write_words.result
    (route-written c.args.airport.now c.args.command.now.command c.args.command.now.line c.args.command.now.text.now c.args.flight.now c.args.second c.args.steps.now c.args.labels.now c.args.out.now.items _ _ _ _ _
    c.in_ok-write_command.ensures
    c.in_ok-write_flight_and_labels.ensures
    c.in_ok-write_line.ensures
    c.in_ok-write_second_and_steps.ensures)
    c.write_words.ensures
