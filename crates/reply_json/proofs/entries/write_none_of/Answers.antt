use Rattle.std.proofs.lemmas.Result.{on_ok_weaker}
use Rattle.reply_json.proofs.ObjectTexts.{entry_none-written}
use Rattle.reply_json.proofs.entries.write_none_of.Goals as goal

pub returns : goal.returns
returns c =
    on_ok_weaker c.push_bytes-2.result
    (entry_none-written c.args.airport.now c.args.name.now c.args.labels.now c.args.out.now.items _ _ _ _
    c.in_ok-write_name.ensures
    c.in_ok-push_bytes.ensures.ok
    c.in_ok-write_rows.ensures)
    c.push_bytes-2.ensures.ok
