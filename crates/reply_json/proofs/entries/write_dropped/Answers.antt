use Rattle.std.proofs.lemmas.Result.{on_ok_weaker}
use Rattle.reply_json.proofs.ObjectTexts.{dropped-written}
use Rattle.reply_json.proofs.entries.write_dropped.Goals as goal

pub returns : goal.returns
returns c =
    λ airport. on_ok_weaker c.push_bytes.result
    (dropped-written airport c.args.name.now c.args.out.now.items _ _
    c.in_ok-write_name.ensures)
    c.push_bytes.ensures.ok
