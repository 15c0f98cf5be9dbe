use Rattle.std.proofs.Common.{◌++◌, ◌∙◌, sym, ap}
use Rattle.std.proofs.lemmas.Result.{on_ok_weaker}
use Rattle.replies.specs.declared.block.Block.{Block}
use Rattle.serde_json.specs.Written.{compact_text}
use Rattle.reply_json.specs.Lines.{command_object}
use Rattle.reply_json.proofs.line.write_object.Goals as goal

pub returns-in-Refused : goal.returns-in-Refused
returns-in-Refused c =
    on_ok_weaker c.write_refused.result
    (λ written.
    written
    ∙ ap (λ (b : Block). c.args.out.now.items ++ compact_text (command_object c.args.airport.now c.args.command.now.command c.args.command.now.line c.args.command.now.text.now b)) (sym c.in-Refused.is))
    (c.write_refused.ensures c.args.airport.now)
