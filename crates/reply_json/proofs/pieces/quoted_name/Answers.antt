use Rattle.std.proofs.Common.{◌∙◌}
use Rattle.reply_json.proofs.Quoted.{name-quoted, in_quotes}
use Rattle.reply_json.proofs.pieces.quoted_name.Goals as goal

pub returns-clause-text : goal.returns-clause-text
returns-clause-text c =
    in_quotes c.new-text.result c.push.new.self c.push-2.new.self c.push-3.new.self c.bytes.result.now c.args.name.now c.new-text.ensures c.push.ensures c.push-2.ensures c.push-3.ensures c.bytes.ensures.same
    ∙ name-quoted c.args.name.now c.bytes.ensures.name
