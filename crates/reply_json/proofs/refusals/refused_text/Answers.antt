use Rattle.std.proofs.Common.{◌∙◌, ap}
use Rattle.serde_json.specs.Written.{has_float, compact_text}
use Rattle.reply_json.proofs.Floatless.{refused-floatless}
use Rattle.reply_json.proofs.refusals.refused_text.Goals as goal

pub returns : goal.returns
returns c = λ airport.
    let is = c.in_ok-value.ensures airport in
    c.in_ok-to_string.ensures.text (ap has_float is ∙ refused-floatless airport c.args.command.now.command c.args.command.now.line c.args.command.now.text.now c.args.why.now) ∙ ap compact_text is
