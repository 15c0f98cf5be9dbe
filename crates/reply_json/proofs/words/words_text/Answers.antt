use Rattle.std.proofs.Common.{◌∙◌, ap}
use Rattle.serde_json.specs.Written.{has_float, compact_text}
use Rattle.reply_json.proofs.Floatless.{words-floatless}
use Rattle.reply_json.proofs.words.words_text.Goals as goal

pub returns : goal.returns
returns c = c.in_ok-to_string.ensures.text (ap has_float c.in_ok-value.ensures ∙ words-floatless c.args.text.now) ∙ ap compact_text c.in_ok-value.ensures
