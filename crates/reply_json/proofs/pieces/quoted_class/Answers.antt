use Rattle.std.proofs.Common.{◌∙◌}
use Rattle.taxi_base.specs.Airport.{class_name}
use Rattle.reply_json.proofs.Quoted.{named-text}
use Rattle.reply_json.proofs.pieces.quoted_class.Goals as goal

pub returns-clause-text : goal.returns-clause-text
returns-clause-text c = c.quoted_name.ensures.text ∙ named-text (class_name c.args.airport.now c.args.class) c.class_name.result c.class_name.ensures
