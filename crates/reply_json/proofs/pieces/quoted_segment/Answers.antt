use Rattle.std.proofs.Common.{◌∙◌}
use Rattle.taxi_base.specs.Airport.{segment_name}
use Rattle.reply_json.proofs.Quoted.{named-text}
use Rattle.reply_json.proofs.pieces.quoted_segment.Goals as goal

pub returns-clause-text : goal.returns-clause-text
returns-clause-text c = c.quoted_name.ensures.text ∙ named-text (segment_name c.args.airport.now c.args.segment) c.segment_name.result c.segment_name.ensures
