use Rattle.std.proofs.Common.{◌∙◌}
use Rattle.taxi_base.proofs.AirportLaws.{arc_exists-segment}
use Rattle.reply_json.proofs.Quoted.{arc-quoted, in_arc_quotes, word-is}
use Rattle.reply_json.proofs.pieces.quoted_arc.Goals as goal

pub segment_name-name-requires : goal.segment_name-name-requires
segment_name-name-requires c = rw c.segment.ensures (arc_exists-segment c.args.airport.now c.args.arc c.requires)

pub returns-clause-text : goal.returns-clause-text
returns-clause-text c =
    in_arc_quotes c.new-text.result c.push.new.self c.push-2.new.self c.push-3.new.self c.bytes.result.now c.sign.result.now c.segment_name-name.result c.is_forward.result c.new-text.ensures c.push.ensures c.push-2.ensures c.push-3.ensures c.bytes.ensures.same c.sign.ensures.same
    ∙ arc-quoted c.segment_name-name.result c.is_forward.result c.bytes.ensures.name
    ∙ word-is c.args.airport.now c.args.arc c.segment_name-name.result c.is_forward.result c.segment.result c.segment.ensures c.segment_name-name.ensures c.is_forward.ensures
