use Rattle.std.proofs.Common.{◌∙◌, refl}
use Rattle.std.proofs.lemmas.Result.{on_ok_weaker}
use Rattle.reply_json.proofs.InARow.{grown-five, grown-four}
use Rattle.reply_json.proofs.ObjectTexts.{held-written}
use Rattle.reply_json.proofs.rows.write_held.Goals as goal

pub returns : goal.returns
returns c =
    on_ok_weaker c.push_bytes-2.result
    (held-written c.args.airport.now c.args.row.now c.args.out.now.items _ _ _ _
    (c.bytes-2.ensures.same ∙ grown-four _ _ _ _ _ _ _ _ _ _ _ _ _ c.new-text.ensures c.push.ensures c.push-2.ensures c.push-3.ensures c.push-4.ensures refl (c.bytes.ensures.same ∙ c.quoted_name-flight.ensures.text) refl (c.as_bytes.ensures.value ∙ c.format.ensures.text))
    c.in_ok-push_bytes.ensures.ok
    (c.bytes-4.ensures.same ∙ grown-five _ _ _ _ _ _ _ _ _ _ _ _ _ _ _ _ c.new-text-2.ensures c.push-5.ensures c.push-6.ensures c.push-7.ensures c.push-8.ensures c.push-9.ensures refl (c.bytes-3.ensures.same ∙ c.quoted_segment-segment.ensures.text) refl (c.as_bytes-2.ensures.value ∙ c.format-2.ensures.text) refl))
    c.push_bytes-2.ensures.ok
