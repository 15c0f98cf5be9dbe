use Rattle.std.proofs.Common.{◌∙◌, refl}
use Rattle.std.proofs.lemmas.Result.{on_ok_weaker}
use Rattle.reply_json.proofs.InARow.{grown-five, grown-four}
use Rattle.reply_json.proofs.ObjectTexts.{label-written}
use Rattle.reply_json.proofs.rows.write_label.Goals as goal

pub returns : goal.returns
returns c =
    on_ok_weaker c.push_bytes-2.result
    (label-written c.args.airport.now c.args.label.now c.args.out.now.items _ _ _ _
    (c.bytes-2.ensures.same ∙ grown-four _ _ _ _ _ _ _ _ _ _ _ _ _ c.new-text.ensures c.push.ensures c.push-2.ensures c.push-3.ensures c.push-4.ensures refl (c.bytes.ensures.same ∙ c.quoted_arc-arc.ensures.text) refl (c.as_bytes.ensures.value ∙ c.format.ensures.text))
    c.in_ok-push_bytes.ensures.ok
    (c.bytes-3.ensures.same ∙ grown-five _ _ _ _ _ _ _ _ _ _ _ _ _ _ _ _ c.new-text-2.ensures c.push-5.ensures c.push-6.ensures c.push-7.ensures c.push-8.ensures c.push-9.ensures refl (c.as_bytes-2.ensures.value ∙ c.format-2.ensures.text) refl (c.as_bytes-3.ensures.value ∙ c.format-3.ensures.text) refl))
    c.push_bytes-2.ensures.ok
