use Rattle.std.proofs.Common.{◌∙◌, refl}
use Rattle.std.proofs.lemmas.Result.{on_ok_weaker}
use Rattle.reply_json.proofs.InARow.{grown-four, grown-three}
use Rattle.reply_json.proofs.ObjectTexts.{flight-written}
use Rattle.reply_json.proofs.rows.write_flight.Goals as goal

pub returns : goal.returns
returns c =
    on_ok_weaker c.push_bytes-3.result
    (flight-written c.args.airport.now c.args.row.now c.args.out.now.items _ _ _ _ _ _
    (c.bytes-2.ensures.same ∙ grown-four _ _ _ _ _ _ _ _ _ _ _ _ _ c.new-text.ensures c.push.ensures c.push-2.ensures c.push-3.ensures c.push-4.ensures refl (c.bytes.ensures.same ∙ c.quoted_class-class.ensures.text) refl (c.as_bytes.ensures.value ∙ c.format.ensures.text))
    c.in_ok-push_bytes.ensures.ok
    (c.bytes-4.ensures.same ∙ grown-four _ _ _ _ _ _ _ _ _ _ _ _ _ c.new-text-2.ensures c.push-5.ensures c.push-6.ensures c.push-7.ensures c.push-8.ensures refl (c.bytes-3.ensures.same ∙ c.quoted_name-flight.ensures.text) refl c.quoted_kind.ensures.same)
    c.in_ok-push_bytes-2.ensures.ok
    (c.bytes-5.ensures.same ∙ grown-three _ _ _ _ _ _ _ _ _ _ c.new-text-3.ensures c.push-9.ensures c.push-10.ensures c.push-11.ensures refl (c.as_bytes-2.ensures.value ∙ c.format-2.ensures.text) refl))
    c.push_bytes-3.ensures.ok
