use Rattle.std.proofs.Common.{◌∙◌, refl}
use Rattle.std.proofs.lemmas.Result.{on_ok_weaker}
use Rattle.reply_json.proofs.InARow.{grown-five}
use Rattle.reply_json.proofs.ObjectTexts.{window-written}
use Rattle.reply_json.proofs.rows.write_window.Goals as goal

pub returns : goal.returns
returns c =
    on_ok_weaker c.push_bytes.result
    (window-written c.args.window.now c.args.out.now.items _ _
    (c.bytes.ensures.same ∙ grown-five _ _ _ _ _ _ _ _ _ _ _ _ _ _ _ _ c.new-text.ensures c.push.ensures c.push-2.ensures c.push-3.ensures c.push-4.ensures c.push-5.ensures refl (c.as_bytes.ensures.value ∙ c.format.ensures.text) refl (c.as_bytes-2.ensures.value ∙ c.format-2.ensures.text) refl))
    c.push_bytes.ensures.ok
