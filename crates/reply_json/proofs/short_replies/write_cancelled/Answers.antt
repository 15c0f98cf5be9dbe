use Rattle.std.proofs.lemmas.Result.{on_ok_weaker}
use Rattle.std.proofs.Common.{◌∙◌, ◌++◌, List, ℕ, ap}
use Rattle.reply_json.proofs.ObjectTexts.{cancelled-written}
use Rattle.reply_json.proofs.short_replies.write_cancelled.Goals as goal

pub returns : goal.returns
returns c =
    on_ok_weaker c.write_words.result
    (cancelled-written c.args.airport.now c.args.command.now.command c.args.command.now.line c.args.command.now.text.now c.args.flight.now c.args.out.now.items _ _ _ _ _ _
    c.in_ok-write_command.ensures
    c.in_ok-push_bytes.ensures.ok
    (c.in_ok-push_bytes-2.ensures.ok ∙ ap (λ (t : List ℕ). c.push_bytes.new.out.items ++ t) (c.bytes.ensures.same ∙ c.quoted_name-name.ensures.text))
    c.in_ok-write_line.ensures
    c.in_ok-push_bytes-3.ensures.ok)
    c.write_words.ensures
