use Rattle.std.proofs.lemmas.Result.{on_ok_weaker}
use Rattle.std.proofs.Common.{◌∙◌, ◌++◌, List, ℕ, ap, decimal}
use Rattle.reply_json.proofs.ObjectTexts.{filed-written}
use Rattle.reply_json.proofs.short_replies.write_filed.Goals as goal

pub returns : goal.returns
returns c =
    on_ok_weaker c.write_words.result
    (filed-written c.args.airport.now c.args.command.now.command c.args.command.now.line c.args.command.now.text.now c.args.flight.now c.args.start c.args.end c.args.out.now.items _ _ _ _ _ _ _ _ _
    c.in_ok-write_command.ensures
    c.in_ok-push_bytes.ensures.ok
    (c.in_ok-push_number.ensures.ok ∙ ap (λ (n : ℕ). c.push_bytes.new.out.items ++ decimal n) c.from.ensures)
    c.in_ok-push_bytes-2.ensures.ok
    (c.in_ok-push_bytes-3.ensures.ok ∙ ap (λ (t : List ℕ). c.push_bytes-2.new.out.items ++ t) (c.bytes.ensures.same ∙ c.quoted_name-name.ensures.text))
    c.in_ok-write_line.ensures
    c.in_ok-push_bytes-4.ensures.ok
    (c.in_ok-push_number-2.ensures.ok ∙ ap (λ (n : ℕ). c.push_bytes-4.new.out.items ++ decimal n) c.from-2.ensures))
    c.write_words.ensures
