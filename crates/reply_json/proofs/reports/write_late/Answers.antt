use Rattle.std.proofs.Common.{◌∙◌, ◌++◌, List, ℕ, ap}
use Rattle.std.proofs.lemmas.Result.{on_ok_weaker}
use Rattle.reply_json.proofs.ObjectTexts.{late-written}
use Rattle.reply_json.proofs.reports.write_late.Goals as goal

pub returns : goal.returns
returns c =
    on_ok_weaker c.write_words.result
    (late-written c.args.airport.now c.args.command.now.command c.args.command.now.line c.args.command.now.text.now c.args.flight.now c.args.entries.now c.args.out.now.items _ _ _ _ _ _ _ _
    c.in_ok-write_command.ensures
    c.in_ok-push_bytes.ensures.ok
    c.in_ok-write_rows.ensures
    c.in_ok-push_bytes-2.ensures.ok
    (c.in_ok-push_bytes-3.ensures.ok ∙ ap (λ (t : List ℕ). c.push_bytes-2.new.out.items ++ t) (c.bytes.ensures.same ∙ c.quoted_name-name.ensures.text))
    c.in_ok-write_line.ensures
    c.in_ok-push_bytes-4.ensures.ok)
    c.write_words.ensures
