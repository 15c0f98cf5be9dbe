use Rattle.std.proofs.lemmas.Result.{on_ok_weaker}
use Rattle.reply_json.proofs.ObjectTexts.{windows-written}
use Rattle.reply_json.proofs.reports.write_windows.Goals as goal

pub returns : goal.returns
returns c =
    on_ok_weaker c.write_words.result
    (windows-written c.args.airport.now c.args.command.now.command c.args.command.now.line c.args.command.now.text.now c.args.segment c.args.windows.now c.args.out.now.items _ _ _ _ _ _ _
    c.in_ok-write_command.ensures
    c.in_ok-write_line.ensures
    c.in_ok-push_bytes.ensures.ok
    c.in_ok-write_segment.ensures
    c.in_ok-push_bytes-2.ensures.ok
    c.in_ok-write_rows.ensures)
    c.write_words.ensures
