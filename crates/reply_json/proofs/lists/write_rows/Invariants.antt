use Rattle.std.proofs.Common.{◌≡◌, ◌++◌, drop}
use Rattle.reply_json.proofs.ListTexts.{left_text}
use Rattle.reply_json.proofs.lists.write_rows.Given as goal

-- what is written and what is left make the list
abbrev pub invariant-loop-row : goal.invariant-loop-row
invariant-loop-row g l = l.out.items ++ left_text (g.R.Row.object l.airport) l.later (drop l.row-index l.rows) ≡ l.initial.out.items ++ left_text (g.R.Row.object l.airport) l.initial.later l.rows
