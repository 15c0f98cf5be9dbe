use Rattle.std.proofs.Common.{rules}
use Rattle.serde_json.proofs.OnLiterals.{serde_json_on_literals}
use Rattle.reply_json.proofs.rows.quoted_kind.Goals as goal

pub returns-in-Filed-clause-same : goal.returns-in-Filed-clause-same
unfolding serde_json_on_literals
returns-in-Filed-clause-same c = search rules

pub returns-in-Arrival-clause-same : goal.returns-in-Arrival-clause-same
unfolding serde_json_on_literals
returns-in-Arrival-clause-same c = search rules

pub returns-in-Departure-clause-same : goal.returns-in-Departure-clause-same
unfolding serde_json_on_literals
returns-in-Departure-clause-same c = search rules
