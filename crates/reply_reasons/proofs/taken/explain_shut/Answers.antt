use Rattle.std.proofs.Common.{◌∙◌, sym}
use Rattle.replies.proofs.WindowsTold.{segment_named-exists}
use Rattle.reply_reasons.proofs.taken.explain_shut.Goals as goal

pub explain_taken-requires : goal.explain_taken-requires
explain_taken-requires c = segment_named-exists c.args.airport.now c.args.shut.now.segment c.in-Some.segment (sym c.segment_named.ensures ∙ c.in-Some.is)
