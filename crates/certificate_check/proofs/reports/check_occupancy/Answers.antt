use Rattle.std.proofs.Common.{sym, ◌∙◌}
use Rattle.replies.proofs.WindowsTold.{segment_named-exists}
use Rattle.certificate_check.proofs.reports.check_occupancy.Goals as goal

pub is_occupancy-requires : goal.is_occupancy-requires
is_occupancy-requires c = record { spans = c.requires.spans; on = segment_named-exists c.args.airport.now c.args.name.now c.in-Some.segment (sym c.segment_named.ensures ∙ c.in-Some.is) }
