-- The parts are those of the plan.
use Rattle.airport_rules.proofs.WellFormed.{IsWellFormed-plan}
use Rattle.airport_file.proofs.build.build.Goals as goal

pub invariant_of-result : goal.invariant_of-result
invariant_of-result c = record {
  sound = c.requires.sound;
  well_formed = IsWellFormed-plan c.args.horizon c.args.plan c.requires.given c.requires.sound;
  graph = c.in_ok-parts.ensures.0;
  times = c.in_ok-parts.ensures.1;
  conflicts = c.in_ok-parts.ensures.2;
}
