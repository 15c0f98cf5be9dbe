use Rattle.taxi_base.specs.State.{steps_done}
use Rattle.taxi_base.proofs.AgainLaws.{end_of-back}
use Rattle.walk_labels.proofs.FrozenWalks.{step_begun_made, begun_leaves}
use Rattle.walk_labels.proofs.frozen.steps_begun_are_left_late.Goals as goal

pub returns-clause-made : goal.returns-clause-made
returns-clause-made c = step_begun_made

pub returns-clause-late : goal.returns-clause-late
returns-clause-late c conditions fit old walk time begun is before = begun_leaves conditions fit time begun old walk is before

pub returns-clause-end : goal.returns-clause-end
returns-clause-end c time old first rest = end_of-back (steps_done time old) first rest
