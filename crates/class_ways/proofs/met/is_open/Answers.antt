use Rattle.std.proofs.Common.{refl}
use Rattle.class_ways.specs.Ways.{is_open}
use Rattle.class_ways.proofs.met.is_open.Goals as goal

pub returns : goal.returns
unfolding is_open
returns c = rw (c.requires, c.is_some.ensures, c.seconds.ensures.set, c.classes.ensures, c.segment.ensures) refl
