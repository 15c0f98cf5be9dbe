use Rattle.airport_lint.specs.Advice.{class_advice}
use Rattle.airport_lint.proofs.TellLaws.{tells-below}
use Rattle.airport_lint.proofs.tell.tell_classes.Goals as goal

pub loop-number-preserved : goal.loop-number-preserved
loop-number-preserved c =
    tells-below c.args.airport.now class_advice c.loop-number.number c.args.told.now.items c.loop-number.told.items c.tell_class.new.told.items c.loop-number.invariant c.in_ok-tell_class.ensures
