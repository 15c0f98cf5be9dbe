use Rattle.std.proofs.Common.{◌∙◌, ap}
use Rattle.airport_lint.specs.Sets.{first_like}
use Rattle.airport_lint.proofs.SetTold.{set-told}
use Rattle.airport_lint.proofs.tell.tell_set.Goals as goal

pub returns : goal.returns
returns c =
    set-told c.args.airport.now c.args.at c.first_like-first.result c.args.needed c.is_needless-needless.result c.args.told.now.items c.tell_if.new.told.items c.tell_if-2.new.told.items
    (c.first_like-first.ensures ∙ ap (λ sets. first_like sets c.args.at) (c.sets.ensures ∙ ap (λ s. s.sets) c.conflicts.ensures))
    c.requires.needed c.is_needless-needless.ensures c.in_ok-tell_if.ensures c.in_ok-tell_if-2.ensures
