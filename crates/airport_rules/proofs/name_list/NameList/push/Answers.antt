-- The index finds the new name at the end, and each other name where it was.
use Rattle.std.proofs.Common.{rules}
use Rattle.airport_rules.proofs.PlaceLaws.{ArePlaced-push}
use Rattle.airport_rules.proofs.name_list.NameList.push.Goals as goal

pub invariant_of-self-in_default : goal.invariant_of-self-in_default
invariant_of-self-in_default c =
    rw (c.in_ok-push.ensures.items)
    (ArePlaced-push c.self.inside.places c.insert.new.self c.self.inside.names.items c.args.name c.self.invariant (rw c.self.view_is c.requires.room) (rw c.self.view_is c.requires.fresh) c.number_of-number.ensures.name (search rules))
