use Rattle.std.proofs.Common.{subst}
use Rattle.taxi_base.specs.declared.answers.Party.{Party}
use Rattle.holder_lists.specs.Lists.{PartyListing}
use Rattle.holder_lists.specs.Places.{IsPartyPlace}
use Rattle.holder_lists.proofs.Names.{named-place}
use Rattle.holder_lists.proofs.party_list.PartyList.place.Goals as goal

pub returns : goal.returns
returns c =
    subst (λ (l : PartyListing). IsPartyPlace l.parties c.args.name.now c.ok.result) c.self.view_is
    (rw c.ok.ensures.value (named-place (λ (p : Party). p.name) c.self.inside.parties.items c.args.name.now c.self.invariant.1 c.place_of.result
    (rw c.deref.ensures.value at c.place_of.ensures)))
