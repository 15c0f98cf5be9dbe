use Rattle.std.proofs.Common.{◌<◌, length, Some, sym, ap, ◌∙◌, arith}
use Rattle.std.specs.Prelude.{slice_get}
use Rattle.std.proofs.lemmas.List.Quantifiers.{all_pairs_remove}
use Rattle.std.proofs.lemmas.Option.{slice_get-get_or}
use Rattle.taxi_base.specs.declared.answers.Party.{Party}
use Rattle.taxi_base.specs.State.{party_step}
use Rattle.taxi_base.proofs.NamedLists.{Precede}
use Rattle.taxi_base.proofs.ListLaws.{remove-map}
use Rattle.holder_lists.specs.Lists.{PartyListing}
use Rattle.holder_lists.proofs.party_list.PartyList.remove.Goals as goal

pub invariant_of-self : goal.invariant_of-self
invariant_of-self c =
    let parties = c.self.inside.parties.items in
    let view = ap (λ (l : PartyListing). length l.parties) c.self.view_is in
    let low : c.args.place < length parties = omega (arith, view, c.requires) in
    rw (c.remove.ensures.items, c.remove-2.ensures.items, c.self.invariant.0)
    (remove-map party_step parties c.args.place, all_pairs_remove (Precede (λ (p : Party). p.name)) parties c.args.place low c.self.invariant.1)

pub returns-clause-party : goal.returns-clause-party
returns-clause-party c =
    let parties = c.self.inside.parties.items in
    let view = ap (λ (l : PartyListing). length l.parties) c.self.view_is in
    let low : c.args.place < length parties = omega (arith, view, c.requires) in
    ap (λ (l : PartyListing). slice_get l.parties c.args.place) (sym c.self.view_is)
    ∙ slice_get-get_or parties c.args.place c.remove-2.result low ∙ ap Some (sym c.remove-2.ensures.value)
