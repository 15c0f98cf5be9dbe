use Rattle.std.proofs.Common.{◌≡◌, ◌∙◌, ap, true, rules}
use Rattle.std.specs.Result.{is_ok}
use Rattle.taxi_base.specs.declared.answers.Party.{Party}
use Rattle.taxi_base.specs.State.{party_named, parties_with, party_step}
use Rattle.taxi_base.proofs.ListLaws.{insert-map}
use Rattle.taxi_base.proofs.NamedLists.{ordered-insert}
use Rattle.holder_lists.specs.Lists.{PartyListing}
use Rattle.holder_lists.proofs.Names.{is-gap, put-in-gap}
use Rattle.holder_lists.proofs.party_list.PartyList.insert.Goals as goal

pub unwrap_err-place-requires : goal.unwrap_err-place-requires
unwrap_err-place-requires c =
    is-gap (λ (p : Party). p.name) c.self.inside.parties.items c.args.party.name c.self.invariant.1 c.place_of.result (rw c.deref.ensures.value at c.place_of.ensures)
    (ap (λ (l : PartyListing). party_named c.args.party.name l.parties) c.self.view_is ∙ c.requires.absent)

pub invariant_of-self : goal.invariant_of-self
invariant_of-self c =
    let parties = c.self.inside.parties.items in
    let good : is_ok c.insert.result ≡ true = search rules in
    let items = rw good at c.insert.ensures.items in
    let good_step : is_ok c.insert-2.result ≡ true = search rules in
    let steps = rw good_step at c.insert-2.ensures.items in
    let gap = rw (c.deref.ensures.value, c.unwrap_err-place.ensures) at c.place_of.ensures in
    let place = c.unwrap_err-place.result in
    rw (items, steps, c.self.invariant.0, c.requires.step)
    (insert-map party_step parties place c.args.party gap.gap, ordered-insert (λ (p : Party). p.name) c.args.party parties place gap.gap c.self.invariant.1 gap.before gap.after)

pub returns-clause-parties : goal.returns-clause-parties
returns-clause-parties c =
    let parties = c.self.inside.parties.items in
    let good : is_ok c.insert.result ≡ true = search rules in
    let items = rw good at c.insert.ensures.items in
    let gap = rw (c.deref.ensures.value, c.unwrap_err-place.ensures) at c.place_of.ensures in
    rw items (put-in-gap (λ (p : Party). p.name) c.args.party parties c.unwrap_err-place.result gap)
    ∙ ap (λ (l : PartyListing). parties_with c.args.party l.parties) c.self.view_is
