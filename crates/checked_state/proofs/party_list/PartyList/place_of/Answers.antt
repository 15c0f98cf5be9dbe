use Rattle.std.proofs.Common.{rules}
use Rattle.std.proofs.lemmas.List.Sorted.{answers_always}
use Rattle.taxi_base.specs.declared.answers.Party.{Party}
use Rattle.checked_state.proofs.PlaceLaws.{searched}
use Rattle.checked_state.proofs.party_list.PartyList.place_of.Goals as goal

pub returns : goal.returns
returns c =
    let facts = rw c.deref.ensures.value at c.binary_search_by_key.ensures in
    let by_key = facts.position (λ f. f.name) (answers_always _ _ _ (λ f a r g called. search rules)) in
    searched (λ (p : Party). p.name) c.args.self.now.parties.items c.args.name.now c.args.self.now.ordered _ facts.bound by_key
