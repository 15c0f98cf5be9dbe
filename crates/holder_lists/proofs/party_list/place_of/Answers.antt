use Rattle.std.proofs.Common.{rules}
use Rattle.std.proofs.lemmas.List.Sorted.{answers_always}
use Rattle.taxi_base.specs.declared.answers.Party.{Party}
use Rattle.holder_lists.proofs.Names.{searched}
use Rattle.holder_lists.proofs.party_list.place_of.Goals as goal

pub returns : goal.returns
returns c =
    let facts = c.binary_search_by_key.ensures in
    let by_key = facts.position (λ (p : Party). p.name) (answers_always _ _ _ (λ f a r g called. search rules)) in
    searched (λ (p : Party). p.name) c.args.parties.now c.args.name.now c.requires _ facts.bound by_key
