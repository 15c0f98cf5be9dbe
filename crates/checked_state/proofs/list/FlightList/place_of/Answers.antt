use Rattle.std.proofs.Common.{rules, IsTrue}
use Rattle.std.proofs.lemmas.List.Sorted.{answers_always}
use Rattle.taxi_base.specs.State.{name_precedes}
use Rattle.checked_state.proofs.PlaceLaws.{searched}
use Rattle.checked_state.proofs.MapLaws.{pairs-of_map, place-of_map}
use Rattle.checked_state.proofs.list.FlightList.place_of.Goals as goal

pub returns : goal.returns
returns c =
    let facts = rw c.deref.ensures.value at c.binary_search_by_key.ensures in
    let boxes = c.args.self.now.boxes.items in
    let name = c.args.name.now in
    let place = c.binary_search_by_key.result in
    let ordered = pairs-of_map boxes (λ b. b.value) (λ f g. IsTrue (name_precedes f.name g.name)) c.args.self.now.ordered in
    let by_key = facts.position (λ b. b.value.name) (answers_always _ _ _ (λ f a r g called. search rules)) in
    place-of_map boxes (λ b. b.value) (λ f. f.name) name place (searched (λ b. b.value.name) boxes name ordered place facts.bound by_key)
