use Rattle.std.proofs.Common.{◌∙◌, IsTrue, ap, map, subst, sym}
use Rattle.std.proofs.lemmas.List.Quantifiers.{all_pairs_remove}
use Rattle.taxi_base.specs.declared.answers.Flight.{Flight}
use Rattle.taxi_base.specs.State.{name_precedes}
use Rattle.checked_state.specs.Order.{AreInOrder}
use Rattle.checked_state.specs.Flights.{flights_of}
use Rattle.checked_state.proofs.MapLaws.{map-remove}
use Rattle.checked_state.proofs.list.FlightList.remove.Goals as goal

pub returns-clause-items : goal.returns-clause-items
returns-clause-items c = ap (λ boxes. map (λ b. b.value) boxes) c.remove.ensures.items ∙ map-remove c.args.self.now.boxes.items c.args.place (λ b. b.value)

pub invariant_of-self : goal.invariant_of-self
invariant_of-self c =
    let flights = flights_of c.args.self.now in
    let left = ap (λ boxes. map (λ b. b.value) boxes) c.remove.ensures.items ∙ map-remove c.args.self.now.boxes.items c.args.place (λ b. b.value) in
    record { ordered = subst AreInOrder (sym left) (all_pairs_remove (λ (f g : Flight). IsTrue (name_precedes f.name g.name)) flights c.args.place c.requires c.args.self.now.ordered) }
