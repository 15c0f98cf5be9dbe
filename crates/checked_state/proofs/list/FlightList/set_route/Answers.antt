use Rattle.std.proofs.Common.{◌≡◌, ◌∙◌, ◌<◌, length, get_or, set, sym, ap, subst, arith}
use Rattle.std.proofs.lemmas.List.{get_or-map, length-map, map-set}
use Rattle.std.specs.Box.{with_value}
use Rattle.taxi_base.specs.declared.answers.Flight.{Flight}
use Rattle.checked_state.specs.Order.{AreInOrder}
use Rattle.checked_state.specs.Flights.{flights_of}
use Rattle.checked_state.proofs.PlaceLaws.{ordered-set}
use Rattle.checked_state.proofs.list.FlightList.set_route.Goals as goal

pub returns : goal.returns
returns c flight is =
    let boxes = c.args.self.now.boxes.items in
    let place = c.args.place in
    let box = c.index_mut.result.now in
    let low : place < length boxes = omega (arith, c.requires, length-map boxes (λ b. b.value)) in
    let here : flight ≡ c.deref_mut-flight.result.now =
    is ∙ get_or-map (λ b. b.value) boxes place box flight low ∙ ap (λ b. b.value) (sym c.index_mut.ensures.value) ∙ sym c.deref_mut-flight.ensures.value in
    let new : Flight = record c.deref_mut-flight.result.now { request = c.args.request; steps = c.args.steps } in
    map-set (λ b. b.value) boxes place (with_value box new)
    ∙ ap (λ (f : Flight). set (flights_of c.args.self.now) place (record f { request = c.args.request; steps = c.args.steps })) (sym here)

pub invariant_of-self : goal.invariant_of-self
invariant_of-self c =
    let boxes = c.args.self.now.boxes.items in
    let place = c.args.place in
    let box = c.index_mut.result.now in
    let low : place < length boxes = omega (arith, c.requires, length-map boxes (λ b. b.value)) in
    let new : Flight = record c.deref_mut-flight.result.now { request = c.args.request; steps = c.args.steps } in
    let here : get_or (flights_of c.args.self.now) place new ≡ c.deref_mut-flight.result.now =
    get_or-map (λ b. b.value) boxes place box new low ∙ ap (λ b. b.value) (sym c.index_mut.ensures.value) ∙ sym c.deref_mut-flight.ensures.value in
    record {
      ordered = subst AreInOrder (sym (map-set (λ b. b.value) boxes place (with_value box new)))
          (ordered-set (λ (f : Flight). f.name) (flights_of c.args.self.now) new place new c.args.self.now.ordered c.requires (ap (λ (f : Flight). f.name) here));
    }
