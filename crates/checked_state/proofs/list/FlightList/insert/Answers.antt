use Rattle.std.proofs.Common.{◌∙◌, List, Box, Global, ap, map, subst, sym}
use Rattle.std.specs.Prelude.{Err, is_ok}
use Rattle.std.specs.List.{insert}
use Rattle.std.proofs.lemmas.Bool.{cond_both}
use Rattle.taxi_base.specs.declared.answers.Flight.{Flight}
use Rattle.checked_state.specs.Order.{AreInOrder, IsPlace}
use Rattle.checked_state.specs.Flights.{flights_of}
use Rattle.checked_state.proofs.MapLaws.{map-insert}
use Rattle.checked_state.proofs.PlaceLaws.{ordered-insert}
use Rattle.checked_state.proofs.list.FlightList.insert.Goals as goal

pub returns-clause-ok : goal.returns-clause-ok
returns-clause-ok c =
    let place = c.args.place in
    ap (λ boxes. map (λ b. b.value) boxes) c.in_ok-insert.ensures.items ∙ map-insert c.args.self.now.boxes.items place c.in_ok-boxed.boxed (λ b. b.value)
    ∙ ap (λ (f : Flight). insert (flights_of c.args.self.now) place f) c.in_ok-boxed.ensures.ok

pub invariant_of-self : goal.invariant_of-self
invariant_of-self c =
    let boxes = c.args.self.now.boxes.items in
    let place = c.args.place in
    let boxed = c.in_ok-boxed.boxed in
    let flights = flights_of c.args.self.now in
    let gap = subst (λ (f : Flight). IsPlace (λ (g : Flight). g.name) flights f.name (Err place)) (sym c.in_ok-boxed.ensures.ok) c.requires in
    let more = subst AreInOrder (sym (map-insert boxes place boxed (λ b. b.value))) (ordered-insert (λ (g : Flight). g.name) flights boxed.value place c.args.self.now.ordered gap) in
    let InOrder : List (Box Flight Global) → Type 0 = λ all. AreInOrder (map (λ b. b.value) all) in
    record { ordered = subst InOrder (sym c.insert.ensures.items) (cond_both (is_ok c.insert.result) (insert boxes place boxed) boxes InOrder (λ _. more) (λ _. c.args.self.now.ordered)) }
