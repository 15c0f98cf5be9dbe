use Rattle.std.proofs.Common.{◌≡◌, ◌∙◌, ap, sym, subst, true, length, rules, arith}
use Rattle.std.specs.Prelude.{Err}
use Rattle.std.specs.Result.{is_ok}
use Rattle.std.proofs.lemmas.List.{length-set}
use Rattle.std.proofs.lemmas.List.Edits.{length-insert}
use Rattle.taxi_base.specs.declared.answers.Flight.{Flight}
use Rattle.taxi_base.specs.State.{flights_with}
use Rattle.holder_lists.specs.Lists.{Listing}
use Rattle.holder_lists.specs.Places.{IsPlace}
use Rattle.holder_lists.proofs.Edits.{length-keys, committed}
use Rattle.holder_lists.proofs.Names.{is-gap}
use Rattle.holder_lists.proofs.NameOrder.{numbered-insert}
use Rattle.holder_lists.proofs.flight_list.FlightList.insert.Goals as goal

pub unwrap_err-place-requires : goal.unwrap_err-place-requires
unwrap_err-place-requires c =
    is-gap (λ (f : Flight). f.name) c.args.self.now.flights c.args.flight.name c.place_of.ensures.book.ordered c.place_of.result c.place_of.ensures.place c.requires.absent

pub insert-requires : goal.insert-requires
insert-requires c =
    let long = length-keys c.self.inside.flights c.self.inside.keys.items c.self.invariant.0 in
    let gap = rw c.unwrap_err-place.ensures at c.place_of.ensures.place in
    let view = ap (λ (b : Listing). length b.flights) c.self.view_is in
    let within = gap.gap in
    let len = c.self.inside.keys.ok in
    omega (arith, long, within, view, len)

pub invariant_of-self : goal.invariant_of-self
invariant_of-self c =
    let good : is_ok c.insert.result ≡ true = search rules in
    let items = rw good at c.insert.ensures.items in
    let k = c.insert_reserved-key.ensures in
    let orders = c.self.inside.orders.items in
    let gap = subst (λ (l : Listing). IsPlace (λ (f : Flight). f.name) l.flights c.args.flight.name (Err c.unwrap_err-place.result)) (sym c.self.view_is)
    (rw c.unwrap_err-place.ensures at c.place_of.ensures.place) in
    let numbered = numbered-insert c.self.inside.flights c.insert_reserved-key.new.self orders c.insert_reserved-key.result c.args.flight c.self.invariant.1 k.updates
    (omega (arith, k.key_in_range, k.capacity, c.self.invariant.2)) c.order_of-order.ensures.name in
    let long = length-set orders c.insert_reserved-key.result c.order_of-order.result in
    let room = c.self.invariant.2 in
    let bound = c.self.invariant.3 in
    rw items (
      (committed c.self.inside.flights c.self.inside.keys.items c.self.invariant.0 c.insert_reserved-key.new.self c.insert_reserved-key.result c.args.flight
          c.unwrap_err-place.result k.updates k.was_vacant c.requires.routed gap).kept,
      rw c.order_of-order.ensures.order numbered,
      omega (arith, long, room, k.capacity),
      omega (arith, bound, k.capacity),
      omega (arith, k.len, c.self.invariant.4, length-insert c.self.inside.keys.items c.unwrap_err-place.result c.insert_reserved-key.result (omega (arith, length-keys c.self.inside.flights c.self.inside.keys.items c.self.invariant.0, gap.gap))),
      omega (arith, k.capacity, c.self.invariant.5),
    )

pub returns-clause-flights : goal.returns-clause-flights
returns-clause-flights c =
    let good : is_ok c.insert.result ≡ true = search rules in
    let items = rw good at c.insert.ensures.items in
    let k = c.insert_reserved-key.ensures in
    let gap = subst (λ (l : Listing). IsPlace (λ (f : Flight). f.name) l.flights c.args.flight.name (Err c.unwrap_err-place.result)) (sym c.self.view_is)
    (rw c.unwrap_err-place.ensures at c.place_of.ensures.place) in
    rw items (committed c.self.inside.flights c.self.inside.keys.items c.self.invariant.0 c.insert_reserved-key.new.self c.insert_reserved-key.result c.args.flight
    c.unwrap_err-place.result k.updates k.was_vacant c.requires.routed gap).flights
    ∙ ap (λ (b : Listing). flights_with c.args.flight b.flights) c.self.view_is
