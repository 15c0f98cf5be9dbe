use Rattle.std.proofs.Common.{subst, rules}
use Rattle.std.proofs.lemmas.Fn.{always_returns_same}
use Rattle.holder_lists.specs.Lists.{Listing, IsBook}
use Rattle.holder_lists.specs.NameOrder.{order_at}
use Rattle.holder_lists.specs.Places.{IsPlace}
use Rattle.taxi_base.specs.declared.answers.Flight.{Flight}
use Rattle.holder_lists.proofs.Edits.{among-flights}
use Rattle.holder_lists.proofs.NameOrder.{order-agrees}
use Rattle.holder_lists.proofs.Stored.{OrdersFlights}
use Rattle.holder_lists.proofs.flight_list.FlightList.place_of.Goals as goal

pub returns-clause-place : goal.returns-clause-place
returns-clause-place c =
    let facts = c.binary_search_by.ensures in
    let flights = c.self.inside.flights in
    let orders = c.self.inside.orders.items in
    let name = c.args.name.now in
    let by_order = facts.position (order_at orders c.args.order) (always_returns_same _ _ _ (λ a r f k. search (rules))) in
    let agrees : OrdersFlights flights name (order_at orders c.args.order) = rw c.requires.order (order-agrees flights orders name c.self.invariant.1 c.requires.name) in
    subst (λ (l : Listing). IsPlace (λ (f : Flight). f.name) l.flights name c.binary_search_by.result) c.self.view_is
    (among-flights flights c.self.inside.keys.items c.self.invariant.0 name (order_at orders c.args.order) agrees c.binary_search_by.result
    (rw c.deref.ensures.value at facts.bound) (rw c.deref.ensures.value at by_order))

pub returns-clause-book : goal.returns-clause-book
returns-clause-book c = subst (λ (l : Listing). IsBook l.flights) c.self.view_is c.self.invariant.0.1
