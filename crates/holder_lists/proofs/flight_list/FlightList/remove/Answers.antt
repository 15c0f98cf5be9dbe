use Rattle.std.proofs.Common.{ℕ, ◌∙◌, sym, ap, subst, length, arith}
use Rattle.std.specs.Prelude.{IsSome, remove, slice_get}
use Rattle.std.proofs.lemmas.List.Edits.{length-remove}
use Rattle.slab.specs.Slab.{get}
use Rattle.holder_lists.specs.Lists.{Listing}
use Rattle.holder_lists.proofs.Edits.{length-keys, has-flight, flight-at, cancelled}
use Rattle.holder_lists.proofs.NameOrder.{numbered-remove}
use Rattle.holder_lists.proofs.flight_list.FlightList.remove.Goals as goal

pub remove-key-requires : goal.remove-key-requires
remove-key-requires c =
    let long = length-keys c.self.inside.flights c.self.inside.keys.items c.self.invariant.0 in
    let view = ap (λ (b : Listing). length b.flights) c.self.view_is in
    let len = c.self.inside.keys.ok in
    omega (arith, long, view, len, c.requires)

pub remove-requires : goal.remove-requires
remove-requires c =
    let long = length-keys c.self.inside.flights c.self.inside.keys.items c.self.invariant.0 in
    let view = ap (λ (b : Listing). length b.flights) c.self.view_is in
    subst (λ (key : ℕ). IsSome (get c.self.inside.flights key)) (sym c.remove-key.ensures.value)
    (has-flight c.self.inside.flights c.self.inside.keys.items c.self.invariant.0 c.args.place c.remove-key.result (omega (arith, long, view, c.requires)))

pub invariant_of-self : goal.invariant_of-self
invariant_of-self c =
    let long = length-keys c.self.inside.flights c.self.inside.keys.items c.self.invariant.0 in
    let view = ap (λ (b : Listing). length b.flights) c.self.view_is in
    let key = sym c.remove-key.ensures.value in
    let room = c.self.invariant.2 in
    let bound = c.self.invariant.3 in
    rw c.remove-key.ensures.items (
      (cancelled c.self.inside.flights c.self.inside.keys.items c.self.invariant.0 c.remove.new.self _ c.args.place _ c.remove.ensures.updates key (omega (arith, long, view, c.requires))).kept,
      numbered-remove c.self.inside.flights c.remove.new.self c.self.inside.orders.items _ c.self.invariant.1 c.remove.ensures.updates,
      omega (arith, room, c.remove.ensures.capacity),
      omega (arith, bound, c.remove.ensures.capacity),
      omega (arith, c.remove.ensures.len, c.self.invariant.4, length-remove c.self.inside.keys.items c.args.place (omega (arith, long, view, c.requires))),
      omega (arith, c.remove.ensures.capacity, c.self.invariant.5),
    )

pub returns-clause-flight : goal.returns-clause-flight
returns-clause-flight c =
    let long = length-keys c.self.inside.flights c.self.inside.keys.items c.self.invariant.0 in
    let view = ap (λ (b : Listing). length b.flights) c.self.view_is in
    ap (λ (b : Listing). slice_get b.flights c.args.place) (sym c.self.view_is)
    ∙ sym (flight-at c.self.inside.flights c.self.inside.keys.items c.self.invariant.0 c.args.place _ (omega (arith, long, view, c.requires)))
    ∙ ap (λ (key : ℕ). get c.self.inside.flights key) (sym c.remove-key.ensures.value)
    ∙ c.remove.ensures.value

pub returns-clause-flights : goal.returns-clause-flights
returns-clause-flights c =
    let long = length-keys c.self.inside.flights c.self.inside.keys.items c.self.invariant.0 in
    let view = ap (λ (b : Listing). length b.flights) c.self.view_is in
    let key = sym c.remove-key.ensures.value in
    rw c.remove-key.ensures.items (cancelled c.self.inside.flights c.self.inside.keys.items c.self.invariant.0 c.remove.new.self _ c.args.place _ c.remove.ensures.updates key (omega (arith, long, view, c.requires))).flights
    ∙ ap (λ (b : Listing). remove b.flights c.args.place) c.self.view_is
