use Rattle.std.proofs.Common.{ℕ, ◌∙◌, sym, ap, subst, length, arith}
use Rattle.std.specs.Prelude.{IsSome, slice_get}
use Rattle.slab.specs.Slab.{get}
use Rattle.holder_lists.specs.Lists.{Listing}
use Rattle.holder_lists.proofs.Edits.{length-keys, has-flight, flight-at}
use Rattle.holder_lists.proofs.flight_list.FlightList.at.Goals as goal

pub index-requires : goal.index-requires
index-requires c =
    let long = length-keys c.self.inside.flights c.self.inside.keys.items c.self.invariant.0 in
    let view = ap (λ (b : Listing). length b.flights) c.self.view_is in
    let len = c.self.inside.keys.ok in
    omega (arith, long, view, len, c.requires)

pub index-requires-2 : goal.index-requires-2
index-requires-2 c =
    let long = length-keys c.self.inside.flights c.self.inside.keys.items c.self.invariant.0 in
    let view = ap (λ (b : Listing). length b.flights) c.self.view_is in
    subst (λ (key : ℕ). IsSome (get c.self.inside.flights key)) (sym c.index.ensures)
    (has-flight c.self.inside.flights c.self.inside.keys.items c.self.invariant.0 c.args.place c.index.result.now (omega (arith, long, view, c.requires)))

pub returns : goal.returns
returns c =
    let long = length-keys c.self.inside.flights c.self.inside.keys.items c.self.invariant.0 in
    let view = ap (λ (b : Listing). length b.flights) c.self.view_is in
    ap (λ (b : Listing). slice_get b.flights c.args.place) (sym c.self.view_is)
    ∙ sym (flight-at c.self.inside.flights c.self.inside.keys.items c.self.invariant.0 c.args.place c.index.result.now (omega (arith, long, view, c.requires)))
    ∙ ap (λ (key : ℕ). get c.self.inside.flights key) (sym c.index.ensures)
    ∙ c.index-2.ensures
