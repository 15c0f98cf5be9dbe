use Rattle.std.proofs.Common.{List, sym, subst}
use Rattle.std.specs.Prelude.{flat_map}
use Rattle.std.proofs.lemmas.List.{take_all}
use Rattle.taxi_base.specs.declared.numbers.Segment.{Segment}
use Rattle.held_spans.specs.Holders.{IsFirstOf, IsHolderIn}
use Rattle.held_spans.specs.Spans.{rows_at, AreHeldBy}
use Rattle.held_spans.proofs.FirstLaws.{lists-more}
use Rattle.checked_state.specs.Flights.{state_of, named_in}
use Rattle.due_refusals.proofs.HolderLaws.{holder-found}
use Rattle.due_refusals.proofs.holder.holder_at.Goals as goal

abbrev none : Segment
none = record { 0 = 0 }

pub loop-other-preserved : goal.loop-other-preserved
loop-other-preserved c =
    rw c.first_name-first.ensures
    (lists-more c.args.second (rows_at c.spans-spans.result.now) c.of-other-items.result.now c.loop-other.other-index none c.loop-other-test.true c.loop-other.first c.first_holder.result c.loop-other.invariant
    c.first_holder.ensures)

pub returns : goal.returns
returns c =
    let airport = c.args.airport.now in
    let state = state_of c.args.held.now in
    let spans = c.spans-spans.result.now in
    let segments = c.of-other-items.result.now in
    let are = subst (AreHeldBy (named_in airport state)) (sym c.spans-spans.ensures) c.requires.spans.holders in
    holder-found airport state (c.args.held.now.flights.ordered, c.args.held.now.parties.ordered) spans are c.args.segment segments (rw c.conflicts.ensures at c.of-other-items.ensures.all) c.args.second c.loop-other.first
    (subst (λ (some : List Segment). IsFirstOf (IsHolderIn (flat_map (rows_at spans) some) c.args.second) c.loop-other.first) (take_all c.loop-other.other-index segments c.loop-other-test.false) c.loop-other.invariant)
