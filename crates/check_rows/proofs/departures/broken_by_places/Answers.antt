use Rattle.std.proofs.Common.{ℕ, Bool}
use Rattle.taxi_base.specs.declared.numbers.Segment.{Segment}
use Rattle.taxi_base.specs.Walks.{free_among}
use Rattle.check_rows.proofs.LoopLaws.{says-no, says-yes}
use Rattle.check_rows.proofs.departures.broken_by_places.Goals as goal

pub returns-then-not-all_fall_short-clause-verdict : goal.returns-then-not-all_fall_short-clause-verdict
returns-then-not-all_fall_short-clause-verdict g c =
    let free : Segment → ℕ → Bool = free_among c.args.airport.now (g.H.HoldsOf.held c.args.holds.now) in (
      (c.requires.ordered, c.requires.places),
      says-yes _ c.if-not-ended.false c.in_ok-ended.ensures.begun,
      says-yes _ c.if-not-closed.false c.in_ok-closed.ensures.closed,
      says-no _ c.if-not-all_fall_short.true (c.all_fall_short.ensures c.args.class free),
    )

pub returns-clause-verdict : goal.returns-clause-verdict
returns-clause-verdict g c =
    let free : Segment → ℕ → Bool = free_among c.args.airport.now (g.H.HoldsOf.held c.args.holds.now) in (
      (c.requires.ordered, c.requires.places),
      says-yes _ c.if-not-ended.false c.in_ok-ended.ensures.begun,
      says-yes _ c.if-not-closed.false c.in_ok-closed.ensures.closed,
      says-yes _ c.if-not-all_fall_short.false (c.all_fall_short.ensures c.args.class free),
    )
