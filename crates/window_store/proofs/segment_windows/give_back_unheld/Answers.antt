use Rattle.std.proofs.Common.{◌∙◌, arith}
use Rattle.window_store.proofs.Spans.{AreWindows-released}
use Rattle.window_store.proofs.Releasing.{IsGivenBackUntil-held, IsGivenBackUntil-freed, room_to_free}
use Rattle.window_store.proofs.segment_windows.give_back_unheld.Goals as goal

pub add-requires-clause-room : goal.add-requires-clause-room
add-requires-clause-room g c =
    let stands = c.requires.windows in
    room_to_free stands.0 _ _ c.args.span (g.H.HeldSeconds.spans c.args.others.now) c.args.intervals.now _ stands.1 c.if-from-until.true c.first_held-until.ensures c.requires.room stands.2 c.loop-from.invariant.0

pub loop-from-preserved-then-from-until : goal.loop-from-preserved-then-from-until
loop-from-preserved-then-from-until g c =
    let added = c.add.ensures in
    let followed = c.follow_back.ensures in (
      IsGivenBackUntil-freed _ _ _ _ _ _ _ c.if-from-until.true c.first_held-until.ensures added.spans added.normal added.kept added.ids added.number c.loop-from.invariant.0,
      followed.spans,
      followed.capacity ∙ c.loop-from.invariant.2,
    )

pub loop-from-preserved : goal.loop-from-preserved
loop-from-preserved g c =
    (IsGivenBackUntil-held _ _ c.held_until.result _ _ _ _ (omega (arith, c.min-from.ensures, c.held_until.ensures.later)) (omega (arith, c.min-from.ensures)) (omega (arith, c.min-from.ensures)) c.held_until.ensures c.loop-from.invariant.0, c.loop-from.invariant.1, c.loop-from.invariant.2)

pub returns-clause-windows : goal.returns-clause-windows
returns-clause-windows g c = λ horizon short are.
    AreWindows-released horizon c.loop-from.from c.args.span.until _ _ c.loop-from-test.false (c.loop-from.invariant.0.windows horizon short are)
