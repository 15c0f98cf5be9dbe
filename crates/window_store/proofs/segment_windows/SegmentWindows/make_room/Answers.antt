-- Each turn draws the next node, and the ids that are drawn are those from the first one on.
use Rattle.std.proofs.Common.{ℕ, ◌-◌, ◌<◌, ◌∷◌, ◌++◌, List, length, sym, ap, ◌∙◌, arith}
use Rattle.interval_list.specs.Intervals.{drawn}
use Rattle.interval_list.proofs.Owning.{drawn-more}
use Rattle.window_store.specs.Spans.{nodes}
use Rattle.window_store.proofs.segment_windows.SegmentWindows.make_room.Goals as goal

pub loop-self-preserved : goal.loop-self-preserved
loop-self-preserved c =
    let kept = c.loop-self.invariant.roomier in let made = c.in_ok-make_node.ensures.ok in
    let first = c.args.ids.now.next in let next = c.loop-self.ids.next in let spare = c.args.self.now.intervals.spare in
    let fewer : nodes c.loop-self.self < c.args.wanted = omega (arith, c.loop-self-test.true, c.nodes.ensures) in
    record {
      roomier = record {
        windows = c.make_node.ensures.windows ∙ kept.windows;
        held = c.make_node.ensures.held ∙ kept.held;
        spare = made.1 ∙ ap (λ (zs : List ℕ). next ∷ zs) kept.spare
            ∙ ap (λ (zs : List ℕ). zs ++ spare) (sym (drawn-more first next c.loop-self.invariant.up) ∙ ap (λ (m : ℕ). drawn first (m - first)) (sym made.0));
        count = omega (arith, kept.count, made.0, ap length made.1, ap length c.make_node.ensures.windows);
        below = c.make_node.ensures.below;
        most = omega (arith, fewer, ap length made.1, ap length c.make_node.ensures.windows);
      };
      up = omega (arith, c.loop-self.invariant.up, made.0);
    }
