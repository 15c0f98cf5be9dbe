use Rattle.std.proofs.Common.{◌+◌, ◌≤◌, ◌∷◌, sym, subst, arith}
use Rattle.window_store.specs.Spans.{Listed, nodes, StandsForSpans}
use Rattle.window_store.proofs.Spans.{windows-few, AreWindows-held}
use Rattle.window_store.proofs.segment_windows.SegmentWindows.hold.Goals as goal

pub subtract-requires-clause-room : goal.subtract-requires-clause-room
subtract-requires-clause-room c =
    let horizon = c.requires.stands.0 in
    let spans = c.requires.stands.1 in
    let l : Listed = record { intervals = c.self.inside.intervals; held = c.self.inside.held } in
    let stands : StandsForSpans horizon spans l = subst (λ (m : Listed). StandsForSpans horizon spans m) (sym c.self.view_is) c.requires.stands.2 in
    let room : 2 + l.held ≤ nodes l = subst (λ (m : Listed). 2 + m.held ≤ nodes m) (sym c.self.view_is) c.requires.room in
    omega (arith, windows-few horizon (c.args.span ∷ spans) _ (AreWindows-held horizon c.args.span spans _ c.requires.some stands.windows), stands.number, room)
