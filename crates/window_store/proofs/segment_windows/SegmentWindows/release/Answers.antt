use Rattle.std.proofs.Common.{◌++◌, ◌∷◌, sym, subst, arith}
use Rattle.std.proofs.lemmas.List.{length-append}
use Rattle.window_store.specs.Spans.{Listed, StandsForSpans}
use Rattle.window_store.proofs.Spans.{AreWindows-alike}
use Rattle.window_store.proofs.Staying.{seconds-joined}
use Rattle.window_store.proofs.segment_windows.SegmentWindows.release.Goals as goal

pub give_back_unheld-requires-clause-windows : goal.give_back_unheld-requires-clause-windows
give_back_unheld-requires-clause-windows g c =
    let some = c.requires.stands in let others = g.H.HeldSeconds.spans c.args.others.now in
    let l : Listed = record { intervals = c.self.inside.intervals; held = c.self.inside.held } in
    let stood : StandsForSpans some.0 (some.1 ++ others) l = subst (λ (m : Listed). StandsForSpans some.0 (some.1 ++ others) m) (sym c.self.view_is) some.5 in
    (some.0, some.2, AreWindows-alike some.0 (some.1 ++ others) (c.args.span ∷ others) _ (λ t. sym (seconds-joined c.args.span some.1 others some.3 t)) stood.windows)

pub give_back_unheld-requires-clause-room : goal.give_back_unheld-requires-clause-room
give_back_unheld-requires-clause-room g c =
    let some = c.requires.stands in let others = g.H.HeldSeconds.spans c.args.others.now in
    let l : Listed = record { intervals = c.self.inside.intervals; held = c.self.inside.held } in
    let stood : StandsForSpans some.0 (some.1 ++ others) l = subst (λ (m : Listed). StandsForSpans some.0 (some.1 ++ others) m) (sym c.self.view_is) some.5 in
    omega (arith, stood.room, length-append some.1 others, some.4, c.requires.number)

pub returns-clause-stands : goal.returns-clause-stands
returns-clause-stands g c = λ horizon own short same number stands.
    let others = g.H.HeldSeconds.spans c.args.others.now in
    let l : Listed = record { intervals = c.self.inside.intervals; held = c.self.inside.held } in
    let stood : StandsForSpans horizon (own ++ others) l = subst (λ (m : Listed). StandsForSpans horizon (own ++ others) m) (sym c.self.view_is) stands in
    record {
      windows = c.give_back_unheld.ensures.windows horizon short (AreWindows-alike horizon (own ++ others) (c.args.span ∷ others) _ (λ t. sym (seconds-joined c.args.span own others same t)) stood.windows);
      number = omega (arith, stood.number, number, length-append own others);
      room = omega (arith, stood.room, number, length-append own others, c.give_back_unheld.ensures.number);
    }
