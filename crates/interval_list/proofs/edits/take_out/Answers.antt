use Rattle.std.proofs.Common.{◌≡◌, ◌+◌, ◌-◌, ◌<◌, ◌≤◌, ◌++◌, take, drop, length, refl, sym, ap, ◌∙◌, subst, arith}
use Rattle.std.specs.Prelude.{ℕ, List}
use Rattle.interval_list.specs.declared.window.Window.{Window}
use Rattle.interval_list.specs.Cells.{Cell, windows_of, no_cell, no_window}
use Rattle.interval_list.specs.Edits.{item}
use Rattle.interval_list.specs.Intervals.{span, ids_of}
use Rattle.interval_list.specs.Steps.{cut_window, cut_spare}
use Rattle.interval_list.proofs.Beginnings.{cut-begins}
use Rattle.interval_list.proofs.Edited.{item-map, length-windows_of}
use Rattle.interval_list.proofs.Owning.{length-ids_of}
use Rattle.interval_list.proofs.Progress.{cut-spare, cut-on, cut-stops, cut-lengths}
use Rattle.interval_list.proofs.Handed.{same-refl, same-trans}
use Rattle.interval_list.proofs.edits.take_out.Goals as goal

-- the window at a place, among the windows
read : (cells : List Cell) (i : ℕ) → item no_window (windows_of cells) i ≡ (item no_cell cells i).1.window
read cells i = item-map (λ (x : Cell). x.1.window) no_cell cells i

pub loop-i-init : goal.loop-i-init
loop-i-init c =
    let cells = c.args.windows.now in let start = c.first_beyond-start in (
      start.ensures.inside,
      start.ensures.place,
      refl,
      same-refl cells c.args.spares.now,
      cut-begins (span c.args.from c.args.until) c.requires.some 0 (windows_of cells) (ids_of (windows_of c.args.spares.now)) start.result.index c.requires.apart c.requires.room
          (omega (arith, start.ensures.inside, length-windows_of cells)) (λ n e. (
          let at : start.result.index - 1 ≡ n = omega (arith, e) in
          subst (λ (k : ℕ). (item no_window (windows_of cells) k).until ≤ c.args.from) at
          (subst (λ (w : Window). w.until ≤ c.args.from) (sym (read cells (start.result.index - 1))) (start.ensures.over (omega (arith, e)))))),
    )

pub returns-then-until-window-clause-windows : goal.returns-then-until-window-clause-windows
returns-then-until-window-clause-windows c =
    let cells = c.loop-i.windows in let i = c.loop-i.i in
    let within : i < length (windows_of cells) = omega (arith, c.loop-i-test.true, c.len.ensures, length-windows_of cells) in
    let past = subst (λ (w : Window). c.args.until ≤ w.from) (c.window-window.ensures ∙ sym (read cells i)) c.if-until-window.true in
    (cut-stops (span c.args.from c.args.until) (windows_of c.args.windows.now) (ids_of (windows_of c.args.spares.now)) (windows_of cells) (ids_of (windows_of c.loop-i.spares)) i
    c.requires.some c.loop-i.invariant.4 within past).0

pub returns-then-until-window-clause-spares : goal.returns-then-until-window-clause-spares
returns-then-until-window-clause-spares c =
    let cells = c.loop-i.windows in let i = c.loop-i.i in
    let within : i < length (windows_of cells) = omega (arith, c.loop-i-test.true, c.len.ensures, length-windows_of cells) in
    let past = subst (λ (w : Window). c.args.until ≤ w.from) (c.window-window.ensures ∙ sym (read cells i)) c.if-until-window.true in
    (cut-stops (span c.args.from c.args.until) (windows_of c.args.windows.now) (ids_of (windows_of c.args.spares.now)) (windows_of cells) (ids_of (windows_of c.loop-i.spares)) i
    c.requires.some c.loop-i.invariant.4 within past).1

pub returns-then-until-window-clause-nodes : goal.returns-then-until-window-clause-nodes
returns-then-until-window-clause-nodes c = c.loop-i.invariant.3

pub returns-clause-nodes : goal.returns-clause-nodes
returns-clause-nodes c = c.loop-i.invariant.3

pub cut_at-i-requires-clause-spare : goal.cut_at-i-requires-clause-spare
cut_at-i-requires-clause-spare c =
    let cells = c.loop-i.windows in let i = c.loop-i.i in let spares = c.loop-i.spares in
    let within : i < length (windows_of cells) = omega (arith, c.loop-i-test.true, c.len.ensures, length-windows_of cells) in
    subst (λ (w : Window). w.from < c.args.from → c.args.until < w.until → 0 < length spares) (read cells i) (λ l r. omega (
      arith,
      length-ids_of (windows_of spares),
      length-windows_of spares,
      cut-spare (span c.args.from c.args.until) (windows_of c.args.windows.now) (ids_of (windows_of c.args.spares.now)) (windows_of cells) (ids_of (windows_of spares)) i
          c.requires.some c.loop-i.invariant.4 within l r,
    ))

-- ---- what one step did

inside : (c : goal.After-cut_at-i) → c.loop-i.i < length (windows_of c.loop-i.windows)
inside c = omega (arith, c.loop-i-test.true, c.len.ensures, length-windows_of c.loop-i.windows)

abbrev here : goal.After-cut_at-i → Window
here c = item no_window (windows_of c.loop-i.windows) c.loop-i.i

abbrev spare : goal.After-cut_at-i → List ℕ
spare c = ids_of (windows_of c.loop-i.spares)

wrote : (c : goal.After-cut_at-i) → windows_of c.cut_at-i.new.windows
    ≡ take c.loop-i.i (windows_of c.loop-i.windows) ++ (cut_window (span c.args.from c.args.until) (here c) (spare c) ++ drop (c.loop-i.i + 1) (windows_of c.loop-i.windows))
wrote c =
    let ws = windows_of c.loop-i.windows in let i = c.loop-i.i in let s = span c.args.from c.args.until in
    subst (λ (w : Window). windows_of c.cut_at-i.new.windows ≡ take i ws ++ (cut_window s w (spare c) ++ drop (i + 1) ws)) (sym (read c.loop-i.windows i)) c.cut_at-i.ensures.windows

used : (c : goal.After-cut_at-i) → ids_of (windows_of c.cut_at-i.new.spares) ≡ cut_spare (span c.args.from c.args.until) (here c) (spare c)
used c =
    let s = span c.args.from c.args.until in
    subst (λ (w : Window). ids_of (windows_of c.cut_at-i.new.spares) ≡ cut_spare s w (spare c)) (sym (read c.loop-i.windows c.loop-i.i)) c.cut_at-i.ensures.spares

stands : (c : goal.After-cut_at-i) → c.loop-i.i + c.cut_at-i.result ≡ c.loop-i.i + length (cut_window (span c.args.from c.args.until) (here c) (spare c))
stands c =
    let s = span c.args.from c.args.until in
    ap (λ n. c.loop-i.i + n) (subst (λ (w : Window). c.cut_at-i.result ≡ length (cut_window s w (spare c))) (sym (read c.loop-i.windows c.loop-i.i)) c.cut_at-i.ensures.stands)

pub overflow_add-i : goal.overflow_add-i
overflow_add-i c =
    let cells = c.loop-i.windows in let i = c.loop-i.i in
    let counts = cut-lengths (span c.args.from c.args.until) (windows_of c.args.windows.now) (ids_of (windows_of c.args.spares.now)) (windows_of cells) (spare c) i
    c.requires.some c.loop-i.invariant.4 (windows_of c.cut_at-i.new.windows) (i + c.cut_at-i.result) (inside c) (wrote c) (stands c) in
    record {
      fits = omega (arith, counts.1, counts.2, stands c, c.loop-i.invariant.2, c.requires.small, length-windows_of cells, length-ids_of (windows_of c.loop-i.spares), length-windows_of c.loop-i.spares);
    }

pub loop-i-preserved : goal.loop-i-preserved
loop-i-preserved c =
    let cells = c.loop-i.windows in let i = c.loop-i.i in let new = c.cut_at-i.new in let next = i + c.cut_at-i.result in
    let counts = cut-lengths (span c.args.from c.args.until) (windows_of c.args.windows.now) (ids_of (windows_of c.args.spares.now)) (windows_of cells) (spare c) i
    c.requires.some c.loop-i.invariant.4 (windows_of new.windows) next (inside c) (wrote c) (stands c) in
    let was = length-windows_of cells in let is = length-windows_of new.windows in (
      omega (arith, counts.0, is),
      (λ more. c.next-next.ensures (omega (arith, more, counts.0, counts.1, was, is)) ∙ sym c.cut_at-i.ensures.next),
      omega (
        arith,
        counts.0,
        counts.1,
        counts.2,
        stands c,
        ap length (used c),
        c.loop-i.invariant.2,
        was,
        is,
        length-ids_of (windows_of c.loop-i.spares),
        length-windows_of c.loop-i.spares,
        length-ids_of (windows_of new.spares),
        length-windows_of new.spares,
      ),
      same-trans c.args.windows.now c.args.spares.now cells c.loop-i.spares new.windows new.spares c.loop-i.invariant.3 c.cut_at-i.ensures.nodes,
      cut-on (span c.args.from c.args.until) (windows_of c.args.windows.now) (ids_of (windows_of c.args.spares.now)) (windows_of cells) (spare c) i c.requires.some c.loop-i.invariant.4
          (windows_of new.windows) (ids_of (windows_of new.spares)) next (inside c) (wrote c) (used c) (stands c),
    )
