use Rattle.std.proofs.Common.{◌≡◌, ◌+◌, ◌-◌, ◌<◌, ◌≤◌, ◌∷◌, min, max, length, refl, sym, ap, ◌∙◌, subst, arith}
use Rattle.std.specs.Prelude.{ℕ, List}
use Rattle.interval_list.specs.declared.window.Window.{Window}
use Rattle.interval_list.specs.Cells.{Cell, windows_of, no_cell, no_window}
use Rattle.interval_list.specs.Edits.{item}
use Rattle.interval_list.specs.Intervals.{span, span_of, ids_of, hull}
use Rattle.interval_list.specs.Steps.{merged}
use Rattle.interval_list.proofs.Beginnings.{merge-begins}
use Rattle.interval_list.proofs.Edited.{item-map, length-windows_of}
use Rattle.interval_list.proofs.Owning.{length-ids_of}
use Rattle.interval_list.proofs.Progress.{merge-past, merge-join, merge-stops, merge-ends}
use Rattle.interval_list.proofs.Handed.{same-refl, same-take, same-trans}
use Rattle.interval_list.proofs.Spots.{place-taken, place-before, length-taken}
use Rattle.interval_list.proofs.edits.clear.Goals as goal

-- the window at a place, among the windows
read : (cells : List Cell) (i : ℕ) → item no_window (windows_of cells) i ≡ (item no_cell cells i).1.window
read cells i = item-map (λ (x : Cell). x.1.window) no_cell cells i

pub loop-index-init : goal.loop-index-init
loop-index-init c =
    let cells = c.args.windows.now in let start = c.first_beyond_from_nearer-start in (
      (start.ensures.inside, start.ensures.prev, start.ensures.place),
      refl,
      same-refl cells c.args.spares.now,
      merge-begins (span c.args.from c.args.until) c.requires.some 0 (windows_of cells) (ids_of (windows_of c.args.spares.now)) start.result.index c.requires.apart c.requires.room
          (omega (arith, start.ensures.inside, length-windows_of cells)) (λ n e. (
          let at : start.result.index - 1 ≡ n = omega (arith, e) in
          let over : (item no_window (windows_of cells) n).until ≤ c.saturating_sub.result =
          subst (λ (k : ℕ). (item no_window (windows_of cells) k).until ≤ c.saturating_sub.result) at
          (subst (λ (w : Window). w.until ≤ c.saturating_sub.result) (sym (read cells (start.result.index - 1))) (start.ensures.over (omega (arith, e)))) in
          omega (arith, over, c.saturating_sub.ensures))),
    )

pub returns-then-until-window-clause-windows : goal.returns-then-until-window-clause-windows
returns-then-until-window-clause-windows c =
    let now = c.loop-index in let cells = now.windows in let i = now.index in let ws₀ = windows_of c.args.windows.now in let ss₀ = ids_of (windows_of c.args.spares.now) in
    let within : i < length (windows_of cells) = omega (arith, c.loop-index-test.true, c.len.ensures, length-windows_of cells) in
    let stop = subst (λ (w : Window). now.until < w.from) (c.window-window.ensures ∙ sym (read cells i)) c.if-until-window.true in
    (merge-stops ws₀ ss₀ (merged (span c.args.from c.args.until) ws₀ ss₀) (span now.from now.until) (windows_of cells) (ids_of (windows_of now.spares)) i now.invariant.3 within stop).0

pub returns-then-until-window-clause-spares : goal.returns-then-until-window-clause-spares
returns-then-until-window-clause-spares c =
    let now = c.loop-index in let cells = now.windows in let i = now.index in let ws₀ = windows_of c.args.windows.now in let ss₀ = ids_of (windows_of c.args.spares.now) in
    let within : i < length (windows_of cells) = omega (arith, c.loop-index-test.true, c.len.ensures, length-windows_of cells) in
    let stop = subst (λ (w : Window). now.until < w.from) (c.window-window.ensures ∙ sym (read cells i)) c.if-until-window.true in
    (merge-stops ws₀ ss₀ (merged (span c.args.from c.args.until) ws₀ ss₀) (span now.from now.until) (windows_of cells) (ids_of (windows_of now.spares)) i now.invariant.3 within stop).1

pub returns-then-until-window-clause-some : goal.returns-then-until-window-clause-some
returns-then-until-window-clause-some c =
    let now = c.loop-index in let cells = now.windows in let i = now.index in let ws₀ = windows_of c.args.windows.now in let ss₀ = ids_of (windows_of c.args.spares.now) in
    let within : i < length (windows_of cells) = omega (arith, c.loop-index-test.true, c.len.ensures, length-windows_of cells) in
    let stop = subst (λ (w : Window). now.until < w.from) (c.window-window.ensures ∙ sym (read cells i)) c.if-until-window.true in
    omega (
      arith,
      length-ids_of (windows_of now.spares),
      length-windows_of now.spares,
      (merge-stops ws₀ ss₀ (merged (span c.args.from c.args.until) ws₀ ss₀) (span now.from now.until) (windows_of cells) (ids_of (windows_of now.spares)) i now.invariant.3 within stop).2,
    )

pub loop-index-preserved-then-window-from : goal.loop-index-preserved-then-window-from
loop-index-preserved-then-window-from c =
    let now = c.loop-index in let cells = now.windows in let i = now.index in let ws₀ = windows_of c.args.windows.now in let ss₀ = ids_of (windows_of c.args.spares.now) in
    let within : i < length (windows_of cells) = omega (arith, c.loop-index-test.true, c.len.ensures, length-windows_of cells) in
    let is = c.window-window.ensures ∙ sym (read cells i) in
    let near = subst (λ (w : Window). w.from ≤ now.until) is c.if-until-window.false in
    let past = subst (λ (w : Window). w.until < now.from) is c.if-window-from.true in
    let back : i + 1 - 1 ≡ i = omega arith in (
      (omega (arith, within, length-windows_of cells), (λ some. rw back (now.invariant.0.2 (omega (arith, within, length-windows_of cells)))), c.next-behind.ensures),
      now.invariant.1,
      now.invariant.2,
      merge-past ws₀ ss₀ (merged (span c.args.from c.args.until) ws₀ ss₀) (span now.from now.until) (windows_of cells) (ids_of (windows_of now.spares)) i now.invariant.3 within near past,
    )

pub loop-index-smaller : goal.loop-index-smaller
loop-index-smaller c =
    let now = c.loop-index in let cells = now.windows in let i = now.index in
    let within : i < length cells = omega (arith, c.loop-index-test.true, c.len.ensures) in
    omega (arith, within, length-taken cells c.take-joined.new.self i within c.take-joined.ensures.places)

pub loop-index-preserved : goal.loop-index-preserved
loop-index-preserved c =
    let now = c.loop-index in let cells = now.windows in let i = now.index in let ws₀ = windows_of c.args.windows.now in let ss₀ = ids_of (windows_of c.args.spares.now) in
    let inside : i < length cells = omega (arith, c.loop-index-test.true, c.len.ensures) in
    let within : i < length (windows_of cells) = omega (arith, inside, length-windows_of cells) in
    let is = c.window-window.ensures ∙ sym (read cells i) in
    let near = subst (λ (w : Window). w.from ≤ now.until) is c.if-until-window.false in
    let low = subst (λ (w : Window). now.from ≤ w.until) is c.if-window-from.false in
    let left = c.take-joined.new.self in let ss = ids_of (windows_of now.spares) in
    let fewer = length-taken cells left i inside c.take-joined.ensures.places in
    let here = item no_window (windows_of cells) i in
    let used : ids_of (windows_of c.push.new.self) ≡ here.id ∷ ss = ap ids_of c.push.ensures.windows ∙ ap (λ (w : Window). w.id ∷ ss) is in
    let hulls : span c.min-from.result c.max-until.result ≡ hull (span now.from now.until) (span_of here) = (λ k. span ((c.min-from.ensures ∙ ap (λ (w : Window). min now.from w.from) is) k) ((c.max-until.ensures ∙ ap (λ (w : Window). max now.until w.until) is) k)) in (
      (
        omega (arith, fewer, inside),
        (λ some. now.invariant.0.1 some ∙ sym (place-before cells left i (i - 1) (omega (arith, some)) c.take-joined.ensures.places)),
        (λ more. c.next-behind.ensures (omega (arith, fewer, more)) ∙ sym (place-taken cells left left i c.take-joined.ensures.places)),
      ),
      omega (arith, now.invariant.1, fewer, ap length c.push.ensures.windows, length-windows_of c.push.new.self, length-windows_of now.spares),
      same-trans c.args.windows.now c.args.spares.now cells now.spares left c.push.new.self now.invariant.2
          (same-take cells now.spares left c.push.new.self i now.next.at c.take-joined.result.at inside (now.invariant.0.2 inside) c.take-joined.ensures.place c.take-joined.ensures.places c.push.ensures.places),
      merge-join ws₀ ss₀ (merged (span c.args.from c.args.until) ws₀ ss₀) (span now.from now.until) (windows_of cells) ss i now.invariant.3
          (span c.min-from.result c.max-until.result) (windows_of left) (ids_of (windows_of c.push.new.self)) within near low hulls c.take-joined.ensures.windows used,
    )

pub returns-clause-windows : goal.returns-clause-windows
returns-clause-windows c =
    let now = c.loop-index in let cells = now.windows in let i = now.index in let ws₀ = windows_of c.args.windows.now in let ss₀ = ids_of (windows_of c.args.spares.now) in
    let past : i ≡ length (windows_of cells) = omega (arith, c.loop-index-test.false, c.len.ensures, length-windows_of cells, now.invariant.0.0) in
    (merge-ends ws₀ ss₀ (merged (span c.args.from c.args.until) ws₀ ss₀) (span now.from now.until) (windows_of cells) (ids_of (windows_of now.spares)) i now.invariant.3 past).0

pub returns-then-until-window-clause-nodes : goal.returns-then-until-window-clause-nodes
returns-then-until-window-clause-nodes c = c.loop-index.invariant.2

pub returns-clause-nodes : goal.returns-clause-nodes
returns-clause-nodes c = c.loop-index.invariant.2
