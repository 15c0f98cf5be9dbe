use Rattle.std.proofs.Common.{◌+◌, ◌-◌, ◌≤◌, ◌∷◌, ◌++◌, length, sym, ap, ◌∙◌, arith}
use Rattle.std.specs.Prelude.{ℕ, List}
use Rattle.interval_list.specs.Cells.{windows_of}
use Rattle.interval_list.specs.Intervals.{Intervals, drawn}
use Rattle.interval_list.proofs.Owning.{drawn-more, length-ids_of}
use Rattle.interval_list.proofs.Edited.{length-windows_of}
use Rattle.interval_list.proofs.list.IntervalList.reserve.Goals as goal

pub loop-self-preserved : goal.loop-self-preserved
loop-self-preserved c =
    let kept = c.loop-self.invariant in let made = c.in_ok-draw.ensures.ok in
    let first = c.args.ids.now.next in let next = c.loop-self.ids.next in let spare = c.args.self.now.spare in
    let fewer : length c.loop-self.self.spare + 1 ≤ c.args.n = omega (
      arith,
      c.loop-self-test.true,
      c.len.ensures,
      ap (λ (l : Intervals). length l.spare) c.self.view_is,
      length-ids_of (windows_of c.self.inside.spares),
      length-windows_of c.self.inside.spares,
    ) in (
      ap (λ (l : Intervals). l.windows) made.1 ∙ kept.0,
      ap (λ (l : Intervals). l.spare) made.1 ∙ ap (λ (zs : List ℕ). next ∷ zs) kept.1
          ∙ ap (λ (zs : List ℕ). zs ++ spare) (sym (drawn-more first next kept.3) ∙ ap (λ (m : ℕ). drawn first (m - first)) (sym made.0)),
      omega (arith, kept.2, made.0, ap (λ (l : Intervals). length l.spare) made.1),
      omega (arith, kept.3, made.0),
      omega (arith, fewer, ap (λ (l : Intervals). length l.spare) made.1),
      c.draw.ensures.below,
    )

pub draw-requires-clause-few : goal.draw-requires-clause-few
draw-requires-clause-few c =
    omega (
      arith,
      c.requires.few,
      ap length c.loop-self.invariant.0,
      c.loop-self-test.true,
      c.len.ensures,
      ap (λ (l : Intervals). length l.spare) c.self.view_is,
      length-ids_of (windows_of c.self.inside.spares),
      length-windows_of c.self.inside.spares,
    )
