use Rattle.std.proofs.Common.{◌≡◌, ℕ, suc, ◌+◌, ◌*◌, ◌/◌, ◌<◌, ◌≤◌, [], get_or, length, inl, inr, sym, ◌∙◌, ap, subst, arith}
use Rattle.std.proofs.lemmas.Bool.{cases_lt, cases_eq}
use Rattle.std.proofs.lemmas.List.{get_or_default}
use Rattle.taxi_base.specs.Windows.{AreApart}
use Rattle.place_cells.specs.Laid.{windows_of, first_in}
use Rattle.place_cells.proofs.LaidLaws.{windows_of-at, windows_of-length, apart_all}
use Rattle.place_cells.proofs.numbers.CellNumbers.have_room.Goals as goal

pub returns-clause-apart : goal.returns-clause-apart
returns-clause-apart c _ =
    apart_all (windows_of c.args.store.now) (2 * c.args.segments) (omega (arith, c.requires.segments, windows_of-length c.args.store.now)) (λ a on. c.loop-segment.invariant.1 a (omega (arith, on, c.loop-segment-test.false, c.requires.segments)))

pub loop-segment-preserved : goal.loop-segment-preserved
loop-segment-preserved c =
    let first = c.args.self.now.first.items in
    let s = c.loop-segment.segment in
    let so_far = c.loop-segment.invariant in
    let row = c.spans-windows.result.now in
    let is_row : row ≡ get_or (windows_of c.args.store.now) s [] = c.spans-windows.ensures.spans ∙ sym (windows_of-at c.args.store.now s) in
    let below : 2 * s + 2 < length first = omega (arith, c.loop-segment-test.true, c.if-len-segments.false, c.len.ensures, c.args.self.now.first.ok.0) in
    let there : c.index-there.result.now ≡ first_in first (2 * s) = c.index-there.ensures ∙ get_or_default first (2 * s) c.index-there.result.now 0 (omega (arith, below)) in
    let back : c.index-back.result.now ≡ first_in first (2 * s + 1) = c.index-back.ensures ∙ get_or_default first (2 * s + 1) c.index-back.result.now 0 (omega (arith, below)) in
    let rises : first_in first (2 * s) ≤ first_in first (2 * s + 1) = c.args.self.now.numbered.rising (2 * s) (2 * s + 1) (omega arith) (omega (arith, below)) in
    let twin = c.args.self.now.twins s below in
    let windows = windows_of c.args.store.now in
    let long : (a : ℕ) → a / 2 ≡ s → length (get_or windows (a / 2) []) ≡ length row = λ a half. ap (λ k. length (get_or windows k [])) half ∙ ap length (sym is_row) in
    let apart : (a : ℕ) → a / 2 ≡ s → AreApart 0 (get_or windows (a / 2) []) = λ a half. subst (AreApart 0) (is_row ∙ ap (λ k. get_or windows k []) (sym half)) c.spans-windows.ensures.apart in (
      λ a to. elim (cases_lt a (2 * s)) [
        | inl old ↦ so_far.0 a old
        | inr new ↦ elim (cases_eq a (2 * s)) [
          | inl e ↦ (
              let next : suc a ≡ 2 * s + 1 = omega (arith, e) in
              omega (arith, long a (omega (arith, e)), ap (first_in first) e, ap (first_in first) next, there, back, rises, c.if-back-there.false))
          | inr other ↦ (
              let e : a ≡ 2 * s + 1 = omega (arith, other, new, to) in
              let next : suc a ≡ 2 * s + 2 = omega (arith, e) in
              omega (arith, long a (omega (arith, e)), ap (first_in first) e, ap (first_in first) next, there, back, rises, twin, c.if-back-there.false))
        ]
      ],
      λ a to. elim (cases_lt a (2 * s)) [
        | inl old ↦ so_far.1 a old
        | inr new ↦ apart a (omega (arith, new, to))
      ],
    )
