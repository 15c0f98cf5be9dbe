use Rattle.std.proofs.Common.{◌≡◌, ℕ, ◌+◌, ◌*◌, ◌/◌, ◌<◌, List, [], get_or, length, IsTrue, Some, is_some, sym, ◌∙◌, ap, subst, arith}
use Rattle.std.proofs.lemmas.Bool.{and_from}
use Rattle.std.proofs.lemmas.List.{get_or_default}
use Rattle.taxi_base.specs.declared.numbers.Arc.{Arc}
use Rattle.taxi_base.specs.declared.numbers.Segment.{Segment}
use Rattle.taxi_base.specs.declared.rows.Span.{Span}
use Rattle.taxi_base.specs.Airport.{arc_exists, segment_of, seconds_in}
use Rattle.taxi_base.specs.Windows.{AreApart}
use Rattle.window_rows.specs.Rows.{IsCut}
use Rattle.window_store.specs.Store.{spans_at}
use Rattle.place_cells.specs.declared.ground.SearchGround.{SearchGround}
use Rattle.place_cells.specs.Laid.{windows_of, first_in}
use Rattle.place_cells.specs.Ground.{can_use_in, IsArcPart}
use Rattle.place_cells.specs.Grounds.{ground_of}
use Rattle.place_cells.proofs.LaidLaws.{windows_of-at, windows_of-length}
use Rattle.place_cells.proofs.TurnLaws.{exists-below}
use Rattle.place_cells.proofs.GroundLaws.{arc_part, arc_told}
use Rattle.place_cells.proofs.ground.SearchGround.part.Goals as goal

pub index-requires : goal.index-requires
index-requires c =
    let s = c.args.self.now in
    omega (arith, exists-below s.graph.now c.args.arc c.requires, s.lists, windows_of-length s.store.now, s.room.arcs, s.numbers.now.first.ok.0)

pub spans-windows-requires : goal.spans-windows-requires
spans-windows-requires c =
    let s = c.args.self.now in
    omega (arith, exists-below s.graph.now c.args.arc c.requires, s.lists, ap (λ (t : Segment). t.0) c.segment-segment.ensures)

pub index-found-requires : goal.index-found-requires
index-found-requires c =
    let s = c.args.self.now in
    omega (
      arith,
      exists-below s.graph.now c.args.arc c.requires,
      s.lists,
      windows_of-length s.store.now,
      s.room.arcs,
      s.numbers.now.guessed,
      s.numbers.now.found.ok.0,
      ap (λ (t : Segment). t.0) c.segment-segment.ensures,
    )

first_is : (s : SearchGround) (arc : Arc) → IsTrue (arc_exists s.graph.now arc) → (first : ℕ) → first ≡ get_or s.numbers.now.first.items arc.0 first → first ≡ first_in s.numbers.now.first.items arc.0
first_is s arc exists first read =
    read ∙ get_or_default s.numbers.now.first.items arc.0 first 0 (omega (arith, exists-below s.graph.now arc exists, s.lists, windows_of-length s.store.now, s.room.arcs))

row_is : (s : SearchGround) (arc : Arc) (t : Segment) (row : List Span) → t ≡ segment_of arc → row ≡ spans_at s.store.now t → row ≡ get_or (windows_of s.store.now) (arc.0 / 2) []
row_is s arc t row same read = read ∙ ap (λ (u : Segment). spans_at s.store.now u) same ∙ sym (windows_of-at s.store.now (arc.0 / 2))

pub overflow_add-result : goal.overflow_add-result
overflow_add-result c =
    record {
      fits = omega (arith, c.index.type_inv, c.spans-windows.type_inv, c.part_between-part.ensures.ordered, c.part_between-part.ensures.within);
    }

pub returns-in-Some-clause-part : goal.returns-in-Some-clause-part
returns-in-Some-clause-part c =
    let s = c.args.self.now in
    let below : c.args.arc.0 < 2 * length (windows_of s.store.now) = omega (arith, exists-below s.graph.now c.args.arc c.requires, s.lists, windows_of-length s.store.now) in
    let row = row_is s c.args.arc c.segment-segment.result c.spans-windows.result.now c.segment-segment.ensures c.spans-windows.ensures.spans in
    let timed : seconds_in s.classes.now.table s.class (segment_of c.args.arc) ≡ Some c.in-Some.seconds = sym c.time_on.ensures ∙ c.in-Some.is in
    let can : IsTrue (can_use_in (ground_of s) c.args.arc) = and_from _ _ c.requires (ap is_some timed) in
    subst (λ (n : ℕ). IsArcPart (ground_of s) c.args.arc c.args.low c.args.high (record { first = n + c.part_between-part.result.first; until = n + c.part_between-part.result.until }))
    (sym (first_is s c.args.arc c.requires c.index.result.now c.index.ensures))
    (arc_part (ground_of s) s.numbers.now.numbered s.room c.args.arc below (subst (AreApart 0) row c.spans-windows.ensures.apart) can c.args.low c.args.high c.part_between-part.result
    (subst (λ (xs : List Span). IsCut xs c.args.low c.args.high c.part_between-part.result) row c.part_between-part.ensures))

pub returns-in-Some-clause-told : goal.returns-in-Some-clause-told
returns-in-Some-clause-told c k on =
    let s = c.args.self.now in
    let below : c.args.arc.0 < 2 * length (windows_of s.store.now) = omega (arith, exists-below s.graph.now c.args.arc c.requires, s.lists, windows_of-length s.store.now) in
    let first = first_is s c.args.arc c.requires c.index.result.now c.index.ensures in
    let row = row_is s c.args.arc c.segment-segment.result c.spans-windows.result.now c.segment-segment.ensures c.spans-windows.ensures.spans in
    let timed : seconds_in s.classes.now.table s.class (segment_of c.args.arc) ≡ Some c.in-Some.seconds = sym c.time_on.ensures ∙ c.in-Some.is in
    arc_told (ground_of s) s.numbers.now.numbered s.room c.args.arc below _ first row timed k
    (record { from_first = omega (arith, on.from_first, first); until_end = omega (arith, on.until_end, first, c.part_between-part.ensures.within, ap length row) })
