use Rattle.std.proofs.Common.{◌≡◌, ℕ, ◌+◌, ◌*◌, ◌/◌, List, [], ◌∷◌, ◌++◌, length, get_or, sym, ◌∙◌, ap, subst, arith}
use Rattle.taxi_base.specs.declared.rows.Span.{Span}
use Rattle.taxi_base.specs.Windows.{AreApart}
use Rattle.place_cells.specs.declared.spots.Spot.{Spot}
use Rattle.place_cells.specs.Laid.{windows_of}
use Rattle.place_cells.specs.Blocks.{block, stretches_for}
use Rattle.place_cells.proofs.LaidLaws.{windows_of-at, windows_of-length, apart_all, AreNumberedTo, numbered_to_more, roomy, twins}
use Rattle.place_cells.proofs.numbers.CellNumbers.laid.Goals as goal

pub loop-arc-preserved : goal.loop-arc-preserved
loop-arc-preserved c =
    let store = c.args.store.now in let n = c.loop-arc.arc in
    let row : c.spans-windows.result.now ≡ get_or (windows_of store) (n / 2) [] = c.spans-windows.ensures.spans ∙ sym (windows_of-at store (n / 2)) in
    let room : ℕ = 8 * c.stretches_for.result in
    let size : 8 * stretches_for (length (get_or (windows_of store) (n / 2) [])) ≡ room = ap (λ (w : List Span). 8 * stretches_for (length w)) (sym row) ∙ ap (λ (k : ℕ). 8 * k) (sym c.stretches_for.ensures) in
    let grown = numbered_to_more (windows_of store) n room c.loop-arc.spots.items c.loop-arc.first.items c.loop-arc.invariant size (subst (AreApart 0) row c.spans-windows.ensures.apart) in
    let spots : c.push_block.new.self.items ≡ c.loop-arc.spots.items ++ block (record { 0 = n }) room = c.in_ok-push_block.ensures in
    let count : c.len.result ≡ length (c.loop-arc.spots.items ++ block (record { 0 = n }) room) = c.len.ensures.count ∙ ap length spots in
    let first = c.in_ok-push-2.ensures.items ∙ ap (λ (k : ℕ). c.loop-arc.first.items ++ k ∷ []) count in
    subst (λ (ss : List Spot). AreNumberedTo (windows_of store) (n + 1) ss c.push-in-loop-arc.new.self.items) (sym spots)
    (subst (λ (fs : List ℕ). AreNumberedTo (windows_of store) (n + 1) (c.loop-arc.spots.items ++ block (record { 0 = n }) room) fs) (sym first) grown)

pub returns-clause-numbers : goal.returns-clause-numbers
returns-clause-numbers c =
    let to : AreNumberedTo (windows_of c.args.store.now) c.loop-arc.arc c.loop-arc.spots.items c.loop-arc.first.items = c.loop-arc.invariant in
    record {
      arcs = omega (arith, to.count, c.loop-arc-test.false, c.requires.arcs, windows_of-length c.args.store.now, c.loop-arc.auto.arc-end);
      room = λ a on. roomy (windows_of c.args.store.now) c.loop-arc.arc c.loop-arc.spots.items c.loop-arc.first.items to a (omega (arith, on, c.loop-arc-test.false, c.requires.arcs, windows_of-length c.args.store.now));
    }

pub returns-clause-apart : goal.returns-clause-apart
returns-clause-apart c _ =
    apart_all (windows_of c.args.store.now) c.args.arcs (omega (arith, c.requires.arcs, windows_of-length c.args.store.now)) (λ a on. c.loop-arc.invariant.apart a (omega (arith, on, c.loop-arc-test.false)))

pub invariant_of-result : goal.invariant_of-result
invariant_of-result c =
    let to : AreNumberedTo (windows_of c.args.store.now) c.loop-arc.arc c.loop-arc.spots.items c.loop-arc.first.items = c.loop-arc.invariant in
    record { numbered = to.are; twins = twins (windows_of c.args.store.now) c.loop-arc.arc c.loop-arc.spots.items c.loop-arc.first.items to; guessed = omega (arith, to.count, c.loop-arc-test.false, c.loop-arc.auto.arc-end, c.in_ok-found.ensures, c.requires.arcs) }
