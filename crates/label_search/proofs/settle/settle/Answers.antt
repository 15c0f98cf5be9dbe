use Rattle.std.proofs.Common.{◌≡◌, sym, ◌∙◌, arith}
use Rattle.std.specs.Prelude.{⊤}
use Rattle.label_queue.specs.Keys.{without}
use Rattle.label_queue.specs.Least.{IsLeast}
use Rattle.label_search.specs.Labels.{standing}
use Rattle.label_search.specs.Expanding.{IsExpanded}
use Rattle.label_search.proofs.Settling.{taken}
use Rattle.label_search.proofs.Steps.{cell_come_to, cell_inside, key_small, at_goal, underway_new, ahead_new, fewer_new}
use Rattle.label_search.proofs.Reaching.{reached_later}
use Rattle.label_search.proofs.settle.settle.Goals as goal

pub loop-cell-smaller : goal.loop-cell-smaller
loop-cell-smaller g c =
    let p = g.C.ForwardCells.problem c.args.cells.now in
    let s = standing c.loop-cell.labels in
    let cell = c.in-Some.cell in
    let least : IsLeast s.keys cell c.in-Some.at = c.in-Some.ensures.least in
    let same : c.pop_least.new.self ≡ without s.keys cell = c.in-Some.ensures.taken in
    let expanded : IsExpanded p.network cell c.in-Some.at (λ d. ⊤) (taken p c.requires.sound s c.loop-cell.invariant.under cell c.in-Some.at least) (standing c.expand.new.labels) = (rw same at c.expand.ensures.expanded) in
    fewer_new p c.requires.sound s c.loop-cell.invariant.under cell c.in-Some.at least (standing c.expand.new.labels) expanded

pub loop-cell-preserved : goal.loop-cell-preserved
loop-cell-preserved g c =
    let p = g.C.ForwardCells.problem c.args.cells.now in
    let s = standing c.loop-cell.labels in
    let cell = c.in-Some.cell in
    let least : IsLeast s.keys cell c.in-Some.at = c.in-Some.ensures.least in
    let same : c.pop_least.new.self ≡ without s.keys cell = c.in-Some.ensures.taken in
    let expanded : IsExpanded p.network cell c.in-Some.at (λ d. ⊤) (taken p c.requires.sound s c.loop-cell.invariant.under cell c.in-Some.at least) (standing c.expand.new.labels) = (rw same at c.expand.ensures.expanded) in
    record {
      under = underway_new p c.requires.sound s c.loop-cell.invariant.under cell c.in-Some.at least (standing c.expand.new.labels) expanded (sym c.is_target.ensures ∙ c.if-is_target.false);
      reached = record {
        room = omega (arith, c.loop-cell.invariant.reached.room, c.expand.ensures.numbers);
        now = c.in-Some.at;
        are = c.expand.ensures.reached;
        ahead = ahead_new p c.requires.sound s c.loop-cell.invariant.under cell c.in-Some.at least (standing c.expand.new.labels) expanded;
      };
    }

pub expand-requires-clause-reached : goal.expand-requires-clause-reached
expand-requires-clause-reached g c =
    let p = g.C.ForwardCells.problem c.args.cells.now in
    let s = standing c.loop-cell.labels in
    let least : IsLeast s.keys c.in-Some.cell c.in-Some.at = c.in-Some.ensures.least in
    let reached = c.loop-cell.invariant.reached in
    reached_later p s.known reached.now c.in-Some.at c.loop-cell.reached reached.are (reached.ahead c.in-Some.cell c.in-Some.at least.has_key)

pub place-place-requires : goal.place-place-requires
place-place-requires g c =
    let p = g.C.ForwardCells.problem c.args.cells.now in
    let least : IsLeast c.loop-cell.labels.queue c.in-Some.cell c.in-Some.at = c.in-Some.ensures.least in
    cell_come_to p c.requires.sound (standing c.loop-cell.labels) c.loop-cell.invariant.under c.in-Some.cell c.in-Some.at least

pub expand-requires-clause-ready : goal.expand-requires-clause-ready
expand-requires-clause-ready g c =
    let p = g.C.ForwardCells.problem c.args.cells.now in
    let least : IsLeast c.loop-cell.labels.queue c.in-Some.cell c.in-Some.at = c.in-Some.ensures.least in
    record {
      inside = cell_inside p c.requires.sound (standing c.loop-cell.labels) c.loop-cell.invariant.under c.in-Some.cell c.in-Some.at least;
      last = c.last-last.ensures;
      small = key_small p c.requires.sound (standing c.loop-cell.labels) c.loop-cell.invariant.under c.in-Some.cell c.in-Some.at least;
    }

pub returns-then-is_target : goal.returns-then-is_target
returns-then-is_target g c =
    let p = g.C.ForwardCells.problem c.args.cells.now in
    let least : IsLeast c.loop-cell.labels.queue c.in-Some.cell c.in-Some.at = c.in-Some.ensures.least in
    let same : c.pop_least.new.self ≡ without c.loop-cell.labels.queue c.in-Some.cell = c.in-Some.ensures.taken in
    rw same (at_goal p c.requires.sound (standing c.loop-cell.labels) c.loop-cell.invariant.under c.in-Some.cell c.in-Some.at least (sym c.is_target.ensures ∙ c.if-is_target.true))
