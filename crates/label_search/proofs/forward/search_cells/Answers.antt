use Rattle.std.proofs.Common.{map, ap, ◌∙◌, arith}
use Rattle.label_search.specs.Labels.{standing}
use Rattle.label_search.specs.Values.{rows_from, values_kept}
use Rattle.label_search.specs.Answer.{end_of_goal}
use Rattle.label_search.proofs.Ends.{end_values, end_best, end_none}
use Rattle.label_search.specs.Standing.{SettledValue}
use Rattle.label_search.proofs.Steps.{traced_come_to}
use Rattle.label_search.proofs.Reaching.{reached_none}
use Rattle.label_search.proofs.forward.search_cells.Goals as goal

pub take_rows-requires : goal.take_rows-requires
take_rows-requires g c = record {
  sound = c.requires.sound;
  come_to = λ d label is. traced_come_to (g.C.ForwardCells.problem c.args.cells.now) (SettledValue (standing c.settle-goal.new.labels) c.settle-goal.ensures.settled) d label (c.settle-goal.ensures.traced d label is);
}

pub settle-goal-requires-clause-reached : goal.settle-goal-requires-clause-reached
settle-goal-requires-clause-reached g c =
    let p = g.C.ForwardCells.problem c.args.cells.now in
    rw c.deref_mut.ensures.value (record {
      room = omega (arith, c.in_ok-reach_none.ensures.room, c.numbers.ensures);
      now = 0;
      are = reached_none p (standing c.begin.new.labels).known c.reach_none.new.reached.items c.in_ok-reach_none.ensures.none;
      ahead = λ d key is. omega arith;
    })

pub returns-clause-table : goal.returns-clause-table
returns-clause-table g c =
    let p = g.C.ForwardCells.problem c.args.cells.now in
    rw (c.in_ok-route.ensures.same_end) (record {
      values = rows_from 0 (values_kept (end_of_goal c.settle-goal.result) (standing c.settle-goal.new.labels).known);
      are_exits = end_values p c.requires.sound (standing c.settle-goal.new.labels) c.settle-goal.result c.settle-goal.ensures;
      are_told = c.in_ok-rows.ensures ∙ ap (λ end. map (g.C.ForwardCells.told c.args.cells.now) (rows_from 0 (values_kept end (standing c.settle-goal.new.labels).known))) c.end_of_goal.ensures;
    })

pub returns-clause-best : goal.returns-clause-best
returns-clause-best g c =
    let p = g.C.ForwardCells.problem c.args.cells.now in
    rw c.in_ok-route.ensures.same_end (end_best p c.requires.sound (standing c.settle-goal.new.labels) c.settle-goal.result c.settle-goal.ensures)

pub returns-clause-none : goal.returns-clause-none
returns-clause-none g c =
    let p = g.C.ForwardCells.problem c.args.cells.now in
    rw c.in_ok-route.ensures.same_end (end_none p c.requires.sound (standing c.settle-goal.new.labels) c.settle-goal.result c.settle-goal.ensures)
