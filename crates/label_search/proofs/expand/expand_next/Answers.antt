use Rattle.std.proofs.Common.{◌+◌, ◌<◌, length, set, refl, sym, subst, arith}
use Rattle.std.proofs.lemmas.Grind.{get_or-set_at}
use Rattle.label_search.specs.Labels.{standing}
use Rattle.label_search.specs.Problem.{IsIn}
use Rattle.label_search.proofs.Reaching.{done_by_reached, reached_more}
use Rattle.label_search.proofs.expand.expand_next.Goals as goal

pub returns-clause-reached : goal.returns-clause-reached
returns-clause-reached g c =
    let p = g.C.ForwardCells.problem c.args.cells.now in
    let number = c.number-number.result in
    let inside : number < length c.args.reached.now = omega (arith, c.number-number.ensures, c.requires.numbers, c.requires.sound.numbers_inside c.args.from.cell c.args.run c.requires.ready.inside c.requires.is_run) in
    reached_more p c.args.from.cell c.args.from.at (standing c.args.labels.now) (standing c.expand_run.new.labels) c.args.reached.now number c.args.from.last c.run-part.result.run
    c.requires.ready.last inside (rw (c.max.ensures, sym c.number-number.ensures) at c.run-part.ensures.part) c.expand_run.ensures c.requires.reached

pub returns-clause-expanded : goal.returns-clause-expanded
returns-clause-expanded g c =
    let p = g.C.ForwardCells.problem c.args.cells.now in
    let number = c.number-number.result in
    let inside : number < length c.args.reached.now = omega (arith, c.number-number.ensures, c.requires.numbers, c.requires.sound.numbers_inside c.args.from.cell c.args.run c.requires.ready.inside c.requires.is_run) in
    let reached = set c.args.reached.now number (c.args.from.last + 1) in
    let are = reached_more p c.args.from.cell c.args.from.at (standing c.args.labels.now) (standing c.expand_run.new.labels) c.args.reached.now number c.args.from.last c.run-part.result.run
    c.requires.ready.last inside (rw (c.max.ensures, sym c.number-number.ensures) at c.run-part.ensures.part) c.expand_run.ensures c.requires.reached in
    record {
      lengths = c.expand_run.ensures.lengths;
      each = c.expand_run.ensures.each;
      done = λ d t is e.
          done_by_reached p c.args.from.cell c.args.from.at (standing c.expand_run.new.labels).known reached number are
          (omega (arith, c.requires.ready.last, get_or-set_at c.args.reached.now number number (c.args.from.last + 1) 0 refl inside)) d t
          (subst (λ n. IsIn (p.run n) d) (sym c.number-number.ensures) is) e;
    }
