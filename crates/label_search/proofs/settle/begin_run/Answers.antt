use Rattle.std.proofs.Common.{◌+◌, inl, inr, arith}
use Rattle.std.proofs.lemmas.Bool.{cases_eq}
use Rattle.label_search.specs.Labels.{standing}
use Rattle.label_search.specs.Begun.{InRuns}
use Rattle.label_search.proofs.Begins.{first_part_inside, begun_as, begun_past, begun_more, runs_more}
use Rattle.label_search.proofs.settle.begin_run.Goals as goal
use Rattle.label_search.proofs.settle.begin_run.Goals.{in-Some, in_default}

pub loop-cell-init : goal.loop-cell-init
loop-cell-init g c =
    let p = g.C.ForwardCells.problem c.args.cells.now in
    record {
      from_first = omega arith;
      begun = begun_as p (InRuns p c.args.run) _ (standing c.args.labels.now) c.requires.begun (λ x t is e. elim is [ inl before ↦ before | inr here ↦ absurd (omega (arith, here.0, here.1)) ]);
    }

pub start_entry-requires-clause-inside : goal.start_entry-requires-clause-inside
start_entry-requires-clause-inside g c =
    let p = g.C.ForwardCells.problem c.args.cells.now in
    first_part_inside p c.requires.sound c.args.run c.first_run-part.result c.requires.is_run c.first_run-part.ensures c.loop-cell.cell
    (record { from_first = c.loop-cell.invariant.from_first; until_end = omega (arith, c.loop-cell-test.true) })

pub loop-cell-preserved : goal.loop-cell-preserved
loop-cell-preserved g c =
    let p = g.C.ForwardCells.problem c.args.cells.now in
    record {
      from_first = omega (arith, c.loop-cell.invariant.from_first);
      begun = elim c.match-start_entry.branch [
        | in-Some w ↦ rw w.labels-is
            (begun_as p _ _ (standing w.offer.new.self)
            (begun_more p _ (standing c.loop-cell.labels) c.loop-cell.cell c.loop-cell.invariant.begun (standing w.offer.new.self) _ w.in-Some.ensures.some w.offer.ensures)
            (λ x t is e. elim is [ inl before ↦ inl (inl before) | inr here ↦ elim (cases_eq x c.loop-cell.cell) [ inl same ↦ inr same | inr other ↦ inl (inr (here.0, omega (arith, here.1))) ] ]))
        | in_default w ↦ rw w.labels-is
            (begun_as p _ _ (standing c.loop-cell.labels)
            (begun_past p _ (standing c.loop-cell.labels) c.loop-cell.cell c.loop-cell.invariant.begun w.in_default.ensures.none)
            (λ x t is e. elim is [ inl before ↦ inl (inl before) | inr here ↦ elim (cases_eq x c.loop-cell.cell) [ inl same ↦ inr same | inr other ↦ inl (inr (here.0, omega (arith, here.1))) ] ]))
      ];
    }

pub returns : goal.returns
returns g c =
    let p = g.C.ForwardCells.problem c.args.cells.now in
    begun_as p _ (InRuns p (c.args.run + 1)) (standing c.loop-cell.labels) c.loop-cell.invariant.begun
    (λ x t is e. elim (runs_more p c.args.run x is) [
      | inl before ↦ inl before
      | inr here ↦ (let wanted = c.first_run-part.ensures.wanted_in x here (t, e) in inr (wanted.from_first, omega (arith, wanted.until_end, c.loop-cell-test.false)))
    ])
