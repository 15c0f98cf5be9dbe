use Rattle.std.proofs.Common.{max, ◌∙◌, ap, subst}
use Rattle.label_core.specs.Labels.{IsStartEntry}
use Rattle.label_search.specs.Problem.{start_of}
use Rattle.label_search.proofs.Picking.{same_enter}
use Rattle.label_search.proofs.pick.start_enter.Goals as goal

pub returns-clause-some : goal.returns-clause-some
returns-clause-some g c =
    let p = g.C.ForwardCells.problem c.args.cells.now in
    let e : IsStartEntry p.network p.starts c.args.cell c.args.value = subst (λ t. IsStartEntry p.network p.starts c.args.cell t) c.if-leave-value.false c.in_ok-leave.ensures.some in
    let enter = same_enter p.network p.starts c.args.cell c.args.value (start_of c.in_ok-start.start) c.in_ok-start.ensures e in
    (e, c.max.ensures ∙ ap (λ x. max c.in_ok-start.start.earliest x.from) c.cell.ensures ∙ enter)
