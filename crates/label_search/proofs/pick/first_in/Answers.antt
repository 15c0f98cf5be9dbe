use Rattle.std.proofs.Common.{◌≡◌, ◌<◌, ◌≤◌, length, max, None, sym, ◌∙◌, subst, inl, inr, arith}
use Rattle.std.specs.Prelude.{IsSomeAnd}
use Rattle.std.proofs.lemmas.List.{get_or_default}
use Rattle.std.proofs.lemmas.Bool.{cases_lt, false≢true}
use Rattle.label_search.specs.Problem.{IsIn}
use Rattle.label_search.specs.Entering.{LeadsTo}
use Rattle.label_search.proofs.Leading.{leads_by, leads_not}
use Rattle.label_search.proofs.pick.first_in.Goals as goal

pub returns-then-enters_so-clause-first : goal.returns-then-enters_so-clause-first
returns-then-enters_so-clause-first g c =
    let p = g.C.ForwardCells.problem c.args.cells.now in
    let known = c.args.labels.now.known.items in
    let to = c.args.to in
    let x = c.loop-before.before in
    let is : IsIn c.args.part.run x = record { from_first = c.loop-before.invariant.from_first; until_end = omega (arith, c.loop-before-test.true, c.min-before-end.ensures) } in
    let turn = c.requires.permitted x is in
    let inside : x < length known = omega (arith, c.requires.room.known, (c.requires.sound.turns_inside x to.cell turn).0) in
    let read = c.index.ensures ∙ get_or_default known x c.index.result.now None inside in
    let test = rw c.cell_in-last.ensures at (c.enters_so.ensures.0 c.if-enters_so.true) in
    record {
      leads = leads_by p known to c.requires.entering x turn (subst (λ o. IsSomeAnd o (λ l. (max l.value to.from ≡ to.enter) × (to.enter ≤ p.network.last x))) read test);
      none_before = λ y less on so. c.loop-before.invariant.none y on.from_first less so;
    }

pub loop-before-preserved : goal.loop-before-preserved
loop-before-preserved g c =
    let p = g.C.ForwardCells.problem c.args.cells.now in
    let known = c.args.labels.now.known.items in
    let to = c.args.to in
    let x = c.loop-before.before in
    let is : IsIn c.args.part.run x = record { from_first = c.loop-before.invariant.from_first; until_end = omega (arith, c.loop-before-test.true, c.min-before-end.ensures) } in
    let inside : x < length known = omega (arith, c.requires.room.known, (c.requires.sound.turns_inside x to.cell (c.requires.permitted x is)).0) in
    let read = c.index.ensures ∙ get_or_default known x c.index.result.now None inside in
    let tells = rw c.cell_in-last.ensures at c.enters_so.ensures.1 in
    record {
      from_first = omega (arith, c.loop-before.invariant.from_first);
      none = λ y from less so. elim (cases_lt y x) [
        | inl before ↦ c.loop-before.invariant.none y from before so
        | inr last ↦ (
            let same : y ≡ x = omega (arith, less, last) in
            let here : LeadsTo p known to x = subst (λ z. LeadsTo p known to z) same so in
            let test = subst (λ o. IsSomeAnd o (λ l. (max l.value to.from ≡ to.enter) × (to.enter ≤ p.network.last x))) (sym read) (leads_not p known to c.requires.entering x here) in
            absurd (false≢true (sym c.if-enters_so.false ∙ tells test)))
      ];
    }

pub returns-clause-first : goal.returns-clause-first
returns-clause-first g c = record {
  leads = c.requires.so_far;
  none_before = λ y less is so. c.loop-before.invariant.none y is.from_first (omega (arith, less, is.until_end, c.loop-before-test.false, c.min-before-end.ensures)) so;
}
