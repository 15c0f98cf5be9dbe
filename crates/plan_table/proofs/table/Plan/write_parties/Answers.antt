use Rattle.std.proofs.Common.{◌≤◌, ◌++◌, ◌∷◌, [], List, length, sym, subst}
use Rattle.std.proofs.lemmas.List.{take_all}
use Rattle.taxi_base.specs.declared.answers.Party.{Party}
use Rattle.airport_text.proofs.RecordLaws.{and_records-none}
use Rattle.plan_table.specs.Rows.{row_fields}
use Rattle.plan_table.specs.Plan.{ArePartyRows}
use Rattle.plan_table.proofs.TableLaws.{at-place, party-more-at, rows-then}
use Rattle.plan_table.proofs.table.Plan.write_parties.Goals as goal

pub loop-place-init : goal.loop-place-init
loop-place-init c = ([], tt, sym (and_records-none _))

pub write_party-requires-clause-in_force : goal.write_party-requires-clause-in_force
write_party-requires-clause-in_force c = at-place c.args.self.now.ledger.now.state.parties c.loop-place.place c.party_at.result c.party_at.ensures

pub loop-place-preserved : goal.loop-place-preserved
loop-place-preserved c =
    let before = c.loop-place.invariant in
    let got = c.in_ok-write_party.ensures in (
      before.0 ++ got.0 ∷ [],
      party-more-at c.args.self.now.airport.now c.args.self.now.ledger.now.state c.loop-place.place c.party_at.result before.0 got.0 c.party_at.ensures before.1 got.1,
      rows-then (row_fields c.args.self.now.start.now) _ _ _ before.0 (got.0 ∷ []) before.2 got.2,
    )

pub returns : goal.returns
returns c =
    let rows = c.loop-place.invariant in
    let past : length c.args.self.now.ledger.now.state.parties ≤ c.loop-place.place = rw c.parties-place-end.ensures.count at c.loop-place-test.false in
    let all = take_all c.loop-place.place c.args.self.now.ledger.now.state.parties past in
    (rows.0, subst (λ (p : List Party). ArePartyRows c.args.self.now.airport.now c.args.self.now.ledger.now.state p rows.0) all rows.1, rows.2)
