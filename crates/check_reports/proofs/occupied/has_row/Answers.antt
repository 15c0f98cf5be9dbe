use Rattle.std.proofs.Common.{rules, ◌≡◌, ◌↔◌, IsTrue, sym}
use Rattle.std.proofs.lemmas.Bool.{false≢true}
use Rattle.check_reports.proofs.OccupiedLaws.{row-found, row-missing}
use Rattle.check_reports.proofs.occupied.has_row.Goals as goal

pub returns-in-Some : goal.returns-in-Some
returns-in-Some c =
    let found = c.in-Some.ensures.lookup in
    let same : IsTrue c.eq.result ↔ (c.in-Some.found.now ≡ c.args.row.now) = search (rules) in
    row-found c.args.rows.now c.args.row.now c.requires c.rows_before.result c.rows_before.ensures.point c.in-Some.found.now found.3.0 (sym found.1) c.eq.result same

pub returns-in-None : goal.returns-in-None
returns-in-None c = (
  λ e. absurd (false≢true e),
  λ there. absurd (row-missing c.args.rows.now c.args.row.now c.requires c.rows_before.result c.rows_before.ensures.point c.in-None.ensures.lookup.3 there),
)
