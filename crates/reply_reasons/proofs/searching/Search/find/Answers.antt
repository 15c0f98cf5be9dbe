use Rattle.std.proofs.Common.{sym, subst}
use Rattle.taxi_base.specs.Faults.{conditions_in}
use Rattle.reply_reasons.proofs.SearchLaws.{HasStep, on-some}
use Rattle.reply_reasons.proofs.searching.Search.find.Goals as goal

pub returns-in_ok-found-in-On-clause-some : goal.returns-in_ok-found-in-On-clause-some
returns-in_ok-found-in-On-clause-some c =
    subst HasStep (sym c.route_found-in-On.ensures)
    (on-some (conditions_in c.args.self.now.airport.now c.args.self.now.asking.now.class c.args.others.now.state) c.args.request c.as_slice-in-On.result.now c.in-On.time c.in_ok-found-in-On.found c.in_ok-found-in-On.ensures)
