use Rattle.taxi_base.specs.Airport.{layout_of}
use Rattle.taxi_base.specs.Walks.{conditions_of_class, ReachesNodeWithin}
use Rattle.place_cells.specs.Laid.{windows_of}
use Rattle.late_repair.proofs.SeekingLaws.{after-answers}
use Rattle.late_repair.proofs.seeking.depart_after.Goals as goal

pub returns : goal.returns
returns c =
    after-answers (conditions_of_class c.args.airport.now c.args.departure.class (windows_of c.args.store.now)) c.args.departure.from
    (ReachesNodeWithin (layout_of c.args.airport.now) c.args.to c.args.departure.earliest_out c.args.departure.latest_out) c.args.bound c.in_ok-found.found c.in_ok-found.ensures c.found_after.result c.found_after.ensures
