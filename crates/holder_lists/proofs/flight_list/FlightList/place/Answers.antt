use Rattle.taxi_base.specs.declared.answers.Flight.{Flight}
use Rattle.holder_lists.proofs.Names.{named-place}
use Rattle.holder_lists.proofs.flight_list.FlightList.place.Goals as goal

pub returns : goal.returns
returns c = rw c.ok.ensures.value (named-place (λ (f : Flight). f.name) c.args.self.now.flights c.args.name.now c.place_of.ensures.book.ordered c.place_of.result c.place_of.ensures.place)
