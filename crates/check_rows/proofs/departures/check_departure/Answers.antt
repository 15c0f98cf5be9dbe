use Rattle.check_rows.proofs.LoopLaws.{says-yes}
use Rattle.check_rows.proofs.departures.check_departure.Goals as goal

pub broken_by_places-broken-requires-clause-places : goal.broken_by_places-broken-requires-clause-places
broken_by_places-broken-requires-clause-places g c = says-yes _ c.if-not-there.false c.in_ok-there.ensures.there

pub broken_by_places-broken-requires-clause-known : goal.broken_by_places-broken-requires-clause-known
broken_by_places-broken-requires-clause-known g c = c.take_firsts-firsts.ensures _ _ c.are_at_places.ensures.known

pub returns-clause-known : goal.returns-clause-known
returns-clause-known g c = c.put_firsts.ensures _ _ c.broken_by_places-broken.ensures.known
