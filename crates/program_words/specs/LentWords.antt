-- What do words that are lent ask for?
use Rattle.std.specs.Prelude.{Option, Some, None}
use Rattle.program_words.specs.declared.words.Verb.{Verb as LentAsked}
use Rattle.program_words.specs.declared.words.Verb.TheVariants as lent
use Rattle.program_words.specs.declared.traffic.Traffic.{Traffic as LentTraffic}
use Rattle.program_words.specs.Verb.{Traffic, Verb, Route, Check, Generate, Migrate, Import}

abbrev pub traffic_for : LentTraffic → Traffic
traffic_for traffic = record { number = traffic.number; side = traffic.side; flights = traffic.flights }

abbrev pub traffic_as : Option LentTraffic → Option Traffic
traffic_as None = None
traffic_as (Some traffic) = Some (traffic_for traffic)

abbrev pub asked_for : LentAsked → Verb
asked_for (lent.Route airport commands) = Route (record { airport = airport.now; commands = commands.now })
asked_for (lent.Check airport commands transcript) = Check (record { airport = airport.now; commands = commands.now }) transcript.now
asked_for (lent.Generate traffic) = Generate (traffic_for traffic)
asked_for (lent.Migrate airport) = Migrate airport.now
asked_for (lent.Import airport schedule) = Import (record { airport = airport.now; commands = schedule.now })

abbrev pub asked_as : Option LentAsked → Option Verb
asked_as None = None
asked_as (Some asked) = Some (asked_for asked)
