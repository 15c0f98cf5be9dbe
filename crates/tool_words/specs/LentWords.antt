-- What do words that are lent ask for?
use Rattle.std.specs.Prelude.{Option, Some, None}
use Rattle.tool_words.specs.declared.words.Verb.{Verb as LentVerb}
use Rattle.tool_words.specs.declared.words.Verb.TheVariants as lent
use Rattle.tool_words.specs.Verb.{Verb, OfAirport, OfRun, Explain, Json, names_of}

abbrev pub asked_for : LentVerb → Verb
asked_for (lent.OfAirport airport tool) = OfAirport airport.now tool
asked_for (lent.OfRun airport commands tool) = OfRun (names_of airport.now commands.now) tool
asked_for (lent.Explain airport commands number) = Explain (names_of airport.now commands.now) number
asked_for (lent.Json airport commands) = Json (names_of airport.now commands.now)

abbrev pub asked_as : Option LentVerb → Option Verb
asked_as None = None
asked_as (Some asked) = Some (asked_for asked)
