-- What flights in force asked for can be sought again, also where one comes or goes.
use Rattle.std.proofs.Common.{◌≡◌, ℕ, List, not, Some}
use Rattle.std.specs.Prelude.{All, bytes_eq}
use Rattle.std.proofs.lemmas.List.Elements.{All-filter, All-contains}
use Rattle.taxi_base.specs.declared.answers.Flight.{Flight}
use Rattle.taxi_base.specs.declared.answers.Request.{Request}
use Rattle.taxi_base.specs.declared.answers.Request.TheVariants as request
use Rattle.taxi_base.specs.Airport.{Airport}
use Rattle.taxi_base.specs.State.{flight_named, flights_with, flights_without}
use Rattle.taxi_base.proofs.NameLaws.{All-put_in}
use Rattle.replies.proofs.FlightLaws.{flight_named-there}
use Rattle.check_walks.specs.Told.{CanBeSought}
use Rattle.certificate_check.specs.Desk.{CanGoOn}

module _ (airport : Airport) where
  abbrev pub AllGoOn : List Flight → Type 0
  AllGoOn flights = All (λ f. CanGoOn airport f.request) flights

  pub go_on-with : (x : Flight) (flights : List Flight) → CanGoOn airport x.request → AllGoOn flights → AllGoOn (flights_with x flights)
  go_on-with x flights can all = All-put_in (λ f. f.name) (λ f. CanGoOn airport f.request) x can flights all

  pub go_on-without : (name : List ℕ) (flights : List Flight) → AllGoOn flights → AllGoOn (flights_without name flights)
  go_on-without name flights all = All-filter (λ f. not (bytes_eq f.name name)) (λ f. CanGoOn airport f.request) flights all

  pub go_on-named : (name : List ℕ) (flights : List Flight) (flight : Flight) → flight_named name flights ≡ Some flight → AllGoOn flights → CanGoOn airport flight.request
  go_on-named name flights flight found all = All-contains (λ f. CanGoOn airport f.request) flights flight all (flight_named-there name flights flight found)

  pub sought-goes_on : (r : Request) → CanBeSought airport r → CanGoOn airport r
  sought-goes_on request.Filed can = tt
  sought-goes_on (request.Arrival from to time hold) can = can
  sought-goes_on (request.Departure from to time queue) can = can
