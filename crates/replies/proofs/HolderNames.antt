-- The names of holders are names.
use Rattle.std.proofs.Common.{◌≡◌, ℕ, List, Option, Some, None, option_map, Bool, refl}
use Rattle.std.specs.Prelude.{All, IfSome, find}
use Rattle.std.specs.List.{list_any}
use Rattle.std.proofs.lemmas.Bool.{cond_both}
use Rattle.std.proofs.lemmas.List.Elements.{All-contains, All-filter}
use Rattle.taxi_base.specs.declared.numbers.Segment.{Segment}
use Rattle.taxi_base.specs.declared.answers.Flight.{Flight}
use Rattle.taxi_base.specs.declared.answers.Party.{Party}
use Rattle.taxi_base.specs.Airport.{Airport}
use Rattle.taxi_base.specs.Windows.{blocks}
use Rattle.taxi_base.specs.State.{State, name_precedes, party_hold, flight_holds, with_flight, with_party, without}
use Rattle.taxi_base.specs.Faults.{first_name, party_at, flight_at, holder_at}
use Rattle.taxi_base.proofs.NameLaws.{All-put_in}
use Rattle.replies.specs.Printable.{IsName}
use Rattle.replies.specs.Replies.{HaveNames}
use Rattle.replies.proofs.FlightLaws.{find-there}

find-name : {X : Type 0} (name_of : X → List ℕ) (p : X → Bool) (xs : List X) → All (λ x. IsName (name_of x)) xs → IfSome (option_map name_of (find p xs)) IsName
find-name {X} name_of p xs names = go (find p xs) refl where
  go : (o : Option X) → find p xs ≡ o → IfSome (option_map name_of o) IsName
  go None e = tt
  go (Some x) e = All-contains (λ y. IsName (name_of y)) xs x names (find-there p xs x e)

first-name : (a b : Option (List ℕ)) → IfSome a IsName → IfSome b IsName → IfSome (first_name a b) IsName
first-name None b one two = two
first-name (Some a) None one two = one
first-name (Some a) (Some b) one two = cond_both (name_precedes b a) (Some b) (Some a) (λ o. IfSome o IsName) (λ _. two) (λ _. one)

pub holder_at-name : (airport : Airport) (state : State) (s : Segment) (t : ℕ) → HaveNames state → IfSome (holder_at airport state s t) IsName
holder_at-name airport state s t names =
    first-name (party_at airport state s t) (flight_at airport state s t)
    (find-name (λ (p : Party). p.name) (λ p. blocks airport.conflicts s t (party_hold p)) state.parties names.1)
    (find-name (λ (f : Flight). f.name) (λ f. list_any (blocks airport.conflicts s t) (flight_holds airport f)) state.flights names.0)

pub with_flight-names : (flight : Flight) (state : State) → IsName flight.name → HaveNames state → HaveNames (with_flight flight state)
with_flight-names flight state name names =
    (All-put_in (λ (f : Flight). f.name) (λ f. IsName f.name) flight name state.flights names.0, names.1)

pub with_party-names : (party : Party) (state : State) → IsName party.name → HaveNames state → HaveNames (with_party party state)
with_party-names party state name names =
    (names.0, All-put_in (λ (p : Party). p.name) (λ p. IsName p.name) party name state.parties names.1)

pub without-names : (name : List ℕ) (state : State) → HaveNames state → HaveNames (without name state)
without-names name state names = (
  All-filter _ (λ (f : Flight). IsName f.name) state.flights names.0,
  All-filter _ (λ (p : Party). IsName p.name) state.parties names.1,
)
