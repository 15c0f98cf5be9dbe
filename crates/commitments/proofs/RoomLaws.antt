-- Where there is room for all holders of a state: it stays while no room is lost, and those that are out can go in again.
use Rattle.std.proofs.Common.{◌≡◌, ◌+◌, ◌<◌, List, [], ◌∷◌, ◌++◌, length, None, cond, sym, ap, arith}
use Rattle.std.specs.List.Sorted.{IsPermutation}
use Rattle.std.proofs.lemmas.List.Sorted.{sum_by-IsPermutation}
use Rattle.taxi_base.specs.declared.numbers.Segment.{Segment}
use Rattle.taxi_base.specs.declared.answers.Flight.{Flight}
use Rattle.taxi_base.specs.declared.answers.Party.{Party}
use Rattle.taxi_base.specs.Airport.{Airport, conflict, clearance_of, segment_of}
use Rattle.taxi_base.specs.Windows.{Hold}
use Rattle.taxi_base.specs.State.{State, with_flight, with_party, flight_holds, party_hold, party_step, holds_in}
use Rattle.taxi_base.proofs.NameLaws.{length-put_in}
use Rattle.window_store.specs.Stands.{HasRoomFor, conflicting, conflicting_steps}
use Rattle.window_store.proofs.Standing.{conflicting-append, conflicting-steps}
use Rattle.commitments.specs.Book.{Book, Fits, IsPrepared, IsPreparedForParty}
use Rattle.commitments.specs.Room.{HasRoomForAll, LosesNoRoom}
use Rattle.commitments.proofs.SameHolds.{with_flight-holds, with_party-holds}
use Rattle.commitments.proofs.Routes.{party-prepared}
use Rattle.commitments.proofs.Fitting.{stands-unlifted}

-- ---- how many holds are in conflict

-- as many of holds in another order
conflicting-moved : (sets : List (List Segment)) (s : Segment) (holds others : List Hold) → IsPermutation holds others → conflicting sets s holds ≡ conflicting sets s others
conflicting-moved sets s holds others moved = sym (sum_by-IsPermutation (λ (h : Hold). cond (conflict sets s h.segment) 1 0) holds others moved)

module _ (airport : Airport) (state : State) (s : Segment) where
  -- a flight more adds its steps
  more-flight : (f : Flight)
      → conflicting airport.conflicts s (holds_in airport (with_flight f state)) ≡ conflicting airport.conflicts s (holds_in airport state) + conflicting_steps airport.conflicts s f.steps
  more-flight f = omega (
    arith,
    conflicting-moved airport.conflicts s (holds_in airport state ++ flight_holds airport f) (holds_in airport (with_flight f state)) (with_flight-holds airport state f),
    conflicting-append airport.conflicts s (holds_in airport state) (flight_holds airport f),
    conflicting-steps airport.horizon (clearance_of airport f.class) airport.conflicts s f.steps,
  )

  -- and a party its step
  party-one : (p : Party) → conflicting airport.conflicts s (party_hold p ∷ []) ≡ conflicting_steps airport.conflicts s (party_step p ∷ [])
  party-one p =
      let number : p.segment.0 ≡ (segment_of (party_step p).arc).0 = omega arith in
      ap (λ n. conflicting airport.conflicts s (record { segment = record { 0 = n }; span = (party_hold p).span } ∷ [])) number

  more-party : (p : Party)
      → conflicting airport.conflicts s (holds_in airport (with_party p state)) ≡ conflicting airport.conflicts s (holds_in airport state) + conflicting_steps airport.conflicts s (party_step p ∷ [])
  more-party p = omega (
    arith,
    conflicting-moved airport.conflicts s (holds_in airport state ++ party_hold p ∷ []) (holds_in airport (with_party p state)) (with_party-holds airport state p),
    conflicting-append airport.conflicts s (holds_in airport state) (party_hold p ∷ []),
    party-one p,
  )

-- ---- room for all of a state

-- a ledger has room for its own holders
pub room-own : (airport : Airport) (book : Book) → Fits airport book → book.lifted ≡ None → HasRoomForAll airport book.state book
room-own airport book fits unlifted = record {
  flights = omega arith;
  parties = omega arith;
  windows = λ s low. let stood = stands-unlifted airport book fits unlifted s low in omega (arith, stood.room, stood.number);
}

-- room stays where none is lost
pub room-kept : (airport : Airport) (state : State) (old new : Book) → HasRoomForAll airport state old → LosesNoRoom old new → HasRoomForAll airport state new
room-kept airport state old new room kept = record {
  flights = omega (arith, room.flights, kept.flights);
  parties = omega (arith, room.parties, kept.parties);
  windows = λ s low.
      let before : s.0 < length old.store.lists = omega (arith, low, kept.lists) in
      omega (arith, room.windows s before, kept.nodes s before);
}

module _ (airport : Airport) (state : State) (book : Book) where
  -- room for all is room for the others of one
  pub room-but_flight : (f : Flight) → HasRoomForAll airport (with_flight f state) book → HasRoomForAll airport state book
  room-but_flight f room = record {
    flights = omega (arith, room.flights, length-put_in (λ (g : Flight). g.name) f state.flights);
    parties = room.parties;
    windows = λ s low. omega (arith, room.windows s low, more-flight airport state s f);
  }

  pub room-but_party : (p : Party) → HasRoomForAll airport (with_party p state) book → HasRoomForAll airport state book
  room-but_party p room = record {
    flights = room.flights;
    parties = omega (arith, room.parties, length-put_in (λ (q : Party). q.name) p state.parties);
    windows = λ s low. omega (arith, room.windows s low, more-party airport state s p);
  }

-- and for that one, where it is out
module _ (airport : Airport) (book : Book) where
  pub room-flight : (f : Flight) → Fits airport book → book.lifted ≡ None → HasRoomForAll airport (with_flight f book.state) book → IsPrepared airport f.steps book
  room-flight f fits unlifted room = record {
    flight = omega (arith, room.flights, length-put_in (λ (g : Flight). g.name) f book.state.flights);
    windows = λ s low. omega (arith, room.windows s low, more-flight airport book.state s f, (stands-unlifted airport book fits unlifted s low).number);
  }

  pub room-party : (p : Party) → Fits airport book → book.lifted ≡ None → HasRoomForAll airport (with_party p book.state) book → IsPreparedForParty airport p.segment book
  room-party p fits unlifted room = record {
    party = omega (arith, room.parties, length-put_in (λ (q : Party). q.name) p book.state.parties);
    windows = party-prepared airport p.segment book.store (party_step p).enter (party_step p).leave own;
  } where
    own : HasRoomFor airport.conflicts (party_step p ∷ []) book.store
    own s low = omega (arith, room.windows s low, more-party airport book.state s p, (stands-unlifted airport book fits unlifted s low).number)
