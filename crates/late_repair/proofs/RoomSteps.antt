-- No room is lost where a holder goes out or in, or where room is made.
use Rattle.std.proofs.Common.{◌≡◌, ◌∙◌, ℕ, ◌+◌, ◌<◌, ◌≤◌, List, length, Option, Some, None, is_some, refl, sym, ap, subst, arith}
use Rattle.std.specs.Prelude.{IfSome, IfNone}
use Rattle.std.proofs.lemmas.Bool.{or_from}
use Rattle.taxi_base.specs.declared.numbers.Segment.{Segment}
use Rattle.taxi_base.specs.declared.answers.Flight as flights
use Rattle.taxi_base.specs.declared.answers.Party as parties
use Rattle.taxi_base.specs.Airport.{Airport}
use Rattle.taxi_base.specs.State.{State, flight_named, party_named, with_flight, with_party, without}
use Rattle.taxi_base.proofs.NameLaws.{length-put_in}
use Rattle.window_store.specs.Spans.{nodes}
use Rattle.window_store.specs.Store.{list_at}
use Rattle.window_store.specs.Kept.{KeepsNodes, GainsRoom}
use Rattle.replies.proofs.FlightLaws.{without-none}
use Rattle.commitments.specs.Book.{Book, Fits}
use Rattle.commitments.specs.Room.{LosesNoRoom}
use Rattle.late_repair.proofs.HolderLaws.{flight-back, party-back}

pub no_loss : (book : Book) → LosesNoRoom book book
no_loss book = record { flights = omega arith; parties = omega arith; lists = refl; nodes = λ s low. omega arith }

pub no_loss-both : (old now new : Book) → LosesNoRoom old now → LosesNoRoom now new → LosesNoRoom old new
no_loss-both old now new first second = record {
  flights = omega (arith, first.flights, second.flights);
  parties = omega (arith, first.parties, second.parties);
  lists = second.lists ∙ first.lists;
  nodes = λ s low.
      let next : s.0 < length now.store.lists = omega (arith, low, first.lists) in
      omega (arith, first.nodes s low, second.nodes s next);
}

-- room is made
pub no_loss-made : (old new : Book) → new.state ≡ old.state → old.room ≤ new.room → new.party_room ≡ old.party_room → GainsRoom old.store new.store → LosesNoRoom old new
no_loss-made old new same room party_room gained =
    let fs : length new.state.flights ≡ length old.state.flights = ap (λ (s : State). length s.flights) same in
    let ps : length new.state.parties ≡ length old.state.parties = ap (λ (s : State). length s.parties) same in
    record {
      flights = omega (arith, fs, room);
      parties = omega (arith, ps, party_room);
      lists = gained.lists;
      nodes = gained.nodes;
    }

module _ (old new : Book) (kept : KeepsNodes old.store new.store) where
  same-nodes : (segment : Segment) → segment.0 < length old.store.lists → nodes (list_at old.store segment) ≤ nodes (list_at new.store segment)
  same-nodes segment low = omega (arith, kept.nodes segment low)

  -- a flight goes in, or out
  module _ (f : flights.Flight) where
    pub no_loss-flight_in : new.state ≡ with_flight f old.state → new.room + 1 ≡ old.room → new.party_room ≡ old.party_room → LosesNoRoom old new
    no_loss-flight_in is room party_room =
        let fs : length new.state.flights ≡ length (with_flight f old.state).flights = ap (λ (s : State). length s.flights) is in
        let ps : length new.state.parties ≡ length old.state.parties = ap (λ (s : State). length s.parties) is in
        record {
          flights = omega (arith, fs, room, length-put_in (λ (g : flights.Flight). g.name) f old.state.flights);
          parties = omega (arith, ps, party_room);
          lists = kept.lists;
          nodes = same-nodes;
        }

    pub no_loss-flight_out : with_flight f new.state ≡ old.state → new.room ≡ old.room + 1 → new.party_room ≡ old.party_room → LosesNoRoom old new
    no_loss-flight_out was room party_room =
        let fs : length (with_flight f new.state).flights ≡ length old.state.flights = ap (λ (s : State). length s.flights) was in
        let ps : length new.state.parties ≡ length old.state.parties = ap (λ (s : State). length s.parties) was in
        record {
          flights = omega (arith, fs, room, length-put_in (λ (g : flights.Flight). g.name) f new.state.flights);
          parties = omega (arith, ps, party_room);
          lists = kept.lists;
          nodes = same-nodes;
        }

  -- a party goes in, or out
  module _ (p : parties.Party) where
    pub no_loss-party_in : new.state ≡ with_party p old.state → new.party_room + 1 ≡ old.party_room → new.room ≡ old.room → LosesNoRoom old new
    no_loss-party_in is party_room room =
        let fs : length new.state.flights ≡ length old.state.flights = ap (λ (s : State). length s.flights) is in
        let ps : length new.state.parties ≡ length (with_party p old.state).parties = ap (λ (s : State). length s.parties) is in
        record {
          flights = omega (arith, fs, room);
          parties = omega (arith, ps, party_room, length-put_in (λ (q : parties.Party). q.name) p old.state.parties);
          lists = kept.lists;
          nodes = same-nodes;
        }

    pub no_loss-party_out : with_party p new.state ≡ old.state → new.party_room ≡ old.party_room + 1 → new.room ≡ old.room → LosesNoRoom old new
    no_loss-party_out was party_room room =
        let fs : length new.state.flights ≡ length old.state.flights = ap (λ (s : State). length s.flights) was in
        let ps : length (with_party p new.state).parties ≡ length old.state.parties = ap (λ (s : State). length s.parties) was in
        record {
          flights = omega (arith, fs, room);
          parties = omega (arith, ps, party_room, length-put_in (λ (q : parties.Party). q.name) p new.state.parties);
          lists = kept.lists;
          nodes = same-nodes;
        }

-- ---- whoever has a name goes out

-- a flight, where one has it
pub no_loss-cancelled : (airport : Airport) (name : List ℕ) (old new : Book) (o : Option flights.Flight) → Fits airport old → o ≡ flight_named name old.state.flights
    → IfSome o (λ _. new.state ≡ without name old.state) → IfNone o (new ≡ old) → IfSome o (λ _. new.room ≡ old.room + 1) → new.party_room ≡ old.party_room → KeepsNodes old.store new.store
    → LosesNoRoom old new
no_loss-cancelled airport name old new None fits found state none room party_room nodes = subst (LosesNoRoom old) (sym none) (no_loss old)
no_loss-cancelled airport name old new (Some f) fits found state none room party_room nodes =
    no_loss-flight_out old new nodes f (ap (with_flight f) state ∙ flight-back airport old.state fits.feasible name f (sym found)) room party_room

-- a party, where one has it
pub no_loss-removed : (airport : Airport) (name : List ℕ) (old new : Book) (o : Option parties.Party) → Fits airport old → o ≡ party_named name old.state.parties
    → IfSome o (λ _. new.state ≡ without name old.state) → IfNone o (new ≡ old) → IfSome o (λ _. new.party_room ≡ old.party_room + 1) → new.room ≡ old.room → KeepsNodes old.store new.store
    → LosesNoRoom old new
no_loss-removed airport name old new None fits found state none party_room room nodes = subst (LosesNoRoom old) (sym none) (no_loss old)
no_loss-removed airport name old new (Some p) fits found state none party_room room nodes =
    no_loss-party_out old new nodes p (ap (with_party p) state ∙ party-back airport old.state fits.feasible name p (sym found)) party_room room

-- where no flight has it, it is out once no party does
pub out-removed : (name : List ℕ) (old new : Book) (o : Option parties.Party) → flight_named name old.state.flights ≡ None → o ≡ party_named name old.state.parties
    → IfSome o (λ _. new.state ≡ without name old.state) → IfNone o (new ≡ old) → new.state ≡ without name old.state
out-removed name old new None no_flight found state none =
    ap (λ (b : Book). b.state) none ∙ sym (without-none name old.state (or_from _ _ (ap is_some (sym found)) (ap is_some no_flight)))
out-removed name old new (Some p) no_flight found state none = state
