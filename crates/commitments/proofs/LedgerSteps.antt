-- The steps that a ledger keeps by segment are those of its holders, but for the lifted flight, after each call.
use Rattle.std.proofs.Common.{◌≡◌, ℕ, ◌+◌, ◌-◌, List, ◌++◌, length, map, Option, Some, None, sym, ap, ◌∙◌, subst, arith}
use Rattle.std.specs.Prelude.{remove, slice_get}
use Rattle.taxi_base.specs.declared.answers.Flight.{Flight}
use Rattle.taxi_base.specs.Airport.{Airport}
use Rattle.taxi_base.specs.State.{State, IsFeasibleState, without}
use Rattle.taxi_base.proofs.StateLaws.{IsFeasibleState-without}
use Rattle.window_store.specs.Stands.{StandsFor}
use Rattle.commitments.specs.declared.segment_holds.HeldStep.{HeldStep}
use Rattle.commitments.specs.Book.{Book, Fits, without_lifted, remaining}
use Rattle.commitments.specs.Held.{hold_by, flight_steps, steps_of_each, joined, steps_in, AreAsMany}
use Rattle.holder_lists.specs.Places.{IsFlightPlace}
use Rattle.commitments.proofs.Routes.{AreOver, parties-over, without-flight}
use Rattle.commitments.proofs.Arranged.{count-append}
use Rattle.commitments.proofs.StepsIn.{each-flight, each-flight_left, steps-parted, steps-stand}

over-remaining : (airport : Airport) (lifted : Option (List ℕ)) (state : State) → IsFeasibleState airport state → AreOver airport (without_lifted lifted state).parties
over-remaining airport None state feasible = parties-over airport state feasible
over-remaining airport (Some name) state feasible = parties-over airport (without name state) (IsFeasibleState-without airport name state feasible)

-- the store stands for what they hold
pub ledger-stands : (airport : Airport) (book : Book) (steps : List HeldStep) → Fits airport book → AreAsMany steps (steps_in (remaining book))
    → StandsFor airport.conflicts airport.horizon (map (hold_by airport) steps) book.store
ledger-stands airport book steps fits as_many =
    steps-stand airport (remaining book) steps book.store (over-remaining airport book.lifted book.state fits.feasible) as_many fits.stands

-- some more steps come to both
pub as_many-more : (old all new next more : List HeldStep) → AreAsMany old all → AreAsMany (old ++ more) new → AreAsMany (all ++ more) next → AreAsMany new next
as_many-more old all new next more same added also test =
    omega (arith, same test, added test, also test, count-append test old more, count-append test all more)

-- ---- a flight out of the others

module _ (airport : Airport) (state : State) (feasible : IsFeasibleState airport state) (name : List ℕ) (place : ℕ) (at : IsFlightPlace state.flights name (Some place)) (x : Flight) (found : slice_get state.flights place ≡ Some x) (is_named : x.name ≡ name) where
  -- what is left without its route
  pub steps-left : joined (remove (steps_of_each state) (length state.parties + place)) ≡ steps_in (without name state)
  steps-left =
      ap joined (each-flight_left state place) ∙ ap steps_in (without-flight airport state feasible name place at x found is_named)

  -- and with it again
  pub steps-back : AreAsMany (steps_in (without name state) ++ flight_steps x) (steps_in state)
  steps-back =
      let number = length state.parties + place in
      let e : number - length state.parties ≡ place = omega arith in
      let there = each-flight state number x (omega arith) (rw e found) in
      λ test. sym (subst (λ (rest : List HeldStep). AreAsMany (steps_in state) (rest ++ flight_steps x)) steps-left (steps-parted state number (flight_steps x) there) test)
