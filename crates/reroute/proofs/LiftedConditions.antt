-- The windows of a ledger with a flight lifted end by the horizon, and the conditions in them are those of the flight: among the others.
use Rattle.std.proofs.Common.{◌≡◌, ◌∙◌, ◌≤◌, ℕ, List, Some, sym, ap}
use Rattle.std.specs.Prelude.{All}
use Rattle.taxi_base.specs.declared.answers.Flight.{Flight}
use Rattle.taxi_base.specs.Airport.{Airport, clearance_of}
use Rattle.taxi_base.specs.Walks.{conditions_among, conditions_in_windows}
use Rattle.taxi_base.specs.State.{State, flight_named, without, holds_in, conditions_of}
use Rattle.taxi_base.proofs.FlightNames.{find-named}
use Rattle.window_store.specs.Store.{Store}
use Rattle.commitments.specs.Book.{Book, Fits}
use Rattle.commitments.proofs.Fitting.{lifted-stands}
use Rattle.place_cells.specs.Laid.{windows_of}
use Rattle.place_cells.proofs.StoreConditions.{windows-by, conditions-among}

module _ (airport : Airport) (book : Book) (name : List ℕ) (fits : Fits airport book) (lifted : book.lifted ≡ Some name) where
  pub lifted-by : All (All (λ w. w.until ≤ airport.horizon)) (windows_of book.store)
  lifted-by = windows-by airport (holds_in airport (without name book.state)) book.store fits.lists (lifted-stands airport book name fits lifted)

  pub lifted-conditions : (x : Flight) → flight_named name book.state.flights ≡ Some x
      → conditions_in_windows airport x.class (clearance_of airport x.class) (windows_of book.store) ≡ conditions_of airport book.state x
  lifted-conditions x found =
      conditions-among airport (holds_in airport (without name book.state)) book.store fits.lists (lifted-stands airport book name fits lifted) x.class
      ∙ ap (λ (n : List ℕ). conditions_among airport x.class (holds_in airport (without n book.state))) (sym (find-named name book.state.flights x found))

  -- also by the state as it was, and by the store that was handed out
  pub lifted-found : (state : State) (store : Store) → book.state ≡ state → store ≡ book.store → (x : Flight) → flight_named name state.flights ≡ Some x
      → conditions_in_windows airport x.class (clearance_of airport x.class) (windows_of store) ≡ conditions_of airport state x
  lifted-found state store same handed x found =
      ap (λ (s : Store). conditions_in_windows airport x.class (clearance_of airport x.class) (windows_of s)) handed
      ∙ lifted-conditions x (ap (λ (s : State). flight_named name s.flights) same ∙ found) ∙ ap (λ (s : State). conditions_of airport s x) same
