-- A search in the windows of the ledger's store is one among the flights in force.
use Rattle.std.proofs.Common.{◌≡◌, ◌∙◌, ◌≤◌, None, ap, subst}
use Rattle.std.specs.Prelude.{All}
use Rattle.taxi_base.specs.declared.numbers.Class.{Class}
use Rattle.taxi_base.specs.Airport.{Airport}
use Rattle.taxi_base.specs.Walks.{conditions_of_class}
use Rattle.taxi_base.specs.State.{holds_in}
use Rattle.taxi_base.specs.Faults.{conditions_in}
use Rattle.window_store.specs.Store.{Store}
use Rattle.window_store.specs.Stands.{StandsFor}
use Rattle.commitments.specs.Book.{Book, without_lifted, Fits}
use Rattle.place_cells.specs.Laid.{windows_of}
use Rattle.place_cells.proofs.StoreConditions as among

-- with no flight lifted the windows are those that all flights leave
pub all_stand : (airport : Airport) (book : Book) → Fits airport book → book.lifted ≡ None → StandsFor airport.conflicts airport.horizon (holds_in airport book.state) book.store
all_stand airport book fits unlifted =
    subst (λ name. StandsFor airport.conflicts airport.horizon (holds_in airport (without_lifted name book.state)) book.store) unlifted fits.stands

module _ (airport : Airport) (book : Book) (fits : Fits airport book) (unlifted : book.lifted ≡ None) where
  -- the windows end by the horizon
  pub windows-by : All (All (λ w. w.until ≤ airport.horizon)) (windows_of book.store)
  windows-by = among.windows-by airport (holds_in airport book.state) book.store fits.lists (all_stand airport book fits unlifted)

  -- and the conditions in them, by the store that was asked for, are those among the flights
  pub conditions-found : (class : Class) (store : Store) → store ≡ book.store → conditions_of_class airport class (windows_of store) ≡ conditions_in airport class book.state
  conditions-found class store same =
      ap (λ (s : Store). conditions_of_class airport class (windows_of s)) same ∙ among.conditions-among airport (holds_in airport book.state) book.store fits.lists (all_stand airport book fits unlifted) class
