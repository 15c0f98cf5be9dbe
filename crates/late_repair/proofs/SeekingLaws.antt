-- A search in the windows of the ledger's store is one among the holders in force, and what it finds answers a turn.
use Rattle.std.proofs.Common.{◌≡◌, ◌∙◌, ℕ, ◌≤◌, None, sym, ap, subst}
use Rattle.std.specs.Prelude.{All, IfOk, Result, Ok, Err}
use Rattle.taxi_base.specs.declared.numbers.Class.{Class}
use Rattle.taxi_base.specs.declared.numbers.Node.{Node}
use Rattle.taxi_base.specs.declared.collections.Memory.{Memory}
use Rattle.taxi_base.specs.declared.rows.Step.{Step}
use Rattle.taxi_base.specs.declared.answers.Found.{Found}
use Rattle.taxi_base.specs.Airport.{Airport}
use Rattle.taxi_base.specs.Walks.{Conditions, conditions_of_class}
use Rattle.taxi_base.specs.State.{holds_in}
use Rattle.taxi_base.specs.Faults.{conditions_in}
use Rattle.taxi_base.specs.Labels.{AnswersDeparture, AnswersDepartureAfter, found_after}
use Rattle.taxi_base.proofs.AnswerLaws.{found_after-answers}
use Rattle.window_store.specs.Store.{Store}
use Rattle.commitments.specs.Book.{Book, Fits}
use Rattle.commitments.proofs.Fitting.{stands-unlifted}
use Rattle.place_cells.specs.Laid.{windows_of}
use Rattle.place_cells.proofs.StoreConditions as among

module _ (airport : Airport) (book : Book) (fits : Fits airport book) (unlifted : book.lifted ≡ None) (store : Store) (same : store ≡ book.store) where
  -- the windows end by the horizon
  pub windows-by : All (All (λ w. w.until ≤ airport.horizon)) (windows_of store)
  windows-by = rw same (among.windows-by airport (holds_in airport book.state) book.store fits.lists (stands-unlifted airport book fits unlifted))

  -- and the conditions in them are those among the holders
  pub conditions-found : (class : Class) → conditions_of_class airport class (windows_of store) ≡ conditions_in airport class book.state
  conditions-found class =
      ap (λ (s : Store). conditions_of_class airport class (windows_of s)) same
      ∙ among.conditions-among airport (holds_in airport book.state) book.store fits.lists (stands-unlifted airport book fits unlifted) class

-- what is found of a departure, told as only walks count that begin after a second, answers that
pub after-answers : (c : Conditions) (from : Node) (Ends : Step → Type 0) (bound : ℕ) (found : Found) → AnswersDeparture c from Ends found
    → (r : Result Found Memory) → IfOk r (λ after. after ≡ found_after bound found) → IfOk r (AnswersDepartureAfter c from Ends bound)
after-answers c from Ends bound found answers (Err e) same = tt
after-answers c from Ends bound found answers (Ok after) same = subst (AnswersDepartureAfter c from Ends bound) (sym same) (found_after-answers c from Ends bound found answers)
