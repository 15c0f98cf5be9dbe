-- What a search over numbered cells has found answers the arrival or the departure.
use Rattle.std.proofs.Common.{◌≡◌, ℕ, ◌<◌, Bool, List, [], ◌∷◌, length, get_or, Option, Some, None, sym, subst, ◌↔◌}
use Rattle.taxi_base.specs.declared.numbers.Node.{Node}
use Rattle.taxi_base.specs.declared.rows.Step.{Step}
use Rattle.taxi_base.specs.declared.answers.Found.TheVariants.{Route, NoRoute}
use Rattle.taxi_base.specs.Walks.{Conditions}
use Rattle.taxi_base.specs.Labels.{IsTable, IsExitBefore, IsEntryAfter, AnswersArrival, AnswersDeparture}
use Rattle.label_core.specs.Walks.{Network, Start, Step as CellStep, IsEarliestExit}
use Rattle.label_core.specs.BackwardWalks.{Finish, IsLatestEntry}
use Rattle.label_core.specs.Tables.{IsBelow}
use Rattle.label_core.specs.BackwardTables.{IsAbove}
use Rattle.label_core.specs.Best.{IsBestEnd, HasNoWalk, IsPickedRoute}
use Rattle.label_core.specs.BackwardBest.{IsBestBegin, HasNoWalkFrom, IsPickedRouteOn}
use Rattle.walk_labels.specs.Places.{AreFit, Place, AreCells, IsOrdered, place_at}
use Rattle.walk_labels.specs.Requests.{steps_at, AreStarts, AreFinishes, AreTargets, AreSources}
use Rattle.walk_labels.specs.Tables.{rows_of}
use Rattle.walk_labels.proofs.CellLabels.{no_route, no_route_from}
use Rattle.walk_labels.proofs.PickedLabels.{picked_arrival, picked_ends_earliest}
use Rattle.walk_labels.proofs.PickedEntries.{picked_departure, picked_begins_latest}
use Rattle.walk_labels.proofs.LabelTables.{exit_rows, entry_rows}

module _ (c : Conditions) (fit : AreFit c) (numbers : List Place) (net : Network ℕ) (cells : AreCells c net (place_at numbers)) (ordered : IsOrdered c (place_at numbers) (λ j k. j < k)) where
  module _ (Begins : Step → Type 0) (starts : ℕ → Option Start) (are : AreStarts c net (place_at numbers) Begins starts)
      (to : Node) (target : ℕ → Bool) (targets : AreTargets c (place_at numbers) (to ∷ []) target) {A : Type 0} (value : A → Option ℕ) (known : List A) (none : A) (as_many : length known ≡ length numbers) where
    pub arrival_found : (end : ℕ) (steps : List (CellStep ℕ)) → IsBestEnd net starts target end → IsPickedRoute net starts (λ j k. j < k) target end steps
        → ((k v : ℕ) → (value (get_or known k none) ≡ Some v) ↔ (IsEarliestExit net starts k v × IsBelow (Some end) v))
        → AnswersArrival c Begins to (Route (steps_at (place_at numbers) steps) (rows_of value numbers known))
    arrival_found end steps best picked exact =
        let ends = picked_ends_earliest c fit net (place_at numbers) cells (λ j k. j < k) ordered Begins starts are to target targets end steps best picked in (
          ends.0,
          picked_arrival c fit net (place_at numbers) cells (λ j k. j < k) ordered Begins starts are to target targets end steps best picked,
          subst (λ (n : ℕ). IsTable (IsExitBefore c Begins (Some n)) (rows_of value numbers known)) (sym ends.1)
              (exit_rows value c fit numbers net cells ordered (Some end) known none as_many Begins starts are exact),
        )

    pub arrival_not_found : HasNoWalk net starts target
        → ((k v : ℕ) → (value (get_or known k none) ≡ Some v) ↔ (IsEarliestExit net starts k v × IsBelow None v))
        → AnswersArrival c Begins to (NoRoute (rows_of value numbers known))
    arrival_not_found no_walk exact = (
      no_route c fit net (place_at numbers) cells Begins starts are (to ∷ []) target targets no_walk,
      exit_rows value c fit numbers net cells ordered None known none as_many Begins starts are exact,
    )

  module _ (Ends : Step → Type 0) (finishes : ℕ → Option Finish) (are : AreFinishes c net (place_at numbers) Ends finishes)
      (from : Node) (source : ℕ → Bool) (sources : AreSources c (place_at numbers) from source) {A : Type 0} (value : A → Option ℕ) (known : List A) (none : A) (as_many : length known ≡ length numbers) where
    pub departure_found : (begin : ℕ) (steps : List (CellStep ℕ)) → IsBestBegin net finishes source begin → IsPickedRouteOn net finishes (λ j k. j < k) source begin steps
        → ((k v : ℕ) → (value (get_or known k none) ≡ Some v) ↔ (IsLatestEntry net finishes k v × IsAbove (Some begin) v))
        → AnswersDeparture c from Ends (Route (steps_at (place_at numbers) steps) (rows_of value numbers known))
    departure_found begin steps best picked exact =
        let begins = picked_begins_latest c fit net (place_at numbers) cells (λ j k. j < k) ordered Ends finishes are from source sources begin steps best picked in (
          begins.0,
          picked_departure c fit net (place_at numbers) cells (λ j k. j < k) ordered Ends finishes are from source sources begin steps best picked,
          subst (λ (n : ℕ). IsTable (IsEntryAfter c Ends (Some n)) (rows_of value numbers known)) (sym begins.1)
              (entry_rows value c fit numbers net cells ordered (Some begin) known none as_many Ends finishes are exact),
        )

    pub departure_not_found : HasNoWalkFrom net finishes source
        → ((k v : ℕ) → (value (get_or known k none) ≡ Some v) ↔ (IsLatestEntry net finishes k v × IsAbove None v))
        → AnswersDeparture c from Ends (NoRoute (rows_of value numbers known))
    departure_not_found no_walk exact = (
      no_route_from c fit net (place_at numbers) cells Ends finishes are from source sources no_walk,
      entry_rows value c fit numbers net cells ordered None known none as_many Ends finishes are exact,
    )
