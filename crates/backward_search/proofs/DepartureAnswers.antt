-- What the search over cells has found answers the departure.
use Rattle.std.proofs.Common.{◌≡◌, ℕ, ◌<◌, List, map, Bool, Option, Some, None, IfSome, IfNone, IsTrue, sym, ◌∙◌, ap, subst, arith, ◌↔◌}
use Rattle.taxi_base.specs.declared.numbers.Node.{Node}
use Rattle.taxi_base.specs.declared.numbers.Class.{Class}
use Rattle.taxi_base.specs.declared.rows.Span.{Span}
use Rattle.taxi_base.specs.declared.rows.Step.{Step}
use Rattle.taxi_base.specs.declared.rows.LabelRow.{LabelRow}
use Rattle.taxi_base.specs.declared.answers.Found.TheVariants as found
use Rattle.taxi_base.specs.Airport.{Airport, IsWellFormed, layout_of}
use Rattle.taxi_base.specs.Walks.{Conditions, conditions_in_windows}
use Rattle.taxi_base.specs.Labels.{AnswersDeparture}
use Rattle.label_core.specs.BackwardBest.{IsBestBegin, HasNoWalkFrom, IsPickedRouteOn}
use Rattle.label_search.specs.declared.forward.Route.{Route}
use Rattle.label_search.specs.declared.values.CellValue.{CellValue}
use Rattle.label_search.specs.Backward.{BackwardProblem}
use Rattle.label_search.specs.Values.{AreEntries}
use Rattle.label_search.specs.Answer.{step_of, best_of, ComesBefore}
use Rattle.walk_labels.specs.Places.{Place, IsPlace, ArePlaces, AreCells, IsOrdered, place_at, is_numbered, numbered}
use Rattle.walk_labels.specs.PlacesInWindows.{AreWindowLists}
use Rattle.taxi_base.specs.Choices.{ReachesOneOfWithin}
use Rattle.walk_labels.specs.Requests.{steps_at, AreFinishes, AreSources}
use Rattle.walk_labels.specs.Tables.{rows_of}
use Rattle.walk_labels.proofs.FitConditions.{windows_fit}
use Rattle.walk_labels.proofs.PlaceCells.{is_numbered-place, place-is_numbered, numbered-cells, numbered-ordered}
use Rattle.walk_labels.proofs.RequestCells.{finishes_at-are, sources_at_node-are}
use Rattle.walk_labels.proofs.SearchAnswers.{departure_found, departure_not_found}
use Rattle.place_cells.specs.Laid.{Numbers, AreNumbered, HaveNumbers}
use Rattle.place_cells.specs.Ground.{ground_in, cells_of}
use Rattle.place_cells.specs.Found.{row_in}
use Rattle.place_cells.proofs.PlacesNumbered.{usable_at, numbered-are}
use Rattle.place_cells.proofs.RowLaws.{rows_placed}
use Rattle.backward_search.specs.Departures.{Ending, departure_problem}

module _ (airport : Airport) (class : Class) (clearance : ℕ) (windows : List (List Span)) (well : IsWellFormed airport) (lists : AreWindowLists airport windows)
    (ids : Numbers) (laid : AreNumbered ids.spots ids.first) (room : HaveNumbers windows ids.first) (from : Node) (e : Ending) where
  abbrev c : Conditions
  c = conditions_in_windows airport class clearance windows

  abbrev asked : BackwardProblem
  asked = departure_problem (ground_in airport class clearance windows ids) from e

  abbrev numbers : List Place
  numbers = cells_of (ground_in airport class clearance windows ids)

  abbrev usable : ℕ → Bool
  usable k = usable_at airport class clearance windows ids lists laid room k

  are : ArePlaces c usable numbers
  are = numbered-are airport class clearance windows ids lists laid room

  inside : (k : ℕ) → IsTrue (is_numbered usable numbers k) ↔ IsPlace c (place_at numbers k)
  inside k = (is_numbered-place c usable numbers are k, place-is_numbered c usable numbers are k)

  finishes_are : AreFinishes c asked.network (place_at numbers) (ReachesOneOfWithin (layout_of airport) e.to e.earliest e.latest) asked.finishes
  finishes_are = finishes_at-are c (numbered c usable numbers) (place_at numbers) (is_numbered usable numbers) inside e.to e.earliest e.latest

  sources_are : AreSources c (place_at numbers) from asked.source
  sources_are = sources_at_node-are c (place_at numbers) from

  is_cells : AreCells c asked.network (place_at numbers)
  is_cells = numbered-cells c usable numbers are

  ordered : IsOrdered c (place_at numbers) (λ j k. j < k)
  ordered = numbered-ordered c usable numbers are

  rows_are : (bound : Option ℕ) (values : List CellValue) (entries : AreEntries asked.network asked.finishes asked.count bound values)
      → map (row_in (ground_in airport class clearance windows ids)) values ≡ rows_of (λ o. o) numbers entries.known
  rows_are bound values entries =
      ap (map (row_in (ground_in airport class clearance windows ids))) entries.are_rows
      ∙ rows_placed numbers entries.known (omega (arith, entries.as_many))

  -- with a route
  pub route_answers : (route : Option Route) (r : Route) → route ≡ Some r → (values : List CellValue) → AreEntries asked.network asked.finishes asked.count (best_of route) values
      → IfSome (best_of route) (IsBestBegin asked.network asked.finishes asked.source)
      → IfSome route (λ f. IsPickedRouteOn asked.network asked.finishes ComesBefore asked.source f.best (map step_of f.steps.items))
      → (steps : List Step) (rows : List LabelRow) → steps ≡ steps_at (place_at numbers) (map step_of r.steps.items) → rows ≡ map (row_in (ground_in airport class clearance windows ids)) values
      → AnswersDeparture c from (ReachesOneOfWithin (layout_of airport) e.to e.earliest e.latest) (found.Route steps rows)
  route_answers route r is values table best picked steps rows steps_read rows_read =
      let entries : AreEntries asked.network asked.finishes asked.count (Some r.best) values = subst (λ (o : Option Route). AreEntries asked.network asked.finishes asked.count (best_of o) values) is table in
      let answer = departure_found c (windows_fit airport class clearance windows well lists) numbers asked.network is_cells ordered (ReachesOneOfWithin (layout_of airport) e.to e.earliest e.latest) asked.finishes finishes_are from asked.source sources_are
      (λ (o : Option ℕ). o) entries.known None entries.as_many r.best (map step_of r.steps.items)
      (subst (λ (o : Option Route). IfSome (best_of o) (IsBestBegin asked.network asked.finishes asked.source)) is best)
      (subst (λ (o : Option Route). IfSome o (λ f. IsPickedRouteOn asked.network asked.finishes ComesBefore asked.source f.best (map step_of f.steps.items))) is picked) entries.exact in
      let steps_same : steps ≡ steps_at (place_at numbers) (map step_of r.steps.items) = steps_read in
      let rows_same : rows ≡ rows_of (λ (o : Option ℕ). o) numbers entries.known = rows_read ∙ rows_are (Some r.best) values entries in
      subst (λ (list : List LabelRow). AnswersDeparture c from (ReachesOneOfWithin (layout_of airport) e.to e.earliest e.latest) (found.Route steps list)) (sym rows_same)
      (subst (λ (list : List Step). AnswersDeparture c from (ReachesOneOfWithin (layout_of airport) e.to e.earliest e.latest) (found.Route list (rows_of (λ (o : Option ℕ). o) numbers entries.known))) (sym steps_same) answer)

  -- with none
  pub no_route_answers : (route : Option Route) → route ≡ None → (values : List CellValue) → AreEntries asked.network asked.finishes asked.count (best_of route) values
      → IfNone (best_of route) (HasNoWalkFrom asked.network asked.finishes asked.source) → (rows : List LabelRow) → rows ≡ map (row_in (ground_in airport class clearance windows ids)) values
      → AnswersDeparture c from (ReachesOneOfWithin (layout_of airport) e.to e.earliest e.latest) (found.NoRoute rows)
  no_route_answers route is values table none rows rows_read =
      let entries : AreEntries asked.network asked.finishes asked.count None values = subst (λ (o : Option Route). AreEntries asked.network asked.finishes asked.count (best_of o) values) is table in
      let answer = departure_not_found c (windows_fit airport class clearance windows well lists) numbers asked.network is_cells ordered (ReachesOneOfWithin (layout_of airport) e.to e.earliest e.latest) asked.finishes finishes_are from asked.source sources_are
      (λ (o : Option ℕ). o) entries.known None entries.as_many
      (subst (λ (o : Option Route). IfNone (best_of o) (HasNoWalkFrom asked.network asked.finishes asked.source)) is none) entries.exact in
      let rows_same : rows ≡ rows_of (λ (o : Option ℕ). o) numbers entries.known = rows_read ∙ rows_are None values entries in
      subst (λ (list : List LabelRow). AnswersDeparture c from (ReachesOneOfWithin (layout_of airport) e.to e.earliest e.latest) (found.NoRoute list)) (sym rows_same) answer
