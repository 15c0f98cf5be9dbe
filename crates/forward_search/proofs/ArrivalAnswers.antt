-- What the search over cells has found answers the arrival.
use Rattle.std.proofs.Common.{◌≡◌, ℕ, ◌<◌, ◌≤◌, List, [], ◌∷◌, map, Bool, true, Option, Some, None, IfSome, IfNone, IsTrue, sym, ◌∙◌, ap, subst, arith, ◌↔◌}
use Rattle.std.specs.Prelude.{Contains}
use Rattle.std.proofs.lemmas.List.{reverse-reverse}
use Rattle.taxi_base.specs.declared.numbers.Node.{Node}
use Rattle.taxi_base.specs.declared.numbers.Class.{Class}
use Rattle.taxi_base.specs.declared.rows.Span.{Span}
use Rattle.taxi_base.specs.declared.rows.Step.{Step}
use Rattle.taxi_base.specs.declared.rows.LabelRow.{LabelRow}
use Rattle.taxi_base.specs.declared.answers.Found.TheVariants as found
use Rattle.taxi_base.specs.Airport.{Airport, Layout, IsWellFormed, layout_of, head}
use Rattle.taxi_base.specs.Walks.{Conditions, conditions_in_windows, AtLast, ReachesNode, IsRoute, EndsEarliest, end_of}
use Rattle.taxi_base.specs.Labels.{IsTable, IsExitBefore, AnswersArrival}
use Rattle.label_core.specs.Walks.{Step as CellStep, EndsAt, IsWalk, IsEarliestExit}
use Rattle.label_core.proofs.AttainedValues.{reaches_in_time}
use Rattle.label_core.proofs.PickedWalks.{picked_is_walk, picked_ends}
use Rattle.label_core.specs.Best.{IsBestEnd, HasNoWalk, IsPickedRoute}
use Rattle.label_search.specs.declared.forward.Route.{Route}
use Rattle.label_search.specs.declared.values.CellValue.{CellValue}
use Rattle.label_search.specs.Problem.{Problem}
use Rattle.label_search.specs.Values.{AreExits}
use Rattle.label_search.specs.Answer.{step_of, best_of, ComesBefore}
use Rattle.walk_labels.specs.Places.{Place, IsPlace, ArePlaces, AreCells, IsOrdered, place_at, is_numbered, numbered}
use Rattle.walk_labels.specs.PlacesInWindows.{AreWindowLists}
use Rattle.taxi_base.specs.Choices.{ReachesOneOf}
use Rattle.walk_labels.specs.Requests.{Beginning, BeginsBy, steps_at, targets_at, AreStarts, AreTargets}
use Rattle.walk_labels.specs.Tables.{rows_of}
use Rattle.walk_labels.proofs.FitConditions.{windows_fit}
use Rattle.walk_labels.proofs.PlaceCells.{is_numbered-place, place-is_numbered, numbered-cells, numbered-ordered}
use Rattle.taxi_base.proofs.OneOfLaws.{OneOf-member}
use Rattle.walk_labels.proofs.RequestCells.{starts_by-are, targets_at-are, leads-OneOf}
use Rattle.walk_labels.proofs.CellLabels.{route_to_target, none_before, no_route}
use Rattle.walk_labels.proofs.LabelTables.{exit_rows}
use Rattle.walk_labels.proofs.SearchAnswers.{arrival_found, arrival_not_found}
use Rattle.place_cells.specs.Laid.{Numbers, AreNumbered, HaveNumbers}
use Rattle.place_cells.specs.Ground.{ground_in, cells_of}
use Rattle.place_cells.specs.Found.{row_in}
use Rattle.place_cells.proofs.PlacesNumbered.{usable_at, numbered-are}
use Rattle.place_cells.proofs.RowLaws.{rows_placed}
use Rattle.forward_search.specs.Arrivals.{arrival_problem}
use Rattle.taxi_base.specs.Choices.{AnswersArrivalToOneOf}

-- where the last step of a walk over cells leads is where the arc of its last cell leads
at_last_cell : (place : ℕ → Place) (layout : Layout) (node : Node) (walk : List (CellStep ℕ)) (cell t : ℕ) → EndsAt walk cell t → AtLast (ReachesNode layout node) (steps_at place walk)
    → head layout (place cell).arc ≡ Some node
at_last_cell place layout node [] cell t ends reaches = absurd ends
at_last_cell place layout node (s ∷ []) cell t ends reaches = subst (λ (k : ℕ). head layout (place k).arc ≡ Some node) ends.0 reaches
at_last_cell place layout node (s ∷ u ∷ walk) cell t ends reaches = at_last_cell place layout node (u ∷ walk) cell t ends reaches

module _ (airport : Airport) (class : Class) (clearance : ℕ) (windows : List (List Span)) (well : IsWellFormed airport) (lists : AreWindowLists airport windows)
    (ids : Numbers) (laid : AreNumbered ids.spots ids.first) (room : HaveNumbers windows ids.first) (b : Beginning) (to : List Node) where
  abbrev c : Conditions
  c = conditions_in_windows airport class clearance windows

  abbrev asked : Problem
  asked = arrival_problem (ground_in airport class clearance windows ids) b to

  abbrev numbers : List Place
  numbers = cells_of (ground_in airport class clearance windows ids)

  abbrev usable : ℕ → Bool
  usable k = usable_at airport class clearance windows ids lists laid room k

  are : ArePlaces c usable numbers
  are = numbered-are airport class clearance windows ids lists laid room

  inside : (k : ℕ) → IsTrue (is_numbered usable numbers k) ↔ IsPlace c (place_at numbers k)
  inside k = (is_numbered-place c usable numbers are k, place-is_numbered c usable numbers are k)

  starts_are : AreStarts c asked.network (place_at numbers) (BeginsBy (layout_of airport) b) asked.starts
  starts_are = starts_by-are c (numbered c usable numbers) (place_at numbers) (is_numbered usable numbers) inside b

  targets_are : AreTargets c (place_at numbers) to asked.target
  targets_are = targets_at-are c (place_at numbers) to

  is_cells : AreCells c asked.network (place_at numbers)
  is_cells = numbered-cells c usable numbers are

  ordered : IsOrdered c (place_at numbers) (λ j k. j < k)
  ordered = numbered-ordered c usable numbers are

  rows_are : (bound : Option ℕ) (values : List CellValue) (exits : AreExits asked.network asked.starts asked.count bound values)
      → map (row_in (ground_in airport class clearance windows ids)) values ≡ rows_of (λ o. o) numbers exits.known
  rows_are bound values exits =
      ap (map (row_in (ground_in airport class clearance windows ids))) exits.are_rows
      ∙ rows_placed numbers exits.known (omega (arith, exits.as_many))

  -- ---- where there is one node

  -- with a route
  pub route_answers : (node : Node) → to ≡ node ∷ [] → (route : Option Route) (r : Route) → route ≡ Some r → (values : List CellValue) → AreExits asked.network asked.starts asked.count (best_of route) values
      → IfSome (best_of route) (IsBestEnd asked.network asked.starts asked.target)
      → IfSome route (λ f. IsPickedRoute asked.network asked.starts ComesBefore asked.target f.best (map step_of f.steps.items))
      → (steps : List Step) (rows : List LabelRow) → steps ≡ steps_at (place_at numbers) (map step_of r.steps.items) → rows ≡ map (row_in (ground_in airport class clearance windows ids)) values
      → AnswersArrival c (BeginsBy (layout_of airport) b) node (found.Route steps rows)
  route_answers node alone route r is values table best picked steps rows steps_read rows_read =
      let exits : AreExits asked.network asked.starts asked.count (Some r.best) values = subst (λ (o : Option Route). AreExits asked.network asked.starts asked.count (best_of o) values) is table in
      let answer = arrival_found c (windows_fit airport class clearance windows well lists) numbers asked.network is_cells ordered (BeginsBy (layout_of airport) b) asked.starts starts_are node asked.target (subst (λ (nodes : List Node). AreTargets c (place_at numbers) nodes asked.target) alone targets_are)
      (λ (o : Option ℕ). o) exits.known None exits.as_many r.best (map step_of r.steps.items)
      (subst (λ (o : Option Route). IfSome (best_of o) (IsBestEnd asked.network asked.starts asked.target)) is best)
      (subst (λ (o : Option Route). IfSome o (λ f. IsPickedRoute asked.network asked.starts ComesBefore asked.target f.best (map step_of f.steps.items))) is picked) exits.exact in
      let steps_same : steps ≡ steps_at (place_at numbers) (map step_of r.steps.items) = steps_read in
      let rows_same : rows ≡ rows_of (λ (o : Option ℕ). o) numbers exits.known = rows_read ∙ rows_are (Some r.best) values exits in
      subst (λ (list : List LabelRow). AnswersArrival c (BeginsBy (layout_of airport) b) node (found.Route steps list)) (sym rows_same)
      (subst (λ (list : List Step). AnswersArrival c (BeginsBy (layout_of airport) b) node (found.Route list (rows_of (λ (o : Option ℕ). o) numbers exits.known))) (sym steps_same) answer)

  -- with none
  pub no_route_answers : (node : Node) → to ≡ node ∷ [] → (route : Option Route) → route ≡ None → (values : List CellValue) → AreExits asked.network asked.starts asked.count (best_of route) values
      → IfNone (best_of route) (HasNoWalk asked.network asked.starts asked.target) → (rows : List LabelRow) → rows ≡ map (row_in (ground_in airport class clearance windows ids)) values
      → AnswersArrival c (BeginsBy (layout_of airport) b) node (found.NoRoute rows)
  no_route_answers node alone route is values table none rows rows_read =
      let exits : AreExits asked.network asked.starts asked.count None values = subst (λ (o : Option Route). AreExits asked.network asked.starts asked.count (best_of o) values) is table in
      let answer = arrival_not_found c (windows_fit airport class clearance windows well lists) numbers asked.network is_cells ordered (BeginsBy (layout_of airport) b) asked.starts starts_are node asked.target (subst (λ (nodes : List Node). AreTargets c (place_at numbers) nodes asked.target) alone targets_are)
      (λ (o : Option ℕ). o) exits.known None exits.as_many
      (subst (λ (o : Option Route). IfNone (best_of o) (HasNoWalk asked.network asked.starts asked.target)) is none) exits.exact in
      let rows_same : rows ≡ rows_of (λ (o : Option ℕ). o) numbers exits.known = rows_read ∙ rows_are None values exits in
      subst (λ (list : List LabelRow). AnswersArrival c (BeginsBy (layout_of airport) b) node (found.NoRoute list)) (sym rows_same) answer

  -- ---- where there are any

  -- a walk over cells that was picked ends earliest
  picked_ends_earliest : (end : ℕ) (steps : List (CellStep ℕ)) → IsBestEnd asked.network asked.starts asked.target end → IsPickedRoute asked.network asked.starts ComesBefore asked.target end steps
      → EndsEarliest (IsRoute c (BeginsBy (layout_of airport) b) (ReachesOneOf (layout_of airport) to)) (steps_at (place_at numbers) steps) × (end_of (steps_at (place_at numbers) steps) ≡ end)
  picked_ends_earliest end steps best route =
      let fit = windows_fit airport class clearance windows well lists in
      let Begins = BeginsBy (layout_of airport) b in
      let in_time : end ≤ asked.network.last route.cell = reaches_in_time asked.network asked.starts route.cell end route.last.earliest.attained in
      let walk : IsWalk asked.network asked.starts steps = subst (IsWalk asked.network asked.starts) (reverse-reverse steps) (picked_is_walk asked.network asked.starts ComesBefore (IsEarliestExit asked.network asked.starts) route.picked (omega arith) in_time) in
      let ends : EndsAt steps route.cell end = subst (λ (list : List (CellStep ℕ)). EndsAt list route.cell end) (reverse-reverse steps) (picked_ends asked.network asked.starts ComesBefore (IsEarliestExit asked.network asked.starts) route.picked) in
      let r = route_to_target c fit asked.network (place_at numbers) is_cells Begins asked.starts starts_are to asked.target targets_are steps route.cell end walk ends route.last.is_target in
      (record { one = r.0; earliest = λ others other. omega (arith, r.1, none_before c fit asked.network (place_at numbers) is_cells Begins asked.starts starts_are to asked.target targets_are end best others other) }, r.1)

  -- with a route
  pub any_route_answers : (route : Option Route) (r : Route) → route ≡ Some r → (values : List CellValue) → AreExits asked.network asked.starts asked.count (best_of route) values
      → IfSome (best_of route) (IsBestEnd asked.network asked.starts asked.target)
      → IfSome route (λ f. IsPickedRoute asked.network asked.starts ComesBefore asked.target f.best (map step_of f.steps.items))
      → (steps : List Step) (rows : List LabelRow) → steps ≡ steps_at (place_at numbers) (map step_of r.steps.items) → rows ≡ map (row_in (ground_in airport class clearance windows ids)) values
      → AnswersArrivalToOneOf c (BeginsBy (layout_of airport) b) to (found.Route steps rows)
  any_route_answers route r is values table best picked steps rows steps_read rows_read =
      let Begins = BeginsBy (layout_of airport) b in
      let exits : AreExits asked.network asked.starts asked.count (Some r.best) values = subst (λ (o : Option Route). AreExits asked.network asked.starts asked.count (best_of o) values) is table in
      let over : List Step = steps_at (place_at numbers) (map step_of r.steps.items) in
      let ends = picked_ends_earliest r.best (map step_of r.steps.items)
      (subst (λ (o : Option Route). IfSome (best_of o) (IsBestEnd asked.network asked.starts asked.target)) is best)
      (subst (λ (o : Option Route). IfSome o (λ f. IsPickedRoute asked.network asked.starts ComesBefore asked.target f.best (map step_of f.steps.items))) is picked) in
      let told : IsTable (IsExitBefore c Begins (Some r.best)) (rows_of (λ (o : Option ℕ). o) numbers exits.known) =
      exit_rows (λ (o : Option ℕ). o) c (windows_fit airport class clearance windows well lists) numbers asked.network is_cells ordered (Some r.best) exits.known None exits.as_many Begins asked.starts starts_are exits.exact in
      let same : steps ≡ over = steps_read in
      let rows_same : rows ≡ rows_of (λ (o : Option ℕ). o) numbers exits.known = rows_read ∙ rows_are (Some r.best) values exits in (
        subst (EndsEarliest (IsRoute c Begins (ReachesOneOf (layout_of airport) to))) (sym same) ends.0,
        subst (λ (n : ℕ). IsTable (IsExitBefore c Begins (Some n)) rows) (sym (ap end_of same ∙ ends.1)) (subst (IsTable (IsExitBefore c Begins (Some r.best))) (sym rows_same) told),
      )

  -- with a route, for the node that it reaches
  pub last_route_answers : (node : Node) → Contains to node → (route : Option Route) (r : Route) → route ≡ Some r → (values : List CellValue) → AreExits asked.network asked.starts asked.count (best_of route) values
      → IfSome (best_of route) (IsBestEnd asked.network asked.starts asked.target)
      → IfSome route (λ f. IsPickedRoute asked.network asked.starts ComesBefore asked.target f.best (map step_of f.steps.items))
      → (steps : List Step) (rows : List LabelRow) → steps ≡ steps_at (place_at numbers) (map step_of r.steps.items) → rows ≡ map (row_in (ground_in airport class clearance windows ids)) values
      → AtLast (ReachesNode (layout_of airport) node) steps → AnswersArrival c (BeginsBy (layout_of airport) b) node (found.Route steps rows)
  last_route_answers node among route r is values table best picked steps rows steps_read rows_read reaches =
      let exits : AreExits asked.network asked.starts asked.count (Some r.best) values = subst (λ (o : Option Route). AreExits asked.network asked.starts asked.count (best_of o) values) is table in
      let walk : List (CellStep ℕ) = map step_of r.steps.items in
      let best_end : IsBestEnd asked.network asked.starts asked.target r.best = subst (λ (o : Option Route). IfSome (best_of o) (IsBestEnd asked.network asked.starts asked.target)) is best in
      let route_is : IsPickedRoute asked.network asked.starts ComesBefore asked.target r.best walk =
      subst (λ (o : Option Route). IfSome o (λ f. IsPickedRoute asked.network asked.starts ComesBefore asked.target f.best (map step_of f.steps.items))) is picked in
      let alone : ℕ → Bool = targets_at (layout_of airport) (place_at numbers) (node ∷ []) in
      let at_end : EndsAt walk route_is.cell r.best =
      subst (λ (list : List (CellStep ℕ)). EndsAt list route_is.cell r.best) (reverse-reverse walk) (picked_ends asked.network asked.starts ComesBefore (IsEarliestExit asked.network asked.starts) route_is.picked) in
      let here : alone route_is.cell ≡ true =
      (leads-OneOf (layout_of airport) (node ∷ []) (place_at numbers route_is.cell).arc).1
      (at_last_cell (place_at numbers) (layout_of airport) node walk route_is.cell r.best at_end (subst (AtLast (ReachesNode (layout_of airport) node)) steps_read reaches)) in
      let fewer : (x : ℕ) → alone x ≡ true → asked.target x ≡ true = λ x one.
      (leads-OneOf (layout_of airport) to (place_at numbers x).arc).1
      (OneOf-member (λ n. head (layout_of airport) (place_at numbers x).arc ≡ Some n) to node among ((leads-OneOf (layout_of airport) (node ∷ []) (place_at numbers x).arc).0 one)) in
      let best_alone : IsBestEnd asked.network asked.starts alone r.best = record {
        cell = route_is.cell;
        is_target = here;
        attained = route_is.last.earliest.attained;
        least = λ x t target reached. best_end.least x t (fewer x target) reached;
      } in
      let picked_alone : IsPickedRoute asked.network asked.starts ComesBefore alone r.best walk = record {
        cell = route_is.cell;
        last = record { is_target = here; earliest = route_is.last.earliest; first = λ x before target earliest. route_is.last.first x before (fewer x target) earliest };
        picked = route_is.picked;
      } in
      let answer = arrival_found c (windows_fit airport class clearance windows well lists) numbers asked.network is_cells ordered (BeginsBy (layout_of airport) b) asked.starts starts_are node alone (targets_at-are c (place_at numbers) (node ∷ []))
      (λ (o : Option ℕ). o) exits.known None exits.as_many r.best walk best_alone picked_alone exits.exact in
      let steps_same : steps ≡ steps_at (place_at numbers) walk = steps_read in
      let rows_same : rows ≡ rows_of (λ (o : Option ℕ). o) numbers exits.known = rows_read ∙ rows_are (Some r.best) values exits in
      subst (λ (list : List LabelRow). AnswersArrival c (BeginsBy (layout_of airport) b) node (found.Route steps list)) (sym rows_same)
      (subst (λ (list : List Step). AnswersArrival c (BeginsBy (layout_of airport) b) node (found.Route list (rows_of (λ (o : Option ℕ). o) numbers exits.known))) (sym steps_same) answer)

  -- with none
  pub any_no_route_answers : (route : Option Route) → route ≡ None → (values : List CellValue) → AreExits asked.network asked.starts asked.count (best_of route) values
      → IfNone (best_of route) (HasNoWalk asked.network asked.starts asked.target) → (rows : List LabelRow) → rows ≡ map (row_in (ground_in airport class clearance windows ids)) values
      → AnswersArrivalToOneOf c (BeginsBy (layout_of airport) b) to (found.NoRoute rows)
  any_no_route_answers route is values table none rows rows_read =
      let Begins = BeginsBy (layout_of airport) b in
      let fit = windows_fit airport class clearance windows well lists in
      let exits : AreExits asked.network asked.starts asked.count None values = subst (λ (o : Option Route). AreExits asked.network asked.starts asked.count (best_of o) values) is table in
      let told : IsTable (IsExitBefore c Begins None) (rows_of (λ (o : Option ℕ). o) numbers exits.known) =
      exit_rows (λ (o : Option ℕ). o) c fit numbers asked.network is_cells ordered None exits.known None exits.as_many Begins asked.starts starts_are exits.exact in
      let rows_same : rows ≡ rows_of (λ (o : Option ℕ). o) numbers exits.known = rows_read ∙ rows_are None values exits in (
        no_route c fit asked.network (place_at numbers) is_cells Begins asked.starts starts_are to asked.target targets_are
            (subst (λ (o : Option Route). IfNone (best_of o) (HasNoWalk asked.network asked.starts asked.target)) is none),
        subst (IsTable (IsExitBefore c Begins None)) (sym rows_same) told,
      )
