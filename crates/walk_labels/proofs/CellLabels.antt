-- The labels of places are the values of cells, forward and backward; and the best walks are the same.
use Rattle.std.proofs.Common.{◌≡◌, ℕ, ◌≤◌, Bool, true, List, IsTrue, Option, is_some, refl, sym, subst, arith}
use Rattle.taxi_base.specs.declared.numbers.Node.{Node}
use Rattle.taxi_base.specs.declared.numbers.Arc.{Arc}
use Rattle.taxi_base.specs.declared.rows.Step.{Step}
use Rattle.taxi_base.specs.declared.rows.LabelRow.{LabelRow}
use Rattle.taxi_base.specs.Airport.{layout_of, segment_of, seconds, arc_exists}
use Rattle.taxi_base.specs.Walks.{Conditions, begin_of, end_of, IsRoute, LeavesNode, IsEarliestEnd, IsLatestBegin}
use Rattle.taxi_base.specs.Labels.{IsStepOf, IsExitLabel, IsEntryLabel}
use Rattle.label_core.specs.Walks.{Network, Start, Step as CellStep, IsStep, EndsAt, IsWalk, Reaches, IsEarliestExit}
use Rattle.label_core.specs.BackwardWalks.{Finish, IsWalkTo, BeginsAt, Leads, IsLatestEntry}
use Rattle.label_core.specs.Best.{IsBestEnd, HasNoWalk}
use Rattle.label_core.specs.BackwardBest.{IsBestBegin, HasNoWalkFrom}
use Rattle.walk_labels.specs.Places.{AreFit, Place, IsPlace, AreCells, label_at, place_of}
use Rattle.taxi_base.specs.Choices.{ReachesOneOf}
use Rattle.walk_labels.specs.Requests.{step_at, steps_at, AreStarts, AreFinishes, AreTargets, AreSources}
use Rattle.walk_labels.proofs.CellWalks.{step_made, place-same, route_made, reach_of, route_led, lead_of}

module _ {C : Type 0} (c : Conditions) (fit : AreFit c) (net : Network C) (place : C → Place) (cells : AreCells c net place) where
  -- a step over a cell is a step of its labels
  pub step_of_cell : (x : C) (v : ℕ) (s : CellStep C) → IsPlace c (place s.cell) → IsStep net s → s.cell ≡ x → IsStepOf c (label_at (place x) v) (step_at place s)
  step_of_cell x v s is step at =
      subst (λ y. IsStepOf c (label_at (place y) v) (step_at place s)) at (refl, (step_made c fit net place cells s is step).1)

  -- a step over a cell that is a step of a label is over the label's cell
  pub cell_of_label : (x : C) (v : ℕ) (s : CellStep C) → IsPlace c (place x) → IsPlace c (place s.cell) → IsStep net s → IsStepOf c (label_at (place x) v) (step_at place s) → s.cell ≡ x
  cell_of_label x v s is here step of_label =
      let made = step_made c fit net place cells s here step in
      cells.once s.cell x here (place-same c fit (place s.cell) (place x) (step_at place s) here is made.0 refl made.1 of_label.0 of_label.1)

  -- ---- forward

  module _ (Begins : Step → Type 0) (starts : C → Option Start) (are : AreStarts c net place Begins starts) where
    pub route_to_cell : (x : C) (v t : ℕ) → Reaches net starts x t
        → (steps : List Step) × IsRoute c Begins (IsStepOf c (label_at (place x) v)) steps × (end_of steps ≡ t) × IsPlace c (place x)
    route_to_cell x v t reach =
        let r = route_made c fit net place cells Begins starts are (IsStepOf c (label_at (place x) v)) reach.walk x t reach.is_walk reach.ends (λ l is step at leaves. step_of_cell x v l is step at) in
        (steps_at place reach.walk, r.0, r.1, r.2)

    pub cell_by_route : (x : C) (v : ℕ) (steps : List Step) → IsPlace c (place x) → IsRoute c Begins (IsStepOf c (label_at (place x) v)) steps → Reaches net starts x (end_of steps)
    cell_by_route x v steps is route =
        let r = reach_of c fit net place cells Begins starts are (IsStepOf c (label_at (place x) v)) steps route in
        let at : r.0.cell ≡ x = cell_of_label x v r.0 is r.1 r.2 r.4 in
        subst (λ y. Reaches net starts y (end_of steps)) at (subst (Reaches net starts r.0.cell) (sym r.5) r.3)

    -- the earliest exits of cells are the exit labels of their places
    pub exit_label : (x : C) (t : ℕ) → IsEarliestExit net starts x t → IsPlace c (place x) × IsExitLabel c Begins (label_at (place x) t)
    exit_label x t earliest =
        let r = route_to_cell x t t earliest.attained in (
          r.3,
          record {
            window = r.3.window;
            value = (r.0, record { one = r.1; earliest = λ others route. omega (arith, earliest.least (end_of others) (cell_by_route x t others r.3 route), r.2) }, r.2);
          },
        )

    pub exit_of_cell : (x : C) (t : ℕ) → IsPlace c (place x) → IsExitLabel c Begins (label_at (place x) t) → IsEarliestExit net starts x t
    exit_of_cell x t is label = record {
      attained = subst (Reaches net starts x) label.value.2 (cell_by_route x t label.value.0 is label.value.1.one);
      least = λ end reach. (let r = route_to_cell x t end reach in omega (arith, label.value.1.earliest r.0 r.1, label.value.2, r.2));
    }

    -- a label is at a place
    pub exit_place : (label : LabelRow) → IsExitLabel c Begins label → IsPlace c (place_of label)
    exit_place label exit =
        let r = reach_of c fit net place cells Begins starts are (IsStepOf c label) exit.value.0 exit.value.1.one in
        record {
          on_arc = subst (λ (a : Arc). IsTrue (arc_exists (layout_of c.airport) a)) r.4.0 r.1.on_arc;
          timed = subst (λ (a : Arc). IsTrue (is_some (seconds c.airport c.class (segment_of a)))) r.4.0 r.1.timed;
          window = exit.window;
        }

    -- ---- the best

    module _ (to : List Node) (target : C → Bool) (targets : AreTargets c place to target) where
      pub route_to_target : (walk : List (CellStep C)) (x : C) (t : ℕ) → IsWalk net starts walk → EndsAt walk x t → target x ≡ true
          → IsRoute c Begins (ReachesOneOf (layout_of c.airport) to) (steps_at place walk) × (end_of (steps_at place walk) ≡ t)
      route_to_target walk x t is_walk ends is =
          let r = route_made c fit net place cells Begins starts are (ReachesOneOf (layout_of c.airport) to) walk x t is_walk ends
          (λ l here step at leaves. (targets l.cell here).0 (subst (λ y. target y ≡ true) (sym at) is)) in
          (r.0, r.1)

      pub target_by_route : (steps : List Step) → IsRoute c Begins (ReachesOneOf (layout_of c.airport) to) steps → (x : C) × (target x ≡ true) × Reaches net starts x (end_of steps)
      target_by_route steps route =
          let r = reach_of c fit net place cells Begins starts are (ReachesOneOf (layout_of c.airport) to) steps route in
          (r.0.cell, (targets r.0.cell r.1).1 r.4, subst (Reaches net starts r.0.cell) (sym r.5) r.3)

      -- no walk to the node ends before the best end over cells
      pub none_before : (end : ℕ) → IsBestEnd net starts target end → (steps : List Step) → IsRoute c Begins (ReachesOneOf (layout_of c.airport) to) steps → end ≤ end_of steps
      none_before end best steps route = let x = target_by_route steps route in best.least x.0 (end_of steps) x.1 x.2

      pub best_end : (end : ℕ) → IsBestEnd net starts target end → IsEarliestEnd (IsRoute c Begins (ReachesOneOf (layout_of c.airport) to)) end
      best_end end best =
          let r = route_to_target best.attained.walk best.cell end best.attained.is_walk best.attained.ends best.is_target in
          (steps_at place best.attained.walk, record { one = r.0; earliest = λ others route. omega (arith, none_before end best others route, r.1) }, r.1)

      pub end_is_best : (end : ℕ) → IsEarliestEnd (IsRoute c Begins (ReachesOneOf (layout_of c.airport) to)) end → IsBestEnd net starts target end
      end_is_best end best =
          let x = target_by_route best.0 best.1.one in
          record {
            cell = x.0;
            is_target = x.1;
            attained = subst (Reaches net starts x.0) best.2 x.2;
            least = λ y t is reach. (
                let r = route_to_target reach.walk y t reach.is_walk reach.ends is in
                omega (arith, best.1.earliest (steps_at place reach.walk) r.0, r.1, best.2));
          }

      pub no_route : HasNoWalk net starts target → (steps : List Step) → IsRoute c Begins (ReachesOneOf (layout_of c.airport) to) steps → ⊥
      no_route none steps route = let x = target_by_route steps route in none x.0 (end_of steps) x.1 x.2

  -- ---- backward

  module _ (Ends : Step → Type 0) (finishes : C → Option Finish) (are : AreFinishes c net place Ends finishes) where
    pub route_from_cell : (x : C) (v t : ℕ) → Leads net finishes x t
        → (steps : List Step) × IsRoute c (IsStepOf c (label_at (place x) v)) Ends steps × (begin_of steps ≡ t) × IsPlace c (place x)
    route_from_cell x v t leads =
        let r = route_led c fit net place cells Ends finishes are (IsStepOf c (label_at (place x) v)) leads.walk x t leads.is_walk leads.begins (λ f is step at enters. step_of_cell x v f is step at) in
        (steps_at place leads.walk, r.0, r.1, r.2)

    pub cell_led_by_route : (x : C) (v : ℕ) (steps : List Step) → IsPlace c (place x) → IsRoute c (IsStepOf c (label_at (place x) v)) Ends steps → Leads net finishes x (begin_of steps)
    cell_led_by_route x v steps is route =
        let r = lead_of c fit net place cells Ends finishes are (IsStepOf c (label_at (place x) v)) steps route in
        let at : r.0.cell ≡ x = cell_of_label x v r.0 is r.1 r.2 r.4 in
        subst (λ y. Leads net finishes y (begin_of steps)) at (subst (Leads net finishes r.0.cell) (sym r.5) r.3)

    -- the latest entries of cells are the entry labels of their places
    pub entry_label : (x : C) (t : ℕ) → IsLatestEntry net finishes x t → IsPlace c (place x) × IsEntryLabel c Ends (label_at (place x) t)
    entry_label x t latest =
        let r = route_from_cell x t t latest.attained in (
          r.3,
          record {
            window = r.3.window;
            value = (r.0, record { one = r.1; latest = λ others route. omega (arith, latest.greatest (begin_of others) (cell_led_by_route x t others r.3 route), r.2) }, r.2);
          },
        )

    pub entry_of_cell : (x : C) (t : ℕ) → IsPlace c (place x) → IsEntryLabel c Ends (label_at (place x) t) → IsLatestEntry net finishes x t
    entry_of_cell x t is label = record {
      attained = subst (Leads net finishes x) label.value.2 (cell_led_by_route x t label.value.0 is label.value.1.one);
      greatest = λ begin leads. (let r = route_from_cell x t begin leads in omega (arith, label.value.1.latest r.0 r.1, label.value.2, r.2));
    }

    pub entry_place : (label : LabelRow) → IsEntryLabel c Ends label → IsPlace c (place_of label)
    entry_place label entry =
        let r = lead_of c fit net place cells Ends finishes are (IsStepOf c label) entry.value.0 entry.value.1.one in
        record {
          on_arc = subst (λ (a : Arc). IsTrue (arc_exists (layout_of c.airport) a)) r.4.0 r.1.on_arc;
          timed = subst (λ (a : Arc). IsTrue (is_some (seconds c.airport c.class (segment_of a)))) r.4.0 r.1.timed;
          window = entry.window;
        }

    module _ (from : Node) (source : C → Bool) (sources : AreSources c place from source) where
      pub route_from_source : (walk : List (CellStep C)) (x : C) (t : ℕ) → IsWalkTo net finishes walk → BeginsAt walk x t → source x ≡ true
          → IsRoute c (LeavesNode (layout_of c.airport) from) Ends (steps_at place walk) × (begin_of (steps_at place walk) ≡ t)
      route_from_source walk x t is_walk begins is =
          let r = route_led c fit net place cells Ends finishes are (LeavesNode (layout_of c.airport) from) walk x t is_walk begins
          (λ f here step at enters. (sources f.cell here).0 (subst (λ y. source y ≡ true) (sym at) is)) in
          (r.0, r.1)

      pub source_by_route : (steps : List Step) → IsRoute c (LeavesNode (layout_of c.airport) from) Ends steps → (x : C) × (source x ≡ true) × Leads net finishes x (begin_of steps)
      source_by_route steps route =
          let r = lead_of c fit net place cells Ends finishes are (LeavesNode (layout_of c.airport) from) steps route in
          (r.0.cell, (sources r.0.cell r.1).1 r.4, subst (Leads net finishes r.0.cell) (sym r.5) r.3)

      -- no walk from the node begins after the best begin over cells
      pub none_after : (begin : ℕ) → IsBestBegin net finishes source begin → (steps : List Step) → IsRoute c (LeavesNode (layout_of c.airport) from) Ends steps → begin_of steps ≤ begin
      none_after begin best steps route = let x = source_by_route steps route in best.greatest x.0 (begin_of steps) x.1 x.2

      pub best_begin : (begin : ℕ) → IsBestBegin net finishes source begin → IsLatestBegin (IsRoute c (LeavesNode (layout_of c.airport) from) Ends) begin
      best_begin begin best =
          let r = route_from_source best.attained.walk best.cell begin best.attained.is_walk best.attained.begins best.is_source in
          (steps_at place best.attained.walk, record { one = r.0; latest = λ others route. omega (arith, none_after begin best others route, r.1) }, r.1)

      pub begin_is_best : (begin : ℕ) → IsLatestBegin (IsRoute c (LeavesNode (layout_of c.airport) from) Ends) begin → IsBestBegin net finishes source begin
      begin_is_best begin best =
          let x = source_by_route best.0 best.1.one in
          record {
            cell = x.0;
            is_source = x.1;
            attained = subst (Leads net finishes x.0) best.2 x.2;
            greatest = λ y t is leads. (
                let r = route_from_source leads.walk y t leads.is_walk leads.begins is in
                omega (arith, best.1.latest (steps_at place leads.walk) r.0, r.1, best.2));
          }

      pub no_route_from : HasNoWalkFrom net finishes source → (steps : List Step) → IsRoute c (LeavesNode (layout_of c.airport) from) Ends steps → ⊥
      no_route_from none steps route = let x = source_by_route steps route in none x.0 (begin_of steps) x.1 x.2
