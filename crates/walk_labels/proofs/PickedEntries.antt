-- For departures: the route that is picked over cells is the one that is picked over labels.
use Rattle.std.proofs.Common.{◌≡◌, ℕ, ◌+◌, ◌≤◌, Bool, List, [], ◌∷◌, IsFalse, Option, refl, sym, ap, subst, arith}
use Rattle.std.proofs.lemmas.Bool.{false_from_ne_true}
use Rattle.taxi_base.specs.declared.numbers.Node.{Node}
use Rattle.taxi_base.specs.declared.numbers.Arc.{Arc}
use Rattle.taxi_base.specs.declared.rows.Step.{Step}
use Rattle.taxi_base.specs.Airport.{layout_of}
use Rattle.taxi_base.specs.Walks.{Conditions, IsFeasibleStep, IsRoute, LeavesNode, BeginsLatest, begin_of, IsLatestBegin}
use Rattle.taxi_base.specs.Labels.{IsStepOf, precedes, IsFirst, seconds_of, IsLastStep, IsAfter, IsTracedFrom, finish, before, IsBestEntry, IsPickedDeparture}
use Rattle.taxi_base.proofs.LabelLaws.{IsLatestBegin-same}
use Rattle.label_core.specs.Walks.{Network, Step as CellStep, IsStep}
use Rattle.label_core.specs.BackwardWalks.{Finish, IsWalkTo, IsLatestEntry}
use Rattle.label_core.specs.BackwardLabels.{IsFinishEntry}
use Rattle.label_core.specs.BackwardPicked.{IsFirstAfter, IsPickedOn}
use Rattle.label_core.specs.BackwardPicked.IsPickedOn.{at_finish, going_on}
use Rattle.label_core.specs.BackwardBest.{IsBestBegin, IsPickedRouteOn}
use Rattle.label_core.proofs.PickedOnWalks.{finish_entry_leads, finish_entry_of, picked_on_walk, leads_from}
use Rattle.walk_labels.specs.Places.{AreFit, Place, IsPlace, AreCells, IsOrdered, label_at}
use Rattle.walk_labels.specs.Requests.{step_at, steps_at, AreFinishes, AreSources}
use Rattle.walk_labels.proofs.CellWalks.{step_in_cell, route_led}
use Rattle.walk_labels.proofs.CellLabels.{step_of_cell, entry_label, entry_of_cell, entry_place, route_from_source, best_begin, none_after}
use Rattle.walk_labels.proofs.PickedLabels.{at_cells, cell_seconds}

module _ {C : Type 0} (c : Conditions) (fit : AreFit c) (net : Network C) (place : C → Place) (cells : AreCells c net place)
    (Before : C → C → Type 0) (ordered : IsOrdered c place Before) (Ends : Step → Type 0) (finishes : C → Option Finish) (are : AreFinishes c net place Ends finishes) where
  -- a label with no finish entry has no last step
  no_last_step : (x : C) (v : ℕ) → IsPlace c (place x) → IsLatestEntry net finishes x v → (IsFinishEntry net finishes x v → ⊥)
      → (step : Step) → IsLastStep c Ends (label_at (place x) v) step → ⊥
  no_last_step x v is latest none step last =
      let over : CellStep C = record { cell = x; enter = step.enter; leave = step.leave } in
      let made : IsFeasibleStep c step = last.route.walk in
      let step_is : IsStep net over = step_in_cell c fit net place cells x step is made last.route.begins.0 last.route.begins.1 in
      let same : step ≡ step_at place over = ap (λ (a : Arc). record { arc = a; enter = step.enter; leave = step.leave }) last.route.begins.0 in
      let ends = (are.exact over is step_is).0 (subst Ends same last.route.ends) in
      let e = finish_entry_of net finishes over step_is ends in
      let greatest : e.0 ≤ v = latest.greatest e.0 (finish_entry_leads net finishes x e.0 e.1) in
      let value : e.0 ≡ v = omega (arith, e.2, last.value) in
      none (subst (IsFinishEntry net finishes x) value e.1)

  -- the step of a finish entry is a last step
  last_step : (x : C) (v : ℕ) → IsFinishEntry net finishes x v → IsLastStep c Ends (label_at (place x) v) (record { arc = (place x).arc; enter = v; leave = v + net.seconds x })
  last_step x v e =
      let over : CellStep C = record { cell = x; enter = v; leave = v + net.seconds x } in
      let is_walk : IsWalkTo net finishes (over ∷ []) = record {
        chain = (record { not_before = e.in_window; long_enough = omega arith; in_time = omega (arith, e.value) }, tt, tt);
        ends = record { finish = e.finish; here = e.here; not_early = omega (arith, e.value, e.not_early); not_late = omega (arith, e.value) };
      } in
      let r = route_led c fit net place cells Ends finishes are (IsStepOf c (label_at (place x) v)) (over ∷ []) x v is_walk (refl, refl)
      (λ f is step at enters. step_of_cell c fit net place cells x v f is step at) in
      record { route = r.0; value = refl }

  -- the first cell that a label's value comes of is the first label after it
  first_after : (x d : C) (v w : ℕ) → IsPlace c (place x) → net.from x ≤ v → IsFirstAfter net Before (IsLatestEntry net finishes) x v d w
      → IsFirst (IsAfter c Ends (label_at (place x) v)) (label_at (place d) w)
  first_after x d v w is from first =
      let d_is = (entry_label c fit net place cells Ends finishes are d w first.has).0 in
      let turn = (cells.turn x d).0 first.expands.by_turn in
      record {
        one = record {
          entry = (entry_label c fit net place cells Ends finishes are d w first.has).1;
          permitted = turn.2;
          value = omega (arith, cell_seconds c fit net place cells x v is, cells.last x is, first.expands.value);
          in_window = omega (arith, cells.last x is, cells.from d d_is, first.expands.already_held);
        };
        first = λ other h. at_cells c place cells.whole
            (λ label. IsAfter c Ends (label_at (place x) v) label → IsFalse (precedes label (label_at (place d) w)))
            (λ y u y_is k. false_from_ne_true (precedes (label_at (place y) u) (label_at (place d) w)) (λ ahead.
            first.first y u ((ordered y d y_is d_is).1 ahead) (entry_of_cell c fit net place cells Ends finishes are y u y_is k.entry)
            (record {
              by_turn = (cells.turn x y).1 (is, y_is, k.permitted);
              value = omega (arith, cell_seconds c fit net place cells x v is, cells.last x is, k.value);
              already_held = omega (arith, cells.last x is, cells.from y y_is, k.in_window);
              in_window = from;
            })))
            other (entry_place c fit net place cells Ends finishes are other h.entry) h;
      }

  -- what is picked on from a cell is traced from its label
  pub traced_from : {x : C} {v t : ℕ} {steps : List (CellStep C)} → IsPickedOn net finishes Before (IsLatestEntry net finishes) x v t steps → IsLatestEntry net finishes x v
      → IsTracedFrom c Ends (label_at (place x) v) t (steps_at place steps)
  traced_from (at_finish {c = x} {v} {t} e) latest =
      let is : IsPlace c (place x) = (entry_label c fit net place cells Ends finishes are x v latest).0 in
      subst (λ (n : ℕ). IsTracedFrom c Ends (label_at (place x) v) t (record { arc = (place x).arc; enter = t; leave = v + n } ∷ [])) (cell_seconds c fit net place cells x v is)
      (finish (label_at (place x) v) t (record { arc = (place x).arc; enter = v; leave = v + net.seconds x }) (last_step x v e))
  traced_from (going_on {c = x} {d} {v} {w} {t} {steps} none first picked) latest =
      let is : IsPlace c (place x) = (entry_label c fit net place cells Ends finishes are x v latest).0 in
      let same : seconds_of c (label_at (place x) v) ≡ net.seconds x = cell_seconds c fit net place cells x v is in
      let rest : IsTracedFrom c Ends (label_at (place d) w) (v + net.seconds x) (steps_at place steps) = traced_from picked first.has in
      subst (λ (n : ℕ). IsTracedFrom c Ends (label_at (place x) v) t (record { arc = (place x).arc; enter = t; leave = v + n } ∷ steps_at place steps)) same
      (before (label_at (place x) v) (label_at (place d) w) t (steps_at place steps) (no_last_step x v is latest none)
      (first_after x d v w is (leads_from net finishes x v latest.attained) first)
      (subst (λ (n : ℕ). IsTracedFrom c Ends (label_at (place d) w) (v + n) (steps_at place steps)) (sym same) rest))

  module _ (from : Node) (source : C → Bool) (sources : AreSources c place from source) where
    -- the picked route over cells is the picked departure
    pub picked_departure : (start : ℕ) (steps : List (CellStep C)) → IsBestBegin net finishes source start → IsPickedRouteOn net finishes Before source start steps → IsPickedDeparture c Ends from (steps_at place steps)
    picked_departure start steps best route =
        let cell : C = route.cell in
        let entry = entry_label c fit net place cells Ends finishes are cell start route.first.latest in
        let is_best : IsLatestBegin (IsRoute c (LeavesNode (layout_of c.airport) from) Ends) start = best_begin c fit net place cells Ends finishes are from source sources start best in
        record {
          label = label_at (place cell) start;
          first = record {
            one = record { entry = entry.1; leaves = (sources cell entry.0).0 route.first.is_source; best = is_best };
            first = λ other h. at_cells c place cells.whole
                (λ label. IsBestEntry c Ends from label → IsFalse (precedes label (label_at (place cell) start)))
                (λ y u y_is k. false_from_ne_true (precedes (label_at (place y) u) (label_at (place cell) start)) (λ ahead.
                let same : u ≡ start = IsLatestBegin-same (IsRoute c (LeavesNode (layout_of c.airport) from) Ends) u start k.best is_best in
                route.first.first y ((ordered y cell y_is entry.0).1 ahead) ((sources y y_is).1 k.leaves)
                (subst (IsLatestEntry net finishes y) same (entry_of_cell c fit net place cells Ends finishes are y u y_is k.entry))))
                other (entry_place c fit net place cells Ends finishes are other h.entry) h;
          };
          traced = traced_from route.picked route.first.latest;
        }

    -- and it begins latest
    pub picked_begins_latest : (start : ℕ) (steps : List (CellStep C)) → IsBestBegin net finishes source start → IsPickedRouteOn net finishes Before source start steps
        → BeginsLatest (IsRoute c (LeavesNode (layout_of c.airport) from) Ends) (steps_at place steps) × (begin_of (steps_at place steps) ≡ start)
    picked_begins_latest start steps best route =
        let walk = picked_on_walk net finishes Before (IsLatestEntry net finishes) route.picked (omega arith) (leads_from net finishes route.cell start route.first.latest.attained) in
        let r = route_from_source c fit net place cells Ends finishes are from source sources steps route.cell start walk.0 walk.1 route.first.is_source in
        (record { one = r.0; latest = λ others other. omega (arith, r.1, none_after c fit net place cells Ends finishes are from source sources start best others other) }, r.1)
