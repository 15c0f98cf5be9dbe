-- The route that is picked over cells is the one that is picked over labels.
use Rattle.std.proofs.Common.{◌≡◌, ℕ, ◌-◌, ◌≤◌, Bool, List, [], ◌∷◌, ◌++◌, map, reverse, IsFalse, Option, unwrap_or, refl, sym, ◌∙◌, ap, subst, arith}
use mathlib.Core.List.{reverse_aux}
use Rattle.std.proofs.lemmas.Bool.{false_from_ne_true}
use Rattle.std.proofs.lemmas.List.{reverse-reverse}
use Rattle.std.proofs.lemmas.Grind.{reverse_onto}
use Rattle.taxi_base.specs.declared.numbers.Node.{Node}
use Rattle.taxi_base.specs.declared.numbers.Arc.{Arc}
use Rattle.taxi_base.specs.declared.rows.Step.{Step}
use Rattle.taxi_base.specs.declared.rows.LabelRow.{LabelRow}
use Rattle.taxi_base.specs.Airport.{layout_of}
use Rattle.taxi_base.specs.Walks.{Conditions, IsFeasibleStep, IsRoute, ReachesNode, EndsEarliest, end_of, IsEarliestEnd}
use Rattle.taxi_base.specs.Labels.{IsStepOf, precedes, IsFirst, seconds_of, IsFirstStep, IsBefore, IsTracedTo, begin, after, IsBestExit, IsPickedArrival}
use Rattle.taxi_base.proofs.LabelLaws.{IsEarliestEnd-same}
use Rattle.label_core.specs.Walks.{Network, Start, Step as CellStep, IsStep, EndsAt, IsWalk, IsEarliestExit}
use Rattle.label_core.specs.Labels.{entry, IsStartEntry}
use Rattle.label_core.specs.Picked.{IsFirstBefore, IsPicked}
use Rattle.label_core.specs.Picked.IsPicked.{at_start, going_back}
use Rattle.label_core.specs.Best.{IsBestEnd, IsPickedRoute}
use Rattle.label_core.proofs.AttainedValues.{reaches_in_time, start_entry_reached, start_faithful}
use Rattle.label_core.proofs.PickedWalks.{picked_is_walk, picked_ends}
use Rattle.walk_labels.specs.Places.{AreFit, Place, IsPlace, AreCells, IsOrdered, label_at, place_of}
use Rattle.walk_labels.specs.Requests.{step_at, steps_at, AreStarts, AreTargets}
use Rattle.walk_labels.proofs.CellWalks.{step_in_cell, route_made}
use Rattle.walk_labels.proofs.CellLabels.{step_of_cell, exit_label, exit_of_cell, exit_place, route_to_target, best_end, none_before}

-- ---- lists the other way round

map_reverse_onto : {A B : Type 0} (f : A → B) (xs ys : List A) → map f (reverse_aux xs ys) ≡ reverse_aux (map f xs) (map f ys)
map_reverse_onto f [] ys = refl
map_reverse_onto f (x ∷ xs) ys = map_reverse_onto f xs (x ∷ ys)

turned_twice : {A B : Type 0} (f : A → B) (xs : List A) → reverse (map f (reverse xs)) ≡ map f xs
turned_twice f xs = ap reverse (map_reverse_onto f xs []) ∙ reverse-reverse (map f xs)

-- ---- a label's seconds and its cell

module _ {C : Type 0} (c : Conditions) (place : C → Place) where
  -- what is so of the labels of cells is so of each label at a place
  pub at_cells : ((p : Place) → IsPlace c p → (x : C) × (place x ≡ p)) → (P : LabelRow → Type 0) → ((x : C) (v : ℕ) → IsPlace c (place x) → P (label_at (place x) v))
      → (label : LabelRow) → IsPlace c (place_of label) → P label
  at_cells whole P each label is =
      let x = whole (place_of label) is in
      subst (λ (p : Place). P (label_at p label.value)) x.1 (each x.0 label.value (subst (IsPlace c) (sym x.1) is))

module _ {C : Type 0} (c : Conditions) (fit : AreFit c) (net : Network C) (place : C → Place) (cells : AreCells c net place) where
  pub cell_seconds : (x : C) (v : ℕ) → IsPlace c (place x) → seconds_of c (label_at (place x) v) ≡ net.seconds x
  cell_seconds x v is = ap (λ (o : Option ℕ). unwrap_or o 0) (cells.takes x is)

  module _ (Before : C → C → Type 0) (ordered : IsOrdered c place Before) (Begins : Step → Type 0) (starts : C → Option Start) (are : AreStarts c net place Begins starts) where
    -- a label with no start entry has no first step
    no_first_step : (x : C) (v : ℕ) → IsPlace c (place x) → IsEarliestExit net starts x v → (IsStartEntry net starts x v → ⊥)
        → (step : Step) → IsFirstStep c Begins (label_at (place x) v) step → ⊥
    no_first_step x v is earliest none step first =
        let over : CellStep C = record { cell = x; enter = step.enter; leave = step.leave } in
        let made : IsFeasibleStep c step = first.route.walk in
        let step_is : IsStep net over = step_in_cell c fit net place cells x step is made first.route.ends.0 first.route.ends.1 in
        let same : step ≡ step_at place over = ap (λ (a : Arc). record { arc = a; enter = step.enter; leave = step.leave }) first.route.ends.0 in
        let begins = (are.exact over is step_is).0 (subst Begins same first.route.begins) in
        let e = (start_faithful net starts x step.leave).0 (step.enter, begins, step_is) in
        let least : v ≤ e.0 = earliest.least e.0 (start_entry_reached net starts x e.0 e.1) in
        let value : e.0 ≡ v = omega (arith, e.2, first.value) in
        none (subst (IsStartEntry net starts x) value e.1)

    -- the step of a start entry is a first step
    first_step : (x : C) (v : ℕ) → (e : IsStartEntry net starts x v) → IsFirstStep c Begins (label_at (place x) v) (record { arc = (place x).arc; enter = entry net x e.start.earliest; leave = v })
    first_step x v e =
        let over : CellStep C = record { cell = x; enter = entry net x e.start.earliest; leave = v } in
        let r = route_made c fit net place cells Begins starts are (IsStepOf c (label_at (place x) v)) (over ∷ []) x v (
          record { start = e.start; here = e.here; met = record { not_early = omega arith; not_late = e.not_late; stays = omega (arith, e.value) } },
          (record { not_before = omega arith; long_enough = omega (arith, e.value); in_time = e.in_time }, tt, tt),
        )
        (refl, refl)
        (λ l is step at leaves. step_of_cell c fit net place cells x v l is step at) in
        record { route = r.0; value = refl }

    -- the first cell whose value expands to a label's is the first label before it
    first_before : (x d : C) (v w : ℕ) → IsPlace c (place x) → v ≤ net.last x → IsFirstBefore net Before (IsEarliestExit net starts) x v d w
        → IsFirst (IsBefore c Begins (label_at (place x) v)) (label_at (place d) w)
    first_before x d v w is by first =
        let d_is = (exit_label c fit net place cells Begins starts are d w first.has).0 in
        let turn = (cells.turn d x).0 first.expands.by_turn in
        record {
          one = record {
            exit = (exit_label c fit net place cells Begins starts are d w first.has).1;
            permitted = turn.2;
            value = omega (arith, cell_seconds x v is, cells.from x is, first.expands.value);
            in_window = omega (arith, cells.from x is, cells.last d d_is, first.expands.still_held);
          };
          first = λ other h. at_cells c place cells.whole
              (λ label. IsBefore c Begins (label_at (place x) v) label → IsFalse (precedes label (label_at (place d) w)))
              (λ y u y_is k. false_from_ne_true (precedes (label_at (place y) u) (label_at (place d) w)) (λ ahead.
              first.first y u ((ordered y d y_is d_is).1 ahead) (exit_of_cell c fit net place cells Begins starts are y u y_is k.exit)
              (record {
                by_turn = (cells.turn y x).1 (y_is, is, k.permitted);
                value = omega (arith, cell_seconds x v is, cells.from x is, k.value);
                still_held = omega (arith, cells.from x is, cells.last y y_is, k.in_window);
                in_time = by;
              })))
              other (exit_place c fit net place cells Begins starts are other h.exit) h;
        }

    -- what is picked back from a cell is traced to its label
    pub traced_to : {x : C} {v t : ℕ} {back : List (CellStep C)} → IsPicked net starts Before (IsEarliestExit net starts) x v t back → IsEarliestExit net starts x v
        → IsTracedTo c Begins (label_at (place x) v) t (reverse (steps_at place back))
    traced_to (at_start {c = x} {v} {t} e) earliest =
        begin (label_at (place x) v) t (record { arc = (place x).arc; enter = entry net x e.start.earliest; leave = v }) (first_step x v e)
    traced_to (going_back {c = x} {d} {v} {w} {t} {steps} none first picked) earliest =
        let is : IsPlace c (place x) = (exit_label c fit net place cells Begins starts are x v earliest).0 in
        let by : v ≤ net.last x = reaches_in_time net starts x v earliest.attained in
        let same : seconds_of c (label_at (place x) v) ≡ net.seconds x = cell_seconds x v is in
        let rest : IsTracedTo c Begins (label_at (place d) w) (v - net.seconds x) (reverse (steps_at place steps)) = traced_to picked first.has in
        let whole : IsTracedTo c Begins (label_at (place x) v) t (reverse (steps_at place steps) ++ record { arc = (place x).arc; enter = v - seconds_of c (label_at (place x) v); leave = t } ∷ []) =
        after (label_at (place x) v) (label_at (place d) w) t (reverse (steps_at place steps)) (no_first_step x v is earliest none) (first_before x d v w is by first)
        (subst (λ (n : ℕ). IsTracedTo c Begins (label_at (place d) w) (v - n) (reverse (steps_at place steps))) (sym same) rest) in
        subst (λ (list : List Step). IsTracedTo c Begins (label_at (place x) v) t list) (sym (reverse_onto (steps_at place steps) (record { arc = (place x).arc; enter = v - net.seconds x; leave = t }) []))
        (subst (λ (n : ℕ). IsTracedTo c Begins (label_at (place x) v) t (reverse (steps_at place steps) ++ record { arc = (place x).arc; enter = v - n; leave = t } ∷ [])) same whole)

    module _ (to : Node) (target : C → Bool) (targets : AreTargets c place (to ∷ []) target) where
      -- the picked route over cells is the picked arrival
      pub picked_arrival : (end : ℕ) (steps : List (CellStep C)) → IsBestEnd net starts target end → IsPickedRoute net starts Before target end steps → IsPickedArrival c Begins to (steps_at place steps)
      picked_arrival end steps best route =
          let cell : C = route.cell in
          let exit = exit_label c fit net place cells Begins starts are cell end route.last.earliest in
          let is_best : IsEarliestEnd (IsRoute c Begins (ReachesNode (layout_of c.airport) to)) end = best_end c fit net place cells Begins starts are (to ∷ []) target targets end best in
          record {
            label = label_at (place cell) end;
            last = record {
              one = record { exit = exit.1; reaches = (targets cell exit.0).0 route.last.is_target; best = is_best };
              first = λ other h. at_cells c place cells.whole
                  (λ label. IsBestExit c Begins to label → IsFalse (precedes label (label_at (place cell) end)))
                  (λ y u y_is k. false_from_ne_true (precedes (label_at (place y) u) (label_at (place cell) end)) (λ ahead.
                  let same : u ≡ end = IsEarliestEnd-same (IsRoute c Begins (ReachesNode (layout_of c.airport) to)) u end k.best is_best in
                  route.last.first y ((ordered y cell y_is exit.0).1 ahead) ((targets y y_is).1 k.reaches)
                  (subst (IsEarliestExit net starts y) same (exit_of_cell c fit net place cells Begins starts are y u y_is k.exit))))
                  other (exit_place c fit net place cells Begins starts are other h.exit) h;
            };
            traced = subst (λ (list : List Step). IsTracedTo c Begins (label_at (place cell) end) end list) (turned_twice (step_at place) steps)
                (traced_to route.picked route.last.earliest);
          }

      -- and it ends earliest
      pub picked_ends_earliest : (end : ℕ) (steps : List (CellStep C)) → IsBestEnd net starts target end → IsPickedRoute net starts Before target end steps
          → EndsEarliest (IsRoute c Begins (ReachesNode (layout_of c.airport) to)) (steps_at place steps) × (end_of (steps_at place steps) ≡ end)
      picked_ends_earliest end steps best route =
          let in_time : end ≤ net.last route.cell = reaches_in_time net starts route.cell end route.last.earliest.attained in
          let walk : IsWalk net starts steps = subst (IsWalk net starts) (reverse-reverse steps) (picked_is_walk net starts Before (IsEarliestExit net starts) route.picked (omega arith) in_time) in
          let ends : EndsAt steps route.cell end = subst (λ (list : List (CellStep C)). EndsAt list route.cell end) (reverse-reverse steps) (picked_ends net starts Before (IsEarliestExit net starts) route.picked) in
          let r = route_to_target c fit net place cells Begins starts are (to ∷ []) target targets steps route.cell end walk ends route.last.is_target in
          (record { one = r.0; earliest = λ others other. omega (arith, r.1, none_before c fit net place cells Begins starts are (to ∷ []) target targets end best others other) }, r.1)
