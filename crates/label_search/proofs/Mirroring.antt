-- A problem backward in time and its mirror: what is found in the one is found in the other.
use Rattle.std.proofs.Common.{◌≡◌, ℕ, ◌-◌, ◌≤◌, List, [], ◌∷◌, get_or, map, reverse, Option, Some, None, option_map, IfSome, IfNone, refl, sym, ap, ◌∙◌, subst, inl, inr, arith}
use mathlib.Core.List.{reverse_aux}
use Rattle.std.proofs.lemmas.List.{length-map}
use Rattle.label_core.specs.Walks.{Step}
use Rattle.label_core.specs.Tables.{IsBelow}
use Rattle.label_core.specs.Best.{IsBestEnd, HasNoWalk, IsPickedRoute}
use Rattle.label_core.specs.BackwardWalks.{IsLatestEntry}
use Rattle.label_core.specs.BackwardTables.{IsAbove}
use Rattle.label_core.specs.BackwardBest.{IsBestBegin, HasNoWalkFrom, IsPickedRouteOn}
use Rattle.label_core.specs.Mirror.{mirror_start, mirror_starts, mirror_network, mirror_step, IsUpTo}
use Rattle.label_core.proofs.MirroredWalks.{option_map_some, leads_by, reaches_by, latest_in_mirror, latest_from_mirror}
use Rattle.label_core.proofs.MirroredBest.{best_begin, no_walk_from, route_on}
use Rattle.label_search.specs.declared.cells.Run.{Run}
use Rattle.label_search.specs.declared.values.CellValue.{CellValue}
use Rattle.label_search.specs.declared.pick.CellStep.{CellStep}
use Rattle.label_search.specs.declared.forward.Route.{Route}
use Rattle.label_search.specs.Problem.{IsPartOf, IsPartBefore, MayComeTo}
use Rattle.label_search.specs.Values.{AreExits, AreEntries}
use Rattle.label_search.specs.Answer.{step_of, best_of, ComesBefore}
use Rattle.label_search.specs.Backward.{BackwardProblem, IsBackwardProblem, IsBackwardPartOf, IsPartAfter, mirror_second, mirror_problem, mirror_value, mirror_cell_step, MayGoFrom}
use Rattle.label_search.proofs.ValueLaws.{rows_from-map, get_or-option_map}

-- steps, turned and seen in the mirror
map-reverse_onto : (steps done : List CellStep) (turned : List (Step ℕ)) → map step_of (map mirror_cell_step done) ≡ map (mirror_step mirror_second) turned
    → map step_of (map mirror_cell_step (reverse_aux steps done)) ≡ map (mirror_step mirror_second) (reverse_aux (map step_of steps) turned)
map-reverse_onto [] done turned same = same
map-reverse_onto (s ∷ steps) done turned same = map-reverse_onto steps (s ∷ done) (step_of s ∷ turned) (ap (λ more. mirror_step mirror_second (step_of s) ∷ more) same)

steps_in_mirror : (steps : List CellStep) → map step_of (map mirror_cell_step (reverse steps)) ≡ map (mirror_step mirror_second) (reverse (map step_of steps))
steps_in_mirror steps = map-reverse_onto steps [] [] refl

-- the part of a run in the mirror
pub part_in_mirror : (b : BackwardProblem) → IsUpTo mirror_second b.network b.finishes → (c ready last : ℕ) (whole part : Run) → IsBackwardPartOf b c (mirror_second - ready) (mirror_second - last) whole part → IsPartOf (mirror_problem b) c ready last whole part
part_in_mirror b fits c ready last whole part is_part = record {
  permitted = is_part.permitted;
  wanted_in = λ o d is turn by in_time. is_part.wanted_in d o is turn (omega (arith, by, fits.windows_last d)) (omega (arith, in_time, fits.windows_last d, fits.windows_from d));
}

-- and that from which walks come that enter at a second
pub part_before_in_mirror : (b : BackwardProblem) → IsUpTo mirror_second b.network b.finishes → (c second : ℕ) (whole part : Run) → IsPartAfter b c (mirror_second - second) whole part → IsPartBefore (mirror_problem b) c second whole part
part_before_in_mirror b fits c second whole part is_part = record {
  permitted = is_part.permitted;
  open_in = λ d is turn from last. is_part.open_in d is turn (omega (arith, last, fits.windows_from d)) (omega (arith, from, fits.windows_last d));
}

-- where walks may come to a cell in the mirror, they may go on from it
pub go_from_mirror : (b : BackwardProblem) (c : ℕ) → MayComeTo (mirror_problem b) c → MayGoFrom b c
go_from_mirror b c (inl start) = let f = option_map_some (mirror_start mirror_second) (b.finishes c) start.0 start.1 in inl (f.0, f.1)
go_from_mirror b c (inr turn) = inr turn

module _ (b : BackwardProblem) (sound : IsBackwardProblem b) where
  pub up_to : IsUpTo mirror_second b.network b.finishes
  up_to = record {
    windows_from = λ c. omega (arith, sound.small_from c);
    windows_last = λ c. omega (arith, sound.small_last c);
    finishes_by = λ c f is. omega (arith, sound.small_finishes c f is);
  }

  above_of_below : (best : Option ℕ) (v : ℕ) → IfSome best (λ n. n ≤ mirror_second) → IsBelow best v → IsAbove (option_map (λ n. mirror_second - n) best) (mirror_second - v)
  above_of_below None v by below = tt
  above_of_below (Some n) v by below = omega arith

  below_of_above : (best : Option ℕ) (v : ℕ) → v ≤ mirror_second → IfSome best (λ n. n ≤ mirror_second) → IsAbove (option_map (λ n. mirror_second - n) best) v → IsBelow best (mirror_second - v)
  below_of_above None v inside by above = tt
  below_of_above (Some n) v inside by above = omega arith

  best_by : (best : Option ℕ) → IfSome best (IsBestEnd (mirror_network mirror_second b.network) (mirror_starts mirror_second b.finishes) b.source) → IfSome best (λ n. n ≤ mirror_second)
  best_by None is_best = tt
  best_by (Some n) is_best = reaches_by b.network b.finishes mirror_second up_to is_best.cell n is_best.attained

  -- the table
  pub values_in_mirror : (rows : List CellValue) (best : Option ℕ) → IfSome best (IsBestEnd (mirror_network mirror_second b.network) (mirror_starts mirror_second b.finishes) b.source)
      → AreExits (mirror_network mirror_second b.network) (mirror_starts mirror_second b.finishes) b.count best rows
      → AreEntries b.network b.finishes b.count (option_map (λ n. mirror_second - n) best) (map mirror_value rows)
  values_in_mirror rows best is_best exits = record {
    known = map (option_map (λ n. mirror_second - n)) exits.known;
    as_many = length-map exits.known (option_map (λ n. mirror_second - n)) ∙ exits.as_many;
    are_rows = ap (map mirror_value) exits.are_rows ∙ rows_from-map (λ n. mirror_second - n) 0 exits.known;
    exact = λ c v. (there c v, back c v);
  }
    where
      there : (c v : ℕ) → get_or (map (option_map (λ n. mirror_second - n)) exits.known) c None ≡ Some v → IsLatestEntry b.network b.finishes c v × IsAbove (option_map (λ n. mirror_second - n) best) v
      there c v has =
          let value = option_map_some (λ n. mirror_second - n) (get_or exits.known c None) v (sym (get_or-option_map (λ n. mirror_second - n) exits.known c) ∙ has) in
          let row = (exits.exact c value.0).0 value.1 in (
            subst (λ n. IsLatestEntry b.network b.finishes c n) value.2 (latest_from_mirror b.network b.finishes mirror_second up_to c value.0 row.0),
            subst (λ n. IsAbove (option_map (λ n. mirror_second - n) best) n) value.2 (above_of_below best value.0 (best_by best is_best) row.1),
          )

      back : (c v : ℕ) → IsLatestEntry b.network b.finishes c v × IsAbove (option_map (λ n. mirror_second - n) best) v → get_or (map (option_map (λ n. mirror_second - n)) exits.known) c None ≡ Some v
      back c v h =
          let by : v ≤ mirror_second = leads_by b.network b.finishes mirror_second up_to c v h.0.attained in
          let has = (exits.exact c (mirror_second - v)).1 (latest_in_mirror b.network b.finishes mirror_second up_to c v h.0, below_of_above best v by (best_by best is_best) h.1) in
          let same : mirror_second - (mirror_second - v) ≡ v = omega arith in
          get_or-option_map (λ n. mirror_second - n) exits.known c ∙ ap (option_map (λ n. mirror_second - n)) has ∙ ap Some same

  pub best_in_mirror : (best : Option ℕ) → IfSome best (IsBestEnd (mirror_network mirror_second b.network) (mirror_starts mirror_second b.finishes) b.source)
      → IfSome (option_map (λ n. mirror_second - n) best) (IsBestBegin b.network b.finishes b.source)
  best_in_mirror None is_best = tt
  best_in_mirror (Some n) is_best = best_begin b.network b.finishes mirror_second up_to ComesBefore b.source n is_best

  pub none_in_mirror : (best : Option ℕ) → IfNone best (HasNoWalk (mirror_network mirror_second b.network) (mirror_starts mirror_second b.finishes) b.source)
      → IfNone (option_map (λ n. mirror_second - n) best) (HasNoWalkFrom b.network b.finishes b.source)
  none_in_mirror None none = no_walk_from b.network b.finishes mirror_second up_to ComesBefore b.source none
  none_in_mirror (Some n) none = tt

  -- the picked route
  pub route_in_mirror : (found now : Option Route) → best_of now ≡ option_map (λ n. mirror_second - n) (best_of found)
      → IfSome now (λ r. IfSome found (λ f. r.steps.items ≡ map mirror_cell_step (reverse f.steps.items)))
      → IfSome found (λ f. IsPickedRoute (mirror_network mirror_second b.network) (mirror_starts mirror_second b.finishes) ComesBefore b.source f.best (map step_of f.steps.items))
      → IfSome now (λ r. IsPickedRouteOn b.network b.finishes ComesBefore b.source r.best (map step_of r.steps.items))
  route_in_mirror found None same steps picked = tt
  route_in_mirror None (Some r) same steps picked = absurd cc
  route_in_mirror (Some f) (Some r) same steps picked =
      let best : r.best ≡ mirror_second - f.best = cc in
      rw (best, steps, steps_in_mirror f.steps.items) (route_on b.network b.finishes mirror_second up_to ComesBefore b.source f.best (map step_of f.steps.items) picked)
