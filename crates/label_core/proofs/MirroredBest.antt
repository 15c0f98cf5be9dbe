-- The best end and the picked route in the mirror are the best begin and the picked route.
use Rattle.std.proofs.Common.{◌≡◌, ℕ, ◌-◌, ◌≤◌, Bool, List, map, reverse, Option, subst, arith}
use Rattle.label_core.specs.Walks.{Network, Step, IsEarliestExit}
use Rattle.label_core.specs.Best.{IsBestEnd, HasNoWalk, IsFirstBest, IsPickedRoute}
use Rattle.label_core.specs.BackwardWalks.{Finish, IsLatestEntry}
use Rattle.label_core.specs.BackwardBest.{IsBestBegin, HasNoWalkFrom, IsFirstBegin, IsPickedRouteOn}
use Rattle.label_core.specs.Mirror.{mirror_network, mirror_starts, mirror_step, IsUpTo}
use Rattle.label_core.proofs.MirroredWalks.{leads_by, leads_in_mirror, leads_from_mirror, latest_in_mirror, latest_from_mirror, reaches_by}
use Rattle.label_core.proofs.MirroredTables.{MirrorRow}
use Rattle.label_core.proofs.MirroredPicked.{picked_on_of}
use Rattle.label_core.proofs.SameNetwork.{picked_of_same_values}

module _ {C : Type 0} (net : Network C) (finishes : C → Option Finish) (k : ℕ) (fits : IsUpTo k net finishes) (Before : C → C → Type 0) (source : C → Bool) where
  pub best_begin : (end : ℕ) → IsBestEnd (mirror_network k net) (mirror_starts k finishes) source end → IsBestBegin net finishes source (k - end)
  best_begin end best = record {
    cell = best.cell;
    is_source = best.is_target;
    attained = leads_from_mirror net finishes k fits best.cell end best.attained;
    greatest = λ c t is leads. omega (arith, best.least c (k - t) is (leads_in_mirror net finishes k fits c t leads), leads_by net finishes k fits c t leads);
  }

  pub no_walk_from : HasNoWalk (mirror_network k net) (mirror_starts k finishes) source → HasNoWalkFrom net finishes source
  no_walk_from none c t is leads = none c (k - t) is (leads_in_mirror net finishes k fits c t leads)

  first_begin : (end : ℕ) (cell : C) → end ≤ k → IsFirstBest (mirror_network k net) (mirror_starts k finishes) Before source end cell → IsFirstBegin net finishes Before source (k - end) cell
  first_begin end cell by first = record {
    is_source = first.is_target;
    latest = latest_from_mirror net finishes k fits cell end first.earliest;
    first = λ x before is other. (
        let same : k - (k - end) ≡ end = omega arith in
        first.first x before is (subst (λ n. IsEarliestExit (mirror_network k net) (mirror_starts k finishes) x n) same (latest_in_mirror net finishes k fits x (k - end) other)));
  }

  row_there : (c : C) (t : ℕ) → IsEarliestExit (mirror_network k net) (mirror_starts k finishes) c t → MirrorRow k (IsLatestEntry net finishes) c t
  row_there c t earliest = (reaches_by net finishes k fits c t earliest.attained, latest_from_mirror net finishes k fits c t earliest)

  row_back : (c : C) (t : ℕ) → MirrorRow k (IsLatestEntry net finishes) c t → IsEarliestExit (mirror_network k net) (mirror_starts k finishes) c t
  row_back c t row =
      let same : k - (k - t) ≡ t = omega (arith, row.0) in
      subst (λ n. IsEarliestExit (mirror_network k net) (mirror_starts k finishes) c n) same (latest_in_mirror net finishes k fits c (k - t) row.1)

  -- the picked route, turned and mirrored
  pub route_on : (end : ℕ) (steps : List (Step C)) → IsPickedRoute (mirror_network k net) (mirror_starts k finishes) Before source end steps
      → IsPickedRouteOn net finishes Before source (k - end) (map (mirror_step k) (reverse steps))
  route_on end steps route =
      let by : end ≤ k = reaches_by net finishes k fits route.cell end route.last.earliest.attained in
      record {
        cell = route.cell;
        first = first_begin end route.cell by route.last;
        picked =
            picked_on_of net finishes k fits Before (IsLatestEntry net finishes) (λ c v latest. leads_by net finishes k fits c v latest.attained)
            (picked_of_same_values (mirror_network k net) (mirror_starts k finishes) Before (IsEarliestExit (mirror_network k net) (mirror_starts k finishes)) (MirrorRow k (IsLatestEntry net finishes)) row_there row_back route.picked)
            by;
      }
