-- Walks up to a second, and what a search over them says of all walks.
use Rattle.std.proofs.Common.{◌≡◌, ℕ, ◌≤◌, List, [], ◌∷◌, map, Bool, true, Option, Some, None, IfSome, IfNone, is_some, sym, inl, inr, arith}
use Rattle.std.proofs.lemmas.Bool.{cases_lt}
use Rattle.label_core.specs.Walks.{Network, Start, Step, IsChain, IsWalk, EndsAt, Reaches, IsEarliestExit}
use Rattle.label_core.specs.Labels.{IsStartEntry, IsExpansion}
use Rattle.label_core.specs.Tables.{IsBelow}
use Rattle.label_core.specs.Picked.{IsPicked}
use Rattle.label_core.specs.Picked.IsPicked.{at_start, going_back}
use Rattle.label_core.specs.Best.{IsBestEnd, HasNoWalk, IsPickedRoute}
use Rattle.label_search.specs.declared.values.CellValue.{CellValue}
use Rattle.label_search.specs.Values.{AreExits}
use Rattle.label_search.specs.declared.forward.Route.{Route}
use Rattle.label_search.specs.Answer.{step_of, ComesBefore}
use Rattle.label_search.specs.Cut.{cut_network}

module _ (until : ℕ) (net : Network ℕ) (starts : ℕ → Option Start) where
  abbrev cut : Network ℕ
  cut = cut_network until net

  -- ---- walks

  ends_late : (s : Step ℕ) (rest : List (Step ℕ)) (c t : ℕ) → IsChain net (s ∷ rest) → EndsAt (s ∷ rest) c t → s.leave ≤ t
  ends_late s [] c t chain ends = omega (arith, ends.1)
  ends_late s (u ∷ rest) c t chain ends = omega (arith, chain.1.at_once, chain.2.0.long_enough, ends_late u rest c t chain.2 ends)

  chain_in_cut : (s : Step ℕ) (rest : List (Step ℕ)) (c t : ℕ) → IsChain net (s ∷ rest) → EndsAt (s ∷ rest) c t → t ≤ until → IsChain cut (s ∷ rest)
  chain_in_cut s [] c t chain ends by = (
    record { not_before = chain.0.not_before; long_enough = chain.0.long_enough; in_time = omega (arith, chain.0.in_time, ends_late s [] c t chain ends, by) },
    tt,
    tt,
  )
  chain_in_cut s (u ∷ rest) c t chain ends by = (
    record { not_before = chain.0.not_before; long_enough = chain.0.long_enough; in_time = omega (arith, chain.0.in_time, ends_late s (u ∷ rest) c t chain ends, by) },
    record { at_once = chain.1.at_once; by_turn = chain.1.by_turn },
    chain_in_cut u rest c t chain.2 ends by,
  )

  chain_of_cut : (s : Step ℕ) (rest : List (Step ℕ)) → IsChain cut (s ∷ rest) → IsChain net (s ∷ rest)
  chain_of_cut s [] chain = (record { not_before = chain.0.not_before; long_enough = chain.0.long_enough; in_time = omega (arith, chain.0.in_time) }, tt, tt)
  chain_of_cut s (u ∷ rest) chain = (
    record { not_before = chain.0.not_before; long_enough = chain.0.long_enough; in_time = omega (arith, chain.0.in_time) },
    record { at_once = chain.1.at_once; by_turn = chain.1.by_turn },
    chain_of_cut u rest chain.2,
  )

  chain_ends : (s : Step ℕ) (rest : List (Step ℕ)) (c t : ℕ) → IsChain net (s ∷ rest) → EndsAt (s ∷ rest) c t → t ≤ net.last c
  chain_ends s [] c t chain ends = rw (sym ends.0, sym ends.1) chain.0.in_time
  chain_ends s (u ∷ rest) c t chain ends = chain_ends u rest c t chain.2 ends

  walk_in_cut : (walk : List (Step ℕ)) (c t : ℕ) → IsWalk net starts walk → EndsAt walk c t → t ≤ until → IsWalk cut starts walk
  walk_in_cut [] c t walk ends by = absurd walk
  walk_in_cut (s ∷ rest) c t walk ends by = (walk.0, chain_in_cut s rest c t walk.1 ends by)

  walk_of_cut : (walk : List (Step ℕ)) → IsWalk cut starts walk → IsWalk net starts walk
  walk_of_cut [] walk = absurd walk
  walk_of_cut (s ∷ rest) walk = (walk.0, chain_of_cut s rest walk.1)

  walk_ends : (walk : List (Step ℕ)) (c t : ℕ) → IsWalk net starts walk → EndsAt walk c t → t ≤ net.last c
  walk_ends [] c t walk ends = absurd walk
  walk_ends (s ∷ rest) c t walk ends = chain_ends s rest c t walk.1 ends

  reaches_in_cut : (c t : ℕ) → Reaches net starts c t → t ≤ until → Reaches cut starts c t
  reaches_in_cut c t r by = record { walk = r.walk; is_walk = walk_in_cut r.walk c t r.is_walk r.ends by; ends = r.ends }

  reaches_of_cut : (c t : ℕ) → Reaches cut starts c t → Reaches net starts c t
  reaches_of_cut c t r = record { walk = r.walk; is_walk = walk_of_cut r.walk r.is_walk; ends = r.ends }

  pub reaches_by_last : (c t : ℕ) → Reaches net starts c t → t ≤ net.last c
  reaches_by_last c t r = walk_ends r.walk c t r.is_walk r.ends

-- a walk in the cut network ends by the second
reaches_until : (until : ℕ) (net : Network ℕ) (starts : ℕ → Option Start) (c t : ℕ) → Reaches (cut_network until net) starts c t → t ≤ until
reaches_until until net starts c t r = omega (arith, reaches_by_last until (cut_network until net) starts c t r)

module _ (until : ℕ) (net : Network ℕ) (starts : ℕ → Option Start) where
  earliest_of_cut : (c v : ℕ) → IsEarliestExit (cut_network until net) starts c v → IsEarliestExit net starts c v
  earliest_of_cut c v e = record {
    attained = reaches_of_cut until net starts c v e.attained;
    least = λ end r. elim (cases_lt until end) [
      | inl past ↦ omega (arith, past, reaches_until until net starts c v e.attained)
      | inr by ↦ e.least end (reaches_in_cut until net starts c end r by)
    ];
  }

  earliest_in_cut : (c v : ℕ) → IsEarliestExit net starts c v → v ≤ until → IsEarliestExit (cut_network until net) starts c v
  earliest_in_cut c v e by = record {
    attained = reaches_in_cut until net starts c v e.attained by;
    least = λ end r. e.least end (reaches_of_cut until net starts c end r);
  }

  -- ---- what a walk adds

  pub entry_of_cut : (c t : ℕ) → IsStartEntry (cut_network until net) starts c t → IsStartEntry net starts c t
  entry_of_cut c t e = record { start = e.start; here = e.here; value = e.value; not_late = e.not_late; in_time = omega (arith, e.in_time) }

  entry_in_cut : (c t : ℕ) → IsStartEntry net starts c t → t ≤ until → IsStartEntry (cut_network until net) starts c t
  entry_in_cut c t e by = record { start = e.start; here = e.here; value = e.value; not_late = e.not_late; in_time = omega (arith, e.in_time, by) }

  pub expansion_of_cut : (c v d t : ℕ) → IsExpansion (cut_network until net) c v d t → IsExpansion net c v d t
  expansion_of_cut c v d t e = record { by_turn = e.by_turn; value = e.value; still_held = omega (arith, e.still_held); in_time = omega (arith, e.in_time) }

  expansion_in_cut : (c v d t : ℕ) → IsExpansion net c v d t → t ≤ until → IsExpansion (cut_network until net) c v d t
  expansion_in_cut c v d t e by = record { by_turn = e.by_turn; value = e.value; still_held = omega (arith, e.still_held, e.value, by); in_time = omega (arith, e.in_time, by) }

  -- ---- answers

  picked_of_cut : {c v t : ℕ} {steps : List (Step ℕ)} → IsPicked (cut_network until net) starts ComesBefore (IsEarliestExit (cut_network until net) starts) c v t steps → v ≤ until
      → IsPicked net starts ComesBefore (IsEarliestExit net starts) c v t steps
  unfolding entry_of_cut
  picked_of_cut (at_start {c} {v} e) by = at_start (entry_of_cut c v e)
  picked_of_cut (going_back {c} {d} {v} {w} none first before) by =
      going_back
      (λ e. none (entry_in_cut c v e by))
      (record {
        has = earliest_of_cut d w first.has;
        expands = expansion_of_cut d w c v first.expands;
        first = λ x u is has e. first.first x u is (earliest_in_cut x u has (omega (arith, e.value, by))) (expansion_in_cut x u c v e by);
      })
      (picked_of_cut before (omega (arith, first.expands.value, by)))

  pub route_of_cut : (target : ℕ → Bool) (end : ℕ) (steps : List (Step ℕ)) → IsPickedRoute (cut_network until net) starts ComesBefore target end steps → IsPickedRoute net starts ComesBefore target end steps
  route_of_cut target end steps route =
      let by : end ≤ until = reaches_until until net starts route.cell end route.last.earliest.attained in
      record {
        cell = route.cell;
        last = record {
          is_target = route.last.is_target;
          earliest = earliest_of_cut route.cell end route.last.earliest;
          first = λ x is aim e. route.last.first x is aim (earliest_in_cut x end e by);
        };
        picked = picked_of_cut route.picked by;
      }

  pub best_of_cut : (target : ℕ → Bool) (end : ℕ) → IsBestEnd (cut_network until net) starts target end → IsBestEnd net starts target end
  best_of_cut target end best = record {
    cell = best.cell;
    is_target = best.is_target;
    attained = reaches_of_cut until net starts best.cell end best.attained;
    least = λ c t aim r. elim (cases_lt until t) [
      | inl past ↦ omega (arith, past, reaches_until until net starts best.cell end best.attained)
      | inr by ↦ best.least c t aim (reaches_in_cut until net starts c t r by)
    ];
  }

  pub none_of_cut : (target : ℕ → Bool) → ((c : ℕ) → net.last c ≤ until) → HasNoWalk (cut_network until net) starts target → HasNoWalk net starts target
  none_of_cut target all none c t aim r = none c t aim (reaches_in_cut until net starts c t r (omega (arith, all c, reaches_by_last until net starts c t r)))

  -- the rows are the same where no walk past the second counts
  exits_of_cut : (count : ℕ) (bound : Option ℕ) (rows : List CellValue) → ((c t : ℕ) → Reaches net starts c t → IsBelow bound t → t ≤ until)
      → AreExits (cut_network until net) starts count bound rows → AreExits net starts count bound rows
  exits_of_cut count bound rows counts exits = record {
    known = exits.known;
    as_many = exits.as_many;
    are_rows = exits.are_rows;
    exact = λ c v. (
      λ has. (let row = (exits.exact c v).0 has in (earliest_of_cut c v row.0, row.1)),
      λ row. (exits.exact c v).1 (earliest_in_cut c v row.0 (counts c v row.0.attained row.1), row.1),
    );
  }

  pub exits_all : (count : ℕ) (bound : Option ℕ) (rows : List CellValue) → ((c : ℕ) → net.last c ≤ until)
      → AreExits (cut_network until net) starts count bound rows → AreExits net starts count bound rows
  exits_all count bound rows all = exits_of_cut count bound rows (λ c t r below. omega (arith, all c, reaches_by_last until net starts c t r))

  pub exits_short : (target : ℕ → Bool) (count : ℕ) (bound : Option ℕ) (rows : List CellValue) → is_some bound ≡ true → IfSome bound (IsBestEnd (cut_network until net) starts target)
      → AreExits (cut_network until net) starts count bound rows → AreExits net starts count bound rows
  exits_short target count None rows some best exits = absurd cc
  exits_short target count (Some end) rows some best exits =
      exits_of_cut count (Some end) rows (λ c t r below. omega (arith, below, reaches_until until net starts best.cell end best.attained)) exits

  pub best_if : (target : ℕ → Bool) (bound : Option ℕ) → IfSome bound (IsBestEnd (cut_network until net) starts target) → IfSome bound (IsBestEnd net starts target)
  best_if target None best = tt
  best_if target (Some end) best = best_of_cut target end best

  pub none_if : (target : ℕ → Bool) (bound : Option ℕ) → ((c : ℕ) → net.last c ≤ until) → IfNone bound (HasNoWalk (cut_network until net) starts target) → IfNone bound (HasNoWalk net starts target)
  none_if target None all none = none_of_cut target all none
  none_if target (Some end) all none = tt

  pub route_if : (target : ℕ → Bool) (route : Option Route) → IfSome route (λ r. IsPickedRoute (cut_network until net) starts ComesBefore target r.best (map step_of r.steps.items))
      → IfSome route (λ r. IsPickedRoute net starts ComesBefore target r.best (map step_of r.steps.items))
  route_if target None picked = tt
  route_if target (Some r) picked = route_of_cut target r.best (map step_of r.steps.items) picked
