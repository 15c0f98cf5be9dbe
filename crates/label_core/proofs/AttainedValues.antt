-- Start entries and expansions are ends of walks: a walk may wait in its last cell, and go on by a further step.
use Rattle.std.proofs.Common.{◌≡◌, ℕ, ◌≤◌, List, [], ◌∷◌, ◌++◌, IsTrue, Option, refl, sym, subst, arith, ◌↔◌}
use Rattle.label_core.specs.Walks.{Begins, Network, Start, Step, IsStep, ComesAfter, NextComesAfter, IsChain, EndsAt, IsWalk, Reaches}
use Rattle.label_core.specs.Labels.{entry, IsStartEntry, IsExpansion}
use Rattle.label_core.proofs.ClosedTables.{start_entry_of}

-- the walk with its last step left at t
abbrev left_at : {C : Type 0} → List (Step C) → ℕ → List (Step C)
left_at [] t = []
left_at (s ∷ []) t = record { cell = s.cell; enter = s.enter; leave = t } ∷ []
left_at (s ∷ u ∷ rest) t = s ∷ left_at (u ∷ rest) t

module _ {C : Type 0} (net : Network C) where
  next_left_at : (s u : Step C) (rest : List (Step C)) (t : ℕ) → ComesAfter net s u → NextComesAfter net s (left_at (u ∷ rest) t)
  next_left_at s u [] t after = record { at_once = after.at_once; by_turn = after.by_turn }
  next_left_at s u (w ∷ rest) t after = after

  chain_left_at : (s : Step C) (rest : List (Step C)) (c : C) (v t : ℕ) → IsChain net (s ∷ rest) → EndsAt (s ∷ rest) c v → v ≤ t → t ≤ net.last c → IsChain net (left_at (s ∷ rest) t)
  chain_left_at s [] c v t chain ends le in_time = (
    record {
      not_before = chain.0.not_before;
      long_enough = omega (arith, chain.0.long_enough, ends.1);
      in_time = subst (λ d. t ≤ net.last d) (sym ends.0) in_time;
    },
    tt,
    tt,
  )
  chain_left_at s (u ∷ rest) c v t chain ends le in_time =
      (chain.0, next_left_at s u rest t chain.1, chain_left_at u rest c v t chain.2 ends le in_time)

  ends_left_at : (s : Step C) (rest : List (Step C)) (c : C) (v t : ℕ) → EndsAt (s ∷ rest) c v → EndsAt (left_at (s ∷ rest) t) c t
  ends_left_at s [] c v t ends = (ends.0, refl)
  ends_left_at s (u ∷ []) c v t ends = (ends.0, refl)
  ends_left_at s (u ∷ w ∷ rest) c v t ends = ends_left_at u (w ∷ rest) c v t ends

  -- a chain goes on by one step
  chain_goes_on : (s : Step C) (rest : List (Step C)) (d : C) (t : ℕ) (u : Step C) → IsChain net (s ∷ rest) → EndsAt (s ∷ rest) d t → t ≡ u.enter → IsTrue (net.turn d u.cell) → IsStep net u → IsChain net (s ∷ rest ++ u ∷ [])
  chain_goes_on s [] d t u chain ends enters turns step =
      (chain.0, record { at_once = omega (arith, ends.1); by_turn = subst (λ c. IsTrue (net.turn c u.cell)) (sym ends.0) turns }, (step, tt, tt))
  chain_goes_on s (w ∷ rest) d t u chain ends enters turns step =
      (chain.0, chain.1, chain_goes_on w rest d t u chain.2 ends enters turns step)

  ends_goes_on : (s : Step C) (rest : List (Step C)) (u : Step C) → EndsAt (s ∷ rest ++ u ∷ []) u.cell u.leave
  ends_goes_on s [] u = (refl, refl)
  ends_goes_on s (w ∷ rest) u = ends_goes_on w rest u

module _ {C : Type 0} (net : Network C) (starts : C → Option Start) where
  -- a walk may wait in its last cell as long as the window lasts
  pub reaches_later : (c : C) (v t : ℕ) → Reaches net starts c v → v ≤ t → t ≤ net.last c → Reaches net starts c t
  reaches_later c v t reach le in_time = go reach.walk reach.is_walk reach.ends
    where
      go : (walk : List (Step C)) → IsWalk net starts walk → EndsAt walk c v → Reaches net starts c t
      go [] is_walk ends = absurd is_walk
      go (s ∷ []) is_walk ends = record {
        walk = left_at (s ∷ []) t;
        is_walk = (record { start = is_walk.0.start; here = is_walk.0.here; met = record { not_early = is_walk.0.met.not_early; not_late = is_walk.0.met.not_late; stays = omega (arith, is_walk.0.met.stays, ends.1) } }, chain_left_at net s [] c v t is_walk.1 ends le in_time);
        ends = ends_left_at net s [] c v t ends;
      }
      go (s ∷ u ∷ rest) is_walk ends = record {
        walk = left_at (s ∷ u ∷ rest) t;
        is_walk = (is_walk.0, chain_left_at net s (u ∷ rest) c v t is_walk.1 ends le in_time);
        ends = ends_left_at net s (u ∷ rest) c v t ends;
      }

  -- the end of a walk is in the window of its last cell
  pub reaches_in_time : (c : C) (t : ℕ) → Reaches net starts c t → t ≤ net.last c
  reaches_in_time c t reach = go reach.walk reach.is_walk reach.ends
    where
      along : (s : Step C) (rest : List (Step C)) → IsChain net (s ∷ rest) → EndsAt (s ∷ rest) c t → t ≤ net.last c
      along s [] chain ends = subst (λ d. t ≤ net.last d) ends.0 (omega (arith, ends.1, chain.0.in_time))
      along s (u ∷ rest) chain ends = along u rest chain.2 ends

      go : (walk : List (Step C)) → IsWalk net starts walk → EndsAt walk c t → t ≤ net.last c
      go [] is_walk ends = absurd is_walk
      go (s ∷ rest) is_walk ends = along s rest is_walk.1 ends

  -- a start entry is the end of a walk of one step
  pub start_entry_reached : (c : C) (t : ℕ) → IsStartEntry net starts c t → Reaches net starts c t
  start_entry_reached c t e = record {
    walk = record { cell = c; enter = entry net c e.start.earliest; leave = t } ∷ [];
    is_walk = (
      record { start = e.start; here = e.here; met = record { not_early = omega arith; not_late = e.not_late; stays = omega (arith, e.value) } },
      (record { not_before = omega arith; long_enough = omega (arith, e.value); in_time = e.in_time }, tt, tt),
    );
    ends = (refl, refl);
  }

  -- an expansion of a walk's end is the end of a longer walk
  pub expansion_reached : (c : C) (v : ℕ) (d : C) (t : ℕ) → Reaches net starts c v → IsExpansion net c v d t → Reaches net starts d t
  expansion_reached c v d t reach e = go held.walk held.is_walk held.ends
    where
      held : Reaches net starts c (entry net d v)
      held = reaches_later c v (entry net d v) reach (omega arith) e.still_held

      step : Step C
      step = record { cell = d; enter = entry net d v; leave = t }

      go : (walk : List (Step C)) → IsWalk net starts walk → EndsAt walk c (entry net d v) → Reaches net starts d t
      go [] is_walk ends = absurd is_walk
      go (s ∷ rest) is_walk ends = record {
        walk = s ∷ rest ++ step ∷ [];
        is_walk = (is_walk.0, chain_goes_on net s rest c (entry net d v) step is_walk.1 ends refl e.by_turn (record { not_before = omega arith; long_enough = omega (arith, e.value); in_time = e.in_time }));
        ends = ends_goes_on net s rest step;
      }

  -- a walk may begin in cell c and leave it at t exactly where t is no sooner than the start entry, and in the window
  pub start_faithful : (c : C) (t : ℕ)
      → ((enter : ℕ) × Begins starts (record { cell = c; enter = enter; leave = t }) × IsStep net (record { cell = c; enter = enter; leave = t }))
      ↔ ((s : ℕ) × IsStartEntry net starts c s × (s ≤ t) × (t ≤ net.last c))
  start_faithful c t = (
    λ b. let e = start_entry_of net starts (record { cell = c; enter = b.0; leave = t }) b.1 b.2 in (e.0, e.1, e.2, b.2.in_time),
    λ h. (
      entry net c h.1.start.earliest,
      record { start = h.1.start; here = h.1.here; met = record { not_early = omega arith; not_late = h.1.not_late; stays = omega (arith, h.1.value, h.2) } },
      record { not_before = omega arith; long_enough = omega (arith, h.1.value, h.2); in_time = h.3 },
    ),
  )
