-- Walks that end as the finishes say are, in the mirror, the walks that begin as the mirrored starts say.
use Rattle.std.proofs.Common.{◌≡◌, ℕ, ◌+◌, ◌-◌, ◌≤◌, max, List, [], ◌∷◌, Option, Some, None, option_map, map, refl, sym, ap, arith}
use mathlib.Core.List.{reverse_aux}
use Rattle.label_core.specs.Walks.{Network, Step, IsStep, ComesAfter, NextComesAfter, IsChain, Begins, EndsAt, IsWalk, Reaches, IsEarliestExit}
use Rattle.label_core.specs.Labels.{IsStartEntry, IsExpansion}
use Rattle.label_core.specs.BackwardWalks.{Finish, Finishes, LastFinishes, IsWalkTo, BeginsAt, Leads, IsLatestEntry}
use Rattle.label_core.specs.Mirror.{mirror_network, mirror_start, mirror_starts, mirror_step, mirror_walk, IsUpTo}
use Rattle.label_core.specs.BackwardLabels.{IsFinishEntry, IsExpansionBack}
use Rattle.label_core.proofs.AttainedValues.{reaches_in_time}

-- what an option gives through a function comes from what it is
pub option_map_some : {A B : Type 0} (f : A → B) (o : Option A) (y : B) → option_map f o ≡ Some y → (x : A) × (o ≡ Some x) × (f x ≡ y)
option_map_some f None y e = absurd cc
option_map_some f (Some x) y e = (x, refl, cc)

-- all steps are k at most
abbrev pub EndsBy : {C : Type 0} → ℕ → List (Step C) → Type 0
EndsBy k [] = Unit {0}
EndsBy k (s ∷ rest) = (s.enter ≤ k) × (s.leave ≤ k) × EndsBy k rest

-- a map of steps that turns steps and what comes after what round, from one network to another
module _ {C : Type 0} (net other : Network C) (m : Step C → Step C) (on_step : (s : Step C) → IsStep net s → IsStep other (m s))
    (on_after : (s u : Step C) → ComesAfter net s u → ComesAfter other (m u) (m s)) where
  -- a chain, laid backwards before a chain that goes on from its first step
  chain_turned_onto : (s : Step C) (rest done : List (Step C)) → IsChain net (s ∷ rest) → IsChain other done
      → NextComesAfter other (m s) done → IsChain other (reverse_aux (map m (s ∷ rest)) done)
  chain_turned_onto s [] done chain laid joins = (on_step s chain.0, joins, laid)
  chain_turned_onto s (u ∷ rest) done chain laid joins =
      chain_turned_onto u rest (m s ∷ done) chain.2 (on_step s chain.0, joins, laid) (on_after s u chain.1)

-- what is laid backwards before a list ends as the list does
ends_turned_onto : {C : Type 0} (xs : List (Step C)) (s : Step C) (done : List (Step C)) (c : C) (t : ℕ) → EndsAt (s ∷ done) c t → EndsAt (reverse_aux xs (s ∷ done)) c t
ends_turned_onto [] s done c t ends = ends
ends_turned_onto (x ∷ xs) s done c t ends = ends_turned_onto xs x (s ∷ done) c t ends

finishes_turned_onto : {C : Type 0} (finishes : C → Option Finish) (xs : List (Step C)) (s : Step C) (done : List (Step C)) → LastFinishes finishes (s ∷ done) → LastFinishes finishes (reverse_aux xs (s ∷ done))
finishes_turned_onto finishes [] s done ends = ends
finishes_turned_onto finishes (x ∷ xs) s done ends = finishes_turned_onto finishes xs x (s ∷ done) ends

-- what is laid backwards begins with the last step
begins_turned_onto : {C : Type 0} (k : ℕ) (s : Step C) (rest done : List (Step C)) (c : C) (t : ℕ) → EndsAt (s ∷ rest) c t → BeginsAt (reverse_aux (map (mirror_step k) (s ∷ rest)) done) c (k - t)
begins_turned_onto k s [] done c t ends = (ends.0, ap (λ u. k - u) ends.1)
begins_turned_onto k s (u ∷ rest) done c t ends = begins_turned_onto k u rest (mirror_step k s ∷ done) c t ends

module _ {C : Type 0} (net : Network C) (finishes : C → Option Finish) (k : ℕ) (fits : IsUpTo k net finishes) where
  step_in_mirror : (s : Step C) → IsStep net s → IsStep (mirror_network k net) (mirror_step k s)
  step_in_mirror s step = record {
    not_before = omega (arith, step.in_time);
    long_enough = omega (arith, step.in_time, step.long_enough, fits.windows_last s.cell);
    in_time = omega (arith, step.not_before);
  }

  after_in_mirror : (s u : Step C) → ComesAfter net s u → ComesAfter (mirror_network k net) (mirror_step k u) (mirror_step k s)
  after_in_mirror s u after = record { at_once = ap (λ t. k - t) (sym after.at_once); by_turn = after.by_turn }

  step_from_mirror : (s : Step C) → IsStep (mirror_network k net) s → IsStep net (mirror_step k s)
  step_from_mirror s step = record {
    not_before = omega (arith, step.in_time, fits.windows_from s.cell);
    long_enough = omega (arith, step.in_time, step.long_enough, fits.windows_from s.cell);
    in_time = omega (arith, step.not_before, fits.windows_last s.cell);
  }

  after_from_mirror : (s u : Step C) → ComesAfter (mirror_network k net) s u → ComesAfter net (mirror_step k u) (mirror_step k s)
  after_from_mirror s u after = record { at_once = ap (λ t. k - t) (sym after.at_once); by_turn = after.by_turn }

  start_in_mirror : (s : Step C) → Finishes finishes s → Begins (mirror_starts k finishes) (mirror_step k s)
  start_in_mirror s ends = record {
    start = mirror_start k ends.finish;
    here = ap (option_map (mirror_start k)) ends.here;
    met = record { not_early = omega (arith, ends.not_late); not_late = omega (arith, ends.not_early); stays = omega arith };
  }

  finish_from_mirror : (s : Step C) → Begins (mirror_starts k finishes) s → Finishes finishes (mirror_step k s)
  finish_from_mirror s begins =
      let f = option_map_some (mirror_start k) (finishes s.cell) begins.start begins.here in
      let early : k - f.0.latest_out ≤ s.enter = omega (arith, begins.met.not_early, ap (λ x. x.earliest) f.2) in
      let late : s.enter ≤ k - f.0.earliest_out = omega (arith, begins.met.not_late, ap (λ x. x.latest) f.2) in
      record {
        finish = f.0;
        here = f.1;
        not_early = omega (arith, fits.finishes_by s.cell f.0 f.1);
        not_late = omega arith;
      }

  walk_laid : (s : Step C) (rest done : List (Step C)) → LastFinishes finishes (s ∷ rest)
      → IsChain (mirror_network k net) (reverse_aux (map (mirror_step k) (s ∷ rest)) done)
      → IsWalk (mirror_network k net) (mirror_starts k finishes) (reverse_aux (map (mirror_step k) (s ∷ rest)) done)
  walk_laid s [] done ends chain = (start_in_mirror s ends, chain)
  walk_laid s (u ∷ rest) done ends chain = walk_laid u rest (mirror_step k s ∷ done) ends chain

  -- The walks that end as the finishes say are walks in the mirror. This is the argument of all that goes backward.
  -- Turn the clock round at k: a step from t to u becomes one from k - u to k - t, and the last step becomes the first.
  -- It lasts as long, its window has it just where the turned window has it turned, and a turn is made the other way round.
  -- The walks of the one network are those of the other, so the latest entry of the one is k less the earliest exit of the other.
  -- So what is shown of searches and tables forward holds backward, and is shown once.
  pub walk_in_mirror : (walk : List (Step C)) → IsWalkTo net finishes walk → IsWalk (mirror_network k net) (mirror_starts k finishes) (mirror_walk k walk)
  walk_in_mirror [] out = absurd out.ends
  walk_in_mirror (s ∷ rest) out =
      walk_laid s rest [] out.ends (chain_turned_onto net (mirror_network k net) (mirror_step k) step_in_mirror after_in_mirror s rest [] out.chain tt tt)

  -- and back
  pub walk_from_mirror : (walk : List (Step C)) → IsWalk (mirror_network k net) (mirror_starts k finishes) walk → IsWalkTo net finishes (mirror_walk k walk)
  walk_from_mirror [] is_walk = absurd is_walk
  walk_from_mirror (s ∷ rest) is_walk = record {
    chain = chain_turned_onto (mirror_network k net) net (mirror_step k) step_from_mirror after_from_mirror s rest [] is_walk.1 tt tt;
    ends = finishes_turned_onto finishes (map (mirror_step k) rest) (mirror_step k s) [] (finish_from_mirror s is_walk.0);
  }

  -- no step of a chain is past k
  ends_by : (walk : List (Step C)) → IsChain net walk → EndsBy k walk
  ends_by [] chain = tt
  ends_by (s ∷ rest) chain =
      (omega (arith, chain.0.in_time, chain.0.long_enough, fits.windows_last s.cell), omega (arith, chain.0.in_time, fits.windows_last s.cell), ends_by rest chain.2)

  -- begins are ends in the mirror
  pub leads_by : (c : C) (t : ℕ) → Leads net finishes c t → t ≤ k
  leads_by c t leads = go leads.walk leads.is_walk leads.begins
    where
      go : (walk : List (Step C)) → IsWalkTo net finishes walk → BeginsAt walk c t → t ≤ k
      go [] out begins = absurd begins
      go (s ∷ rest) out begins = omega (arith, begins.1, (ends_by (s ∷ rest) out.chain).0)

  pub reaches_by : (c : C) (t : ℕ) → Reaches (mirror_network k net) (mirror_starts k finishes) c t → t ≤ k
  reaches_by c t reach = omega (arith, reaches_in_time (mirror_network k net) (mirror_starts k finishes) c t reach)

  pub leads_in_mirror : (c : C) (t : ℕ) → Leads net finishes c t → Reaches (mirror_network k net) (mirror_starts k finishes) c (k - t)
  leads_in_mirror c t leads = record { walk = mirror_walk k leads.walk; is_walk = walk_in_mirror leads.walk leads.is_walk; ends = go leads.walk leads.begins }
    where
      go : (walk : List (Step C)) → BeginsAt walk c t → EndsAt (mirror_walk k walk) c (k - t)
      go [] begins = absurd begins
      go (s ∷ rest) begins = ends_turned_onto (map (mirror_step k) rest) (mirror_step k s) [] c (k - t) (begins.0, ap (λ u. k - u) begins.1)

  pub leads_from_mirror : (c : C) (t : ℕ) → Reaches (mirror_network k net) (mirror_starts k finishes) c t → Leads net finishes c (k - t)
  leads_from_mirror c t reach = record { walk = mirror_walk k reach.walk; is_walk = walk_from_mirror reach.walk reach.is_walk; begins = go reach.walk reach.ends }
    where
      go : (walk : List (Step C)) → EndsAt walk c t → BeginsAt (mirror_walk k walk) c (k - t)
      go [] ends = absurd ends
      go (s ∷ rest) ends = begins_turned_onto k s rest [] c t ends

  -- the latest entry is the earliest exit in the mirror
  pub latest_in_mirror : (c : C) (t : ℕ) → IsLatestEntry net finishes c t → IsEarliestExit (mirror_network k net) (mirror_starts k finishes) c (k - t)
  latest_in_mirror c t latest = record {
    attained = leads_in_mirror c t latest.attained;
    least = λ end reach. omega (arith, latest.greatest (k - end) (leads_from_mirror c end reach), reaches_by c end reach);
  }

  pub latest_from_mirror : (c : C) (t : ℕ) → IsEarliestExit (mirror_network k net) (mirror_starts k finishes) c t → IsLatestEntry net finishes c (k - t)
  latest_from_mirror c t earliest = record {
    attained = leads_from_mirror c t earliest.attained;
    greatest = λ begin leads. omega (arith, earliest.least (k - begin) (leads_in_mirror c begin leads), leads_by c begin leads);
  }

  -- the entries and expansions of the one are those of the other
  pub finish_entry_in_mirror : (c : C) (t : ℕ) → IsFinishEntry net finishes c t → IsStartEntry (mirror_network k net) (mirror_starts k finishes) c (k - t)
  finish_entry_in_mirror c t e = record {
    start = mirror_start k e.finish;
    here = ap (option_map (mirror_start k)) e.here;
    value = omega (arith, e.value, fits.windows_last c);
    not_late = omega (arith, e.not_early);
    in_time = omega (arith, e.in_window);
  }

  pub finish_entry_from_mirror : (c : C) (t : ℕ) → IsStartEntry (mirror_network k net) (mirror_starts k finishes) c t → IsFinishEntry net finishes c (k - t)
  finish_entry_from_mirror c t e =
      let f = option_map_some (mirror_start k) (finishes c) e.start e.here in
      let value : t ≡ max 0 (max (k - f.0.latest_out) (k - net.last c) + net.seconds c) = omega (arith, e.value, ap (λ x. x.earliest) f.2, ap (λ x. x.exit_from) f.2) in
      let late : max (k - f.0.latest_out) (k - net.last c) ≤ k - f.0.earliest_out = omega (arith, e.not_late, ap (λ x. x.earliest) f.2, ap (λ x. x.latest) f.2) in
      record {
        finish = f.0;
        here = f.1;
        value = omega (arith, e.in_time, fits.windows_last c, fits.windows_from c);
        not_early = omega (arith, fits.windows_last c, fits.finishes_by c f.0 f.1);
        in_window = omega (arith, e.in_time, fits.windows_from c);
      }

  pub expansion_in_mirror : (d : C) (v : ℕ) (c : C) (t : ℕ) → IsExpansionBack net d v c t → IsExpansion (mirror_network k net) d (k - v) c (k - t)
  expansion_in_mirror d v c t e = record {
    by_turn = e.by_turn;
    value = omega (arith, e.value, fits.windows_last c);
    still_held = omega (arith, e.already_held);
    in_time = omega (arith, e.in_window);
  }

  pub expansion_from_mirror : (d : C) (v : ℕ) (c : C) (t : ℕ) → v ≤ k → IsExpansion (mirror_network k net) d v c t → IsExpansionBack net d (k - v) c (k - t)
  expansion_from_mirror d v c t by e = record {
    by_turn = e.by_turn;
    value = omega (arith, e.value, e.in_time, fits.windows_last c, fits.windows_from c);
    already_held = omega (arith, e.still_held, fits.windows_last c, fits.windows_from d);
    in_window = omega (arith, e.in_time, fits.windows_from c);
  }
