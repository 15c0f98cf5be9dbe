-- What is picked back in the mirror is picked on.
use Rattle.std.proofs.Common.{◌≡◌, ℕ, ◌+◌, ◌-◌, ◌≤◌, List, [], ◌∷◌, map, Option, sym, ap, subst, arith}
use Rattle.label_core.specs.Walks.{Network, Step}
use Rattle.label_core.specs.Labels.{entry, IsStartEntry, IsExpansion}
use Rattle.label_core.specs.BackwardWalks.{Finish}
use Rattle.label_core.specs.Mirror.{mirror_network, mirror_start, mirror_starts, mirror_step, IsUpTo}
use Rattle.label_core.specs.Picked.{IsFirstBefore, IsPicked}
use Rattle.label_core.specs.BackwardPicked.{IsFirstAfter, IsPickedOn}
use Rattle.label_core.specs.Picked.IsPicked.{at_start, going_back}
use Rattle.label_core.specs.BackwardPicked.IsPickedOn.{at_finish, going_on}
use Rattle.label_core.proofs.MirroredWalks.{option_map_some, finish_entry_in_mirror, finish_entry_from_mirror, expansion_in_mirror, expansion_from_mirror}
use Rattle.label_core.proofs.MirroredTables.{MirrorRow}

module _ {C : Type 0} (net : Network C) (finishes : C → Option Finish) (k : ℕ) (fits : IsUpTo k net finishes) (Before : C → C → Type 0) (Row : C → ℕ → Type 0) (rows_by : (c : C) (v : ℕ) → Row c v → v ≤ k) where
  -- the leave of a start entry's step, in the mirror
  leave_at_finish : (c : C) (u : ℕ) (e : IsStartEntry (mirror_network k net) (mirror_starts k finishes) c u) → k - entry (mirror_network k net) c e.start.earliest ≡ (k - u) + net.seconds c
  leave_at_finish c u e =
      let f = option_map_some (mirror_start k) (finishes c) e.start e.here in
      let exit : 0 ≡ e.start.exit_from = ap (λ s. s.exit_from) f.2 in
      omega (arith, e.value, e.in_time)

  first_after : (c d : C) (u w : ℕ) → u ≤ k → IsFirstBefore (mirror_network k net) Before (MirrorRow k Row) c u d w → IsFirstAfter net Before Row c (k - u) d (k - w)
  first_after c d u w by first = record {
    has = first.has.1;
    expands = expansion_from_mirror net finishes k fits d w c u first.has.0 first.expands;
    first = λ x y before row e. (
        let le : y ≤ k = rows_by x y row in
        let twice : y ≡ k - (k - y) = omega arith in
        let same : k - (k - u) ≡ u = omega arith in
        first.first x (k - y) before (omega arith, subst (λ n. Row x n) twice row)
        (subst (λ n. IsExpansion (mirror_network k net) x (k - y) c n) same (expansion_in_mirror net finishes k fits x y c (k - u) e)));
  }

  pub picked_on_of : {c : C} {u t : ℕ} {steps : List (Step C)} → IsPicked (mirror_network k net) (mirror_starts k finishes) Before (MirrorRow k Row) c u t steps → u ≤ k
      → IsPickedOn net finishes Before Row c (k - u) (k - t) (map (mirror_step k) steps)
  picked_on_of (at_start {c} {v = u} {t} e) by =
      subst (λ (n : ℕ). IsPickedOn net finishes Before Row c (k - u) (k - t) (record { cell = c; enter = k - t; leave = n } ∷ [])) (sym (leave_at_finish c u e))
      (at_finish (finish_entry_from_mirror net finishes k fits c u e))
  picked_on_of (going_back {c} {d} {v = u} {w} {t} {steps} none first before) by =
      let same : k - (k - u) ≡ u = omega arith in
      let leave : k - (u - net.seconds c) ≡ (k - u) + net.seconds c = omega (arith, first.expands.value) in
      subst (λ (n : ℕ). IsPickedOn net finishes Before Row c (k - u) (k - t) (record { cell = c; enter = k - t; leave = n } ∷ map (mirror_step k) steps)) (sym leave)
      (going_on
      (λ e. none (subst (λ n. IsStartEntry (mirror_network k net) (mirror_starts k finishes) c n) same (finish_entry_in_mirror net finishes k fits c (k - u) e)))
      (first_after c d u w by first)
      (subst (λ (n : ℕ). IsPickedOn net finishes Before Row d (k - w) n (map (mirror_step k) steps)) leave (picked_on_of before first.has.0)))
