-- The steps of one holder are given back, some after the others: what is among the others still, what stays, and the room that is left.
use Rattle.std.proofs.Common.{◌≡◌, ℕ, ◌+◌, ◌-◌, ◌<◌, ◌≤◌, List, ◌++◌, length, map, take, drop, sym, ap, ◌∙◌, subst, arith}
use Rattle.std.specs.Prelude.{All, count_by, IsTrue}
use Rattle.std.proofs.lemmas.List.{take-append-drop, map-append}
use Rattle.std.proofs.Math.Seq.{take-add}
use Rattle.taxi_base.specs.declared.numbers.Segment.{Segment}
use Rattle.taxi_base.specs.declared.rows.Step.{Step}
use Rattle.taxi_base.specs.Airport.{Airport, conflict}
use Rattle.taxi_base.specs.Windows.{Hold, hold_of, holds_of}
use Rattle.window_store.specs.Store.{Store}
use Rattle.window_store.specs.Stands.{StandsFor, HasRoomFor}
use Rattle.window_store.specs.Kept.{IsClearOf, KeepsWindows, KeepsNodes}
use Rattle.window_store.proofs.Pieces.{All-front, All-back}
use Rattle.window_store.proofs.Standing.{conflicting-append, conflicting-steps}
use Rattle.commitments.specs.declared.segment_holds.HeldStep.{HeldStep}
use Rattle.commitments.specs.declared.segment_holds.Holder.{Holder}
use Rattle.commitments.specs.Held.{hold_by, clearance_after, steps_with, AreAsMany, AreAmong}
use Rattle.commitments.proofs.Arranged.{count-append}
use Rattle.commitments.proofs.HoldRoom.{StandsFor-parted}

module _ (holder : Holder) (steps : List Step) (k next : ℕ) (later : k ≤ next) where
  -- those from a place on and before the next one
  abbrev these : List Step
  these = take (next - k) (drop k steps)

  parted : take next steps ≡ take k steps ++ these
  parted = let whole : k + (next - k) ≡ next = omega arith in subst (λ n. take n steps ≡ take k steps ++ these) whole (take-add k (next - k) steps)

  more : steps_with holder (take next steps) ≡ steps_with holder (take k steps) ++ steps_with holder these
  more = ap (steps_with holder) parted ∙ map-append (λ step. record { step = step; holder = holder }) (take k steps) these

  all : steps_with holder steps ≡ steps_with holder (take next steps) ++ steps_with holder (drop next steps)
  all = ap (steps_with holder) (sym (take-append-drop next steps)) ∙ map-append (λ step. record { step = step; holder = holder }) (take next steps) (drop next steps)

  -- the next of them are among what is held still
  pub next-among : (old now : List HeldStep) → AreAmong (steps_with holder steps) old → AreAsMany old (now ++ steps_with holder (take k steps)) → AreAmong (steps_with holder these) now
  next-among old now among gone =
      let rest = among.0 ++ steps_with holder (drop next steps) in (
        rest,
        λ p. omega (
          arith,
          among.1 p,
          gone p,
          count-append p among.0 (steps_with holder steps),
          count-append p now (steps_with holder (take k steps)),
          count-append p among.0 (steps_with holder (drop next steps)),
          count-append p rest (steps_with holder these),
          ap (count_by p) more,
          count-append p (steps_with holder (take k steps)) (steps_with holder these),
          ap (count_by p) all,
          count-append p (steps_with holder (take next steps)) (steps_with holder (drop next steps)),
        ),
      )

  -- and are gone then with those before
  pub next-gone : (old now new : List HeldStep) → AreAsMany old (now ++ steps_with holder (take k steps)) → AreAsMany now (new ++ steps_with holder these)
      → AreAsMany old (new ++ steps_with holder (take next steps))
  next-gone old now new gone these-gone p =
      omega (
        arith,
        gone p,
        these-gone p,
        count-append p now (steps_with holder (take k steps)),
        count-append p new (steps_with holder these),
        count-append p new (steps_with holder (take next steps)),
        ap (count_by p) more,
        count-append p (steps_with holder (take k steps)) (steps_with holder these),
      )

  -- a window that is clear of all of them stays
  pub windows-kept : (sets : List (List Segment)) (horizon clearance : ℕ) (old now new : Store) → KeepsNodes old now
      → KeepsWindows IsClearOf sets (holds_of horizon clearance (take k steps)) old now → KeepsWindows IsClearOf sets (holds_of horizon clearance these) now new
      → KeepsWindows IsClearOf sets (holds_of horizon clearance (take next steps)) old new
  windows-kept sets horizon clearance old now new nodes before next s w low_s there against =
      let Against : Hold → Type 0 = λ h. IsTrue (conflict sets s h.segment) → IsClearOf w h.span in
      let parts : All Against (holds_of horizon clearance (take k steps) ++ holds_of horizon clearance these) = subst (All Against) (ap (holds_of horizon clearance) parted ∙ map-append (hold_of horizon clearance) (take k steps) these) against in
      next s w (omega (arith, low_s, nodes.lists)) (before s w low_s there (All-front Against (holds_of horizon clearance (take k steps)) (holds_of horizon clearance these) parts))
      (All-back Against (holds_of horizon clearance (take k steps)) (holds_of horizon clearance these) parts)

pub nodes-both : (old now new : Store) → KeepsNodes old now → KeepsNodes now new → KeepsNodes old new
nodes-both old now new first second = record {
  lists = second.lists ∙ first.lists;
  nodes = λ s low. second.nodes s (omega (arith, low, first.lists)) ∙ first.nodes s low;
  next = second.next ∙ first.next;
  horizon = second.horizon ∙ first.horizon;
}

-- in the end there is room for all of them
pub room-again : (airport : Airport) (holder : Holder) (steps : List Step) (old new : List HeldStep) (was is : Store) → AreAsMany old (new ++ steps_with holder steps)
    → StandsFor airport.conflicts airport.horizon (map (hold_by airport) old) was → StandsFor airport.conflicts airport.horizon (map (hold_by airport) new) is → KeepsNodes was is
    → HasRoomFor airport.conflicts steps is
room-again airport holder steps old new was is gone before after kept s low =
    let clearance = clearance_after airport holder in
    let in_was : s.0 < length was.lists = omega (arith, low, kept.lists) in
    let stood = StandsFor-parted airport old new holder steps was gone before s in_was in
    omega (
      arith,
      stood.room,
      stood.number,
      (after s low).number,
      kept.nodes s in_was,
      conflicting-append airport.conflicts s (map (hold_by airport) new) (holds_of airport.horizon clearance steps),
      conflicting-steps airport.horizon clearance airport.conflicts s steps,
    )
