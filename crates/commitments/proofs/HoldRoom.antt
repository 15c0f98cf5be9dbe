-- Whether lists by segment have room, told by the store: a segment's own holds are among those in conflict with it. And a
-- store stands for what steps hold in any order.
use Rattle.std.proofs.Common.{◌≡◌, ℕ, ◌<◌, ◌≤◌, eqb, ltb, ◌&&◌, Bool, List, [], ◌∷◌, ◌++◌, length, map, IsTrue, refl, sym, ap, ◌∙◌, inl, inr, subst, arith}
use Rattle.std.specs.Prelude.{All, count_by}
use Rattle.std.specs.List.{list_any}
use Rattle.std.proofs.lemmas.Bool.{cases_Bool, cond-true, cond-false, eqb-true, eq-eqb, lt-ltb, or_left}
use Rattle.std.proofs.lemmas.List.{map-append}
use Rattle.std.proofs.lemmas.List.Elements.{All-head, All-tail}
use Rattle.std.proofs.lemmas.List.Sums.{sum_by-set}
use Rattle.std.proofs.lemmas.Simd.{map-map}
use Rattle.taxi_base.specs.declared.numbers.Segment.{Segment}
use Rattle.taxi_base.specs.declared.rows.Step.{Step}
use Rattle.taxi_base.specs.Airport.{Airport, conflict, segment_of, has_member}
use Rattle.taxi_base.specs.Windows.{Hold, blocks, holds_of}
use Rattle.window_store.specs.Store.{Store}
use Rattle.window_store.specs.Stands.{StandsFor, HasRoomFor, conflicting, conflicting_steps}
use Rattle.window_store.proofs.Standing.{StandsFor-same}
use Rattle.commitments.specs.declared.segment_holds.HeldStep.{HeldStep}
use Rattle.commitments.specs.declared.segment_holds.Holder.{Holder}
use Rattle.commitments.specs.Held.{StepList, no_step, list_of, all_steps, hold_by, clearance_after, steps_with, AreAsMany, AreBySegment, HaveRoomForSteps, HasHoldRoom}
use Rattle.commitments.proofs.Arranged.{count-cons, count-joined, count-map}

-- ---- how many pass

count-all : {X : Type 0} (p : X → Bool) (xs : List X) → All (λ x. IsTrue (p x)) xs → count_by p xs ≡ length xs
count-all p [] all = refl
count-all p (x ∷ xs) all =
    let one = cond-true {A = ℕ} (p x) 1 0 (All-head (λ x. IsTrue (p x)) x xs all) in
    omega (arith, count-cons p x xs, one, count-all p xs (All-tail (λ x. IsTrue (p x)) x xs all))

count-fewer : {X : Type 0} (p q : X → Bool) (xs : List X) → ((x : X) → IsTrue (p x) → IsTrue (q x)) → count_by p xs ≤ count_by q xs
count-fewer p q [] weaker = omega arith
count-fewer p q (x ∷ xs) weaker =
    elim (cases_Bool (p x)) [
      | inl here ↦
          let one = cond-true {A = ℕ} (p x) 1 0 here in
          let also = cond-true {A = ℕ} (q x) 1 0 (weaker x here) in
          omega (arith, count-cons p x xs, count-cons q x xs, one, also, count-fewer p q xs weaker)
      | inr other ↦
          let none = cond-false {A = ℕ} (p x) 1 0 other in
          omega (arith, count-cons p x xs, count-cons q x xs, none, count-fewer p q xs weaker)
    ]

own-conflict : (sets : List (List Segment)) (s t : Segment) → IsTrue (eqb t.0 s.0) → IsTrue (conflict sets s t)
unfolding conflict
own-conflict sets s t same = or_left (eqb s.0 t.0) (list_any (λ set. has_member set s && has_member set t) sets) (eq-eqb s.0 t.0 (sym (eqb-true t.0 s.0 same)))

-- ---- the steps of one segment are among all, and among those in conflict

module _ (s : Segment) where
  abbrev on : HeldStep → Bool
  on held = eqb (segment_of held.step.arc).0 s.0

  pub own-among : (lists : List StepList) → AreBySegment lists → s.0 < length lists → length (list_of lists s).steps ≤ count_by on (all_steps lists)
  own-among lists by_segment low =
      let own = count-all on (list_of lists s).steps (λ k d within. eq-eqb _ s.0 (ap (λ (t : Segment). t.0) (by_segment s low k d within))) in
      let parts = sum_by-set (λ (l : StepList). count_by on l.steps) lists s.0 no_step no_step low in
      omega (arith, own, parts, count-joined on (λ (l : StepList). l.steps) lists)

  pub own-held : (airport : Airport) (steps : List HeldStep) → count_by on steps ≤ conflicting airport.conflicts s (map (hold_by airport) steps)
  own-held airport steps =
      omega (
        arith,
        count-map (λ (h : Hold). conflict airport.conflicts s h.segment) (hold_by airport) steps,
        count-fewer on (λ held. conflict airport.conflicts s (segment_of held.step.arc)) steps (λ held here. own-conflict airport.conflicts s (segment_of held.step.arc) here),
      )

  pub own-steps : (sets : List (List Segment)) (steps : List Step) → count_by (λ step. eqb (segment_of step.arc).0 s.0) steps ≤ conflicting_steps sets s steps
  own-steps sets steps = count-fewer _ _ steps (λ step here. own-conflict sets s (segment_of step.arc) here)

-- what a store has room for, the lists have room for
pub room-for-steps : (airport : Airport) (lists : List StepList) (store : Store) (steps : List Step) → AreBySegment lists → HasHoldRoom store lists
    → StandsFor airport.conflicts airport.horizon (map (hold_by airport) (all_steps lists)) store → HasRoomFor airport.conflicts steps store → HaveRoomForSteps steps lists
room-for-steps airport lists store steps by_segment room stands has s low =
    let on_list : s.0 < length store.lists = omega (arith, room.as_many, low) in
    omega (
      arith,
      own-among s lists by_segment low,
      own-held s airport (all_steps lists),
      (stands s on_list).number,
      own-steps s airport.conflicts steps,
      has s on_list,
      room.each s on_list,
    )

-- ---- in any order

any-counted : {X : Type 0} (p : X → Bool) (xs : List X) → list_any p xs ≡ ltb 0 (count_by p xs)
any-counted p [] = refl
any-counted p (x ∷ xs) =
    elim (cases_Bool (p x)) [
      | inl here ↦
          let one = cond-true {A = ℕ} (p x) 1 0 here in
          let some : 0 < count_by p (x ∷ xs) = omega (arith, count-cons p x xs, one) in
          or_left (p x) (list_any p xs) here ∙ sym (lt-ltb 0 (count_by p (x ∷ xs)) some)
      | inr other ↦
          let none = cond-false {A = ℕ} (p x) 1 0 other in
          let same : count_by p (x ∷ xs) ≡ count_by p xs = omega (arith, count-cons p x xs, none) in
          rw other (any-counted p xs) ∙ ap (ltb 0) (sym same)
    ]

module _ (airport : Airport) (old new : List HeldStep) (as_many : AreAsMany old new) where
  holds-counted : (p : Hold → Bool) → count_by p (map (hold_by airport) old) ≡ count_by p (map (hold_by airport) new)
  holds-counted p = count-map p (hold_by airport) old ∙ as_many (λ held. p (hold_by airport held)) ∙ sym (count-map p (hold_by airport) new)

  -- one of the holds passes a test where one of the others does
  pub any-as_many : (p : Hold → Bool) → list_any p (map (hold_by airport) old) ≡ list_any p (map (hold_by airport) new)
  any-as_many p = any-counted p (map (hold_by airport) old) ∙ ap (ltb 0) (holds-counted p) ∙ sym (any-counted p (map (hold_by airport) new))

pub StandsFor-as_many : (airport : Airport) (old new : List HeldStep) (store : Store) → AreAsMany old new → StandsFor airport.conflicts airport.horizon (map (hold_by airport) old) store
    → StandsFor airport.conflicts airport.horizon (map (hold_by airport) new) store
StandsFor-as_many airport old new store as_many stands =
    StandsFor-same airport.conflicts airport.horizon (map (hold_by airport) old) (map (hold_by airport) new) store
    (λ s t. any-as_many airport old new as_many (blocks airport.conflicts s t))
    (λ s. holds-counted airport old new as_many (λ h. conflict airport.conflicts s h.segment)) stands

-- what the steps of one holder hold
pub holds-with : (airport : Airport) (holder : Holder) (steps : List Step) → map (hold_by airport) (steps_with holder steps) ≡ holds_of airport.horizon (clearance_after airport holder) steps
holds-with airport holder steps = map-map (hold_by airport) (λ step. record { step = step; holder = holder }) steps

pub StandsFor-parted : (airport : Airport) (old new : List HeldStep) (holder : Holder) (steps : List Step) (store : Store) → AreAsMany old (new ++ steps_with holder steps)
    → StandsFor airport.conflicts airport.horizon (map (hold_by airport) old) store
    → StandsFor airport.conflicts airport.horizon (map (hold_by airport) new ++ holds_of airport.horizon (clearance_after airport holder) steps) store
StandsFor-parted airport old new holder steps store as_many stands =
    let parts : map (hold_by airport) (new ++ steps_with holder steps) ≡ map (hold_by airport) new ++ holds_of airport.horizon (clearance_after airport holder) steps =
    map-append (hold_by airport) new (steps_with holder steps) ∙ ap (λ (holds : List Hold). map (hold_by airport) new ++ holds) (holds-with airport holder steps) in
    subst (λ (holds : List Hold). StandsFor airport.conflicts airport.horizon holds store) parts (StandsFor-as_many airport old (new ++ steps_with holder steps) store as_many stands)
