-- The steps of a filed route: they go by arcs of the airport, and each enters when the one before leaves.
use Rattle.std.proofs.Common.{◌≡◌, ℕ, suc, Bool, List, [], ◌∷◌, length, IsTrue, Option, Some, None, option_map, option_and_then, refl, sym, ap, subst, arith, inl, inr}
use Rattle.std.specs.Prelude.{All, ⊤}
use Rattle.std.proofs.lemmas.Bool.{cases_Bool}
use Rattle.std.proofs.lemmas.Option.{none-some}
use Rattle.std.proofs.lemmas.List.Elements.{All-nil, All-cons}
use Rattle.taxi_base.specs.declared.numbers.Arc.{Arc}
use Rattle.taxi_base.specs.declared.rows.Step.{Step}
use Rattle.taxi_base.specs.Airport.{Airport, layout_of, arc_exists, arc_named, arc_of, segment_named}
use Rattle.taxi_base.specs.Walks.{AreJoined}
use Rattle.taxi_text.specs.declared.command.FiledStep.{FiledStep}
use Rattle.replies.specs.Asked.{filed_steps}

-- what an optional chain gave, it gave by its first part
pub and_then-some : {A B : Type 0} (f : A → Option B) (o : Option A) (y : B) → option_and_then f o ≡ Some y → (x : A) × (o ≡ Some x) × (f x ≡ Some y)
and_then-some f None y h = absurd (none-some y h)
and_then-some f (Some x) y h = (x, refl, h)

pub map-some : {A B : Type 0} (f : A → B) (o : Option A) (y : B) → option_map f o ≡ Some y → (x : A) × (o ≡ Some x) × (f x ≡ y)
map-some f None y h = absurd (none-some y h)
map-some f (Some x) y h = (x, refl, same h) where
  same : Some (f x) ≡ Some y → f x ≡ y
  same e = cc

-- an arc that has a name is there
arc_named-exists : (airport : Airport) (name : List ℕ) (forward : Bool) (arc : Arc) → arc_named airport name forward ≡ Some arc → IsTrue (arc_exists (layout_of airport) arc)
unfolding arc_named
arc_named-exists airport name forward arc h =
    let found = and_then-some _ (segment_named airport name) arc h in
    elim (cases_Bool (arc_exists (layout_of airport) (arc_of found.0 forward))) [
      | inl there ↦
          let e : Some (arc_of found.0 forward) ≡ Some arc = rw there at found.2 in
          let same : arc_of found.0 forward ≡ arc = some_same e in
          subst (λ x. IsTrue (arc_exists (layout_of airport) x)) same there
      | inr missing ↦ absurd (cc (rw missing at found.2))
    ]
  where
    some_same : {A : Type 0} {x y : A} → Some x ≡ Some y → x ≡ y
    some_same e = cc

-- what the steps of some pairs are: the first pair's step, and those of the rest
record AreFiled (airport : Airport) (enter : ℕ) (filed : FiledStep) (rest : List FiledStep) (steps : List Step) : Type 0 where
  arc : Arc
  later : List Step
  named : arc_named airport filed.segment filed.forward ≡ Some arc
  after : filed_steps airport filed.leave rest ≡ Some later
  whole : record { arc = arc; enter = enter; leave = filed.leave } ∷ later ≡ steps

are_filed : (airport : Airport) (enter : ℕ) (filed : FiledStep) (rest : List FiledStep) (steps : List Step)
    → filed_steps airport enter (filed ∷ rest) ≡ Some steps → AreFiled airport enter filed rest steps
are_filed airport enter filed rest steps h =
    let first = and_then-some (λ arc. option_map (λ steps. record { arc = arc; enter = enter; leave = filed.leave } ∷ steps) (filed_steps airport filed.leave rest))
    (arc_named airport filed.segment filed.forward) steps h in
    let second = map-some (λ steps. record { arc = first.0; enter = enter; leave = filed.leave } ∷ steps) (filed_steps airport filed.leave rest) steps first.2 in
    record { arc = first.0; later = second.0; named = first.1; after = second.1; whole = second.2 }

none_filed : {X : Type 0} (xs : List X) → Some [] ≡ Some xs → [] ≡ xs
none_filed xs e = cc

-- each step enters when the one before leaves, and the first at a time
abbrev AreJoinedFrom : ℕ → List Step → Type 0
AreJoinedFrom enter [] = ⊤
AreJoinedFrom enter (s ∷ steps) = (enter ≡ s.enter) × AreJoinedFrom s.leave steps

AreJoinedFrom-AreJoined : (enter : ℕ) (steps : List Step) → AreJoinedFrom enter steps → AreJoined steps
AreJoinedFrom-AreJoined enter [] joined = tt
AreJoinedFrom-AreJoined enter (s ∷ []) joined = tt
AreJoinedFrom-AreJoined enter (s ∷ t ∷ steps) joined = (joined.1.0, AreJoinedFrom-AreJoined s.leave (t ∷ steps) joined.1)

module _ (airport : Airport) where
  -- there is a step for each pair
  pub filed_steps-length : (enter : ℕ) (filed : List FiledStep) (steps : List Step) → filed_steps airport enter filed ≡ Some steps → length steps ≡ length filed
  filed_steps-length enter [] steps h = sym (ap length (none_filed steps h))
  filed_steps-length enter (f ∷ rest) steps h =
      let parts = are_filed airport enter f rest steps h in
      let e : length steps ≡ suc (length parts.later) = sym (ap length parts.whole) in
      omega (arith, e, filed_steps-length f.leave rest parts.later parts.after)

  -- they go by arcs of the airport
  pub filed_steps-arcs : (enter : ℕ) (filed : List FiledStep) (steps : List Step) → filed_steps airport enter filed ≡ Some steps
      → All (λ s. IsTrue (arc_exists (layout_of airport) s.arc)) steps
  filed_steps-arcs enter [] steps h = subst (All (λ s. IsTrue (arc_exists (layout_of airport) s.arc))) (none_filed steps h) (All-nil (λ s. IsTrue (arc_exists (layout_of airport) s.arc)))
  filed_steps-arcs enter (f ∷ rest) steps h =
      let parts = are_filed airport enter f rest steps h in
      subst (All (λ s. IsTrue (arc_exists (layout_of airport) s.arc))) parts.whole
      (All-cons (λ s. IsTrue (arc_exists (layout_of airport) s.arc)) (record { arc = parts.arc; enter = enter; leave = f.leave }) parts.later
      (arc_named-exists airport f.segment f.forward parts.arc parts.named) (filed_steps-arcs f.leave rest parts.later parts.after))

  filed_steps-joined_from : (enter : ℕ) (filed : List FiledStep) (steps : List Step) → filed_steps airport enter filed ≡ Some steps → AreJoinedFrom enter steps
  filed_steps-joined_from enter [] steps h = subst (AreJoinedFrom enter) (none_filed steps h) tt
  filed_steps-joined_from enter (f ∷ rest) steps h =
      let parts = are_filed airport enter f rest steps h in
      subst (AreJoinedFrom enter) parts.whole (refl, filed_steps-joined_from f.leave rest parts.later parts.after)

  -- and each enters when the one before leaves
  pub filed_steps-joined : (enter : ℕ) (filed : List FiledStep) (steps : List Step) → filed_steps airport enter filed ≡ Some steps → AreJoined steps
  filed_steps-joined enter filed steps h = AreJoinedFrom-AreJoined enter steps (filed_steps-joined_from enter filed steps h)
