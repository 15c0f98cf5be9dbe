-- Where a step of a filed route fails, the route is made, and the step is on a segment.
use Rattle.std.proofs.Common.{◌≡◌, ◌∙◌, ℕ, zero, suc, ◌-◌, ◌<◌, Bool, true, false, List, [], ◌∷◌, length, Option, Some, None, IsTrue, refl, sym, subst, inl, inr}
use Rattle.std.specs.Prelude.{slice_get, All, IfSome, IsSome, ◌⊎◌}
use Rattle.std.proofs.lemmas.List.Elements.{All-head, All-tail}
use Rattle.taxi_base.specs.declared.rows.Step.{Step}
use Rattle.taxi_base.specs.declared.answers.StepFault.{StepFault}
use Rattle.taxi_base.specs.declared.answers.Refusal.{Refusal}
use Rattle.taxi_base.specs.declared.answers.Refusal.TheVariants as refusal
use Rattle.taxi_base.specs.Airport.{Airport, segment_of, arc_exists, layout_of}
use Rattle.taxi_base.specs.State.{State}
use Rattle.taxi_base.proofs.AirportLaws.{arc_exists-segment}
use Rattle.taxi_text.specs.declared.command.Filed.{Filed}
use Rattle.taxi_text.specs.declared.command.Command.TheVariants as command
use Rattle.replies.specs.Asked.{route_filed}
use Rattle.replies.specs.Refusals.{first_refusal, first_of, refused_if, in_force, unknown_class, unknown_arc, full, step_fails}
use Rattle.replies.proofs.FiledLaws.{filed_steps-arcs}

at-place : {A : Type 0} (P : A → Type 0) (xs : List A) (i : ℕ) (x : A) → All P xs → slice_get xs i ≡ Some x → P x
at-place P [] i x all found = absurd (cc found)
at-place P (y ∷ ys) zero x all found = let is : y ≡ x = cc found in subst P is (All-head P y ys all)
at-place P (y ∷ ys) (suc i) x all found = at-place P ys i x (All-tail P y ys all) found

-- ---- the route is made where a step of it fails

refused-as : (t : Bool) (x w : Refusal) → refused_if t x ≡ Some w → x ≡ w
refused-as true x w e = cc e
refused-as false x w e = absurd (cc e)

third-of : (a b c : Option Refusal) (why w : Refusal) (tests : List (Option Refusal)) → c ≡ Some why → first_of (a ∷ b ∷ c ∷ tests) ≡ Some w
    → (a ≡ Some w) ⊎ ((b ≡ Some w) ⊎ (why ≡ w))
third-of (Some a) b c why w tests is e = inl e
third-of None (Some b) c why w tests is e = inr (inl e)
third-of None None (Some c) why w tests is e = let x : c ≡ why = cc is in let y : c ≡ w = cc e in inr (inr (sym x ∙ y))
third-of None None None why w tests is e = absurd (cc is)

pub file-made : (airport : Airport) (state : State) (filed : Filed) (fault : StepFault) → first_refusal airport state (command.File filed) ≡ Some (refusal.Step fault)
    → IsSome (route_filed airport filed)
file-made airport state filed fault refused = of (route_filed airport filed) refl where
  of : (o : Option (List Step)) → route_filed airport filed ≡ o → IsSome o
  of (Some steps) e = refl
  of None e =
      elim (third-of (in_force state filed.flight) (unknown_class airport filed.class) (unknown_arc airport filed) refusal.UnknownSegment (refusal.Step fault)
      (full state ∷ step_fails airport state filed ∷ []) (rw e refl) refused) [
        | inl x ↦ absurd (cc (refused-as _ refusal.InForce (refusal.Step fault) x))
        | inr rest ↦ elim rest [
          | inl x ↦ absurd (cc (refused-as _ refusal.UnknownClass (refusal.Step fault) x))
          | inr x ↦ absurd (cc x)
        ]
      ]

-- ---- the step of a number

module _ (airport : Airport) (filed : Filed) (number : ℕ) (step : Step) (made : IsSome (route_filed airport filed)) (is : IfSome (route_filed airport filed) (λ steps. Some step ≡ slice_get steps (number - 1))) where
  pub step-segment : (segment_of step.arc).0 < length airport.segments
  step-segment = of (route_filed airport filed) refl made is where
    of : (r : Option (List Step)) → route_filed airport filed ≡ r → IsSome r → IfSome r (λ steps. Some step ≡ slice_get steps (number - 1)) → (segment_of step.arc).0 < length airport.segments
    of None e some h = absurd (cc some)
    of (Some steps) e some h =
        arc_exists-segment airport step.arc (at-place (λ s. IsTrue (arc_exists (layout_of airport) s.arc)) steps (number - 1) step (filed_steps-arcs airport filed.start filed.steps steps e) (sym h))
