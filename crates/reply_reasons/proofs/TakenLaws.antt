-- The step of a filed route, by its place; and what is told of a refusal.
use Rattle.std.proofs.Common.{◌≡◌, ◌∙◌, ℕ, zero, suc, ◌-◌, ◌==◌, Bool, false, List, [], ◌∷◌, Option, Some, None, option_map, if◌then◌else◌, refl, sym, ap, arith}
use Rattle.std.specs.Prelude.{slice_get, IfSome, IsSome}
use Rattle.std.specs.Option.{option_map_or}
use Rattle.std.proofs.lemmas.Bool.Decides.{nat_tests}
use Rattle.taxi_base.specs.declared.rows.Step.{Step}
use Rattle.taxi_base.specs.declared.numbers.Arc.{Arc}
use Rattle.taxi_base.specs.Airport.{Airport, arc_named}
use Rattle.taxi_text.specs.declared.command.Filed.{Filed}
use Rattle.taxi_text.specs.declared.command.FiledStep.{FiledStep}
use Rattle.replies.specs.Asked.{filed_steps, route_filed}
use Rattle.replies.proofs.FiledLaws.{and_then-some, map-some}
use Rattle.reply_reasons.specs.Taken.{entered}

-- the step at a place: by the arc of its pair, entered when the pair before is left
abbrev pub entered_at : ℕ → List FiledStep → ℕ → ℕ
entered_at start pairs place = if place == 0 then start else option_map_or (λ before. before.leave) (slice_get pairs (place - 1)) 0

entered-later : (start : ℕ) (pairs : List FiledStep) (k : ℕ) → entered_at start pairs (suc k) ≡ option_map_or (λ (b : FiledStep). b.leave) (slice_get pairs k) 0
entered-later start pairs k =
    let other : (suc k == 0) ≡ false = grind (arith, nat_tests) in
    let less : suc k - 1 ≡ k = omega arith in
    ap (λ (t : Bool). if t then start else option_map_or (λ (b : FiledStep). b.leave) (slice_get pairs (suc k - 1)) 0) other
    ∙ ap (λ (i : ℕ). option_map_or (λ (b : FiledStep). b.leave) (slice_get pairs i) 0) less

pub step-at : (airport : Airport) (start : ℕ) (pairs : List FiledStep) (steps : List Step) (place : ℕ) (pair : FiledStep) → filed_steps airport start pairs ≡ Some steps
    → slice_get pairs place ≡ Some pair → (arc : Arc) × (arc_named airport pair.segment pair.forward ≡ Some arc)
    × (slice_get steps place ≡ Some (record { arc = arc; enter = entered_at start pairs place; leave = pair.leave }))
step-at airport start [] steps place pair filed found = absurd (cc found)
step-at airport start (first ∷ pairs) steps place pair filed found =
    let one = and_then-some (λ arc. option_map (λ later. record { arc = arc; enter = start; leave = first.leave } ∷ later) (filed_steps airport first.leave pairs))
    (arc_named airport first.segment first.forward) steps filed in
    let two = map-some (λ later. record { arc = one.0; enter = start; leave = first.leave } ∷ later) (filed_steps airport first.leave pairs) steps one.2 in
    at place found one.0 one.1 two.0 two.1 two.2 (λ k there. step-at airport first.leave pairs two.0 k pair two.1 there)
  where
    at : (place : ℕ) → slice_get (first ∷ pairs) place ≡ Some pair → (arc : Arc) → arc_named airport first.segment first.forward ≡ Some arc → (later : List Step)
        → filed_steps airport first.leave pairs ≡ Some later → record { arc = arc; enter = start; leave = first.leave } ∷ later ≡ steps
        → ((k : ℕ) → slice_get pairs k ≡ Some pair → (a : Arc) × (arc_named airport pair.segment pair.forward ≡ Some a)
        × (slice_get later k ≡ Some (record { arc = a; enter = entered_at first.leave pairs k; leave = pair.leave })))
        → (a : Arc) × (arc_named airport pair.segment pair.forward ≡ Some a)
        × (slice_get steps place ≡ Some (record { arc = a; enter = entered_at start (first ∷ pairs) place; leave = pair.leave }))
    at zero found arc named later behind whole rest_at =
        let is : first ≡ pair = cc found in (
          arc,
          ap (λ (p : FiledStep). arc_named airport p.segment p.forward) (sym is) ∙ named,
          ap (λ (s : List Step). slice_get s 0) (sym whole) ∙ ap (λ (p : FiledStep). Some (record { arc = arc; enter = start; leave = p.leave })) is,
        )
    at (suc place) found arc named later behind whole rest_at =
        let rest = rest_at place found in
        (rest.0, rest.1, ap (λ (s : List Step). slice_get s (suc place)) (sym whole) ∙ rest.2 ∙ ap (λ (e : ℕ). Some (record { arc = rest.0; enter = e; leave = pair.leave })) (later_enter place))
      where
        later_enter : (place : ℕ) → entered_at first.leave pairs place ≡ entered_at start (first ∷ pairs) (suc place)
        later_enter zero = refl
        later_enter (suc place) = entered-later first.leave pairs place ∙ sym (entered-later start (first ∷ pairs) (suc place))

-- where there is no pair at a place, there is no step
pub step-none : (airport : Airport) (start : ℕ) (pairs : List FiledStep) (steps : List Step) (place : ℕ) → filed_steps airport start pairs ≡ Some steps
    → slice_get pairs place ≡ None → slice_get steps place ≡ None
step-none airport start [] steps place filed past = let none : [] ≡ steps = cc filed in ap (λ (s : List Step). slice_get s place) (sym none)
step-none airport start (first ∷ pairs) steps zero filed past = absurd (cc past)
step-none airport start (first ∷ pairs) steps (suc place) filed past =
    let one = and_then-some (λ arc. option_map (λ later. record { arc = arc; enter = start; leave = first.leave } ∷ later) (filed_steps airport first.leave pairs))
    (arc_named airport first.segment first.forward) steps filed in
    let two = map-some (λ later. record { arc = one.0; enter = start; leave = first.leave } ∷ later) (filed_steps airport first.leave pairs) steps one.2 in
    ap (λ (s : List Step). slice_get s (suc place)) (sym two.2) ∙ step-none airport first.leave pairs two.0 place two.1 past

-- what is so of whatever there is
pub if-some : {A : Type 0} (P : A → Type 0) (o : Option A) → ((a : A) → o ≡ Some a → P a) → IfSome o P
if-some P None all = tt
if-some P (Some a) all = all a refl

-- an option that gives nothing for a pair, and one that gives an arc
pub no-pair : (airport : Airport) (filed : Filed) (place : ℕ) → slice_get filed.steps place ≡ None → (o : Option Step) → o ≡ None
    → IfSome (route_filed airport filed) (λ steps. o ≡ slice_get steps place)
no-pair airport filed place past o none =
    if-some (λ (steps : List Step). o ≡ slice_get steps place) (route_filed airport filed) (λ steps made. none ∙ sym (step-none airport filed.start filed.steps steps place made past))

pub no-arc : (airport : Airport) (filed : Filed) (place : ℕ) (pair : FiledStep) → slice_get filed.steps place ≡ Some pair → arc_named airport pair.segment pair.forward ≡ None
    → IsSome (route_filed airport filed) → (P : List Step → Type 0) → IfSome (route_filed airport filed) P
no-arc airport filed place pair found none some P =
    if-some P (route_filed airport filed) (λ steps made. let at = step-at airport filed.start filed.steps steps place pair made found in absurd (cc (sym none ∙ at.1)))

pub the-step : (airport : Airport) (filed : Filed) (place : ℕ) (pair : FiledStep) (arc : Arc) → slice_get filed.steps place ≡ Some pair → arc_named airport pair.segment pair.forward ≡ Some arc
    → (enter : ℕ) → enter ≡ entered filed place
    → IfSome (route_filed airport filed) (λ steps. Some (record { arc = arc; enter = enter; leave = pair.leave }) ≡ slice_get steps place)
the-step airport filed place pair arc found named enter is =
    if-some (λ (steps : List Step). Some (record { arc = arc; enter = enter; leave = pair.leave }) ≡ slice_get steps place) (route_filed airport filed) (λ steps made.
    let at = step-at airport filed.start filed.steps steps place pair made found in
    let same : arc ≡ at.0 = cc (sym named ∙ at.1) in
    ap (λ (e : ℕ). Some (record { arc = arc; enter = e; leave = pair.leave })) is ∙ ap (λ (a : Arc). Some (record { arc = a; enter = entered filed place; leave = pair.leave })) same ∙ sym at.2)
