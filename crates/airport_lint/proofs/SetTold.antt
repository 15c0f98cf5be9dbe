-- What is told of a set.
use Rattle.std.proofs.Common.{◌≡◌, ℕ, ◌&&◌, Bool, true, not, List, [], ◌∷◌, ◌++◌, get_or, nat_lt, if◌then◌else◌, sym, ◌∙◌, ap}
use Rattle.std.specs.Prelude.{◌==◌}
use Rattle.std.proofs.lemmas.Bool.{and_parts, and_from, not-true, eqb-true, eq-eqb}
use Rattle.taxi_base.specs.Airport.{Airport}
use Rattle.airport_lint.specs.declared.advice.Advice.{Advice}
use Rattle.airport_lint.specs.declared.advice.Advice.TheVariants.{SameSet, NeedlessSet}
use Rattle.airport_lint.specs.Sets.{first_like, needed_marks}
use Rattle.airport_lint.specs.Advice.{set_advice, Tells}
use Rattle.airport_lint.proofs.TellLaws.{tells-then, tells-one}

pub set-told : (airport : Airport) (at first : ℕ) (needed so : Bool) (old mid new : List Advice) → first ≡ first_like airport.conflicts at
    → needed ≡ get_or (needed_marks [] airport.conflicts) at true → so ≡ (first == at && not needed)
    → mid ≡ old ++ (if nat_lt first at then SameSet at first ∷ [] else []) → new ≡ mid ++ (if so then NeedlessSet at ∷ [] else []) → Tells airport (set_advice airport.conflicts at) old new
set-told airport at first needed so old mid new like marked is one other =
    let place = first_like airport.conflicts at in
    tells-then airport (SameSet at place) (nat_lt place at) (NeedlessSet at ∷ []) old mid new ((λ h. h), (λ h. h))
    (one ∙ ap (λ f. old ++ (if nat_lt f at then SameSet at f ∷ [] else [])) like)
    (tells-one airport (NeedlessSet at) so mid new (
      λ h. let parts = and_parts (first == at) (not needed) (sym is ∙ h) in (sym like ∙ eqb-true first at parts.0, sym marked ∙ not-true needed parts.1),
      λ h. is ∙ and_from (first == at) (not needed) (eq-eqb first at (like ∙ h.0)) (ap not (marked ∙ h.1)),
    ) other)
