-- What is told, one thing after the other.
use Rattle.std.proofs.Common.{◌≡◌, ◌↔◌, ℕ, suc, ◌+◌, ◌<◌, Bool, true, false, List, [], ◌∷◌, ◌++◌, length, get_or, take, not, ◌&&◌, IsTrue, IsFalse, if◌then◌else◌, inl, inr, refl, sym, ◌∙◌, ap, arith, append_assoc, append-nil}
use Rattle.std.specs.Prelude.{flat_map}
use Rattle.std.proofs.lemmas.Bool.{false≢true, and_parts, and_from, not-true, not_from_false, false_from_ne_true, both_ways}
use Rattle.std.proofs.lemmas.List.{take_more}
use Rattle.std.proofs.lemmas.Grind.{flat_map-append}
use Rattle.taxi_base.specs.Airport.{Airport}
use Rattle.airport_lint.specs.declared.advice.Advice.{Advice}
use Rattle.airport_lint.specs.Advice.{IsSo, below, AreTold, Tells}

told-both : (airport : Airport) (these those told more : List Advice) → AreTold airport these told → AreTold airport those more → AreTold airport (these ++ those) (told ++ more)
told-both airport [] those told more one other = rw one other
told-both airport (advice ∷ these) those told more (inl (so, after, is, rest)) other =
    inl (so, after ++ more, ap (λ t. t ++ more) is, told-both airport these those after more rest other)
told-both airport (advice ∷ these) those told more (inr (never, rest)) other = inr (never, told-both airport these those told more rest other)

pub tells-both : (airport : Airport) (these those old mid new : List Advice) → Tells airport these old mid → Tells airport those mid new → Tells airport (these ++ those) old new
tells-both airport these those old mid new (told, one, is) (more, other, also) =
    (told ++ more, told-both airport these those told more one other, also ∙ ap (λ t. t ++ more) is ∙ append_assoc old told more)

-- one thing, if it is so
pub tells-one : (airport : Airport) (advice : Advice) (is_so : Bool) (old new : List Advice) → IsTrue is_so ↔ IsSo airport advice → new ≡ old ++ (if is_so then advice ∷ [] else [])
    → Tells airport (advice ∷ []) old new
tells-one airport advice true old new same is = (advice ∷ [], inl (same.0 refl, [], refl, refl), is)
tells-one airport advice false old new same is = ([], inr (λ so. absurd (false≢true (same.1 so)), refl), is)

-- one thing before others
pub tells-then : (airport : Airport) (advice : Advice) (is_so : Bool) (rest old mid new : List Advice) → IsTrue is_so ↔ IsSo airport advice → mid ≡ old ++ (if is_so then advice ∷ [] else [])
    → Tells airport rest mid new → Tells airport (advice ∷ rest) old new
tells-then airport advice is_so rest old mid new same is others = tells-both airport (advice ∷ []) rest old mid new (tells-one airport advice is_so old mid same is) others

-- one number more
pub tells-below : (airport : Airport) (each : ℕ → List Advice) (n : ℕ) (old mid new : List Advice) → Tells airport (below n each) old mid → Tells airport (each n) mid new
    → Tells airport (below (n + 1) each) old new
tells-below airport each n old mid new so_far next =
    let more : n + 1 ≡ suc n = omega arith in rw more (tells-both airport (below n each) (each n) old mid new so_far next)

-- one item more
pub tells-item : {X : Type 0} (airport : Airport) (each : X → List Advice) (xs : List X) (i : ℕ) (d : X) (old mid new : List Advice) → i < length xs
    → Tells airport (flat_map each (take i xs)) old mid → Tells airport (each (get_or xs i d)) mid new → Tells airport (flat_map each (take (i + 1) xs)) old new
tells-item airport each xs i d old mid new low so_far next =
    let all : flat_map each (take (i + 1) xs) ≡ flat_map each (take i xs) ++ each (get_or xs i d) =
    ap (flat_map each) (take_more xs i d low) ∙ flat_map-append each (take i xs) (get_or xs i d ∷ []) ∙ ap (λ t. flat_map each (take i xs) ++ t) (append-nil (each (get_or xs i d))) in
    rw all (tells-both airport (flat_map each (take i xs)) (each (get_or xs i d)) old mid new so_far next)

-- what is so where a test fails, and where one passes and another fails
pub denied : (test of : Bool) → test ≡ of → IsTrue (not test) ↔ IsFalse of
denied test of is = (λ e. sym is ∙ not-true test e, λ f. ap not (is ∙ f))

pub no-way : (so test of gets : Bool) (P : Type 0) → so ≡ (test && not gets) → test ≡ of → IsTrue gets ↔ P → IsTrue so ↔ (IsTrue of × (P → ⊥))
no-way so test of gets P is same gets_there = (
  λ e. let parts = and_parts test (not gets) (sym is ∙ e) in (sym same ∙ parts.0, λ p. both_ways _ (not-true gets parts.1) (gets_there.1 p)),
  λ h. is ∙ and_from test (not gets) (same ∙ h.0) (not_from_false gets (false_from_ne_true gets (λ e. h.1 (gets_there.0 e)))),
)

-- from nothing told
pub tells-first : (airport : Airport) (all old new : List Advice) → old ≡ [] → Tells airport all old new → AreTold airport all new
tells-first airport all old new none (told, are, is) = rw (is, none) are
