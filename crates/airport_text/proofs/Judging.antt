-- Records that are let through one after the other.
use Rattle.std.proofs.Common.{◌≡◌, ℕ, ◌+◌, List, [], ◌∷◌, ◌++◌, Some, Ok, refl, sym, subst}
use Rattle.airport_rules.specs.declared.version.Version.TheVariants.{Two}
use Rattle.airport_rules.specs.Plan.{Plan, airport_of_plan}
use Rattle.airport_rules.specs.Rules.{judge}
use Rattle.airport_file.specs.Reading.{judged_after, finished}
use Rattle.airport_text.specs.Canonical.{Fields}

-- the rules let the records through after a plan, and give a new one
abbrev pub AreTaken : Plan → List Fields → Plan → Type 0
AreTaken plan [] new = plan ≡ new
AreTaken plan (fields ∷ rest) new = (next : Plan) × (judge Two plan fields ≡ Ok next) × AreTaken next rest new

pub taken-append : (plan middle new : Plan) (first second : List Fields) → AreTaken plan first middle → AreTaken middle second new → AreTaken plan (first ++ second) new
taken-append plan middle new [] second h k = subst (λ p. AreTaken p second new) (sym h) k
taken-append plan middle new (fields ∷ first) second h k = (h.0, h.1, taken-append h.0 middle new first second h.2 k)

-- then their airport is read
pub taken-read : (last horizon : ℕ) (plan new : Plan) (records : List Fields) → AreTaken plan records new → new.horizon ≡ Some horizon
    → judged_after Two last plan records ≡ Ok (airport_of_plan horizon new)
taken-read last horizon plan new [] h given = subst (λ p. finished last p p.horizon ≡ Ok (airport_of_plan horizon new)) (sym h) (rw given refl)
taken-read last horizon plan new (fields ∷ rest) h given = rw h.1 (taken-read (last + 1) horizon h.0 new rest h.2 given)
