-- That something is told in each entry, as a test and as a fact.
use Rattle.std.proofs.Common.{◌∷◌, [], ℕ, List, refl, IsTrue}
use Rattle.std.specs.Prelude.{◌↔◌, All}
use Rattle.std.specs.List.{list_all}
use Rattle.std.proofs.lemmas.List.Elements.{All-nil, All-cons, All-head, All-tail}
use Rattle.replies.specs.declared.entries.Entry.{Entry}
use Rattle.replies.specs.declared.entries.Entry.TheVariants as entry
use Rattle.replies.specs.Printable.{IsTold, is_told}

pub told-all : (entries : List (List ℕ × Entry)) → IsTrue (list_all is_told entries) ↔ All IsTold entries
told-all [] = (λ _. All-nil IsTold, λ _. refl)
told-all ((name, entry.Route second steps labels) ∷ entries) = (
  λ e. All-cons IsTold _ entries tt ((told-all entries).0 e),
  λ all. (told-all entries).1 (All-tail IsTold _ entries all),
)
told-all ((name, entry.NoRoute labels) ∷ entries) = (
  λ e. All-cons IsTold _ entries tt ((told-all entries).0 e),
  λ all. (told-all entries).1 (All-tail IsTold _ entries all),
)
told-all ((name, entry.Dropped) ∷ entries) = (λ e. absurd (cc e), λ all. absurd (All-head IsTold _ entries all))
