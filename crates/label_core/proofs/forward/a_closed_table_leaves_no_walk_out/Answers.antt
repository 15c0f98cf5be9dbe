use Rattle.std.proofs.Common.{◌≡◌, ℕ, Option, Some, None, sym, ◌∙◌}
use Rattle.label_core.proofs.NoneSooner.{none_sooner, none_at_all}
use Rattle.label_core.proofs.forward.a_closed_table_leaves_no_walk_out.Goals as goal

no_row : {C : Type 0} (row : C → Option ℕ) (c : C) (v : ℕ) → row c ≡ None → row c ≡ Some v → ⊥
no_row row c v none some = let e : None ≡ Some v = sym none ∙ some in cc

pub returns-clause-sooner : goal.returns-clause-sooner
returns-clause-sooner g c net starts row bound takes closed =
    none_sooner net starts (λ x v. row x ≡ Some v) (λ x. row x ≡ None) takes (no_row row) bound closed

pub returns-clause-at_all : goal.returns-clause-at_all
returns-clause-at_all g c net starts row takes closed =
    none_at_all net starts (λ x v. row x ≡ Some v) (λ x. row x ≡ None) takes (no_row row) closed
