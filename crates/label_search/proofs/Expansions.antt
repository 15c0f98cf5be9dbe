-- Expanding a cell to one next cell after another.
use Rattle.std.proofs.Common.{◌≡◌, ℕ, Option, refl, sym, ◌∙◌, subst, ◌⊎◌, inl, inr, arith}
use Rattle.std.proofs.lemmas.Bool.{cases_eq}
use Rattle.label_core.specs.Walks.{Network}
use Rattle.label_core.specs.Labels.{IsExpansion}
use Rattle.label_core.specs.Tables.{HasAsGood}
use Rattle.label_search.specs.declared.labels.Label.{Label}
use Rattle.label_search.specs.Labels.{Standing, HasValue, IsOffered, IsImproved, Same, WasOffered}
use Rattle.label_search.specs.Labels.IsOffered.{first, lower, kept}
use Rattle.label_search.specs.Expanding.{label_by, WasExpandedTo, IsExpanded}
use Rattle.label_search.proofs.Offers.{as_good_as_old, as_good_as_offer}

-- an offer that is made again changes nothing
twice : {offer : Label} {l m n : Option Label} {i j k : Option ℕ} → IsOffered offer l i m j → IsOffered offer m j n k → IsOffered offer l i n k
twice {offer} (first key) (lower old key' less) = absurd (omega arith)
twice {offer} (first key) (kept old key' by) = first key
twice {offer} (lower old key less) (lower old' key' less') = absurd (omega arith)
twice {offer} (lower old key less) (kept old' key' by) = lower old key less
twice {offer} (kept old key by) (lower old' key' less') = absurd (omega arith)
twice {offer} (kept old key by) (kept old' key' by') = kept old key by

-- what stands as it did, or was offered something, has a label as good as before
pub good_still : (network : Network ℕ) (c v : ℕ) (old new : Standing) (d t : ℕ) → Same old new d ⊎ WasExpandedTo network c v old new d → HasAsGood (HasValue old.known) d t → HasAsGood (HasValue new.known) d t
good_still network c v old new d t (inl same) has = (has.0, (has.1.0, same.label ∙ has.1.1, has.1.2), has.2)
good_still network c v old new d t (inr to) has = let x = as_good_as_old to.offered has.1.0 has.1.1 in (x.0.value, (x.0, x.1, refl), omega (arith, x.2, has.1.2, has.2))

module _ (network : Network ℕ) (c v : ℕ) where
  -- a cell has one expansion at most
  expansion_single : (d t u : ℕ) → IsExpansion network c v d t → IsExpansion network c v d u → t ≡ u
  expansion_single d t u one two = omega (arith, one.value, two.value)

  same_here : (s : Standing) (d : ℕ) → Same s s d
  same_here s d = record { label = refl; key = refl }

  -- nothing changes where all have labels as good
  pub expanded_not : (IsDone : ℕ → Type 0) (s : Standing) → ((d t : ℕ) → IsDone d → IsExpansion network c v d t → HasAsGood (HasValue s.known) d t) → IsExpanded network c v IsDone s s
  expanded_not IsDone s done = record { lengths = record { known = refl; keys = refl }; each = λ d. inl (same_here s d); done = done }

  -- it was offered its expansion
  pub expanded_offer : (old new : Standing) (next t : ℕ) → IsExpansion network c v next t → IsImproved old new next (label_by c t) → IsExpanded network c v (λ d. d ≡ next) old new
  expanded_offer old new next t e improved = record {
    lengths = improved.lengths;
    each = λ d. elim (cases_eq d next) [
      | inl same ↦ inr (subst (λ x. WasExpandedTo network c v old new x) (sym same) (record { value = t; expands = e; offered = improved.here }))
      | inr other ↦ inl (improved.elsewhere d other)
    ];
    done = λ d u same e'. (
        let moved : IsExpansion network c v next u = subst (λ x. IsExpansion network c v x u) same e' in
        let good = as_good_as_offer improved.here in
        subst (λ x. HasAsGood (HasValue new.known) x u) (sym same) (good.0.value, (good.0, good.1, refl), omega (arith, good.2, expansion_single next t u e moved)));
  }

  module _ (A B : ℕ → Type 0) (old mid new : Standing) (one : IsExpanded network c v A old mid) (two : IsExpanded network c v B mid new) where
    offered_since : (d : ℕ) (offer : Label) → Same old mid d → WasOffered mid new d offer → WasOffered old new d offer
    offered_since d offer same offered = rw (sym same.label, sym same.key) offered

    offered_until : (d : ℕ) (offer : Label) → WasOffered old mid d offer → Same mid new d → WasOffered old new d offer
    offered_until d offer offered same = rw (same.label, same.key) offered

    offered_both : (d t : ℕ) → IsExpansion network c v d t → WasOffered old mid d (label_by c t) → WasExpandedTo network c v mid new d → WasOffered old new d (label_by c t)
    offered_both d t e offered to =
        let again : WasOffered mid new d (label_by c t) = subst (λ n. WasOffered mid new d (label_by c n)) (expansion_single d to.value t to.expands e) to.offered in
        twice offered again

    each_then : (d : ℕ) → Same old mid d ⊎ WasExpandedTo network c v old mid d → Same mid new d ⊎ WasExpandedTo network c v mid new d → Same old new d ⊎ WasExpandedTo network c v old new d
    each_then d (inl a) (inl b) = inl (record { label = b.label ∙ a.label; key = b.key ∙ a.key })
    each_then d (inl a) (inr b) = inr (record { value = b.value; expands = b.expands; offered = offered_since d (label_by c b.value) a b.offered })
    each_then d (inr a) (inl b) = inr (record { value = a.value; expands = a.expands; offered = offered_until d (label_by c a.value) a.offered b })
    each_then d (inr a) (inr b) = inr (record { value = a.value; expands = a.expands; offered = offered_both d a.value a.expands a.offered b })

    -- one after the other
    pub expanded_then : (D : ℕ → Type 0) → ((d t : ℕ) → D d → IsExpansion network c v d t → A d ⊎ B d) → IsExpanded network c v D old new
    expanded_then D split = record {
      lengths = record { known = two.lengths.known ∙ one.lengths.known; keys = two.lengths.keys ∙ one.lengths.keys };
      each = λ d. each_then d (one.each d) (two.each d);
      done = λ d t is e. elim (split d t is e) [ inl a ↦ good_still network c v mid new d t (two.each d) (one.done d t a e) | inr b ↦ two.done d t b e ];
    }

  -- the same cells in other words
  pub expanded_as : (A D : ℕ → Type 0) (old new : Standing) → IsExpanded network c v A old new → ((d t : ℕ) → D d → IsExpansion network c v d t → A d) → IsExpanded network c v D old new
  expanded_as A D old new expanded is_in = record {
    lengths = expanded.lengths;
    each = expanded.each;
    done = λ d t is e. expanded.done d t (is_in d t is e) e;
  }

  -- none yet
  pub expanded_none : (A : ℕ → Type 0) (s : Standing) → ((d : ℕ) → A d → ⊥) → IsExpanded network c v A s s
  expanded_none A s none = expanded_not A s (λ d t is e. absurd (none d is))
