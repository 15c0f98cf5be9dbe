-- What an offer to one cell does to its label and its key.
use Rattle.std.proofs.Common.{◌≡◌, ℕ, ◌<◌, ◌≤◌, List, length, set, Option, Some, None, IfSome, refl, sym, ap, ◌∙◌, inl, inr, arith}
use Rattle.std.proofs.lemmas.Grind.{get_or-set_at}
use Rattle.std.proofs.lemmas.List.{get_or-set_other, length-set}
use Rattle.std.proofs.lemmas.Bool.{cases_eq, cases_lt}
use Rattle.std.proofs.lemmas.Option.{none-some}
use Rattle.label_queue.specs.Keys.{key_of, lesser, lowered}
use Rattle.label_search.specs.declared.labels.Label.{Label}
use Rattle.label_search.specs.Labels.{Standing, label_of, IsOffered, IsImproved}
use Rattle.label_search.specs.Labels.IsOffered.{first, lower, kept}
use Rattle.label_search.specs.Queued.{HaveLabels}

offered_lower : (offer : Label) (old : Option Label) (key : Option ℕ) → IfSome old (λ l. offer.value < l.value) → IsOffered offer old key (Some offer) (Some (lesser key offer.value))
offered_lower offer None key less = first key
offered_lower offer (Some l) key less = lower l key less

offered_kept : (offer : Label) (old : Option Label) (key : Option ℕ) → (IfSome old (λ l. offer.value < l.value) → ⊥) → IsOffered offer old key old key
offered_kept offer None key not_less = absurd (not_less tt)
offered_kept offer (Some l) key not_less = kept l key (elim (cases_lt offer.value l.value) [ inl lt ↦ absurd (not_less lt) | inr le ↦ le ])

-- the label is as good as the old one, and as the offer
pub as_good_as_old : {offer : Label} {l m : Option Label} {i j : Option ℕ} → IsOffered offer l i m j → (old : Label) → l ≡ Some old → (x : Label) × (m ≡ Some x) × (x.value ≤ old.value)
as_good_as_old {offer} (first key) old is = absurd (let e : None ≡ Some old = is in cc)
as_good_as_old {offer} (lower o key less) old is = let e : Some o ≡ Some old = is in let same : o ≡ old = cc in (offer, refl, omega (arith, ap (λ l. l.value) same))
as_good_as_old (kept o key by) old is = (old, is, omega arith)

pub as_good_as_offer : {offer : Label} {l m : Option Label} {i j : Option ℕ} → IsOffered offer l i m j → (x : Label) × (m ≡ Some x) × (x.value ≤ offer.value)
as_good_as_offer {offer} (first key) = (offer, refl, omega arith)
as_good_as_offer {offer} (lower o key less) = (offer, refl, omega arith)
as_good_as_offer (kept o key by) = (o, refl, by)

module _ (s : Standing) (cell : ℕ) (offer : Label) (in_known : cell < length s.known) (in_keys : cell < length s.keys) where
  written : label_of (set s.known cell (Some offer)) cell ≡ Some offer
  written = get_or-set_at s.known cell cell (Some offer) None refl in_known

  -- both are written
  pub improved_lower : IfSome (label_of s.known cell) (λ l. offer.value < l.value)
      → IsImproved s (record { known = set s.known cell (Some offer); keys = lowered s.keys cell offer.value }) cell offer
  improved_lower less = record {
    lengths = record { known = length-set s.known cell (Some offer); keys = length-set s.keys cell (Some (lesser (key_of s.keys cell) offer.value)) };
    here =
        rw (written, get_or-set_at s.keys cell cell (Some (lesser (key_of s.keys cell) offer.value)) None refl in_keys)
        (offered_lower offer (label_of s.known cell) (key_of s.keys cell) less);
    elsewhere = λ x other. record {
      label = get_or-set_other s.known cell x (Some offer) None other;
      key = get_or-set_other s.keys cell x (Some (lesser (key_of s.keys cell) offer.value)) None other;
    };
  }

  -- neither is
  pub improved_not : (IfSome (label_of s.known cell) (λ l. offer.value < l.value) → ⊥) → IsImproved s s cell offer
  improved_not not_less = record {
    lengths = record { known = refl; keys = refl };
    here = offered_kept offer (label_of s.known cell) (key_of s.keys cell) not_less;
    elsewhere = λ x other. record { label = refl; key = refl };
  }

-- cells that have keys still have labels once a label is written
pub labels_written : (known : List (Option Label)) (keys : List (Option ℕ)) (cell : ℕ) (label : Label) → cell < length known → HaveLabels known keys
    → HaveLabels (set known cell (Some label)) keys
labels_written known keys cell label within have c none =
    elim (cases_eq c cell) [
      | inl same ↦ absurd (none-some label (sym none ∙ get_or-set_at known cell c (Some label) None same within))
      | inr other ↦ have c (sym (get_or-set_other known cell c (Some label) None other) ∙ none)
    ]
