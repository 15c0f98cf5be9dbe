-- How a label is told by two numbers, if there is one.
use Rattle.std.specs.Prelude.{◌≡◌, ℕ, ◌==◌, Bool, true, false, Option, None, Some}
use Rattle.std.proofs.Common.{refl, sym}
use Rattle.std.proofs.lemmas.Bool.{eqb-true}
use Rattle.label_search.specs.declared.labels.Label.{Label}

-- the number that is no label's value
abbrev pub no_value : ℕ
no_value = 4294967295

abbrev pub label_unless : Bool → ℕ → ℕ → Option Label
label_unless true value via = None
label_unless false value via = Some (record { value = value; via = via })

-- the label with this value, which came by this cell; none where the number is no value
abbrev pub label_told : ℕ → ℕ → Option Label
label_told value via = label_unless (value == no_value) value via

abbrev pub told_value : Option Label → ℕ
told_value None = no_value
told_value (Some l) = l.value

abbrev pub told_via : Option Label → ℕ
told_via None = 0
told_via (Some l) = l.via

-- where no label is told, the other number is 0
abbrev pub IsTold : ℕ → ℕ → Type 0
IsTold value via = value ≡ no_value → via ≡ 0

pub told_value-label_told : (value via : ℕ) → told_value (label_told value via) ≡ value
told_value-label_told value via = go (value == no_value) refl
  where
    go : (b : Bool) → (value == no_value) ≡ b → told_value (label_unless b value via) ≡ value
    go true same = sym (eqb-true value no_value same)
    go false other = refl

pub told_via-label_told : (value via : ℕ) → IsTold value via → told_via (label_told value via) ≡ via
told_via-label_told value via is = go (value == no_value) refl
  where
    go : (b : Bool) → (value == no_value) ≡ b → told_via (label_unless b value via) ≡ via
    go true same = sym (is (eqb-true value no_value same))
    go false other = refl
