-- All the records of a text are one list, which `records` computes.
use Rattle.std.proofs.Common.{◌≡◌, ◌<◌, ◌≤◌, ◌+◌, ◌∷◌, ◌∙◌, [], ℕ, zero, suc, List, Some, None, refl, sym, ap, subst, arith, length, true, false, inl, inr, ◌==◌, ◌&&◌, Bool, if◌then◌else◌}
use Rattle.std.proofs.lemmas.Bool.{cases_Bool}
use Rattle.csv.specs.Machine.{next_record, Read, step, is_end, fields_after, field_after, ends_at_end, after_end, in_field, start_field, start_record, ends_with, is_byte}
use Rattle.csv.specs.Reading.{AreRecords, Reached, records, records_from, strip_bom, is_bom}
use Rattle.csv.specs.declared.parser.Config.{Config}
use Rattle.csv.specs.declared.parser.Terminator.{Terminator}
use Rattle.csv.specs.declared.parser.Terminator.TheVariants as term
use Rattle.csv.specs.declared.parser.Action.{Action}
use Rattle.csv.specs.declared.parser.Action.TheVariants as act
use Rattle.csv.specs.declared.parser.State.{State}
use Rattle.csv.specs.declared.parser.State.TheVariants as st

-- a record leaves no more bytes than there were
rest-le : (cfg : Config) (s : State) (fields : List (List ℕ)) (field xs : List ℕ) (q : Read)
    → next_record cfg s fields field xs ≡ Some q → length q.2 ≤ length xs
unfolding next_record
rest-le cfg s fields field [] q e = elim (cases_Bool (ends_at_end s)) [
  | inl ends ↦ let out = rw ends at e in grind (arith, out)
  | inr goes ↦ let out = rw goes at e in cc out
]
rest-le cfg s fields field (c ∷ rest) q e = elim (cases_Bool (is_end (step cfg s c).1)) [
  | inl ends ↦ let out = rw ends at e in grind (arith, out)
  | inr goes ↦
      let out = rw goes at e in
      let h = rest-le cfg (step cfg s c).0 (fields_after (step cfg s c).1 fields field) (field_after (step cfg s c).1 c field) rest q out in
      omega (arith, h)
]

-- and where there is a byte, fewer
pub rest-lt : (cfg : Config) (s : State) (fields : List (List ℕ)) (field : List ℕ) (c : ℕ) (rest : List ℕ) (q : Read)
    → next_record cfg s fields field (c ∷ rest) ≡ Some q → length q.2 ≤ length rest
unfolding next_record
rest-lt cfg s fields field c rest q e = elim (cases_Bool (is_end (step cfg s c).1)) [
  | inl ends ↦ let out = rw ends at e in grind (arith, out)
  | inr goes ↦ rest-le cfg (step cfg s c).0 (fields_after (step cfg s c).1 fields field) (field_after (step cfg s c).1 c field) rest q (rw goes at e)
]

-- an end of a record leads to a state in which the end of the text ends none
end-state : (t : Terminator) (c : ℕ) → ends_at_end (after_end t c) ≡ false
end-state term.CRLF c = elim (cases_Bool (c == 13)) [ inl e ↦ rw e refl | inr e ↦ rw e refl ]
end-state (term.Any x) c = refl

-- a step that ends a record leads to such a state
abbrev Good : State × Action → Type 0
Good p = is_end p.1 ≡ true → ends_at_end p.0 ≡ false

good-if : (b : Bool) (x y : State × Action) → Good x → Good y → Good (if b then x else y)
good-if true x y f g = f
good-if false x y f g = g

in-field : (cfg : Config) (c : ℕ) → Good (in_field cfg c)
in-field cfg c = good-if (c == cfg.delimiter) (st.StartField, act.EndField) _ (λ e. cc e)
    (good-if (ends_with cfg.terminator c) (after_end cfg.terminator c, act.EndRecord) (st.InField, act.Copy) (λ e. end-state cfg.terminator c) (λ e. cc e))

start-field : (cfg : Config) (c : ℕ) → Good (start_field cfg c)
start-field cfg c = good-if (cfg.quoting && (c == cfg.quote)) (st.InQuoted, act.Skip) (in_field cfg c) (λ e. cc e) (in-field cfg c)

start-record : (cfg : Config) (c : ℕ) → Good (start_record cfg c)
start-record cfg c = good-if (ends_with cfg.terminator c) (st.StartRecord, act.Skip) _ (λ e. cc e)
    (good-if (is_byte cfg.comment c) (st.InComment, act.Skip) (start_field cfg c) (λ e. cc e) (start-field cfg c))

end-step : (cfg : Config) (s : State) (c : ℕ) → Good (step cfg s c)
end-step cfg st.StartRecord c = start-record cfg c
end-step cfg st.StartField c = start-field cfg c
end-step cfg st.InField c = in-field cfg c
end-step cfg st.InQuoted c = good-if (cfg.quoting && (c == cfg.quote)) (st.AfterQuote, act.Skip) _ (λ e. cc e)
    (good-if (cfg.quoting && is_byte cfg.escape c) (st.InEscape, act.Skip) (st.InQuoted, act.Copy) (λ e. cc e) (λ e. cc e))
end-step cfg st.InEscape c = λ e. cc e
end-step cfg st.AfterQuote c = good-if (cfg.quoting && cfg.double_quote && (c == cfg.quote)) (st.InQuoted, act.Copy) (in_field cfg c) (λ e. cc e) (in-field cfg c)
end-step cfg st.InComment c = good-if (c == 10) (st.StartRecord, act.Skip) (st.InComment, act.Skip) (λ e. cc e) (λ e. cc e)
end-step cfg st.AfterCr c = good-if (c == 10) (st.StartRecord, act.Skip) (start_record cfg c) (λ e. cc e) (start-record cfg c)

-- after a record the end of the text ends none
pub good-after : (cfg : Config) (s : State) (fields : List (List ℕ)) (field xs : List ℕ) (q : Read)
    → next_record cfg s fields field xs ≡ Some q → ends_at_end q.1 ≡ false
unfolding next_record
good-after cfg s fields field [] q e = elim (cases_Bool (ends_at_end s)) [
  | inl ends ↦ let out = rw ends at e in let same : st.StartRecord ≡ q.1 = grind (arith, out) in subst (λ (z : State). ends_at_end z ≡ false) same refl
  | inr goes ↦ cc (rw goes at e)
]
good-after cfg s fields field (c ∷ rest) q e = elim (cases_Bool (is_end (step cfg s c).1)) [
  | inl ends ↦ let out = rw ends at e in let same : (step cfg s c).0 ≡ q.1 = grind (arith, out) in subst (λ (z : State). ends_at_end z ≡ false) same (end-step cfg s c ends)
  | inr goes ↦ good-after cfg (step cfg s c).0 (fields_after (step cfg s c).1 fields field) (field_after (step cfg s c).1 c field) rest q (rw goes at e)
]

pub no-record : (cfg : Config) (s : State) (q : Read) → ends_at_end s ≡ false → next_record cfg s [] [] [] ≡ Some q → ⊥
unfolding next_record
no-record cfg s q good e = cc (rw good at e)

-- there are at most as many records as bytes
few-rows : (cfg : Config) (s : State) (xs : List ℕ) (rows : List (List (List ℕ))) (s2 : State) (ys : List ℕ) → ends_at_end s ≡ false
    → Reached cfg s xs rows s2 ys → length rows ≤ length xs
unfolding Reached
few-rows cfg s xs [] s2 ys good h = omega arith
few-rows cfg s [] (r ∷ rs) s2 ys good h = absurd (no-record cfg s h.0 good h.1)
few-rows cfg s (c ∷ rest) (r ∷ rs) s2 ys good h =
    let less = rest-lt cfg s [] [] c rest h.0 h.1 in
    let more = few-rows cfg h.0.1 h.0.2 rs s2 ys (good-after cfg s [] [] (c ∷ rest) h.0 h.1) h.3 in omega (arith, less, more)

-- enough turns give exactly these records
enough : (cfg : Config) (n : ℕ) (s : State) (xs : List ℕ) (rows : List (List (List ℕ))) (s2 : State) (ys : List ℕ)
    → Reached cfg s xs rows s2 ys → next_record cfg s2 [] [] ys ≡ None → length rows < n → records_from cfg n s xs ≡ rows
unfolding Reached records_from
enough cfg zero s xs rows s2 ys h none lt = absurd (omega (arith, lt))
enough cfg (suc n) s xs [] s2 ys h none lt = rw (h.0, h.1, none) refl
enough cfg (suc n) s xs (r ∷ rs) s2 ys h none lt =
    rw h.1 (ap (λ (t : List (List (List ℕ))). h.0.0 ∷ t) (enough cfg n h.0.1 h.0.2 rs s2 ys h.3 none (omega (arith, lt)))
    ∙ ap (λ (t : List (List ℕ)). t ∷ rs) (sym h.2))

pub records-are : (cfg : Config) (xs : List ℕ) (rows : List (List (List ℕ))) → AreRecords cfg st.StartRecord xs rows → rows ≡ records cfg xs
records-are cfg xs rows h = sym (enough cfg (length xs + 1) st.StartRecord xs rows h.0 h.1 h.2 h.3 (let few = few-rows cfg st.StartRecord xs rows h.0 h.1 refl h.2 in omega (arith, few)))

-- without a byte order mark there are no more bytes
pub length-strip : (xs : List ℕ) → length (strip_bom xs) ≤ length xs
unfolding strip_bom
length-strip [] = omega arith
length-strip (a ∷ []) = omega arith
length-strip (a ∷ b ∷ []) = omega arith
length-strip (a ∷ b ∷ c ∷ rest) = go (is_bom a b c)
  where
    go : (m : Bool) → length (if m then rest else a ∷ b ∷ c ∷ rest) ≤ length (a ∷ b ∷ c ∷ rest)
    go true = omega arith
    go false = omega arith
