-- The records of plain lines are the lines split at their commas.
use Rattle.std.proofs.Common.{◌≡◌, ◌==◌, ◌++◌, ◌∷◌, ◌∙◌, [], ℕ, List, Some, refl, sym, ap, subst, false, append_assoc, inl, inr, map, arith}
use Rattle.std.proofs.lemmas.Bool.{cases_Bool, eqb-true, ne_eqb}
use Rattle.csv.specs.Machine.{next_record}
use Rattle.csv.specs.Reading.{Reached, AreRecords, default_config, strip_bom}
use Rattle.csv.proofs.RoundTrip.{start-same, record-same}
use Rattle.csv.specs.declared.parser.State.TheVariants as st
use Rattle.airport_file.specs.Plain.{split_from, split_at_commas, IsPlain, IsPlainLine, ArePlainLines, text_of_lines}

-- a byte that is no mark joins the field
pub plain-byte : (fields : List (List ℕ)) (field : List ℕ) (b : ℕ) (tail : List ℕ) → (b == 44) ≡ false → (b == 13) ≡ false → (b == 10) ≡ false
    → next_record default_config st.InField fields field (b ∷ tail) ≡ next_record default_config st.InField fields (field ++ b ∷ []) tail
unfolding next_record
plain-byte fields field b tail c r n = rw (c, r, n) refl

-- after a comma a plain rest, which LF ends, starts a field as it goes on in one
after-comma : (fields : List (List ℕ)) (rest tail : List ℕ) → IsPlain rest
    → next_record default_config st.StartField fields [] (rest ++ 10 ∷ tail) ≡ next_record default_config st.InField fields [] (rest ++ 10 ∷ tail)
after-comma fields [] tail p = start-same fields [] 10 tail refl
after-comma fields (b ∷ rest) tail p = start-same fields [] b (rest ++ 10 ∷ tail) p.1

pub comma : (fields : List (List ℕ)) (field u : List ℕ)
    → next_record default_config st.InField fields field (44 ∷ u) ≡ next_record default_config st.StartField (fields ++ field ∷ []) [] u
unfolding next_record
comma fields field u = refl

split-other : (field : List ℕ) (b : ℕ) (rest : List ℕ) → (b == 44) ≡ false → split_from field (b ∷ rest) ≡ split_from (field ++ b ∷ []) rest
split-other field b rest other = rw other refl

-- the rest of a line, from within a field
line-run : (fields : List (List ℕ)) (field line tail : List ℕ) → IsPlain line
    → next_record default_config st.InField fields field (line ++ 10 ∷ tail) ≡ Some (fields ++ split_from field line, st.StartRecord, tail)
unfolding next_record
line-run fields field [] tail p = refl
line-run fields field (b ∷ rest) tail p = elim (cases_Bool (b == 44)) [
  | inl same ↦
      subst (λ (z : ℕ). next_record default_config st.InField fields field (z ∷ (rest ++ 10 ∷ tail)) ≡ Some (fields ++ split_from field (z ∷ rest), st.StartRecord, tail)) (sym (eqb-true b 44 same))
      (comma fields field (rest ++ 10 ∷ tail) ∙ after-comma (fields ++ field ∷ []) rest tail p.4
      ∙ line-run (fields ++ field ∷ []) [] rest tail p.4
      ∙ ap (λ (f : List (List ℕ)). Some (f, st.StartRecord, tail)) (append_assoc fields (field ∷ []) (split_from [] rest)))
  | inr other ↦
      plain-byte fields field b (rest ++ 10 ∷ tail) other p.2 p.3 ∙ line-run fields (field ++ b ∷ []) rest tail p.4
      ∙ ap (λ (f : List (List ℕ)). Some (fields ++ f, st.StartRecord, tail)) (sym (split-other field b rest other))
]

-- a whole line
pub line-record : (line tail : List ℕ) → IsPlainLine line
    → next_record default_config st.StartRecord [] [] (line ++ 10 ∷ tail) ≡ Some (split_at_commas line, st.StartRecord, tail)
line-record [] tail p = absurd p
line-record (b ∷ rest) tail p =
    record-same [] [] b (rest ++ 10 ∷ tail) p.2 p.3 ∙ start-same [] [] b (rest ++ 10 ∷ tail) p.1 ∙ line-run [] [] (b ∷ rest) tail p

lines-reached : (lines : List (List ℕ)) → ArePlainLines lines → Reached default_config st.StartRecord (text_of_lines lines) (map split_at_commas lines) st.StartRecord []
unfolding Reached
lines-reached [] p = (refl, refl)
lines-reached (l ∷ ls) p = ((split_at_commas l, st.StartRecord, text_of_lines ls), line-record l (text_of_lines ls) p.0, refl, lines-reached ls p.1)

pub lines-are : (lines : List (List ℕ)) → ArePlainLines lines → AreRecords default_config st.StartRecord (text_of_lines lines) (map split_at_commas lines)
unfolding next_record
lines-are lines p = (st.StartRecord, [], lines-reached lines p, refl)

-- the same of a last line, which no LF ends
after-comma-end : (fields : List (List ℕ)) (rest : List ℕ) → IsPlain rest
    → next_record default_config st.StartField fields [] rest ≡ next_record default_config st.InField fields [] rest
unfolding next_record
after-comma-end fields [] p = refl
after-comma-end fields (b ∷ rest) p = start-same fields [] b rest p.1

line-end : (fields : List (List ℕ)) (field line : List ℕ) → IsPlain line
    → next_record default_config st.InField fields field line ≡ Some (fields ++ split_from field line, st.StartRecord, [])
unfolding next_record
line-end fields field [] p = refl
line-end fields field (b ∷ rest) p = elim (cases_Bool (b == 44)) [
  | inl same ↦
      subst (λ (z : ℕ). next_record default_config st.InField fields field (z ∷ rest) ≡ Some (fields ++ split_from field (z ∷ rest), st.StartRecord, [])) (sym (eqb-true b 44 same))
      (comma fields field rest ∙ after-comma-end (fields ++ field ∷ []) rest p.4
      ∙ line-end (fields ++ field ∷ []) [] rest p.4
      ∙ ap (λ (f : List (List ℕ)). Some (f, st.StartRecord, [])) (append_assoc fields (field ∷ []) (split_from [] rest)))
  | inr other ↦
      plain-byte fields field b rest other p.2 p.3 ∙ line-end fields (field ++ b ∷ []) rest p.4
      ∙ ap (λ (f : List (List ℕ)). Some (fields ++ f, st.StartRecord, [])) (sym (split-other field b rest other))
]

last-record : (line : List ℕ) → IsPlainLine line → next_record default_config st.StartRecord [] [] line ≡ Some (split_at_commas line, st.StartRecord, [])
last-record [] p = absurd p
last-record (b ∷ rest) p = record-same [] [] b rest p.2 p.3 ∙ start-same [] [] b rest p.1 ∙ line-end [] [] (b ∷ rest) p

then-reached : (lines : List (List ℕ)) (last : List ℕ) → ArePlainLines lines → IsPlainLine last
    → Reached default_config st.StartRecord (text_of_lines lines ++ last) (map split_at_commas lines ++ split_at_commas last ∷ []) st.StartRecord []
unfolding Reached
then-reached [] last p q = ((split_at_commas last, st.StartRecord, []), last-record last q, refl, (refl, refl))
then-reached (l ∷ ls) last p q = (
  (split_at_commas l, st.StartRecord, text_of_lines ls ++ last),
  ap (λ (t : List ℕ). next_record default_config st.StartRecord [] [] t) (append_assoc l (10 ∷ text_of_lines ls) last) ∙ line-record l (text_of_lines ls ++ last) p.0,
  refl,
  then-reached ls last p.1 q,
)

pub then-are : (lines : List (List ℕ)) (last : List ℕ) → ArePlainLines lines → IsPlainLine last
    → AreRecords default_config st.StartRecord (text_of_lines lines ++ last) (map split_at_commas lines ++ split_at_commas last ∷ [])
unfolding next_record
then-are lines last p q = (st.StartRecord, [], then-reached lines last p q, refl)

-- a text of ASCII has no byte order mark
pub strip-first : (b : ℕ) (rest : List ℕ) → (b == 239) ≡ false → strip_bom (b ∷ rest) ≡ b ∷ rest
unfolding strip_bom
strip-first b [] n = refl
strip-first b (c ∷ []) n = refl
strip-first b (c ∷ d ∷ rest) n = rw n refl

pub strip-lines : (lines : List (List ℕ)) → ArePlainLines lines → strip_bom (text_of_lines lines) ≡ text_of_lines lines
unfolding strip_bom
strip-lines [] p = refl
strip-lines ([] ∷ ls) p = absurd p.0
strip-lines ((b ∷ rest) ∷ ls) p = strip-first b (rest ++ 10 ∷ text_of_lines ls) (ne_eqb b 239 (λ e. absurd (omega (arith, e, p.0.0))))

pub strip-then : (lines : List (List ℕ)) (last : List ℕ) → ArePlainLines lines → IsPlainLine last → strip_bom (text_of_lines lines ++ last) ≡ text_of_lines lines ++ last
strip-then [] [] p q = absurd q
strip-then [] (b ∷ rest) p q = strip-first b rest (ne_eqb b 239 (λ e. absurd (omega (arith, e, q.0))))
strip-then ([] ∷ ls) last p q = absurd p.0
strip-then ((b ∷ rest) ∷ ls) last p q = strip-first b ((rest ++ 10 ∷ text_of_lines ls) ++ last) (ne_eqb b 239 (λ e. absurd (omega (arith, e, p.0.0))))
