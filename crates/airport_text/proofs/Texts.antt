-- The records of a text of records are those records.
use Rattle.std.proofs.Common.{◌≡◌, ℕ, ◌<◌, ◌≤◌, ◌+◌, zero, suc, List, [], ◌∷◌, ◌++◌, length, length-append, Some, refl, ap, arith, ◌∙◌}
use Rattle.std.specs.Prelude.{All}
use Rattle.std.proofs.lemmas.List.Elements.{All-head, All-tail}
use Rattle.csv.specs.Machine.{next_record}
use Rattle.csv.specs.Reading.{default_config, records, records_from, records_next}
use Rattle.csv.specs.Writing.{default_writer, escaped, fields_text, is_blank, row_body, row_text}
use Rattle.csv.proofs.RoundTrip.{read-write}
use Rattle.csv.specs.declared.parser.State.TheVariants as st
use Rattle.airport_text.specs.Canonical.{Fields, record_writer, text_of_records}

-- ---- the writer writes as the default writer does

escaped-same : (xs : List ℕ) → escaped record_writer xs ≡ escaped default_writer xs
unfolding escaped
escaped-same [] = refl
escaped-same (b ∷ rest) = rw (escaped-same rest) refl

fields-same : (fields : Fields) → fields_text record_writer fields ≡ fields_text default_writer fields
unfolding fields_text
fields-same [] = refl
fields-same (f ∷ fields) = rw (escaped-same f, fields-same fields) refl

blank-same : (fields : Fields) → is_blank record_writer fields ≡ is_blank default_writer fields
unfolding is_blank
blank-same [] = refl
blank-same (f ∷ []) = rw (escaped-same f) refl
blank-same (f ∷ g ∷ fields) = refl

row-same : (fields : Fields) → row_text record_writer fields ≡ row_text default_writer fields
row-same [] = rw (blank-same []) refl
row-same (f ∷ fields) = rw (blank-same (f ∷ fields), escaped-same f, fields-same fields) refl

-- ---- records that have a field

abbrev pub HasField : Fields → Type 0
HasField fields = 0 < length fields

row-read : (f : List ℕ) (fields : Fields) (tail : List ℕ)
    → next_record default_config st.StartRecord [] [] (row_text record_writer (f ∷ fields) ++ tail) ≡ Some (f ∷ fields, st.StartRecord, tail)
row-read f fields tail = ap (λ (t : List ℕ). next_record default_config st.StartRecord [] [] (t ++ tail)) (row-same (f ∷ fields)) ∙ read-write (f ∷ fields) tail

-- a record has at least the byte that ends it
row-some : (body blank : List ℕ) → 1 ≤ length (body ++ (blank ++ 10 ∷ []))
row-some body blank =
    let whole = length-append body (blank ++ 10 ∷ []) in
    let last = length-append blank (10 ∷ []) in
    omega (arith, whole, last)

few-rows : (rows : List Fields) → length rows ≤ length (text_of_records rows)
few-rows [] = omega arith
few-rows (row ∷ rows) =
    let split = length-append (row_text record_writer row) (text_of_records rows) in
    let some : 1 ≤ length (row_text record_writer row) = row-some (row_body record_writer row) _ in
    omega (arith, split, some, few-rows rows)

rows-from : (n : ℕ) (rows : List Fields) → All HasField rows → length rows ≤ n → records_from default_config n st.StartRecord (text_of_records rows) ≡ rows
unfolding records_from next_record
rows-from zero [] all few = refl
rows-from zero (row ∷ rows) all few = absurd (omega (arith, few))
rows-from (suc n) [] all few = refl
rows-from (suc n) ([] ∷ rows) all few = absurd (let some = All-head HasField [] rows all in omega (arith, some))
rows-from (suc n) ((f ∷ fields) ∷ rows) all few =
    ap (records_next (records_from default_config n)) (row-read f fields (text_of_records rows))
    ∙ ap (λ rest. (f ∷ fields) ∷ rest) (rows-from n rows (All-tail HasField (f ∷ fields) rows all) (omega (arith, few)))

pub records-again : (rows : List Fields) → All HasField rows → records default_config (text_of_records rows) ≡ rows
records-again rows all = rows-from (length (text_of_records rows) + 1) rows all (omega (arith, few-rows rows))
