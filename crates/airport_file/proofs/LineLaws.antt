-- What a reader of records makes of a line that is cut at its marks.
use Rattle.std.proofs.Common.{◌≡◌, ◌==◌, ◌++◌, ◌∷◌, ◌∙◌, [], ℕ, List, Some, refl, sym, ap, false, append_assoc, append-nil, arith, length}
use Rattle.std.specs.Prelude.{All, slice_get}
use Rattle.std.proofs.lemmas.Bool.Decides.{nat_tests}
use Rattle.std.proofs.lemmas.List.{map-append}
use Rattle.std.proofs.lemmas.List.Elements.{All-head, All-tail}
use Rattle.csv.specs.Machine.{next_record}
use Rattle.csv.specs.Reading.{default_config, records}
use Rattle.csv.proofs.RoundTrip.{start-same, record-same}
use Rattle.csv.specs.declared.parser.State.TheVariants as st
use Rattle.airport_file.specs.Plain.{is_mark}
use Rattle.airport_file.proofs.PlainLines.{plain-byte, comma, strip-first}
use Rattle.airport_file.proofs.RowsLeft.{no-row}
use Rattle.airport_file.specs.Reading.{records_of}
use Rattle.airport_file.specs.Rows.{rows_of}
use Rattle.airport_rules.specs.Judged.{texts_of}
use Rattle.std.specs.Borrow.{Bor}

abbrev pub AreUnmarked : List ℕ → Type 0
AreUnmarked bytes = All (λ b. is_mark b ≡ false) bytes

-- a byte that is no mark is none of the four that a reader of records heeds
unlike : (b : ℕ) → is_mark b ≡ false → ((b == 44) ≡ false) × ((b == 13) ≡ false) × ((b == 10) ≡ false) × ((b == 34) ≡ false)
unlike b e = (grind (arith, nat_tests, e), grind (arith, nat_tests, e), grind (arith, nat_tests, e), grind (arith, nat_tests, e))

-- such bytes join the field
field-run : (fields : List (List ℕ)) (field run tail : List ℕ) → AreUnmarked run
    → next_record default_config st.InField fields field (run ++ tail) ≡ next_record default_config st.InField fields (field ++ run) tail
field-run fields field [] tail p = ap (λ (f : List ℕ). next_record default_config st.InField fields f tail) (sym (append-nil field))
field-run fields field (b ∷ run) tail p =
    let first : is_mark b ≡ false = All-head (λ b. is_mark b ≡ false) b run p in
    let other = unlike b first in
    plain-byte fields field b (run ++ tail) other.0 other.1 other.2
    ∙ field-run fields (field ++ b ∷ []) run tail (All-tail (λ b. is_mark b ≡ false) b run p)
    ∙ ap (λ (f : List ℕ). next_record default_config st.InField fields f tail) (append_assoc field (b ∷ []) run)

-- a field from its start to a mark that is no quote
field-start : (fields : List (List ℕ)) (run : List ℕ) (c : ℕ) (tail : List ℕ) → AreUnmarked run → (c == 34) ≡ false
    → next_record default_config st.StartField fields [] (run ++ c ∷ tail) ≡ next_record default_config st.InField fields run (c ∷ tail)
field-start fields [] c tail p other = start-same fields [] c tail other
field-start fields (b ∷ run) c tail p other =
    let first : is_mark b ≡ false = All-head (λ b. is_mark b ≡ false) b run p in
    let other = unlike b first in
    start-same fields [] b (run ++ c ∷ tail) (unlike b first).3 ∙ field-run fields [] (b ∷ run) (c ∷ tail) p

line-feed : (fields : List (List ℕ)) (field tail : List ℕ) → next_record default_config st.InField fields field (10 ∷ tail) ≡ Some (fields ++ field ∷ [], st.StartRecord, tail)
unfolding next_record
line-feed fields field tail = refl

-- a field that a comma ends
pub field-comma : (fields : List (List ℕ)) (text field behind : List ℕ) (mark : ℕ) → text ≡ field ++ mark ∷ behind → AreUnmarked field → mark ≡ 44
    → next_record default_config st.StartField fields [] text ≡ next_record default_config st.StartField (fields ++ field ∷ []) [] behind
field-comma fields text field behind mark is p same = rw (is, same) (field-start fields field 44 behind p refl ∙ comma fields field behind)

-- a field that the line's end ends
pub field-last : (fields : List (List ℕ)) (text field behind : List ℕ) (mark : ℕ) → text ≡ field ++ mark ∷ behind → AreUnmarked field → mark ≡ 10
    → next_record default_config st.StartField fields [] text ≡ Some (fields ++ field ∷ [], st.StartRecord, behind)
field-last fields text field behind mark is p same = rw (is, same) (field-start fields field 10 behind p refl ∙ line-feed fields field behind)

-- a line starts with a field
pub line-start : (text : List ℕ) (b : ℕ) → slice_get text 0 ≡ Some b → is_mark b ≡ false
    → next_record default_config st.StartRecord [] [] text ≡ next_record default_config st.StartField [] [] text
line-start [] b e plain = absurd (cc e)
line-start (a ∷ rest) b e plain =
    let same : a ≡ b = cc e in
    let other = unlike b plain in
    record-same [] [] a rest (rw same other.1) (rw same other.2)

-- the texts of one more field
pub texts-push : (got : List (Bor (List ℕ))) (f : Bor (List ℕ)) → texts_of (got ++ f ∷ []) ≡ texts_of got ++ f.now ∷ []
texts-push got f = map-append (λ (f : Bor (List ℕ)). f.now) got (f ∷ [])

-- a text that begins with t has no mark of the byte order
pub from-start : (bytes : List ℕ) (b : ℕ) → slice_get bytes 0 ≡ Some b → b ≡ 116 → records_of bytes ≡ rows_of st.StartRecord (Some bytes)
from-start [] b e same = absurd (cc e)
from-start (a ∷ rest) b e same =
    let is : a ≡ 116 = cc (e, same) in
    ap (records default_config) (strip-first a rest (rw is refl))

pub empty-rows : (text : List ℕ) → length text ≡ 0 → rows_of st.StartRecord (Some text) ≡ []
unfolding next_record
empty-rows [] e = no-row st.StartRecord [] refl
empty-rows (b ∷ rest) e = absurd (omega (arith, e))
