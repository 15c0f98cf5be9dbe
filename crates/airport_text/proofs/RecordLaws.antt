-- A text with records after it, and more records.
use Rattle.std.proofs.Common.{◌≡◌, ◌≢◌, ℕ, ◌<◌, ◌+◌, false, List, [], ◌∷◌, ◌++◌, length, map, take, get_or, Option, Some, None, refl, sym, ap, subst, arith, ◌∙◌, inl, inr, append_assoc, append-nil, add-one}
use Rattle.std.specs.Prelude.{IfSome, slice_get, flat_map, filter_map}
use Rattle.std.specs.Io.KnownBytes.{Appends}
use Rattle.std.proofs.lemmas.List.{map_more}
use Rattle.std.proofs.lemmas.List.Elements.{filter_map-append}
use Rattle.std.proofs.lemmas.Option.{slice_get_cases}
use Rattle.std.proofs.lemmas.Grind.{flat_map-append}
use Rattle.csv.specs.Writing.{row_text, text_written, writer_setup, fields_written, has_written}
use Rattle.csv.specs.declared.writer.Writer.{Writer}
use Rattle.csv.specs.declared.writer.QuoteStyle.TheVariants as style
use Rattle.taxi_base.specs.Airport.{Airport}
use Rattle.airport_text.specs.Canonical.{Fields, record_writer, text_of_records, canonical_text, canonical_records, numbers_below}
use Rattle.airport_text.specs.Written.{and_records, record_if_any, IsBetweenRecords}

-- ---- what a writer between two records writes

pub record-added : {W : Type 0} (contents : W → Option (List ℕ)) (old new : Writer W) (text added : List ℕ) (fields : Fields)
    → IsBetweenRecords old → text_written contents old ≡ Some text → text_written contents new ≡ Some added
    → ((fields_written old ≡ 0) → (has_written old ≡ false) → ((writer_setup old).style ≢ style.NonNumeric) → Appends (text_written contents old) (text_written contents new) (row_text (writer_setup old) fields))
    → added ≡ and_records text (fields ∷ [])
unfolding and_records
record-added contents old new text added fields between before after wrote =
    let plain : (writer_setup old).style ≢ style.NonNumeric = λ e. cc (rw between.0 at e) in
    let grown : Appends (text_written contents old) (text_written contents new) (row_text record_writer fields) =
    subst (λ s. Appends (text_written contents old) (text_written contents new) (row_text s fields)) between.0 (wrote between.1 between.2 plain) in
    let both : Appends (Some text) (Some added) (row_text record_writer fields) = rw (before, after) at grown in
    both ∙ ap (λ t. text ++ t) (sym (append-nil (row_text record_writer fields)))

-- ---- no record, and records after records

pub and_records-none : (text : List ℕ) → and_records text [] ≡ text
unfolding and_records
and_records-none text = append-nil text

and_records-both : (text : List ℕ) (xs ys : List Fields) → and_records (and_records text xs) ys ≡ and_records text (xs ++ ys)
unfolding and_records
and_records-both text xs ys =
    append_assoc text (text_of_records xs) (text_of_records ys) ∙ ap (λ t. text ++ t) (sym (flat_map-append (row_text record_writer) xs ys))

pub records-then : (before text after : List ℕ) (xs ys : List Fields) → text ≡ and_records before xs → after ≡ and_records text ys → after ≡ and_records before (xs ++ ys)
records-then before text after xs ys so_far next = next ∙ ap (λ t. and_records t ys) so_far ∙ and_records-both before xs ys

pub whole-text : (airport : Airport) (start text : List ℕ) → start ≡ [] → text ≡ and_records start (canonical_records airport) → text ≡ canonical_text airport
unfolding and_records canonical_text
whole-text airport start text empty written = written ∙ ap (λ t. and_records t (canonical_records airport)) empty

-- ---- one step of a loop

-- one record more, of the item at a place of a slice
pub slice-more : {A : Type 0} (f : A → Fields) (xs items : List A) (i : ℕ) (d : A) (before text after : List ℕ) → items ≡ xs → i < length items
    → text ≡ and_records before (map f (take i xs)) → after ≡ and_records text (f (get_or items i d) ∷ [])
    → after ≡ and_records before (map f (take (i + 1) xs))
slice-more f xs items i d before text after same low so_far next =
    let more : map f (take (i + 1) xs) ≡ map f (take i xs) ++ f (get_or items i d) ∷ [] =
    subst (λ ys. map f (take (i + 1) ys) ≡ map f (take i ys) ++ f (get_or items i d) ∷ []) same (map_more f items i d low) in
    records-then before text after (map f (take i xs)) (f (get_or items i d) ∷ []) so_far next ∙ ap (λ r. and_records before r) (sym more)

-- the same of the item that stands at a number, if one does
pub item-more : {A : Type 0} (f : A → Fields) (xs : List A) (i : ℕ) (before text after : List ℕ) → i < length xs
    → text ≡ and_records before (map f (take i xs)) → IfSome (slice_get xs i) (λ x. after ≡ and_records text (f x ∷ []))
    → after ≡ and_records before (map f (take (i + 1) xs))
item-more f xs i before text after low so_far next = elim (slice_get_cases xs i).1 [
  | inl there ↦
      let got : after ≡ and_records text (f there.0 ∷ []) = subst (λ o. IfSome o (λ x. after ≡ and_records text (f x ∷ []))) there.2 next in
      slice-more f xs xs i there.0 before text after refl low so_far (got ∙ ap (λ x. and_records text (f x ∷ [])) (sym there.3))
  | inr past ↦ absurd (let far = past.0 in omega arith)
]

-- the records of the next number
pub number-more : (f : ℕ → List Fields) (n : ℕ) (before text after : List ℕ) → text ≡ and_records before (flat_map f (numbers_below n)) → after ≡ and_records text (f n)
    → after ≡ and_records before (flat_map f (numbers_below (n + 1)))
number-more f n before text after so_far next =
    let more : flat_map f (numbers_below (n + 1)) ≡ flat_map f (numbers_below n) ++ f n =
    rw add-one (flat_map-append f (numbers_below n) (n ∷ []) ∙ ap (λ r. flat_map f (numbers_below n) ++ r) (append-nil (f n))) in
    records-then before text after (flat_map f (numbers_below n)) (f n) so_far next ∙ ap (λ r. and_records before r) (sym more)

-- and its record, if it has one
pub number-more-if_any : (f : ℕ → Option Fields) (n : ℕ) (before text after : List ℕ) → text ≡ and_records before (filter_map f (numbers_below n))
    → after ≡ and_records text (record_if_any (f n)) → after ≡ and_records before (filter_map f (numbers_below (n + 1)))
number-more-if_any f n before text after so_far next =
    let more : filter_map f (numbers_below (n + 1)) ≡ filter_map f (numbers_below n) ++ record_if_any (f n) =
    rw add-one (filter_map-append f (numbers_below n) (n ∷ []) ∙ ap (λ r. filter_map f (numbers_below n) ++ r) (one (f n) refl)) in
    records-then before text after (filter_map f (numbers_below n)) (record_if_any (f n)) so_far next ∙ ap (λ r. and_records before r) (sym more)
  where
    one : (o : Option Fields) → f n ≡ o → filter_map f (n ∷ []) ≡ record_if_any (f n)
    one None e = rw e refl
    one (Some fields) e = rw e refl
