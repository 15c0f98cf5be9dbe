-- What windows have where a span is joined to them.
use Rattle.std.proofs.Common.{◌≡◌, ℕ, zero, suc, ◌+◌, ◌<◌, ◌≤◌, Bool, true, false, ◌&&◌, ◌||◌, not, get_or, set, take, drop, List, [], ◌∷◌, ◌++◌, length, max, min, cond, inl, inr, refl, sym, ◌∙◌, ap, arith}
use Rattle.std.specs.Prelude.{nat_lt, nat_le}
use Rattle.std.specs.List.{list_any, insert, remove}
use Rattle.std.proofs.lemmas.Bool.{cases_lt, cond_both, cond-true, cond-false, ltb-true, ltb-false, lt-ltb, le-ltb}
use Rattle.std.proofs.lemmas.Bool.Decides.{nat_tests}
use Rattle.std.proofs.lemmas.List.{drop_more, drop_all, set_split}
use Rattle.taxi_base.specs.declared.numbers.Segment.{Segment}
use Rattle.taxi_base.specs.declared.rows.Span.{Span}
use Rattle.taxi_base.specs.Windows.{Hold, blocks, span_has, covers, AreApart}
use Rattle.taxi_base.proofs.WindowsMade.{AreApart-lower}
use Rattle.conflict_sets.specs.Conflicts.{AreConflicts}
use Rattle.held_spans.specs.Holds.{held_at}
use Rattle.segment_windows.specs.Joins.{joined, hull, AreRid, AreGivenBack}
use Rattle.segment_windows.proofs.GapLaws.{held_in_all}

-- ---- they lie apart

pub joined-apart : (span : Span) (low : ℕ) (ws : List Span) → span.from < span.until → low ≤ span.from → AreApart low ws → AreApart low (joined span ws)
joined-apart span low [] some on apart = (on, some, tt)
joined-apart span low (w ∷ ws) some on apart =
    cond_both (nat_lt span.until w.from) (span ∷ w ∷ ws) (cond (nat_lt w.until span.from) (w ∷ joined span ws) (joined (hull span w) ws)) (AreApart low)
    (λ before. (on, some, (omega (arith, ltb-true span.until w.from before), apart.1, apart.2)))
    (λ _. cond_both (nat_lt w.until span.from) (w ∷ joined span ws) (joined (hull span w) ws) (AreApart low)
    (λ behind. (apart.0, apart.1, joined-apart span (w.until + 1) ws some (omega (arith, ltb-true w.until span.from behind)) apart.2))
    (λ _. joined-apart (hull span w) low ws (omega (arith, some)) (omega (arith, on, apart.0)) (AreApart-lower low (w.until + 1) ws (omega (arith, apart.0, apart.1)) apart.2)))

-- ---- they have the seconds of both

hull-has : (sf su wf wu t : ℕ) (later : Bool) → sf < su → wf < wu → wf ≤ su → sf ≤ wu
    → (later || (nat_le (min sf wf) t && nat_lt t (max su wu))) ≡ (((nat_le wf t && nat_lt t wu) || later) || (nat_le sf t && nat_lt t su))
hull-has sf su wf wu t later some also low high = grind (arith, nat_tests)

past-has : (here span later : Bool) → (here || (later || span)) ≡ ((here || later) || span)
past-has true span later = refl
past-has false span later = refl

first-has : (here span later : Bool) → (span || (here || later)) ≡ ((here || later) || span)
first-has true true later = refl
first-has true false later = refl
first-has false true true = refl
first-has false true false = refl
first-has false false true = refl
first-has false false false = refl

alone-has : (b : Bool) → (b || false) ≡ (false || b)
alone-has true = refl
alone-has false = refl

pub joined-covers : (span : Span) (low t : ℕ) (ws : List Span) → span.from < span.until → AreApart low ws → covers (joined span ws) t ≡ (covers ws t || span_has span t)
joined-covers span low t [] some apart = alone-has (span_has span t)
joined-covers span low t (w ∷ ws) some apart =
    cond_both (nat_lt span.until w.from) (span ∷ w ∷ ws) (cond (nat_lt w.until span.from) (w ∷ joined span ws) (joined (hull span w) ws)) (λ l. covers l t ≡ (covers (w ∷ ws) t || span_has span t))
    (λ _. first-has (span_has w t) (span_has span t) (covers ws t))
    (λ low_end. cond_both (nat_lt w.until span.from) (w ∷ joined span ws) (joined (hull span w) ws) (λ l. covers l t ≡ (covers (w ∷ ws) t || span_has span t))
    (λ _. ap (λ b. span_has w t || b) (joined-covers span (w.until + 1) t ws some apart.2) ∙ past-has (span_has w t) (span_has span t) (covers ws t))
    (λ high_end. joined-covers (hull span w) (w.until + 1) t ws (omega (arith, some)) apart.2
    ∙ hull-has span.from span.until w.from w.until t (covers ws t) some apart.1 (ltb-false span.until w.from low_end) (ltb-false w.until span.from high_end)))

-- ---- they are joined from the first on that the span touches

-- those before stay
pub joined-past : (span : Span) (low n : ℕ) (ws : List Span) → span.from < span.until → AreApart low ws → n ≤ length ws
    → ((k : ℕ) (d : Span) → k < n → (get_or ws k d).until < span.from) → joined span ws ≡ take n ws ++ joined span (drop n ws)
joined-past span low zero ws some apart few over = refl
joined-past span low (suc n) [] some apart few over = absurd (omega (arith, few))
joined-past span low (suc n) (w ∷ ws) some apart few over =
    let here : w.until < span.from = over 0 w (omega arith) in
    let rest = joined-past span (w.until + 1) n ws some apart.2 (omega (arith, few)) (λ k d on. over (suc k) d (omega (arith, on))) in
    cond-false (nat_lt span.until w.from) (span ∷ w ∷ ws) (cond (nat_lt w.until span.from) (w ∷ joined span ws) (joined (hull span w) ws)) (le-ltb span.until w.from (omega (arith, here, some, apart.1)))
    ∙ cond-true (nat_lt w.until span.from) (w ∷ joined span ws) (joined (hull span w) ws) (lt-ltb w.until span.from here)
    ∙ ap (λ l. w ∷ l) rest

-- the next one is touched
pub joined-next : (whole w : Span) (ws : List Span) → w.from ≤ whole.until → whole.from ≤ w.until → joined whole (w ∷ ws) ≡ joined (hull whole w) ws
joined-next whole w ws low high =
    cond-false (nat_lt whole.until w.from) (whole ∷ w ∷ ws) (cond (nat_lt w.until whole.from) (w ∷ joined whole ws) (joined (hull whole w) ws)) (le-ltb whole.until w.from low)
    ∙ cond-false (nat_lt w.until whole.from) (w ∷ joined whole ws) (joined (hull whole w) ws) (le-ltb w.until whole.from high)

-- the next one begins later, or there is none
pub joined-done : (whole w : Span) (ws : List Span) → whole.until < w.from → joined whole (w ∷ ws) ≡ whole ∷ w ∷ ws
joined-done whole w ws later =
    cond-true (nat_lt whole.until w.from) (whole ∷ w ∷ ws) (cond (nat_lt w.until whole.from) (w ∷ joined whole ws) (joined (hull whole w) ws)) (lt-ltb whole.until w.from later)

-- ---- one after the other is taken out

take-remove : {X : Type 0} (xs : List X) (place i : ℕ) → place ≤ i → take place (remove xs i) ≡ take place xs
take-remove xs zero i below = refl
take-remove [] (suc place) zero below = refl
take-remove [] (suc place) (suc i) below = refl
take-remove (x ∷ xs) (suc place) zero below = absurd (omega (arith, below))
take-remove (x ∷ xs) (suc place) (suc i) below = ap (λ l. x ∷ l) (take-remove xs place i (omega (arith, below)))

drop-remove : {X : Type 0} (xs : List X) (i : ℕ) → drop i (remove xs i) ≡ drop (i + 1) xs
drop-remove [] zero = refl
drop-remove [] (suc i) = let e : suc i + 1 ≡ suc (i + 1) = omega arith in rw e refl
drop-remove (x ∷ xs) zero = refl
drop-remove (x ∷ xs) (suc i) = let e : suc i + 1 ≡ suc (i + 1) = omega arith in rw e (drop-remove xs i)

insert-parts : {X : Type 0} (xs : List X) (i : ℕ) (x : X) → i ≤ length xs → insert xs i x ≡ take i xs ++ x ∷ drop i xs
insert-parts xs zero x few = refl
insert-parts [] (suc i) x few = absurd (omega (arith, few))
insert-parts (y ∷ xs) (suc i) x few = ap (λ l. y ∷ l) (insert-parts xs i x (omega (arith, few)))

-- what is behind a place, joined to a span that reaches the next one
joined-here : (now : List Span) (next : ℕ) (whole w : Span) → next < length now → get_or now next w ≡ w → w.from ≤ whole.until → whole.from ≤ w.until
    → joined whole (drop next now) ≡ joined (hull whole w) (drop (next + 1) now)
joined-here now next whole w on is low high =
    ap (joined whole) (drop_more now next w on ∙ ap (λ v. v ∷ drop (next + 1) now) is) ∙ joined-next whole w (drop (next + 1) now) low high

pub joined-first : (now : List Span) (place : ℕ) (span w : Span) → place < length now → get_or now place w ≡ w → w.from ≤ span.until → span.from ≤ w.until
    → take place now ++ joined span (drop place now) ≡ take place now ++ joined (hull span w) (drop (place + 1) now)
joined-first now place span w on is low high = ap (λ l. take place now ++ l) (joined-here now place span w on is low high)

pub joined-on : (all now : List Span) (place next : ℕ) (whole w : Span) → place ≤ next → next < length now → get_or now next w ≡ w → all ≡ take place now ++ joined whole (drop next now)
    → w.from ≤ whole.until → whole.from ≤ w.until → all ≡ take place (remove now next) ++ joined (hull whole w) (drop next (remove now next))
joined-on all now place next whole w below on is same low high =
    same ∙ ap (λ l. take place now ++ l) (joined-here now next whole w on is low high)
    ∙ ap (λ l. l ++ joined (hull whole w) (drop (next + 1) now)) (sym (take-remove now place next below))
    ∙ ap (λ l. take place (remove now next) ++ joined (hull whole w) l) (sym (drop-remove now next))

-- none is reached any more
joined-rest : (now : List Span) (next : ℕ) (whole : Span) → (next < length now → whole.until < (get_or now next whole).from) → joined whole (drop next now) ≡ whole ∷ drop next now
joined-rest now next whole later =
    elim (cases_lt next (length now)) [
      | inl on ↦
          let first = drop_more now next whole on in
          ap (joined whole) first ∙ joined-done whole (get_or now next whole) (drop (next + 1) now) (later on) ∙ ap (λ l. whole ∷ l) (sym first)
      | inr past ↦ let none = drop_all next now past in ap (joined whole) none ∙ ap (λ l. whole ∷ l) (sym none)
    ]

pub joined-set : (all now : List Span) (place : ℕ) (whole : Span) → place < length now → (place + 1 < length now → whole.until < (get_or now (place + 1) whole).from)
    → all ≡ take place now ++ joined whole (drop (place + 1) now) → set now place whole ≡ all
joined-set all now place whole on later same =
    let e : suc place ≡ place + 1 = omega arith in
    set_split now place whole on ∙ ap (λ n. take place now ++ whole ∷ drop n now) e ∙ ap (λ l. take place now ++ l) (sym (joined-rest now (place + 1) whole later)) ∙ sym same

pub joined-all : (all now new : List Span) (place : ℕ) (whole : Span) → place ≤ length now → (place < length now → whole.until < (get_or now place whole).from)
    → all ≡ take place now ++ joined whole (drop place now) → new ≡ insert now place whole → new ≡ all
joined-all all now new place whole few later same put =
    put ∙ insert-parts now place whole few ∙ ap (λ l. take place now ++ l) (sym (joined-rest now place whole later)) ∙ sym same

-- ---- given back

back : (in_span have blocked : Bool) → ((have || in_span) && not (in_span && blocked)) ≡ cond in_span (not blocked) have
back true true blocked = refl
back true false blocked = refl
back false true blocked = refl
back false false blocked = refl

pub given-back : (sets : List (List Segment)) (holds : List Hold) (segment : Segment) (span : Span) (rows : List Segment) (old now new : List Span) → AreConflicts sets segment rows
    → span.from < span.until → AreApart 0 old → now ≡ joined span old → AreRid (λ t. span_has span t && list_any (λ s. held_at holds s t) rows) now new
    → AreGivenBack sets holds segment span old new
given-back sets holds segment span rows old now new all some apart is rid = record {
  apart = rid.apart;
  seconds = λ t.
      rid.seconds t
      ∙ ap (λ l. covers l t && not (span_has span t && list_any (λ s. held_at holds s t) rows)) is
      ∙ ap (λ b. b && not (span_has span t && list_any (λ s. held_at holds s t) rows)) (joined-covers span 0 t old some apart)
      ∙ ap (λ b. (covers old t || span_has span t) && not (span_has span t && b)) (held_in_all sets holds segment rows t all)
      ∙ back (span_has span t) (covers old t) (list_any (blocks sets segment t) holds);
}

-- a span of no time changes nothing
empty-has : (sf su t : ℕ) → su ≤ sf → (nat_le sf t && nat_lt t su) ≡ false
empty-has sf su t over = grind (arith, nat_tests)

pub given-none : (sets : List (List Segment)) (holds : List Hold) (segment : Segment) (span : Span) (old : List Span) → span.until ≤ span.from → AreApart 0 old
    → AreGivenBack sets holds segment span old old
given-none sets holds segment span old over apart = record { apart = apart; seconds = λ t. rw (empty-has span.from span.until t over) refl }
