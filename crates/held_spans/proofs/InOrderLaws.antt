-- Of spans that begin in order, those have the seconds of one span that begin before it ends, and not too long before it begins.
use Rattle.std.proofs.Common.{◌≡◌, ℕ, ◌+◌, ◌-◌, ◌<◌, ◌≤◌, ◌||◌, Bool, true, false, List, length, take, drop, get_or, IsTrue, IsFalse, refl, sym, ap, ◌∙◌, arith}
use Rattle.std.specs.Prelude.{All}
use Rattle.std.specs.List.{AllWithin}
use Rattle.std.proofs.lemmas.Bool.{false_from_ne_true}
use Rattle.std.proofs.lemmas.List.{take-append-drop, get_or-take, get_or-drop, length-take, length-drop}
use Rattle.std.proofs.lemmas.List.Folds.{list_any-append, list_any_none}
use Rattle.taxi_base.specs.declared.rows.Span.{Span}
use Rattle.taxi_base.specs.Windows.{covers, span_has}
use Rattle.taxi_base.proofs.WindowLaws.{span_has-true}

none-covers : (spans : List Span) (t : ℕ) → All (λ s. IsFalse (span_has s t)) spans → IsFalse (covers spans t)
none-covers spans t none = list_any_none (λ (s : Span). span_has s t) spans none

-- the later ones begin when the second is past
later-none : (spans : List Span) (n t : ℕ) → ((k : ℕ) (d : Span) → n ≤ k → k < length spans → t < (get_or spans k d).from) → IsFalse (covers (drop n spans) t)
later-none spans n t later =
    none-covers (drop n spans) t (λ k d low.
    rw (get_or-drop n spans k d)
    (false_from_ne_true _ (λ has.
    absurd (omega (arith, (span_has-true (get_or spans (n + k) d) t has).0, later (n + k) d (omega arith) (omega (arith, low, length-drop n spans)))))))

-- the first ones are over by then
first-none : (spans : List Span) (n t : ℕ) → ((k : ℕ) (d : Span) → k < n → k < length spans → (get_or spans k d).until ≤ t) → IsFalse (covers (take n spans) t)
first-none spans n t over =
    none-covers (take n spans) t (λ k d low.
    let in_n : k < n = omega (arith, low, length-take n spans) in
    let in_all : k < length spans = omega (arith, low, length-take n spans) in
    rw (get_or-take n spans k d in_n)
    (false_from_ne_true _ (λ has. absurd (omega (arith, (span_has-true (get_or spans k d) t has).1, over k d in_n in_all)))))

or-none : (x y : Bool) → y ≡ false → (x || y) ≡ x
or-none true y none = refl
or-none false y none = none

parted : (spans : List Span) (n t : ℕ) → covers spans t ≡ (covers (take n spans) t || covers (drop n spans) t)
parted spans n t =
    ap (λ (l : List Span). covers l t) (sym (take-append-drop n spans)) ∙ list_any-append (λ (s : Span). span_has s t) (take n spans) (drop n spans)

pub near-covers : (spans : List Span) (longest : ℕ) (span : Span) (n m t : ℕ) → All (λ s. s.until ≤ s.from + longest) spans → n ≤ length spans
    → AllWithin (λ s. span.until ≤ s.from) spans n (length spans) → m ≤ length (take n spans) → AllWithin (λ s. s.from < span.from - longest) (take n spans) 0 m
    → IsTrue (span_has span t) → covers (drop m (take n spans)) t ≡ covers spans t
near-covers spans longest span n m t short few after some before has =
    let inside = span_has-true span t has in
    let begun = take n spans in
    let late : IsFalse (covers (drop n spans) t) = later-none spans n t (λ k d from low. omega (arith, after k d from low, inside.1)) in
    let over : IsFalse (covers (take m begun) t) = first-none begun m t (λ k d in_m low.
    let in_n : k < n = omega (arith, low, length-take n spans) in
    let in_all : k < length spans = omega (arith, low, length-take n spans) in
    let same = get_or-take n spans k d in_n in
    let early : (get_or spans k d).from < span.from - longest = rw same at (before k d (omega arith) in_m) in
    rw same (omega (arith, early, short k d in_all, inside.0))) in
    sym (parted spans n t ∙ or-none (covers begun t) (covers (drop n spans) t) late ∙ parted begun m t ∙ ap (λ (b : Bool). b || covers (drop m begun) t) over)
