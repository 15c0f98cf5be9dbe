-- What steps hold, put in and taken out one step after the other.
use Rattle.std.proofs.Common.{◌≡◌, ◌∙◌, ℕ, ◌+◌, ◌<◌, ◌≤◌, ◌==◌, cond, List, [], ◌∷◌, ◌++◌, length, map, get_or, take, drop, append-nil, refl, sym, ap, subst, arith}
use Rattle.std.specs.Prelude.{Result, Ok, Err, OnOk, OnErr}
use Rattle.std.proofs.lemmas.List.{at_drop_more, drop_all, map-append, take_all, take_more}
use Rattle.std.proofs.lemmas.List.Sums.{sum_by_more}
use Rattle.taxi_base.specs.declared.numbers.Segment.{Segment}
use Rattle.taxi_base.specs.declared.rows.Span.{Span}
use Rattle.taxi_base.specs.declared.rows.Step.{Step}
use Rattle.taxi_base.specs.Airport.{segment_of}
use Rattle.taxi_base.specs.Windows.{Hold, hold_of, holds_of}
use Rattle.held_spans.specs.declared.spans.HeldSpans.{HeldSpans}
use Rattle.held_spans.specs.Spans.{NamedHold, held_by, AreHeldBy, steps_on}
use Rattle.held_spans.proofs.SpanLaws.{one_hold, AreHeldBy-same, named-cons, named-append}

-- what stands for a step that is not there
abbrev pub no_step : Step
no_step = record { arc = record { 0 = 0 }; enter = 0; leave = 0 }

-- what a call did that did not fail
pub done-ok : {A E : Type 0} (r : Result A E) (P : Type 0) → OnOk r P → ((e : E) → r ≡ Err e → ⊥) → P
done-ok (Ok x) P h never = h
done-ok (Err x) P h never = absurd (never x refl)

-- what follows of what a call did
pub then-ok : {A E : Type 0} (r : Result A E) (P Q : Type 0) → (P → Q) → OnOk r P → OnOk r Q
then-ok (Ok x) P Q follows h = follows h
then-ok (Err x) P Q follows h = tt

pub then-err : {A E : Type 0} (r : Result A E) (P Q : Type 0) → (P → Q) → OnErr r P → OnErr r Q
then-err (Ok x) P Q follows h = tt
then-err (Err x) P Q follows h = follows h

-- one item more is read as the next of a list
pub read-more : {X Y : Type 0} (f : X → Y) (xs ys : List X) (i : ℕ) (x y : X) → i < length xs → x ≡ get_or xs i x → f y ≡ f x → map f ys ≡ map f (take i xs)
    → map f (ys ++ y ∷ []) ≡ map f (take (i + 1) xs)
read-more {X} {Y} f xs ys i x y low is same so_far =
    map-append f ys (y ∷ []) ∙ ap (λ (all : List Y). all ++ f y ∷ []) so_far ∙ ap (λ (z : Y). map f (take i xs) ++ z ∷ []) (same ∙ ap f is)
    ∙ sym (map-append f (take i xs) (get_or xs i x ∷ [])) ∙ ap (map f) (sym (take_more xs i x low))

-- a hold among others, put first
front : (held : HeldSpans) (holds : List NamedHold) (h : NamedHold) (rest : List NamedHold) → AreHeldBy (holds ++ h ∷ rest) held → AreHeldBy (h ∷ (holds ++ rest)) held
front held holds h rest are =
    AreHeldBy-same held (holds ++ h ∷ rest) (h ∷ (holds ++ rest))
    (λ s weight. omega (arith, named-append weight s holds (h ∷ rest), named-cons weight s h rest, named-cons weight s h (holds ++ rest), named-append weight s holds rest)) are

module _ (holder : List ℕ) (horizon clearance : ℕ) (steps : List Step) (i : ℕ) (segment : Segment) (span : Span) (on : i < length steps) (is_segment : segment ≡ segment_of (get_or steps i no_step).arc)
    (is_span : span ≡ (hold_of horizon clearance (get_or steps i no_step)).span) where
  is_hold : hold_of horizon clearance (get_or steps i no_step) ≡ record { segment = segment; span = span }
  is_hold = λ j. record { segment = sym is_segment j; span = sym is_span j }

  -- the next of the holds that are left is the step's
  pub first-left : (held : HeldSpans) (holds : List NamedHold) → AreHeldBy (holds ++ held_by holder (holds_of horizon clearance (drop i steps))) held
      → AreHeldBy (one_hold segment span holder ∷ (holds ++ held_by holder (holds_of horizon clearance (drop (i + 1) steps)))) held
  first-left held holds are =
      let next = at_drop_more (λ (rest : List Step). held_by holder (holds_of horizon clearance rest)) steps i no_step on in
      let there = next ∙ ap (λ (h : Hold). record { hold = h; holder = holder } ∷ held_by holder (holds_of horizon clearance (drop (i + 1) steps))) is_hold in
      front held holds (one_hold segment span holder) (held_by holder (holds_of horizon clearance (drop (i + 1) steps))) (subst (λ (rest : List NamedHold). AreHeldBy (holds ++ rest) held) there are)

  -- how many of the first steps are on a segment
  pub steps_on-more : (s : Segment) → steps_on s (take (i + 1) steps) ≡ steps_on s (take i steps) + cond (segment.0 == s.0) 1 0
  steps_on-more s =
      sum_by_more (λ (step : Step). cond ((segment_of step.arc).0 == s.0) 1 0) steps i no_step on ∙ ap (λ (x : Segment). steps_on s (take i steps) + cond (x.0 == s.0) 1 0) (sym is_segment)

-- none is left
pub none-left : (holder : List ℕ) (horizon clearance : ℕ) (steps : List Step) (i : ℕ) → length steps ≤ i → (held : HeldSpans) (holds : List NamedHold)
    → AreHeldBy (holds ++ held_by holder (holds_of horizon clearance (drop i steps))) held → AreHeldBy holds held
none-left holder horizon clearance steps i past held holds are =
    let there = subst (λ (rest : List Step). AreHeldBy (holds ++ held_by holder (holds_of horizon clearance rest)) held) (drop_all i steps past) are in
    subst (λ (all : List NamedHold). AreHeldBy all held) (append-nil holds) there

pub steps_on-all : (steps : List Step) (i : ℕ) → length steps ≤ i → (s : Segment) → steps_on s (take i steps) ≡ steps_on s steps
steps_on-all steps i past s = ap (λ (some : List Step). steps_on s some) (take_all i steps past)
