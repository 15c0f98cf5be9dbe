-- The spans without the names of their holders: what comes to be held with the names comes to be held without them, and so does what is gone.
use Rattle.std.proofs.Common.{◌≡◌, ℕ, ◌+◌, List, [], ◌∷◌, ◌++◌, ◌==◌, cond, map, refl, ap, arith}
use Rattle.std.specs.Prelude.{Contains}
use Rattle.std.specs.List.{remove}
use Rattle.std.proofs.lemmas.List.Sums.{sum_by-cons, sum_by-remove}
use Rattle.taxi_base.specs.declared.numbers.Segment.{Segment}
use Rattle.taxi_base.specs.declared.rows.Span.{Span}
use Rattle.taxi_base.specs.Windows.{Hold}
use Rattle.held_spans.specs.declared.spans.HeldSpans.{HeldSpans}
use Rattle.held_spans.specs.Spans.{rows_at, weight_on, AreSpansOf, NamedHold, held_by, weight_by, AreHeldBy, named_in_lists}
use Rattle.held_spans.proofs.SpanLaws.{one_hold, weight-cons, weight-append, named-cons, named-append, weight-unnamed, AreSpansOf-held, AreHeldBy-own, AreHeldBy-same, among-held}

-- holds without the names of their holders
abbrev pub unnamed : List NamedHold → List Hold
unnamed holds = map (λ (h : NamedHold). h.hold) holds

pub unnamed-held_by : (name : List ℕ) (holds : List Hold) → unnamed (held_by name holds) ≡ holds
unnamed-held_by name [] = refl
unnamed-held_by name (h ∷ holds) = ap (λ (rest : List Hold). h ∷ rest) (unnamed-held_by name holds)

-- what a weight of spans comes to over holds with names
abbrev pub weight_alone : (Span → ℕ) → Segment → List NamedHold → ℕ
weight_alone weight s holds = weight_by (λ row. weight row.0) s holds

module _ (old new : HeldSpans) where
  -- what the lists have more or less with the names, they have more or less without
  pub spans-follow : (named after : List NamedHold) → AreHeldBy named old → AreHeldBy after new → (holds left : List Hold)
      → ((s : Segment) (weight : Span → ℕ) → weight_on weight s left + weight_alone weight s named ≡ weight_on weight s holds + weight_alone weight s after)
      → AreSpansOf holds old → AreSpansOf left new
  spans-follow named after were are holds left same had = record {
    each = λ s weight. omega (
      arith,
      same s weight,
      had.each s weight,
      (AreSpansOf-held old named were).each s weight,
      (AreSpansOf-held new after are).each s weight,
      weight-unnamed weight s named,
      weight-unnamed weight s after,
    );
  }

  pub spans-more : (more : List NamedHold) → ((holds : List NamedHold) → AreHeldBy holds old → AreHeldBy (holds ++ more) new)
      → (holds : List Hold) → AreSpansOf holds old → AreSpansOf (holds ++ unnamed more) new
  spans-more more gains holds had =
      let own = named_in_lists old in
      spans-follow own (own ++ more) (AreHeldBy-own old) (gains own (AreHeldBy-own old)) holds (holds ++ unnamed more)
      (λ s weight. omega (arith, weight-append weight s holds (unnamed more), weight-unnamed weight s more, named-append (λ (row : Span × List ℕ). weight row.0) s own more)) had

  pub spans-same : ((holds : List NamedHold) → AreHeldBy holds old → AreHeldBy holds new) → (holds : List Hold) → AreSpansOf holds old → AreSpansOf holds new
  spans-same keeps holds had =
      let own = named_in_lists old in spans-follow own own (AreHeldBy-own old) (keeps own (AreHeldBy-own old)) holds holds (λ s weight. refl) had

  pub spans-less : (rest more : List NamedHold) → AreHeldBy (rest ++ more) old → AreHeldBy rest new → (holds : List Hold) → AreSpansOf (holds ++ unnamed more) old → AreSpansOf holds new
  spans-less rest more were are holds had =
      spans-follow (rest ++ more) rest were are (holds ++ unnamed more) holds
      (λ s weight. omega (arith, weight-append weight s holds (unnamed more), weight-unnamed weight s more, named-append (λ (row : Span × List ℕ). weight row.0) s rest more)) had

  pub spans-without_one : (segment : Segment) (span : Span) (holder : List ℕ) (rest : List NamedHold) → AreHeldBy (one_hold segment span holder ∷ rest) old → AreHeldBy rest new
      → (holds : List Hold) → AreSpansOf (record { segment = segment; span = span } ∷ holds) old → AreSpansOf holds new
  spans-without_one segment span holder rest were are holds had =
      let one = one_hold segment span holder in
      spans-follow (one ∷ rest) rest were are (one.hold ∷ holds) holds
      (λ s weight. omega (arith, weight-cons weight s one.hold holds, weight-unnamed weight s (one ∷ []), named-cons (λ (row : Span × List ℕ). weight row.0) s one rest)) had

-- a span that stands in a list, apart from all others
pub one-apart : (held : HeldSpans) (segment : Segment) (span : Span) (holder : List ℕ) → Contains (rows_at held segment) (span, holder) → (rest : List NamedHold) × AreHeldBy (one_hold segment span holder ∷ rest) held
one-apart held segment span holder there =
    let own = named_in_lists held in
    let one = one_hold segment span holder in
    let among = among-held segment span holder held own (AreHeldBy-own held) there in
    let rest = remove own among.0 in (
      rest,
      AreHeldBy-same held own (one ∷ rest)
          (λ s weight.
          let of_h : NamedHold → ℕ = λ h. cond (h.hold.segment.0 == s.0) (weight (h.hold.span, h.holder)) 0 in
          let here = ap of_h among.2 in
          omega (arith, sum_by-remove of_h own among.0 one among.1, here, sum_by-cons of_h one rest)) (AreHeldBy-own held),
    )
