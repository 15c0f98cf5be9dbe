-- The windows that spans leave of the seconds before a horizon: there is at most one more than there are spans, and what
-- they become when a span is held and when seconds are given back.
use Rattle.std.proofs.Common.{◌≡◌, ℕ, ◌+◌, ◌<◌, ◌≤◌, ◌⊎◌, Bool, true, false, not, ◌&&◌, ◌||◌, inl, inr, List, [], ◌∷◌, length, get_or, IsTrue, IsFalse, refl, sym, ◌∙◌, ap, arith}
use Rattle.std.specs.Prelude.{nat_lt, All}
use Rattle.std.proofs.lemmas.Bool.{cases_lt, lt-ltb, le-ltb, le-leb, or_right}
use Rattle.std.proofs.Math.Bool.{or-false}
use Rattle.std.proofs.lemmas.List.{length-map}
use Rattle.std.proofs.lemmas.List.Elements.{Contains-get_or}
use Rattle.taxi_base.specs.declared.rows.Span.{Span}
use Rattle.taxi_base.specs.Windows.{span_has, covers, AreWindows, windows_before}
use Rattle.taxi_base.proofs.ListLaws.{Contains-map}
use Rattle.taxi_base.proofs.WindowLaws.{span_has-from, span_has-before, span_has-after, AreWindows-same, AreWindows-member, IsWindow-by}
use Rattle.taxi_base.proofs.WindowsMade.{windows_before-are}
use Rattle.interval_list.specs.declared.window.Window.{Window}
use Rattle.interval_list.specs.Intervals.{span, span_of, spans_of, without_span, with_span}
use Rattle.interval_list.proofs.Seconds.{covers-rest, covers-without_span, apart-without_span, length-without_span, covers-with_span, apart-with_span}
use Rattle.window_store.specs.Spans.{Listed, is_unheld, StandsForSpans}

-- ---- which seconds are free

is_unheld-alike : (horizon : ℕ) (spans others : List Span) (t : ℕ) → covers spans t ≡ covers others t → is_unheld horizon spans t ≡ is_unheld horizon others t
is_unheld-alike horizon spans others t same = ap (λ (held : Bool). nat_lt t horizon && not held) same

-- the windows are the same for spans with the same seconds
pub AreWindows-alike : (horizon : ℕ) (spans others ws : List Span) → ((t : ℕ) → covers spans t ≡ covers others t)
    → AreWindows (is_unheld horizon spans) ws → AreWindows (is_unheld horizon others) ws
AreWindows-alike horizon spans others ws same are = record { apart = are.apart; same = λ t. are.same t ∙ is_unheld-alike horizon spans others t (same t) }

is_unheld-past : (horizon : ℕ) (spans : List Span) (t : ℕ) → horizon ≤ t → IsFalse (is_unheld horizon spans t)
is_unheld-past horizon spans t past = rw (le-ltb t horizon past) refl

-- a span with no second holds none
covers-empty : (s : Span) (spans : List Span) (t : ℕ) → s.until ≤ s.from → covers (s ∷ spans) t ≡ covers spans t
covers-empty s spans t none =
    elim (cases_lt t s.from) [
      | inl low ↦ rw (span_has-before s t low) refl
      | inr high ↦ rw (span_has-after s t (omega arith)) refl
    ]

neither : (some held more : Bool) → ((some && not held) && not more) ≡ (some && not (more || held))
neither false held more = refl
neither true true true = refl
neither true true false = refl
neither true false true = refl
neither true false false = refl

-- ---- a span is held

-- the windows without a span are those that it leaves, too
pub AreWindows-held : (horizon : ℕ) (s : Span) (spans ws : List Span) → s.from < s.until → AreWindows (is_unheld horizon spans) ws
    → AreWindows (is_unheld horizon (s ∷ spans)) (without_span s ws)
AreWindows-held horizon s spans ws some are = record {
  apart = apart-without_span 0 s ws some are.apart;
  same = λ t. covers-without_span s ws t ∙ ap (λ (free : Bool). free && not (span_has s t)) (are.same t) ∙ neither (nat_lt t horizon) (covers spans t) (span_has s t);
}

-- ---- the horizon

-- windows end by the horizon where no second from it on is free
pub windows-in_time : (free : ℕ → Bool) (horizon : ℕ) (ws : List Window) → ((t : ℕ) → horizon ≤ t → IsFalse (free t)) → AreWindows free (spans_of ws) → All (λ w. w.until ≤ horizon) ws
windows-in_time free horizon ws shut are k d low =
    let w : Window = get_or ws k d in
    IsWindow-by free (span_of w) horizon shut (AreWindows-member free (spans_of ws) (span_of w) are (Contains-map span_of ws w (Contains-get_or ws k d low)))

-- ---- the number of windows

-- with no span held, the seconds before the horizon are one window or none
all_free : (horizon : ℕ) (ws : List Span) → AreWindows (is_unheld horizon []) ws → length ws ≤ 1
all_free horizon ws are =
    elim (cases_lt 0 horizon) [
      | inl some ↦
          let one : AreWindows (is_unheld horizon []) (span 0 horizon ∷ []) = record {
            apart = (omega arith, some, tt);
            same = λ t. elim (cases_lt t horizon) [
              | inl low ↦ rw (span_has-from (span 0 horizon) t (omega arith) low) (rw (lt-ltb t horizon low) refl)
              | inr high ↦ rw (span_has-after (span 0 horizon) t high) (rw (le-ltb t horizon high) refl)
            ];
          } in
          omega (arith, ap (λ (vs : List Span). length vs) (AreWindows-same _ ws _ are one))
      | inr none ↦
          let no_window : AreWindows (is_unheld horizon []) [] = record { apart = tt; same = λ t. sym (is_unheld-past horizon [] t (omega arith)) } in
          omega (arith, ap (λ (vs : List Span). length vs) (AreWindows-same _ ws _ are no_window))
    ]

-- Spans leave at most one window more than there are spans. This is the argument for the room of a list: a node more for each
-- hold is room for the windows after any edit, so no edit asks for memory.
-- With no span there is one window at most. One span more takes its seconds out of those windows. They lie apart and it has no
-- gap, so it cuts one of them in two at most, and all else that it does is to shorten windows or to take them out. So there is
-- at most one window more than before. A span without a second takes nothing out.
pub windows-few : (horizon : ℕ) (spans ws : List Span) → AreWindows (is_unheld horizon spans) ws → length ws ≤ 1 + length spans
windows-few horizon [] ws are = all_free horizon ws are
windows-few horizon (s ∷ spans) ws are =
    elim (cases_lt s.from s.until) [
      | inl some ↦
          let vs : List Span = windows_before (is_unheld horizon spans) horizon in
          let rest : AreWindows (is_unheld horizon spans) vs = windows_before-are _ horizon (is_unheld-past horizon spans) in
          let same : ws ≡ without_span s vs = AreWindows-same _ ws _ are (AreWindows-held horizon s spans vs some rest) in
          omega (arith, ap (λ (us : List Span). length us) same, length-without_span 0 s vs some rest.apart, windows-few horizon spans vs rest)
      | inr none ↦
          let fewer : AreWindows (is_unheld horizon spans) ws = AreWindows-alike horizon (s ∷ spans) spans ws (λ t. covers-empty s spans t none) are in
          omega (arith, windows-few horizon spans ws fewer)
    ]

-- ---- a span is given back, but for what others hold

-- a span has the same seconds from another start on, and none before either
outside : (from next last : ℕ) (spans : List Span) (t : ℕ) → from ≤ next → (t < from) ⊎ (next ≤ t) → covers (span from last ∷ spans) t ≡ covers (span next last ∷ spans) t
outside from next last spans t later away =
    elim away [
      | inl low ↦ rw (span_has-before (span from last) t low) (rw (span_has-before (span next last) t (omega (arith, low))) refl)
      | inr high ↦ rw (le-leb from t (omega (arith, high))) (rw (le-leb next t high) refl)
    ]

-- a span may begin later where others hold what it leaves
pub AreWindows-skipped : (horizon from next last : ℕ) (spans ws : List Span) → from ≤ next → ((t : ℕ) → from ≤ t → t < next → IsTrue (covers spans t))
    → AreWindows (is_unheld horizon (span from last ∷ spans)) ws → AreWindows (is_unheld horizon (span next last ∷ spans)) ws
AreWindows-skipped horizon from next last spans ws later held are = AreWindows-alike horizon (span from last ∷ spans) (span next last ∷ spans) ws same are where
  same : (t : ℕ) → covers (span from last ∷ spans) t ≡ covers (span next last ∷ spans) t
  same t = elim (cases_lt t from) [
    | inl low ↦ outside from next last spans t later (inl low)
    | inr high ↦ elim (cases_lt t next) [
      | inl inside ↦ covers-rest (span from last) spans t (held t high inside) ∙ sym (covers-rest (span next last) spans t (held t high inside))
      | inr past ↦ outside from next last spans t later (inr past)
    ]
  ]

-- what a span has before a second, and no other has, is free once it begins at that second
pub AreWindows-freed : (horizon from next last : ℕ) (spans ws : List Span) → from < next → next ≤ last → last ≤ horizon → ((t : ℕ) → from ≤ t → t < next → IsFalse (covers spans t))
    → AreWindows (is_unheld horizon (span from last ∷ spans)) ws → AreWindows (is_unheld horizon (span next last ∷ spans)) (with_span (span from next) ws)
AreWindows-freed horizon from next last spans ws some within short unheld are = record {
  apart = apart-with_span 0 (span from next) ws (omega arith) some are.apart;
  same = λ t. covers-with_span (span from next) ws t ∙ ap (λ (free : Bool). free || span_has (span from next) t) (are.same t) ∙ same t;
} where
  away : (t : ℕ) → (t < from) ⊎ (next ≤ t) → IsFalse (span_has (span from next) t)
  away t h = elim h [ inl low ↦ span_has-before (span from next) t low | inr high ↦ span_has-after (span from next) t high ]

  stays : (t : ℕ) → (t < from) ⊎ (next ≤ t) → (is_unheld horizon (span from last ∷ spans) t || span_has (span from next) t) ≡ is_unheld horizon (span next last ∷ spans) t
  stays t h =
      ap (λ (more : Bool). is_unheld horizon (span from last ∷ spans) t || more) (away t h) ∙ or-false (is_unheld horizon (span from last ∷ spans) t) ∙ is_unheld-alike horizon (span from last ∷ spans) (span next last ∷ spans) t (outside from next last spans t (omega (arith, some)) h)

  freed : (t : ℕ) → from ≤ t → t < next → IsTrue (is_unheld horizon (span next last ∷ spans) t)
  freed t low high = rw (lt-ltb t horizon (omega (arith, high, within, short))) (rw (span_has-before (span next last) t high) (rw (unheld t low high) refl))

  same : (t : ℕ) → (is_unheld horizon (span from last ∷ spans) t || span_has (span from next) t) ≡ is_unheld horizon (span next last ∷ spans) t
  same t = elim (cases_lt t from) [
    | inl low ↦ stays t (inl low)
    | inr high ↦ elim (cases_lt t next) [
      | inl inside ↦ or_right _ _ (span_has-from (span from next) t high inside) ∙ sym (freed t high inside)
      | inr past ↦ stays t (inr past)
    ]
  ]

-- once nothing of a span is left to give back, the others are the spans
pub AreWindows-released : (horizon from last : ℕ) (spans ws : List Span) → last ≤ from → AreWindows (is_unheld horizon (span from last ∷ spans)) ws → AreWindows (is_unheld horizon spans) ws
AreWindows-released horizon from last spans ws done are = AreWindows-alike horizon (span from last ∷ spans) spans ws (λ t. covers-empty (span from last) spans t done) are

-- ---- what stands for spans

-- A list has at most one window more than it stands for spans.
pub fewer_windows : (horizon : ℕ) (spans : List Span) (l : Listed) → StandsForSpans horizon spans l → length l.intervals.windows ≤ 1 + l.held
fewer_windows horizon spans l stands = omega (arith, windows-few horizon spans _ stands.windows, length-map l.intervals.windows span_of, stands.number)

-- It stands for each list of as many spans with the same seconds.
pub same_spans : (horizon : ℕ) (spans others : List Span) (l : Listed) → ((t : ℕ) → covers spans t ≡ covers others t) → length spans ≡ length others → StandsForSpans horizon spans l → StandsForSpans horizon others l
same_spans horizon spans others l same number stands = record {
  windows = AreWindows-alike horizon spans others (spans_of l.intervals.windows) same stands.windows;
  number = stands.number ∙ number;
  room = omega (arith, stands.room, number);
}
