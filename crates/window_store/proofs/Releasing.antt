-- How far the seconds of a span have been given back, and what each step of that makes of the list.
use Rattle.std.proofs.Common.{◌≡◌, ℕ, ◌+◌, ◌<◌, ◌≤◌, List, ◌∷◌, length, inl, inr, sym, ◌∙◌, subst, arith}
use Rattle.taxi_base.specs.declared.rows.Span.{Span}
use Rattle.taxi_base.specs.Windows.{AreWindows}
use Rattle.interval_list.specs.Intervals.{Intervals, span, spans_of, with_span, IsNormal, OwnsSame, KeepsUntouched}
use Rattle.window_store.specs.Held.{IsFirstHeld, IsHeldUntil}
use Rattle.window_store.specs.Spans.{is_unheld}
use Rattle.window_store.proofs.Spans.{windows-few, AreWindows-skipped, AreWindows-freed}

-- the windows stand for the other spans and for what of this one begins at a second: the rest has been given back
pub record IsGivenBackUntil (from : ℕ) (s : Span) (spans : List Span) (old new : Intervals) : Type 0 where
  pub after : s.from ≤ from
  pub within : from ≤ s.until
  pub windows : (horizon : ℕ) → s.until ≤ horizon → AreWindows (is_unheld horizon (s ∷ spans)) (spans_of old.windows) → AreWindows (is_unheld horizon (span from s.until ∷ spans)) (spans_of new.windows)
  pub normal : IsNormal new
  pub kept : KeepsUntouched s old.windows new.windows
  pub ids : OwnsSame old new
  pub number : length new.windows + length new.spare ≡ length old.windows + length old.spare

-- the others hold the next seconds
pub IsGivenBackUntil-held : (from next until : ℕ) (s : Span) (spans : List Span) (old new : Intervals) → from ≤ next → next ≤ until → next ≤ s.until → IsHeldUntil spans from until
    → IsGivenBackUntil from s spans old new → IsGivenBackUntil next s spans old new
IsGivenBackUntil-held from next until s spans old new later inside within held given = record {
  after = omega (arith, given.after, later);
  within = within;
  windows = λ horizon short are. AreWindows-skipped horizon from next s.until spans _ later (λ t low high. held.held t low (omega (arith, high, inside))) (given.windows horizon short are);
  normal = given.normal;
  kept = given.kept;
  ids = given.ids;
  number = given.number;
}

-- the windows once the seconds before the first held one are given back
freed : (horizon from until : ℕ) (s : Span) (spans : List Span) (old now : Intervals) → s.until ≤ horizon → from < until → IsFirstHeld spans from s.until until
    → AreWindows (is_unheld horizon (s ∷ spans)) (spans_of old.windows) → IsGivenBackUntil from s spans old now
    → AreWindows (is_unheld horizon (span until s.until ∷ spans)) (with_span (span from until) (spans_of now.windows))
freed horizon from until s spans old now short some first are given =
    AreWindows-freed horizon from until s.until spans _ some first.not_after short first.none_before (given.windows horizon short are)

-- there are nodes enough for them
pub room_to_free : (horizon from until : ℕ) (s : Span) (spans : List Span) (old now : Intervals) → s.until ≤ horizon → from < until → IsFirstHeld spans from s.until until
    → 2 + length spans ≤ length old.windows + length old.spare → AreWindows (is_unheld horizon (s ∷ spans)) (spans_of old.windows) → IsGivenBackUntil from s spans old now
    → length (with_span (span from until) (spans_of now.windows)) ≤ length now.windows + length now.spare
room_to_free horizon from until s spans old now short some first room are given =
    omega (arith, windows-few horizon (span until s.until ∷ spans) _ (freed horizon from until s spans old now short some first are given), room, given.number)

-- the seconds before the first held one are given back
pub IsGivenBackUntil-freed : (from until : ℕ) (s : Span) (spans : List Span) (old now new : Intervals) → from < until → IsFirstHeld spans from s.until until
    → spans_of new.windows ≡ with_span (span from until) (spans_of now.windows) → IsNormal new → KeepsUntouched (span from until) now.windows new.windows → OwnsSame now new
    → length new.windows + length new.spare ≡ length now.windows + length now.spare → IsGivenBackUntil from s spans old now → IsGivenBackUntil until s spans old new
IsGivenBackUntil-freed from until s spans old now new some first windows normal kept ids number given = record {
  after = omega (arith, given.after, some);
  within = first.not_after;
  windows = λ horizon short are. subst (λ (ws : List Span). AreWindows (is_unheld horizon (span until s.until ∷ spans)) ws) (sym windows) (freed horizon from until s spans old now short some first are given);
  normal = normal;
  kept = λ w stands away. kept w (given.kept w stands away) (elim away [ inl low ↦ inl (omega (arith, low, given.after)) | inr high ↦ inr (omega (arith, high, first.not_after)) ]);
  ids = λ id. ids id ∙ given.ids id;
  number = omega (arith, number, given.number);
}
