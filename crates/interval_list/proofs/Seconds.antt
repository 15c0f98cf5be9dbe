-- What spans cover once a span is taken out or given back, and that they stay apart.
use Rattle.std.proofs.Common.{◌≡◌, ℕ, ◌+◌, ◌<◌, ◌≤◌, max, min, not, ◌&&◌, ◌||◌, ◌⊎◌, inl, inr, List, [], ◌∷◌, ◌++◌, length, IsTrue, IsFalse, refl, sym, ◌∙◌, subst, arith}
use Rattle.std.specs.Prelude.{nat_lt}
use Rattle.std.specs.Cmp.{both_ways as same_test}
use Rattle.std.proofs.lemmas.Bool.{both_ways, cases_lt, cond-true, cond-false, lt-ltb, le-ltb, or_cases, or_left, or_right, and_parts, and_from, not-true, not_from_false, false_from_ne_true, true≢false}
use Rattle.taxi_base.specs.declared.rows.Span.{Span}
use Rattle.taxi_base.specs.Windows.{span_has, covers, AreApart}
use Rattle.taxi_base.proofs.WindowLaws.{span_has-true, span_has-from}
use Rattle.taxi_base.proofs.WindowsMade.{AreApart-lower}
use Rattle.interval_list.specs.Intervals.{span, before, behind, without_span, hull, with_span}

-- ---- the pieces

pub before-yes : (s w : Span) → w.from < s.from → before s w ≡ span w.from (min w.until s.from) ∷ []
before-yes s w h = cond-true (nat_lt w.from s.from) _ _ (lt-ltb w.from s.from h)

pub before-no : (s w : Span) → s.from ≤ w.from → before s w ≡ []
before-no s w h = cond-false (nat_lt w.from s.from) _ _ (le-ltb w.from s.from h)

pub behind-yes : (s w : Span) → s.until < w.until → behind s w ≡ span (max w.from s.until) w.until ∷ []
behind-yes s w h = cond-true (nat_lt s.until w.until) _ _ (lt-ltb s.until w.until h)

pub behind-no : (s w : Span) → w.until ≤ s.until → behind s w ≡ []
behind-no s w h = cond-false (nat_lt s.until w.until) _ _ (le-ltb s.until w.until h)

-- ---- what the first span covers, and what the rest do

pub covers-cases : (w : Span) (ws : List Span) (t : ℕ) → IsTrue (covers (w ∷ ws) t) → IsTrue (span_has w t) ⊎ IsTrue (covers ws t)
covers-cases w ws t h = or_cases (span_has w t) (covers ws t) h

pub covers-here : (w : Span) (ws : List Span) (t : ℕ) → IsTrue (span_has w t) → IsTrue (covers (w ∷ ws) t)
covers-here w ws t h = or_left (span_has w t) (covers ws t) h

pub covers-rest : (w : Span) (ws : List Span) (t : ℕ) → IsTrue (covers ws t) → IsTrue (covers (w ∷ ws) t)
covers-rest w ws t h = or_right (span_has w t) (covers ws t) h

-- ---- what appended spans cover

pub covers-append_cases : (xs ys : List Span) (t : ℕ) → IsTrue (covers (xs ++ ys) t) → IsTrue (covers xs t) ⊎ IsTrue (covers ys t)
covers-append_cases [] ys t h = inr h
covers-append_cases (x ∷ xs) ys t h =
    elim (covers-cases x (xs ++ ys) t h) [
      | inl here ↦ inl (covers-here x xs t here)
      | inr rest ↦ elim (covers-append_cases xs ys t rest) [ inl a ↦ inl (covers-rest x xs t a) | inr b ↦ inr b ]
    ]

pub covers-append_left : (xs ys : List Span) (t : ℕ) → IsTrue (covers xs t) → IsTrue (covers (xs ++ ys) t)
covers-append_left [] ys t h = absurd (true≢false (sym h))
covers-append_left (x ∷ xs) ys t h =
    elim (covers-cases x xs t h) [ inl here ↦ covers-here x (xs ++ ys) t here | inr rest ↦ covers-rest x (xs ++ ys) t (covers-append_left xs ys t rest) ]

pub covers-append_right : (xs ys : List Span) (t : ℕ) → IsTrue (covers ys t) → IsTrue (covers (xs ++ ys) t)
covers-append_right [] ys t h = h
covers-append_right (x ∷ xs) ys t h = covers-rest x (xs ++ ys) t (covers-append_right xs ys t h)

covers-one : (w : Span) (t : ℕ) → IsTrue (covers (w ∷ []) t) → (w.from ≤ t) × (t < w.until)
covers-one w t h = elim (covers-cases w [] t h) [ inl here ↦ span_has-true w t here | inr none ↦ absurd (true≢false (sym none)) ]

has_not : (s : Span) (t : ℕ) → (t < s.from) ⊎ (s.until ≤ t) → IsFalse (span_has s t)
has_not s t away = false_from_ne_true _ (λ h. let in_s = span_has-true s t h in elim away [ inl low ↦ absurd (omega (arith, low)) | inr high ↦ absurd (omega (arith, high)) ])

-- ---- a span is taken out

in_before : (s w : Span) (t : ℕ) → IsTrue (covers (before s w) t) → (w.from ≤ t) × (t < w.until) × (t < s.from)
in_before s w t h =
    elim (cases_lt w.from s.from) [
      | inl low ↦ let in_piece = covers-one _ t (subst (λ (ps : List Span). IsTrue (covers ps t)) (before-yes s w low) h) in (in_piece.0, omega (arith, in_piece.1), omega (arith, in_piece.1))
      | inr high ↦ absurd (true≢false (sym (subst (λ (ps : List Span). IsTrue (covers ps t)) (before-no s w high) h)))
    ]

in_behind : (s w : Span) (t : ℕ) → IsTrue (covers (behind s w) t) → (w.from ≤ t) × (t < w.until) × (s.until ≤ t)
in_behind s w t h =
    elim (cases_lt s.until w.until) [
      | inl low ↦ let in_piece = covers-one _ t (subst (λ (ps : List Span). IsTrue (covers ps t)) (behind-yes s w low) h) in (omega (arith, in_piece.0), in_piece.1, omega (arith, in_piece.0))
      | inr high ↦ absurd (true≢false (sym (subst (λ (ps : List Span). IsTrue (covers ps t)) (behind-no s w high) h)))
    ]

kept_before : (s w : Span) (t : ℕ) → w.from ≤ t → t < w.until → t < s.from → IsTrue (covers (before s w) t)
kept_before s w t low high away =
    subst (λ (ps : List Span). IsTrue (covers ps t)) (sym (before-yes s w (omega (arith, low, away)))) (covers-here _ [] t (span_has-from (span w.from (min w.until s.from)) t low (omega (arith, high, away))))

kept_behind : (s w : Span) (t : ℕ) → w.from ≤ t → t < w.until → s.until ≤ t → IsTrue (covers (behind s w) t)
kept_behind s w t low high away =
    subst (λ (ps : List Span). IsTrue (covers ps t)) (sym (behind-yes s w (omega (arith, high, away)))) (covers-here _ [] t (span_has-from (span (max w.from s.until) w.until) t (omega (arith, low, away)) high))

left_over : (s : Span) (ws : List Span) (t : ℕ) → IsTrue (covers (without_span s ws) t) → IsTrue (covers ws t) × IsFalse (span_has s t)
left_over s [] t h = absurd (true≢false (sym h))
left_over s (w ∷ ws) t h =
    elim (covers-append_cases (before s w) (behind s w ++ without_span s ws) t h) [
      | inl b ↦ let i = in_before s w t b in (covers-here w ws t (span_has-from w t i.0 i.1), has_not s t (inl i.2))
      | inr rest ↦ elim (covers-append_cases (behind s w) (without_span s ws) t rest) [
        | inl b ↦ let i = in_behind s w t b in (covers-here w ws t (span_has-from w t i.0 i.1), has_not s t (inr i.2))
        | inr more ↦ let r = left_over s ws t more in (covers-rest w ws t r.0, r.1)
      ]
    ]

not_taken : (s : Span) (ws : List Span) (t : ℕ) → IsTrue (covers ws t) → IsFalse (span_has s t) → IsTrue (covers (without_span s ws) t)
not_taken s [] t h none = absurd (true≢false (sym h))
not_taken s (w ∷ ws) t h none =
    elim (covers-cases w ws t h) [
      | inl here ↦
          let i = span_has-true w t here in
          elim (cases_lt t s.from) [
            | inl low ↦ covers-append_left (before s w) (behind s w ++ without_span s ws) t (kept_before s w t i.0 i.1 low)
            | inr high ↦ elim (cases_lt t s.until) [
              | inl inside ↦ absurd (both_ways _ none (span_has-from s t high inside))
              | inr past ↦ covers-append_right (before s w) (behind s w ++ without_span s ws) t (covers-append_left (behind s w) (without_span s ws) t (kept_behind s w t i.0 i.1 past))
            ]
          ]
      | inr rest ↦ covers-append_right (before s w) (behind s w ++ without_span s ws) t (covers-append_right (behind s w) (without_span s ws) t (not_taken s ws t rest none))
    ]

-- the seconds of the spans without s are the old ones without those of s
pub covers-without_span : (s : Span) (ws : List Span) (t : ℕ) → covers (without_span s ws) t ≡ (covers ws t && not (span_has s t))
covers-without_span s ws t =
    same_test _ _ (λ h. let r = left_over s ws t h in and_from _ _ r.0 (not_from_false _ r.1))
    (λ h. let parts = and_parts _ _ h in not_taken s ws t parts.0 (not-true _ parts.1))

pub apart-without_span : (low : ℕ) (s : Span) (ws : List Span) → s.from < s.until → AreApart low ws → AreApart low (without_span s ws)
apart-without_span low s [] some apart = tt
apart-without_span low s (w ∷ ws) some apart =
    let rest : AreApart (w.until + 1) (without_span s ws) = apart-without_span (w.until + 1) s ws some apart.2 in
    elim (cases_lt w.from s.from) [
      | inl b ↦ elim (cases_lt s.until w.until) [
        | inl e ↦ rw (before-yes s w b) (rw (behind-yes s w e) (omega (arith, apart.0), omega (arith, apart.1, b), (omega (arith, b, e, some), omega (arith, apart.1, e), rest)))
        | inr e ↦ rw (before-yes s w b) (rw (behind-no s w e) (omega (arith, apart.0), omega (arith, apart.1, b), AreApart-lower _ _ (without_span s ws) (omega arith) rest))
      ]
      | inr b ↦ elim (cases_lt s.until w.until) [
        | inl e ↦ rw (before-no s w b) (rw (behind-yes s w e) (omega (arith, apart.0), omega (arith, apart.1, e), rest))
        | inr e ↦ rw (before-no s w b) (rw (behind-no s w e) (AreApart-lower _ _ (without_span s ws) (omega (arith, apart.0, apart.1)) rest))
      ]
    ]

-- spans that begin at or behind the end of s stay
pub without_span-after : (low : ℕ) (s : Span) (ws : List Span) → s.from < s.until → s.until ≤ low → AreApart low ws → without_span s ws ≡ ws
without_span-after low s [] some past apart = refl
without_span-after low s (w ∷ ws) some past apart =
    let start : max w.from s.until ≡ w.from = omega (arith, apart.0, past) in
    rw (before-no s w (omega (arith, apart.0, past, some))) (rw (behind-yes s w (omega (arith, apart.0, apart.1, past)))
    (λ k. span (start k) w.until ∷ without_span-after (w.until + 1) s ws some (omega (arith, apart.0, apart.1, past)) apart.2 k))

-- ---- a span is given back

pub with_span-stops : (s w : Span) (ws : List Span) → s.until < w.from → with_span s (w ∷ ws) ≡ s ∷ w ∷ ws
with_span-stops s w ws high = cond-true (nat_lt s.until w.from) _ _ (lt-ltb s.until w.from high)

pub with_span-past : (s w : Span) (ws : List Span) → w.from ≤ s.until → w.until < s.from → with_span s (w ∷ ws) ≡ w ∷ with_span s ws
with_span-past s w ws near past = cond-false (nat_lt s.until w.from) _ _ (le-ltb s.until w.from near) ∙ cond-true (nat_lt w.until s.from) _ _ (lt-ltb w.until s.from past)

pub with_span-joins : (s w : Span) (ws : List Span) → w.from ≤ s.until → s.from ≤ w.until → with_span s (w ∷ ws) ≡ with_span (hull s w) ws
with_span-joins s w ws near low = cond-false (nat_lt s.until w.from) _ _ (le-ltb s.until w.from near) ∙ cond-false (nat_lt w.until s.from) _ _ (le-ltb w.until s.from low)

in_hull : (s w : Span) (t : ℕ) → s.from ≤ w.until → w.from ≤ s.until → IsTrue (span_has (hull s w) t) → IsTrue (span_has s t) ⊎ IsTrue (span_has w t)
in_hull s w t low high h =
    let i = span_has-true (hull s w) t h in
    elim (cases_lt t s.from) [
      | inl left ↦ inr (span_has-from w t (omega (arith, i.0, left)) (omega (arith, left, low)))
      | inr right ↦ elim (cases_lt t s.until) [
        | inl inside ↦ inl (span_has-from s t right inside)
        | inr past ↦ inr (span_has-from w t (omega (arith, past, high)) (omega (arith, i.1, past)))
      ]
    ]

hull_has-left : (s w : Span) (t : ℕ) → IsTrue (span_has s t) → IsTrue (span_has (hull s w) t)
hull_has-left s w t h = let i = span_has-true s t h in span_has-from (hull s w) t (omega (arith, i.0)) (omega (arith, i.1))

hull_has-right : (s w : Span) (t : ℕ) → IsTrue (span_has w t) → IsTrue (span_has (hull s w) t)
hull_has-right s w t h = let i = span_has-true w t h in span_has-from (hull s w) t (omega (arith, i.0)) (omega (arith, i.1))

given : (s : Span) (ws : List Span) (t : ℕ) → IsTrue (covers (with_span s ws) t) → IsTrue (covers ws t) ⊎ IsTrue (span_has s t)
given s [] t h = elim (covers-cases s [] t h) [ inl here ↦ inr here | inr none ↦ inl none ]
given s (w ∷ ws) t h =
    elim (cases_lt s.until w.from) [
      | inl stop ↦ elim (covers-cases s (w ∷ ws) t (subst (λ (ps : List Span). IsTrue (covers ps t)) (with_span-stops s w ws stop) h)) [ inl here ↦ inr here | inr rest ↦ inl rest ]
      | inr near ↦ elim (cases_lt w.until s.from) [
        | inl past ↦ elim (covers-cases w (with_span s ws) t (subst (λ (ps : List Span). IsTrue (covers ps t)) (with_span-past s w ws near past) h)) [
          | inl here ↦ inl (covers-here w ws t here)
          | inr rest ↦ elim (given s ws t rest) [ inl a ↦ inl (covers-rest w ws t a) | inr b ↦ inr b ]
        ]
        | inr low ↦ elim (given (hull s w) ws t (subst (λ (ps : List Span). IsTrue (covers ps t)) (with_span-joins s w ws near low) h)) [
          | inl a ↦ inl (covers-rest w ws t a)
          | inr b ↦ elim (in_hull s w t low near b) [ inl c ↦ inr c | inr d ↦ inl (covers-here w ws t d) ]
        ]
      ]
    ]

stays : (s : Span) (ws : List Span) (t : ℕ) → IsTrue (covers ws t) ⊎ IsTrue (span_has s t) → IsTrue (covers (with_span s ws) t)
stays s [] t h = elim h [ inl none ↦ absurd (true≢false (sym none)) | inr here ↦ covers-here s [] t here ]
stays s (w ∷ ws) t h =
    elim (cases_lt s.until w.from) [
      | inl stop ↦ subst (λ (ps : List Span). IsTrue (covers ps t)) (sym (with_span-stops s w ws stop)) (elim h [ inl a ↦ covers-rest s (w ∷ ws) t a | inr b ↦ covers-here s (w ∷ ws) t b ])
      | inr near ↦ elim (cases_lt w.until s.from) [
        | inl past ↦ subst (λ (ps : List Span). IsTrue (covers ps t)) (sym (with_span-past s w ws near past)) (elim h [
          | inl a ↦ elim (covers-cases w ws t a) [ inl here ↦ covers-here w (with_span s ws) t here | inr rest ↦ covers-rest w (with_span s ws) t (stays s ws t (inl rest)) ]
          | inr b ↦ covers-rest w (with_span s ws) t (stays s ws t (inr b))
        ])
        | inr low ↦ subst (λ (ps : List Span). IsTrue (covers ps t)) (sym (with_span-joins s w ws near low)) (stays (hull s w) ws t (elim h [
          | inl a ↦ elim (covers-cases w ws t a) [ inl here ↦ inr (hull_has-right s w t here) | inr rest ↦ inl rest ]
          | inr b ↦ inr (hull_has-left s w t b)
        ]))
      ]
    ]

-- the seconds of the spans with s are the old ones and those of s
pub covers-with_span : (s : Span) (ws : List Span) (t : ℕ) → covers (with_span s ws) t ≡ (covers ws t || span_has s t)
covers-with_span s ws t =
    same_test _ _ (λ h. elim (given s ws t h) [ inl a ↦ or_left (covers ws t) (span_has s t) a | inr b ↦ or_right (covers ws t) (span_has s t) b ]) (λ h. stays s ws t (or_cases (covers ws t) (span_has s t) h))

pub apart-with_span : (low : ℕ) (s : Span) (ws : List Span) → low ≤ s.from → s.from < s.until → AreApart low ws → AreApart low (with_span s ws)
apart-with_span low s [] above some apart = (above, some, tt)
apart-with_span low s (w ∷ ws) above some apart =
    elim (cases_lt s.until w.from) [
      | inl stop ↦ rw (with_span-stops s w ws stop) (above, some, (omega (arith, stop), apart.1, apart.2))
      | inr near ↦ elim (cases_lt w.until s.from) [
        | inl past ↦ rw (with_span-past s w ws near past) (apart.0, apart.1, apart-with_span (w.until + 1) s ws (omega (arith, past)) some apart.2)
        | inr low' ↦ rw (with_span-joins s w ws near low')
            (apart-with_span low (hull s w) ws (omega (arith, above, apart.0)) (omega (arith, some)) (AreApart-lower low (w.until + 1) ws (omega (arith, apart.0, apart.1)) apart.2))
      ]
    ]

-- ---- one spare node is room enough

pub length-without_span : (low : ℕ) (s : Span) (ws : List Span) → s.from < s.until → AreApart low ws → length (without_span s ws) ≤ length ws + 1
length-without_span low s [] some apart = omega arith
length-without_span low s (w ∷ ws) some apart =
    elim (cases_lt w.from s.from) [
      | inl b ↦ elim (cases_lt s.until w.until) [
        | inl e ↦ rw (before-yes s w b) (rw (behind-yes s w e) (rw (without_span-after (w.until + 1) s ws some (omega (arith, e)) apart.2) (omega arith)))
        | inr e ↦ rw (before-yes s w b) (rw (behind-no s w e) (omega (arith, length-without_span (w.until + 1) s ws some apart.2)))
      ]
      | inr b ↦ elim (cases_lt s.until w.until) [
        | inl e ↦ rw (before-no s w b) (rw (behind-yes s w e) (omega (arith, length-without_span (w.until + 1) s ws some apart.2)))
        | inr e ↦ rw (before-no s w b) (rw (behind-no s w e) (omega (arith, length-without_span (w.until + 1) s ws some apart.2)))
      ]
    ]
