-- Which sets are needed, as they are judged one after the other.
use Rattle.std.proofs.Common.{◌≡◌, ℕ, zero, suc, ◌+◌, ◌<◌, Bool, true, false, not, List, [], ◌∷◌, ◌++◌, length, get_or, take, drop, set, replicate, ◌&&◌, ◌||◌, Contains, IsTrue, if◌then◌else◌, inl, inr, refl, sym, ◌∙◌, ap, ap₂, arith, append_assoc, take-append-drop, length-take}
use Rattle.std.specs.Prelude.{◌==◌}
use Rattle.std.specs.List.{list_any, list_all}
use Rattle.std.proofs.lemmas.Bool.{cases_Bool, or_cases, or_left, or_right, and_parts}
use Rattle.std.proofs.lemmas.List.Folds.{list_any-append}
use Rattle.taxi_base.specs.Airport.{conflict, has_member}
use Rattle.taxi_base.proofs.InOrder.{same_answer, Contains-test}
use Rattle.std.proofs.lemmas.List.{take_more, drop_more}
use Rattle.taxi_base.specs.declared.numbers.Segment.{Segment}
use Rattle.airport_lint.proofs.LoopLaws.{all-of}
use Rattle.airport_lint.specs.Sets.{is_covered, marked, with_mark, needed_marks}

-- the marks while the sets from a place on are judged: those before it stand
abbrev pub marks_from : List (List Segment) → ℕ → List Bool
marks_from sets at = replicate at true ++ needed_marks (take at sets) (drop at sets)

set-behind : (n : ℕ) (x y : Bool) (later : List Bool) → set (replicate n x ++ x ∷ later) n y ≡ replicate n x ++ y ∷ later
set-behind zero x y later = refl
set-behind (suc n) x y later = ap (λ t. x ∷ t) (set-behind n x y later)

one-more : (n : ℕ) (x : Bool) (later : List Bool) → replicate (suc n) x ++ later ≡ replicate n x ++ x ∷ later
one-more zero x later = refl
one-more (suc n) x later = ap (λ t. x ∷ t) (one-more n x later)

marked-others : (before : List (List Segment)) (one : List Segment) (after : List (List Segment)) (marks : List Bool)
    → marked (before ++ one ∷ after) (replicate (length before) true ++ false ∷ marks) ≡ before ++ marked after marks
marked-others [] one after marks = refl
marked-others (s ∷ before) one after marks = ap (λ t. s ∷ t) (marked-others before one after marks)

-- what the judging of the set before gives
abbrev pub judged : List (List Segment) → List Bool → ℕ → List Bool
judged sets marks at = set marks at (not (is_covered (marked sets (set marks at false)) (get_or sets at [])))

pub marks-more : (sets : List (List Segment)) (at : ℕ) → at < length sets → judged sets (marks_from sets (at + 1)) at ≡ marks_from sets at
marks-more sets at low =
    let one = get_or sets at [] in
    let before = take at sets in
    let after = drop (at + 1) sets in
    let later = needed_marks (take (at + 1) sets) after in
    let long : length before ≡ at = let h = length-take at sets in omega (arith, h, low) in
    let split : drop at sets ≡ one ∷ after = drop_more sets at [] low in
    let front : take (at + 1) sets ≡ before ++ one ∷ [] = take_more sets at [] low in
    let whole : before ++ one ∷ after ≡ sets = ap (λ d. before ++ d) (sym split) ∙ take-append-drop at sets in
    let suc_at : at + 1 ≡ suc at = omega arith in
    let marks : marks_from sets (at + 1) ≡ replicate at true ++ true ∷ later = ap (λ n. replicate n true ++ later) suc_at ∙ one-more at true later in
    let changed : (b : Bool) → set (marks_from sets (at + 1)) at b ≡ replicate at true ++ b ∷ later = λ b. ap (λ m. set m at b) marks ∙ set-behind at true b later in
    let others : marked sets (set (marks_from sets (at + 1)) at false) ≡ before ++ marked after later =
    ap₂ marked (sym whole) (changed false ∙ ap (λ n. replicate n true ++ false ∷ later) (sym long)) ∙ marked-others before one after later in
    let mark = not (is_covered (before ++ marked after later) one) in
    let same : needed_marks before (drop at sets) ≡ mark ∷ later =
    ap (needed_marks before) split ∙ ap (λ f. with_mark before one after (needed_marks f after)) (sym front) in
    ap (λ o. set (marks_from sets (at + 1)) at (not (is_covered o one))) others ∙ changed mark ∙ ap (λ m. replicate at true ++ m) (sym same)

pub marks-length : (before sets : List (List Segment)) → length (needed_marks before sets) ≡ length sets
marks-length before [] = refl
marks-length before (s ∷ sets) = ap suc (marks-length (before ++ s ∷ []) sets)

-- ---- by the needed sets the same segments conflict

covered-conflict : (others : List (List Segment)) (one : List Segment) (s t : Segment) → IsTrue (is_covered others one) → IsTrue (has_member one s) → IsTrue (has_member one t)
    → IsTrue (conflict others s t)
covered-conflict others one s t covered has_s has_t =
    let row = all-of (λ a. list_all (conflict others a) one) one s (has_member-is one s has_s) covered in
    all-of (conflict others s) one t (has_member-is one t has_t) row
  where
    has_member-is : (xs : List Segment) (x : Segment) → IsTrue (has_member xs x) → Contains xs x
    has_member-is xs x h = Contains-test (λ (m : Segment). m.0) (λ a b e. ap (λ n. let r : Segment = record { 0 = n } in r) e) xs x h

-- a covered set adds no conflict
covered-adds_none : (before after : List (List Segment)) (one : List Segment) (s t : Segment) → IsTrue (is_covered (before ++ after) one)
    → conflict (before ++ after) s t ≡ conflict (before ++ one ∷ after) s t
unfolding conflict
covered-adds_none before after one s t covered =
    same_answer (conflict (before ++ after) s t) (conflict (before ++ one ∷ after) s t)
    (λ h. elim (or_cases (s.0 == t.0) (list_any both (before ++ after)) h) [
      | inl same ↦ or_left (s.0 == t.0) (list_any both (before ++ one ∷ after)) same
      | inr some ↦ or_right (s.0 == t.0) (list_any both (before ++ one ∷ after)) (rw (list_any-append both before (one ∷ after))
          (elim (or_cases (list_any both before) (list_any both after) (rw (list_any-append both before after) at some)) [
            | inl front ↦ or_left (list_any both before) (list_any both (one ∷ after)) front
            | inr back ↦ or_right (list_any both before) (list_any both (one ∷ after)) (or_right (both one) (list_any both after) back)
          ]))
    ])
    (λ h. elim (or_cases (s.0 == t.0) (list_any both (before ++ one ∷ after)) h) [
      | inl same ↦ or_left (s.0 == t.0) (list_any both (before ++ after)) same
      | inr some ↦ elim (or_cases (list_any both before) (list_any both (one ∷ after)) (rw (list_any-append both before (one ∷ after)) at some)) [
        | inl front ↦ or_right (s.0 == t.0) (list_any both (before ++ after)) (rw (list_any-append both before after) (or_left (list_any both before) (list_any both after) front))
        | inr back ↦ elim (or_cases (both one) (list_any both after) back) [
          | inl here ↦ let parts = and_parts (has_member one s) (has_member one t) here in covered-conflict (before ++ after) one s t covered parts.0 parts.1
          | inr later ↦ or_right (s.0 == t.0) (list_any both (before ++ after)) (rw (list_any-append both before after) (or_right (list_any both before) (list_any both after) later))
        ]
      ]
    ])
  where
    both : List Segment → Bool
    both set = has_member set s && has_member set t

needed-conflicts : (before sets : List (List Segment)) (s t : Segment) → conflict (before ++ marked sets (needed_marks before sets)) s t ≡ conflict (before ++ sets) s t
needed-conflicts before [] s t = refl
needed-conflicts before (one ∷ after) s t =
    let later = needed_marks (before ++ one ∷ []) after in
    let rest : conflict (before ++ one ∷ marked after later) s t ≡ conflict (before ++ one ∷ after) s t =
    ap (λ l. conflict l s t) (sym (append_assoc before (one ∷ []) (marked after later))) ∙ needed-conflicts (before ++ one ∷ []) after s t
    ∙ ap (λ l. conflict l s t) (append_assoc before (one ∷ []) after) in
    elim (cases_Bool (is_covered (before ++ marked after later) one)) [
      | inl covered ↦ rw covered (covered-adds_none before (marked after later) one s t covered ∙ rest)
      | inr needed ↦ rw needed rest
    ]

pub needed-conflict : (sets : List (List Segment)) (s t : Segment) → conflict (marked sets (needed_marks [] sets)) s t ≡ conflict sets s t
needed-conflict sets s t = needed-conflicts [] sets s t

-- one set more that is marked and has both, or isn't
pub marked-more : (sets : List (List Segment)) (marks : List Bool) (at : ℕ) → at < length sets → length marks ≡ length sets
    → marked (take (at + 1) sets) (take (at + 1) marks) ≡ marked (take at sets) (take at marks) ++ (if get_or marks at false then get_or sets at [] ∷ [] else [])
marked-more [] marks at low same = absurd (omega (arith, low))
marked-more (s ∷ sets) [] at low same = absurd (omega (arith, same))
marked-more (s ∷ sets) (m ∷ marks) zero low same = one m
  where
    one : (m : Bool) → marked (s ∷ []) (m ∷ []) ≡ (if m then s ∷ [] else [])
    one true = refl
    one false = refl
marked-more (s ∷ sets) (m ∷ marks) (suc at) low same =
    let next : suc at + 1 ≡ suc (at + 1) = omega arith in
    rw next (first m (marked-more sets marks at (omega (arith, low)) (omega (arith, same))))
  where
    first : (m : Bool) → marked (take (at + 1) sets) (take (at + 1) marks) ≡ marked (take at sets) (take at marks) ++ (if get_or marks at false then get_or sets at [] ∷ [] else [])
        → marked (s ∷ take (at + 1) sets) (m ∷ take (at + 1) marks) ≡ marked (s ∷ take at sets) (m ∷ take at marks) ++ (if get_or marks at false then get_or sets at [] ∷ [] else [])
    first true e = ap (λ t. s ∷ t) e
    first false e = e

pub marked-any : (test : List Segment → Bool) (sets : List (List Segment)) (marks : List Bool) (at : ℕ) → at < length sets → length marks ≡ length sets
    → list_any test (marked (take (at + 1) sets) (take (at + 1) marks)) ≡ (list_any test (marked (take at sets) (take at marks)) || (get_or marks at false && test (get_or sets at [])))
marked-any test sets marks at low same =
    ap (list_any test) (marked-more sets marks at low same) ∙ list_any-append test (marked (take at sets) (take at marks)) _
    ∙ ap (λ b. list_any test (marked (take at sets) (take at marks)) || b) (one (get_or marks at false) (get_or sets at []))
  where
    one : (m : Bool) (s : List Segment) → list_any test (if m then s ∷ [] else []) ≡ (m && test s)
    one true s = or_none (test s)
      where
        or_none : (b : Bool) → (b || false) ≡ b
        or_none true = refl
        or_none false = refl
    one false s = refl

-- some among the first, and so among all
pub marked-front : (test : List Segment → Bool) (sets : List (List Segment)) (marks : List Bool) (n : ℕ) → IsTrue (list_any test (marked (take n sets) (take n marks)))
    → IsTrue (list_any test (marked sets marks))
marked-front test sets marks zero h = absurd (cc h)
marked-front test [] marks (suc n) h = absurd (cc h)
marked-front test (s ∷ sets) [] (suc n) h = absurd (cc h)
marked-front test (s ∷ sets) (true ∷ marks) (suc n) h = elim (or_cases (test s) (list_any test (marked (take n sets) (take n marks))) h) [
  | inl here ↦ or_left (test s) (list_any test (marked sets marks)) here
  | inr later ↦ or_right (test s) (list_any test (marked sets marks)) (marked-front test sets marks n later)
]
marked-front test (s ∷ sets) (false ∷ marks) (suc n) h = marked-front test sets marks n h
