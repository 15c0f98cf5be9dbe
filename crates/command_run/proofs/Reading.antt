-- A text that is read line by line: the lines that have ended in it, and those of a front that was passed over.
use Rattle.std.proofs.Common.{◌≡◌, ◌==◌, ◌+◌, ◌<◌, ◌≤◌, ◌∷◌, ◌++◌, ◌∙◌, [], ℕ, zero, suc, List, Bool, true, false, not, cond, refl, sym, ap, take, drop, length, Option, Some, None, option_map, append_assoc, append-nil, arith}
use Rattle.std.specs.List.{count_by}
use Rattle.std.proofs.lemmas.List.Elements.{filter-append}
use Rattle.std.proofs.Math.Seq.{take-append-add}
use Rattle.std.proofs.lemmas.List.{take-append-drop, take-take, drop_all, length-append, length-drop, length-take}
use Rattle.std.proofs.lemmas.List.Sums.{sum_by-cons, sum_by-append, count_by-le-length}
use Rattle.std.proofs.lemmas.List.Quantifiers.{position-Some}
use Rattle.std.specs.Str.Lines.{strip_carriage_return}
use Rattle.taxi_text.specs.Lines.{lines_of, is_skipped}
use Rattle.taxi_text.specs.FirstLines.{line_end, line_end_with, first_line_of, behind_line, behind_first_line, last_line_of, only_line}
use Rattle.taxi_text.proofs.FirstPlace.{line_end-cons, line_end-append, lines-first, lines-last}
use Rattle.command_run.specs.Ended.{ended_lines_of, unended_lines_of, commands_among}

-- how many lines end in a text
abbrev feeds_in : List ℕ → ℕ
feeds_in bytes = count_by (λ b. b == 10) bytes

feeds-cons : (x : ℕ) (xs : List ℕ) → feeds_in (x ∷ xs) ≡ cond (x == 10) 1 0 + feeds_in xs
feeds-cons x xs = sum_by-cons (λ b. cond (b == 10) 1 0) x xs

feeds-append : (xs ys : List ℕ) → feeds_in (xs ++ ys) ≡ feeds_in xs + feeds_in ys
feeds-append xs ys = sum_by-append (λ b. cond (b == 10) 1 0) xs ys

-- ---- the first line feed

no_feed : (kept : List ℕ) → line_end kept ≡ None → feeds_in kept ≡ 0
no_feed [] none = refl
no_feed (x ∷ xs) none = go (x == 10) (line_end xs) refl refl (sym (line_end-cons x xs) ∙ none) (no_feed xs) where
  go : (b : Bool) (end : Option ℕ) → (x == 10) ≡ b → line_end xs ≡ end → cond b (Some 0) (option_map (λ n. 1 + n) end) ≡ None
      → (line_end xs ≡ None → feeds_in xs ≡ 0) → feeds_in (x ∷ xs) ≡ 0
  go true end at found none rest = absurd (cc none)
  go false (Some end) at found none rest = absurd (cc none)
  go false None at found none rest = feeds-cons x xs ∙ ap (λ (b : Bool). cond b 1 0 + feeds_in xs) at ∙ (let more = rest found in omega (arith, more))

one_more : (n : ℕ) → (1 + n) + 1 ≡ suc (n + 1)
one_more n = omega arith

-- up to its first line feed a text has one
one_feed : (kept : List ℕ) (end : ℕ) → line_end kept ≡ Some end → feeds_in (take (end + 1) kept) ≡ 1
one_feed [] end found = absurd (cc found)
one_feed (x ∷ xs) end found = go (x == 10) (line_end xs) refl refl (sym (line_end-cons x xs) ∙ found) (one_feed xs) where
  go : (b : Bool) (rest : Option ℕ) → (x == 10) ≡ b → line_end xs ≡ rest → cond b (Some 0) (option_map (λ n. 1 + n) rest) ≡ Some end
      → ((e : ℕ) → line_end xs ≡ Some e → feeds_in (take (e + 1) xs) ≡ 1) → feeds_in (take (end + 1) (x ∷ xs)) ≡ 1
  go true rest at next found more =
      let here : 0 ≡ end = cc found in
      ap (λ (n : ℕ). feeds_in (take (n + 1) (x ∷ xs))) (sym here) ∙ feeds-cons x [] ∙ ap (λ (b : Bool). cond b 1 0 + feeds_in []) at
  go false None at next found more = absurd (cc found)
  go false (Some e) at next found more =
      let there : 1 + e ≡ end = cc found in
      ap (λ (n : ℕ). feeds_in (take (n + 1) (x ∷ xs))) (sym there) ∙ ap (λ (n : ℕ). feeds_in (take n (x ∷ xs))) (one_more e)
      ∙ feeds-cons x (take (e + 1) xs) ∙ ap (λ (b : Bool). cond b 1 0 + feeds_in (take (e + 1) xs)) at
      ∙ (let rest = more e next in omega (arith, rest))

found-within : (kept : List ℕ) (end : ℕ) → line_end kept ≡ Some end → end < length kept
found-within kept end found = (position-Some (λ b. b == 10) kept end 0 found).0

-- a text ends its first line there, or has no line feed so far
ends-in : (front behind : List ℕ) (end : ℕ) → line_end (front ++ behind) ≡ Some end → end < length front → line_end front ≡ Some end
ends-in front behind end found within = go (line_end front) refl (line_end-append front behind ∙ found) where
  go : (place : Option ℕ) → line_end front ≡ place → line_end_with (line_end front) (length front) behind ≡ Some end → line_end front ≡ Some end
  go (Some at) is same = is ∙ (rw is at same)
  go None is same = past (line_end behind) (rw is at same) where
    past : (place : Option ℕ) → option_map (λ e. length front + e) place ≡ Some end → line_end front ≡ Some end
    past None same = absurd (cc same)
    past (Some e) same = let at : length front + e ≡ end = cc same in absurd (omega (arith, at, within))

-- and where a front has none, it ends behind the front
ends-behind : (front behind : List ℕ) (end : ℕ) → line_end front ≡ None → line_end (front ++ behind) ≡ Some end → length front ≤ end
ends-behind front behind end none found = past (line_end behind) (ap (λ (l : Option ℕ). line_end_with l (length front) behind) (sym none) ∙ line_end-append front behind ∙ found) where
  past : (place : Option ℕ) → option_map (λ e. length front + e) place ≡ Some end → length front ≤ end
  past None same = absurd (cc same)
  past (Some e) same = let at : length front + e ≡ end = cc same in omega (arith, at)

-- ---- lines that were passed over

-- A front of a text is these lines, each with its line feed: they come before the lines of whatever stands behind it.
pub record IsPassed (front : List ℕ) (read : List (List ℕ)) : Type 0 where
  pub lines : (more : List ℕ) → lines_of (front ++ more) ≡ read ++ lines_of more
  pub feeds : feeds_in front ≡ length read

pub nothing-passed : IsPassed [] []
nothing-passed = record { lines = λ more. refl; feeds = refl }

pub passed-more : (front other : List ℕ) (read more : List (List ℕ)) → IsPassed front read → IsPassed other more → IsPassed (front ++ other) (read ++ more)
passed-more front other read more one two = record {
  lines = λ text. ap lines_of (append_assoc front other text) ∙ one.lines (other ++ text) ∙ ap (λ (l : List (List ℕ)). read ++ l) (two.lines text) ∙ sym (append_assoc read more (lines_of text));
  feeds = let a = one.feeds in let b = two.feeds in let c = feeds-append front other in let d = length-append read more in omega (arith, a, b, c, d);
}

-- the lines that have ended, behind those that were passed over
pub passed-ended : (front : List ℕ) (read : List (List ℕ)) → IsPassed front read → (more : List ℕ) → ended_lines_of (front ++ more) ≡ read ++ ended_lines_of more
passed-ended front read passed more =
    let feeds : feeds_in (front ++ more) ≡ length read + feeds_in more = feeds-append front more ∙ ap (λ (n : ℕ). n + feeds_in more) passed.feeds in
    ap (λ (n : ℕ). take n (lines_of (front ++ more))) feeds ∙ ap (λ (l : List (List ℕ)). take (length read + feeds_in more) l) (passed.lines more)
    ∙ take-append-add read (lines_of more) (feeds_in more)

-- there are no more lines than bytes
pub passed-few : (front : List ℕ) (read : List (List ℕ)) → IsPassed front read → length read ≤ length front
passed-few front read passed = let feeds = passed.feeds in let few = count_by-le-length (λ b. b == 10) front in omega (arith, feeds, few)

-- the first line of a text, with its line feed, and what stands behind it
pub first-passed : (kept line : List ℕ) → first_line_of kept ≡ Some line
    → (front : List ℕ) × (front ++ behind_first_line kept ≡ kept) × IsPassed front (line ∷ []) × (0 < length front)
first-passed kept line first = go (line_end kept) refl first where
  go : (place : Option ℕ) → line_end kept ≡ place → option_map (λ e. strip_carriage_return (take e kept)) place ≡ Some line
      → (front : List ℕ) × (front ++ behind_line kept place ≡ kept) × IsPassed front (line ∷ []) × (0 < length front)
  go None found named = absurd (cc named)
  go (Some end) found named =
      let within = found-within kept end found in
      let front = take (end + 1) kept in
      let long : length (take (end + 1) kept) ≡ end + 1 = let l = length-take (end + 1) kept in omega (arith, l, within) in
      let whole : take (end + 1) kept ++ drop (end + 1) kept ≡ kept = take-append-drop (end + 1) kept in
      let there : line_end front ≡ Some end = ends-in front (drop (end + 1) kept) end (ap line_end whole ∙ found) (omega (arith, long)) in
      let first_of : first_line_of front ≡ Some line =
      ap (λ (p : Option ℕ). option_map (λ e. strip_carriage_return (take e front)) p) there
      ∙ ap (λ (t : List ℕ). Some (strip_carriage_return t)) (take-take end (end + 1) kept (omega arith)) ∙ named in
      let none_behind : behind_first_line front ≡ [] = ap (behind_line front) there ∙ drop_all (end + 1) front (omega (arith, long)) in (
        front,
        whole,
        record { lines = λ more. lines-first front more line first_of ∙ ap (λ (t : List ℕ). line ∷ lines_of (t ++ more)) none_behind; feeds = one_feed kept end found },
        omega (arith, long),
      )

-- ---- what is kept of a text

no_end : (kept : List ℕ) → first_line_of kept ≡ None → line_end kept ≡ None
no_end kept none = go (line_end kept) none where
  go : (place : Option ℕ) → option_map (λ e. strip_carriage_return (take e kept)) place ≡ None → place ≡ None
  go None none = refl
  go (Some end) none = absurd (cc none)

-- where no line has ended, none is among those that have
pub none-ended : (kept : List ℕ) → first_line_of kept ≡ None → ended_lines_of kept ≡ []
none-ended kept none = ap (λ (n : ℕ). take n (lines_of kept)) (no_feed kept (no_end kept none))

-- behind the first line, if one is kept, fewer bytes stand than so many
abbrev pub IsShortAhead : ℕ → List ℕ → Type 0
IsShortAhead most kept = (line : List ℕ) → first_line_of kept ≡ Some line → length (behind_first_line kept) < most

fewer-behind : (kept : List ℕ) → length (behind_first_line kept) ≤ length kept
fewer-behind kept = go (line_end kept) where
  go : (place : Option ℕ) → length (behind_line kept place) ≤ length kept
  go None = omega arith
  go (Some end) = let l = length-drop (end + 1) kept in omega (arith, l)

-- dropping the first line leaves less than there was
pub fewer-kept : (kept line : List ℕ) → first_line_of kept ≡ Some line → length (behind_first_line kept) < length kept
fewer-kept kept line first =
    let parts = first-passed kept line first in
    let split = ap length parts.1 in let l = length-append parts.0 (behind_first_line kept) in let some = parts.3 in omega (arith, split, l, some)

pub ahead-none : (most : ℕ) (kept : List ℕ) → first_line_of kept ≡ None → IsShortAhead most kept
ahead-none most kept none = λ line first. absurd (cc (none, first))

pub ahead-dropped : (most : ℕ) (kept line : List ℕ) → first_line_of kept ≡ Some line → IsShortAhead most kept → IsShortAhead most (behind_first_line kept)
ahead-dropped most kept line first short = λ next second. let a = short line first in let b = fewer-behind (behind_first_line kept) in omega (arith, a, b)

pub ahead-fed : (kept piece : List ℕ) → first_line_of kept ≡ None → IsShortAhead (length piece) (kept ++ piece)
ahead-fed kept piece none = λ line first. go (line_end (kept ++ piece)) refl line first where
  go : (place : Option ℕ) → line_end (kept ++ piece) ≡ place → (line : List ℕ) → option_map (λ e. strip_carriage_return (take e (kept ++ piece))) place ≡ Some line
      → length (behind_line (kept ++ piece) place) < length piece
  go None found line first = absurd (cc first)
  go (Some end) found line first =
      let past = ends-behind kept piece end (no_end kept none) found in
      let within = found-within (kept ++ piece) end found in
      let l = length-append kept piece in
      let d = length-drop (end + 1) (kept ++ piece) in
      omega (arith, past, within, l, d)

-- ---- the commands among lines

pub among-append : (lines more : List (List ℕ)) → commands_among (lines ++ more) ≡ commands_among lines ++ commands_among more
among-append lines more = filter-append (λ line. not (is_skipped line)) lines more

pub among-skipped : (line : List ℕ) → is_skipped line ≡ true → commands_among (line ∷ []) ≡ []
among-skipped line skipped = rw skipped refl

pub among-holds : (line : List ℕ) → is_skipped line ≡ false → commands_among (line ∷ []) ≡ line ∷ []
among-holds line holds = rw holds refl

-- where no line is kept that has ended, all lines are read but the last
pub last-line : (front kept : List ℕ) (read : List (List ℕ)) → IsPassed front read → first_line_of kept ≡ None → lines_of (front ++ kept) ≡ read ++ only_line (last_line_of kept)
last-line front kept read passed none = passed.lines kept ∙ ap (λ (l : List (List ℕ)). read ++ l) (lines-last kept none)

pub none-left : (front kept : List ℕ) (read : List (List ℕ)) → IsPassed front read → first_line_of kept ≡ None → ended_lines_of (front ++ kept) ≡ read
none-left front kept read passed none = passed-ended front read passed kept ∙ ap (λ (l : List (List ℕ)). read ++ l) (none-ended kept none) ∙ append-nil read

-- the lines of any text that have ended are passed over, and the rest is kept
pub all-passed : (most : ℕ) (text : List ℕ) → length text ≤ most
    → (front : List ℕ) × (kept : List ℕ) × (read : List (List ℕ)) × (front ++ kept ≡ text) × IsPassed front read × (first_line_of kept ≡ None)
all-passed zero text few = go text few where
  go : (text : List ℕ) → length text ≤ 0 → (front : List ℕ) × (kept : List ℕ) × (read : List (List ℕ)) × (front ++ kept ≡ text) × IsPassed front read × (first_line_of kept ≡ None)
  go [] few = ([], [], [], refl, nothing-passed, refl)
  go (x ∷ xs) few = absurd (omega (arith, few))
all-passed (suc most) text few = go (first_line_of text) refl (λ next less. all-passed most next less) where
  go : (first : Option (List ℕ)) → first_line_of text ≡ first
      → ((next : List ℕ) → length next ≤ most → (front : List ℕ) × (kept : List ℕ) × (read : List (List ℕ)) × (front ++ kept ≡ next) × IsPassed front read × (first_line_of kept ≡ None))
      → (front : List ℕ) × (kept : List ℕ) × (read : List (List ℕ)) × (front ++ kept ≡ text) × IsPassed front read × (first_line_of kept ≡ None)
  go None is rest = ([], text, [], refl, nothing-passed, is)
  go (Some line) is rest =
      let parts = first-passed text line is in
      let less = fewer-kept text line is in
      let more = rest (behind_first_line text) (omega (arith, less, few)) in (
        parts.0 ++ more.0,
        more.1,
        (line ∷ []) ++ more.2,
        append_assoc parts.0 more.0 more.1 ∙ ap (λ (t : List ℕ). parts.0 ++ t) more.3 ∙ parts.1,
        passed-more parts.0 more.0 (line ∷ []) more.2 parts.2 more.4,
        more.5,
      )

-- the lines that have ended are the first of a text, whatever comes behind
pub ended-first : (bytes more : List ℕ) → (rest : List (List ℕ)) × (lines_of (bytes ++ more) ≡ ended_lines_of bytes ++ rest)
ended-first bytes more =
    let parts = all-passed (length bytes) bytes (omega arith) in
    let ended : ended_lines_of bytes ≡ parts.2 = ap ended_lines_of (sym parts.3) ∙ none-left parts.0 parts.1 parts.2 parts.4 parts.5 in
    let text : bytes ++ more ≡ parts.0 ++ (parts.1 ++ more) = ap (λ (t : List ℕ). t ++ more) (sym parts.3) ∙ append_assoc parts.0 parts.1 more in (
      lines_of (parts.1 ++ more),
      ap lines_of text ∙ parts.4.lines (parts.1 ++ more) ∙ ap (λ (l : List (List ℕ)). l ++ lines_of (parts.1 ++ more)) (sym ended),
    )

-- one line at most hasn't ended
pub unended-one : (bytes : List ℕ) → length (unended_lines_of bytes) ≤ 1
unended-one bytes =
    let parts = all-passed (length bytes) bytes (omega arith) in
    let feeds : feeds_in bytes ≡ length parts.2 =
    ap feeds_in (sym parts.3) ∙ feeds-append parts.0 parts.1 ∙ ap (λ (n : ℕ). feeds_in parts.0 + n) (no_feed parts.1 (no_end parts.1 parts.5))
    ∙ (let f = parts.4.feeds in omega (arith, f)) in
    let lines : lines_of bytes ≡ parts.2 ++ only_line (last_line_of parts.1) = ap lines_of (sym parts.3) ∙ last-line parts.0 parts.1 parts.2 parts.4 parts.5 in
    let left : unended_lines_of bytes ≡ only_line (last_line_of parts.1) =
    ap (λ (n : ℕ). drop n (lines_of bytes)) feeds ∙ ap (λ (l : List (List ℕ)). drop (length parts.2) l) lines ∙ drop-append parts.2 (only_line (last_line_of parts.1)) in
    rw left (few (last_line_of parts.1))
  where
    few : (line : Option (List ℕ)) → length (only_line line) ≤ 1
    few None = omega arith
    few (Some line) = omega arith

    drop-append : (xs ys : List (List ℕ)) → drop (length xs) (xs ++ ys) ≡ ys
    drop-append [] ys = refl
    drop-append (x ∷ xs) ys = drop-append xs ys
