-- The lines of a file up to some byte: what is taken of the file and in which pieces, which of its lines are read, and what is kept.
use Rattle.std.proofs.Common.{◌≡◌, inl, inr, ◌+◌, ◌-◌, ◌≤◌, ◌++◌, ◌∷◌, ◌∙◌, [], ℕ, List, Bool, true, false, Option, Some, None, length, take, nat_lt, refl, sym, ap, subst, append_assoc, append-nil, arith}
use Rattle.std.specs.List.{flat_map}
use Rattle.std.proofs.lemmas.Bool.{ltb-true}
use Rattle.std.proofs.lemmas.Grind.{flat_map-append}
use Rattle.std.proofs.lemmas.List.{length-append, take_all}
use Rattle.std.proofs.Math.Seq.{take-append-add, take-append_seam}
use Rattle.std.proofs.KnownBytes.{prepend_known-nil}
use Rattle.std.specs.Io.KnownBytes.{prepend_known}
use Rattle.taxi_text.specs.Lines.{lines_of}
use Rattle.taxi_text.specs.FirstLines.{first_line_of, behind_first_line, last_line_of, only_line}
use Rattle.taxi_io.specs.Files.{Gave, IsAtEndOnly}
use Rattle.taxi_io.proofs.Pieces.{gave-more}
use Rattle.command_run.specs.Ended.{ended_lines_of, lines_within}
use Rattle.command_run.specs.HowFar.{Told, Pieces, AreLeft, last_piece, IsInTime}
use Rattle.command_run.proofs.Reading.{IsPassed, IsShortAhead, nothing-passed, passed-more, passed-ended, passed-few, first-passed, ahead-none, ahead-dropped, ahead-fed, last-line, none-left}

-- ---- pieces

last_piece-more : (pieces : List (List ℕ)) (piece : List ℕ) → last_piece (pieces ++ piece ∷ []) ≡ piece
last_piece-more [] piece = refl
last_piece-more (first ∷ []) piece = refl
last_piece-more (first ∷ second ∷ more) piece = last_piece-more (second ∷ more) piece

joined-more : (pieces : List (List ℕ)) (piece : List ℕ) → flat_map (λ p. p) (pieces ++ piece ∷ []) ≡ flat_map (λ p. p) pieces ++ piece
joined-more pieces piece = flat_map-append (λ p. p) pieces (piece ∷ []) ∙ ap (λ (l : List ℕ). flat_map (λ p. p) pieces ++ l) (append-nil piece)

-- a read that gives nothing leaves what was left, which is nothing
pub ended-left : (left next : Option (List ℕ)) (count : ℕ) (buffer : List ℕ) → count ≡ 0 → IsAtEndOnly left count → Gave left next (take count buffer) → (next ≡ left) × AreLeft next []
ended-left left next count buffer none ended gave =
    let same : left ≡ next = gave ∙ ap (λ (n : ℕ). prepend_known (take n buffer) next) none ∙ prepend_known-nil next in
    (sym same, subst (λ (l : Option (List ℕ)). AreLeft l []) same (go left ended))
  where
    go : (left : Option (List ℕ)) → IsAtEndOnly left count → AreLeft left []
    go None ended = tt
    go (Some bytes) ended = ended.0 none

pub taken-none : (count : ℕ) (buffer : List ℕ) → count ≡ 0 → take count buffer ≡ []
taken-none count buffer none = ap (λ (n : ℕ). take n buffer) none

-- ---- so far

-- Of the file the lines of a front are read, and the bytes behind it are kept. Reads gave them in some pieces.
pub record IsTaken (limit : ℕ) (left : Told) (given : Pieces) (kept : List ℕ) (room : ℕ) (read : List (List ℕ)) : Type 0 where
  pub front : List ℕ
  pub passed : IsPassed front read
  pub gave : Gave left.0 left.1 (front ++ kept)
  pub within : room + length (front ++ kept) ≡ limit
  pub pieces : List (List ℕ)
  pub given_more : given.1 ≡ given.0 ++ pieces
  pub joined : flat_map (λ piece. piece) pieces ≡ front ++ kept
  pub few : length (last_piece pieces) ≤ 4096
  pub short : IsShortAhead (length (last_piece pieces)) kept

pub nothing-taken : (limit : ℕ) (left : Option (List ℕ)) (given : List (List ℕ)) → IsTaken limit (left, left) (given, given) [] limit []
nothing-taken limit left given = record {
  front = [];
  passed = nothing-passed;
  gave = sym (prepend_known-nil left);
  within = omega arith;
  pieces = [];
  given_more = sym (append-nil given);
  joined = refl;
  few = omega arith;
  short = ahead-none 0 [] refl;
}

-- what is left of the file follows what was taken of it
left-behind : (old left : Option (List ℕ)) (taken : List ℕ) → Gave old left taken → (more : List ℕ) × AreLeft old (taken ++ more)
left-behind None left taken gave = ([], tt)
left-behind (Some all) None taken gave = absurd (cc gave)
left-behind (Some all) (Some rest) taken gave = (rest, cc gave)

-- nothing is left behind what was taken
all-taken : (old left : Option (List ℕ)) (taken : List ℕ) → Gave old left taken → AreLeft left [] → AreLeft old taken
all-taken None left taken gave ended = tt
all-taken (Some all) None taken gave ended = absurd (cc gave)
all-taken (Some all) (Some rest) taken gave ended = let same : all ≡ taken ++ rest = cc gave in same ∙ ap (λ (t : List ℕ). taken ++ t) ended ∙ append-nil taken

-- the lines that were passed over are the first of those within the limit
goes-on : (limit : ℕ) (front more : List ℕ) (read : List (List ℕ)) → IsPassed front read → length front ≤ limit
    → (rest : List (List ℕ)) × (lines_within limit (front ++ more) ≡ read ++ rest)
goes-on limit front more read passed few = go (nat_lt limit (length (front ++ more))) refl where
  go : (b : Bool) → nat_lt limit (length (front ++ more)) ≡ b → (rest : List (List ℕ)) × (lines_within limit (front ++ more) ≡ read ++ rest)
  go false at = (lines_of more, rw at (passed.lines more))
  go true at =
      let rest = take (limit - length front) more in
      let room : limit ≡ length front + (limit - length front) = omega (arith, few) in
      let bytes : take limit (front ++ more) ≡ front ++ take (limit - length front) more = ap (λ (n : ℕ). take n (front ++ more)) room ∙ take-append-add front more (limit - length front) in
      (ended_lines_of rest, rw at (ap ended_lines_of bytes ∙ passed-ended front read passed rest))

-- of a file within the limit all lines are
all-within : (limit : ℕ) (file : List ℕ) → length file ≤ limit → lines_within limit file ≡ lines_of file
all-within limit file few = go (nat_lt limit (length file)) refl where
  go : (b : Bool) → nat_lt limit (length file) ≡ b → lines_within limit file ≡ lines_of file
  go false at = rw at refl
  go true at = let more = ltb-true limit (length file) at in absurd (omega (arith, more, few))

-- the whole file, and those of its lines that come behind some that are read
pub record IsFirst (limit : ℕ) (file : Option (List ℕ)) (read : List (List ℕ)) : Type 0 where
  pub bytes : List ℕ
  pub file_is : AreLeft file bytes
  pub rest : List (List ℕ)
  pub split : lines_within limit bytes ≡ read ++ rest

module _ (limit : ℕ) (old left : Option (List ℕ)) (given : Pieces) (kept : List ℕ) (room : ℕ) (read : List (List ℕ)) (taken : IsTaken limit (old, left) given kept room read) where
  -- a piece more is kept
  pub taken-fed : (next : Option (List ℕ)) (now : List (List ℕ)) (piece : List ℕ) (more : ℕ) → first_line_of kept ≡ None → Gave left next piece → now ≡ given.1 ++ piece ∷ []
      → length piece ≤ 4096 → length piece ≤ room → more ≡ room - length piece → IsTaken limit (old, next) (given.0, now) (kept ++ piece) more read
  taken-fed next now piece more none gave told few within less =
      let last = last_piece-more taken.pieces piece in
      let split : (taken.front ++ kept) ++ piece ≡ taken.front ++ (kept ++ piece) = append_assoc taken.front kept piece in
      record {
        front = taken.front;
        passed = taken.passed;
        gave = subst (Gave old next) split (gave-more old left next (taken.front ++ kept) piece taken.gave gave);
        within = let was = taken.within in let l = ap length (sym split) in let m = length-append (taken.front ++ kept) piece in omega (arith, was, l, m, less, within);
        pieces = taken.pieces ++ piece ∷ [];
        given_more = told ∙ ap (λ (l : List (List ℕ)). l ++ piece ∷ []) taken.given_more ∙ append_assoc given.0 taken.pieces (piece ∷ []);
        joined = joined-more taken.pieces piece ∙ ap (λ (l : List ℕ). l ++ piece) taken.joined ∙ split;
        few = rw last few;
        short = rw last (ahead-fed kept piece none);
      }

  -- the first line that has ended is taken off
  pub taken-dropped : (line : List ℕ) → first_line_of kept ≡ Some line → IsTaken limit (old, left) given (behind_first_line kept) room (read ++ line ∷ [])
  taken-dropped line first =
      let parts = first-passed kept line first in
      let next : (taken.front ++ parts.0) ++ behind_first_line kept ≡ taken.front ++ kept =
      append_assoc taken.front parts.0 (behind_first_line kept) ∙ ap (λ (t : List ℕ). taken.front ++ t) parts.1 in
      record {
        front = taken.front ++ parts.0;
        passed = passed-more taken.front parts.0 read (line ∷ []) taken.passed parts.2;
        gave = subst (Gave old left) (sym next) taken.gave;
        within = let was = taken.within in let l = ap length next in omega (arith, was, l);
        pieces = taken.pieces;
        given_more = taken.given_more;
        joined = taken.joined ∙ sym next;
        few = taken.few;
        short = ahead-dropped _ kept line first taken.short;
      }

  -- the file has ended, as the last read told, which gave nothing
  pub taken-ended : (next : Option (List ℕ)) (now : List (List ℕ)) (piece : List ℕ) → next ≡ left → now ≡ given.1 ++ piece ∷ [] → piece ≡ [] → first_line_of kept ≡ None
      → (ended : IsTaken limit (old, next) (given.0, now) kept room read) × (last_piece ended.pieces ≡ [])
  taken-ended next now piece same told nothing none =
      let last : last_piece (taken.pieces ++ [] ∷ []) ≡ [] = last_piece-more taken.pieces [] in (
        record {
          front = taken.front;
          passed = taken.passed;
          gave = subst (λ (l : Option (List ℕ)). Gave old l (taken.front ++ kept)) (sym same) taken.gave;
          within = taken.within;
          pieces = taken.pieces ++ [] ∷ [];
          given_more = told ∙ ap (λ (p : List ℕ). given.1 ++ p ∷ []) nothing ∙ ap (λ (l : List (List ℕ)). l ++ [] ∷ []) taken.given_more ∙ append_assoc given.0 taken.pieces ([] ∷ []);
          joined = joined-more taken.pieces [] ∙ append-nil (flat_map (λ p. p) taken.pieces) ∙ taken.joined;
          few = rw last (omega arith);
          short = ahead-none _ kept none;
        },
        last,
      )

  -- ---- the line that is next

  -- the first line that has ended ends in the last piece
  pub first-in_time : (line : List ℕ) → first_line_of kept ≡ Some line → IsInTime (old, left) given read line
  first-in_time line first =
      let parts = first-passed kept line first in
      let through = taken.front ++ parts.0 in
      let all : through ++ behind_first_line kept ≡ taken.front ++ kept =
      append_assoc taken.front parts.0 (behind_first_line kept) ∙ ap (λ (t : List ℕ). taken.front ++ t) parts.1 in
      let passed = passed-more taken.front parts.0 read (line ∷ []) taken.passed parts.2 in
      record {
        through = through;
        ahead = behind_first_line kept;
        gave = subst (Gave old left) (sym all) taken.gave;
        few = let ahead = taken.short line first in let piece = taken.few in omega (arith, ahead, piece);
        pieces = taken.pieces;
        given_more = taken.given_more;
        joined = taken.joined ∙ sym all;
        last = ap lines_of (sym (append-nil through)) ∙ passed.lines [] ∙ append-nil (read ++ line ∷ []);
        at_once = inl (taken.short line first, ap ended_lines_of (sym (append-nil through)) ∙ passed-ended through (read ++ line ∷ []) passed [] ∙ append-nil (read ++ line ∷ []));
      }

  -- the last line has no line feed, and the last read gave nothing
  pub last-in_time : first_line_of kept ≡ None → (line : List ℕ) → last_line_of kept ≡ Some line → last_piece taken.pieces ≡ [] → IsInTime (old, left) given read line
  last-in_time none line last ended = record {
    through = taken.front ++ kept;
    ahead = [];
    gave = subst (Gave old left) (sym (append-nil (taken.front ++ kept))) taken.gave;
    few = omega arith;
    pieces = taken.pieces;
    given_more = taken.given_more;
    joined = taken.joined ∙ sym (append-nil (taken.front ++ kept));
    last = last-line taken.front kept read taken.passed none ∙ ap (λ (l : Option (List ℕ)). read ++ only_line l) last;
    at_once = inr (ended, refl, none-left taken.front kept read taken.passed none);
  }

  -- ---- the lines within the limit

  pub taken-few : length (taken.front ++ kept) ≤ limit
  taken-few = let within = taken.within in omega (arith, within)

  front-few : length taken.front ≤ limit
  front-few = let few = taken-few in let l = length-append taken.front kept in omega (arith, few, l)

  -- there are no more lines than bytes
  pub lines-few : length read ≤ limit
  lines-few = let lines = passed-few taken.front read taken.passed in let few = front-few in omega (arith, lines, few)

  -- the lines that are read are the first of the file
  pub are-first : IsFirst limit old read
  are-first =
      let rest = left-behind old left (taken.front ++ kept) taken.gave in
      let on = goes-on limit taken.front (kept ++ rest.0) read taken.passed front-few in
      let bytes : (taken.front ++ kept) ++ rest.0 ≡ taken.front ++ (kept ++ rest.0) = append_assoc taken.front kept rest.0 in
      record { bytes = taken.front ++ (kept ++ rest.0); file_is = subst (AreLeft old) bytes rest.1; rest = on.0; split = on.1 }

  -- the file has ended, and no line is kept that has
  module _ (none : first_line_of kept ≡ None) where
    pub whole-lines : lines_of (taken.front ++ kept) ≡ read ++ only_line (last_line_of kept)
    whole-lines = last-line taken.front kept read taken.passed none

    pub whole-file : AreLeft left [] → AreLeft old (taken.front ++ kept)
    whole-file ended = all-taken old left (taken.front ++ kept) taken.gave ended

    -- the last line, which has no line feed
    pub last-first : (line : List ℕ) → last_line_of kept ≡ Some line → AreLeft left [] → IsFirst limit old (read ++ line ∷ [])
    last-first line last ended = record {
      bytes = taken.front ++ kept;
      file_is = whole-file ended;
      rest = [];
      split = all-within limit (taken.front ++ kept) taken-few ∙ whole-lines ∙ ap (λ (l : Option (List ℕ)). read ++ only_line l) last ∙ sym (append-nil (read ++ line ∷ []));
    }

    ended-are : (bytes : List ℕ) → take limit bytes ≡ taken.front ++ kept → ended_lines_of (take limit bytes) ≡ read
    ended-are bytes are = ap ended_lines_of are ∙ none-left taken.front kept read taken.passed none

    -- a read fails: the lines that have ended in what was taken are those that are read
    pub ended-at_fault : ended_lines_of (take limit (taken.front ++ kept)) ≡ read
    ended-at_fault = ended-are (taken.front ++ kept) (take_all limit (taken.front ++ kept) taken-few)

    -- the same with one byte that is one too many
    pub ended-at_limit : (byte : ℕ) → room ≡ 0 → ended_lines_of (take limit ((taken.front ++ kept) ++ byte ∷ [])) ≡ read
    ended-at_limit byte full =
        let all = (taken.front ++ kept) ++ byte ∷ [] in
        let long : length (taken.front ++ kept) ≡ limit = let within = taken.within in omega (arith, within, full) in
        ended-are all (ap (λ (n : ℕ). take n all) (sym long) ∙ take-append_seam (taken.front ++ kept) (byte ∷ []))

    pub longer-by_one : (byte : ℕ) → room ≡ 0 → length ((taken.front ++ kept) ++ byte ∷ []) ≡ limit + 1
    longer-by_one byte full = let within = taken.within in let l = length-append (taken.front ++ kept) (byte ∷ []) in omega (arith, l, within, full)
