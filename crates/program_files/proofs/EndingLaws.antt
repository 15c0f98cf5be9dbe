-- How a call ends whose text was to be written.
use Rattle.std.proofs.Common.{◌≡◌, ◌<◌, ◌≤◌, ◌++◌, ◌∷◌, ◌∙◌, [], inl, inr, ℕ, List, Result, Ok, Err, OnOk, OnErr, IsErrOf, length, refl, sym, ap, append_assoc, arith}
use Rattle.std.proofs.lemmas.List.{length-append}
use Rattle.taxi_io.specs.Counts.{Rose}
use Rattle.taxi_io.specs.Written.{Output, Grew, GrewInPart, AreHanded, AreHandedInPart}
use Rattle.taxi_io.specs.declared.trouble.Trouble.{Trouble}
use Rattle.taxi_io.specs.declared.trouble.Trouble.TheVariants as trouble
use Rattle.taxi_io.proofs.Pieces.{grew-more}
use Rattle.program_files.specs.declared.status.Status.{Status}
use Rattle.program_files.specs.declared.status.Status.TheVariants as status
use Rattle.program_files.specs.Call.{IsWholeAs, EndsAs}
use Rattle.program_files.specs.LastLine.{status_after, IsWriting, EndsWith}

-- what is true of the writing of a text, whatever pieces it came in
pub record IsTaken (text : List ℕ) (faults : ℕ × ℕ) (taken : Output × Output) (written : Result (Unit {0}) Trouble) : Type 0 where
  pub whole : OnOk written (Grew taken.0 taken.1 text)
  pub front : OnErr written (GrewInPart taken.0 taken.1 text)
  pub failed : IsErrOf written trouble.Failed → Rose faults.0 faults.1

pub writing-taken : (text : List ℕ) (faults : ℕ × ℕ) (taken : Output × Output) (written : Result (Unit {0}) Trouble) → IsWriting text faults taken written → IsTaken text faults taken written
writing-taken text faults taken written writing = record { whole = writing.whole; front = writing.front; failed = writing.failed }

-- the writing of the text that is due ends the call
pub writing-ends_as : (IsDue : Status → List ℕ → Type 0) (writes : ℕ × ℕ) (taken : Output × Output) (whole : Status) (text : List ℕ) (written : Result (Unit {0}) Trouble)
    → IsDue whole text → IsTaken text writes taken written → (IsWholeAs IsDue taken whole → EndsAs IsDue writes taken whole)
    → EndsAs IsDue writes taken (status_after written whole)
writing-ends_as IsDue writes taken whole text (Ok done) due writing ends = ends (text, due, writing.whole)
writing-ends_as IsDue writes taken whole text (Err trouble.Failed) due writing ends = (writing.failed refl, (whole, text, due, writing.front))
writing-ends_as IsDue writes taken whole text (Err trouble.Memory) due writing ends = inr (whole, text, due, writing.front)

-- the same, where the writing of a line decided the status, and the line is the text that is due
pub last-ends_as : (IsDue : Status → List ℕ → Type 0) (writes : ℕ × ℕ) (taken : Output × Output) (whole : Status) (text line : List ℕ) (ended : Status)
    → IsDue whole text → line ≡ text → EndsWith line whole writes taken ended → (IsWholeAs IsDue taken whole → EndsAs IsDue writes taken whole)
    → EndsAs IsDue writes taken ended
last-ends_as IsDue writes taken whole text line ended due same ends as_whole =
    rw ends.2 (writing-ends_as IsDue writes taken whole line ends.0 (rw same due) (writing-taken line writes taken ends.0 ends.1) as_whole)

-- ---- what is written behind a text

front-behind : (before now then : Output) (done line : List ℕ) → Grew before now done → GrewInPart now then line → GrewInPart before then (done ++ line)
front-behind before now then done line grew front =
    (done ++ front.0, front.1, append_assoc done front.0 front.1 ∙ ap (λ (l : List ℕ). done ++ l) front.2, front.3, grew-more before now then done front.0 grew front.4)

-- a line is written behind a text that was written whole
writing-behind : (done line : List ℕ) (before between after : ℕ) (old now then : Output) (written : Result (Unit {0}) Trouble) → before ≤ between
    → Grew old now done → IsWriting line (between, after) (now, then) written → IsTaken (done ++ line) (before, after) (old, then) written
writing-behind done line before between after old now then written later grew writing = record {
  whole = on_ok written writing.whole;
  front = on_err written writing.front;
  failed = λ failed. let rose = writing.failed failed in omega arith;
}
  where
    on_ok : (written : Result (Unit {0}) Trouble) → OnOk written (Grew now then line) → OnOk written (Grew old then (done ++ line))
    on_ok (Ok _) whole = grew-more old now then done line grew whole
    on_ok (Err _) whole = tt

    on_err : (written : Result (Unit {0}) Trouble) → OnErr written (GrewInPart now then line) → OnErr written (GrewInPart old then (done ++ line))
    on_err (Ok _) front = tt
    on_err (Err _) front = front-behind old now then done line grew front

-- a text was written whole, and the writing of a line behind it ends the call
pub behind-ends_as : (IsDue : Status → List ℕ → Type 0) (writes : ℕ × ℕ) (mid : ℕ) (taken : Output × Output) (between : Output) (whole : Status) (done line last : List ℕ) (ended : Status)
    → writes.0 ≤ mid → Grew taken.0 between done → line ≡ last → IsDue whole (done ++ last) → (IsWholeAs IsDue taken whole → EndsAs IsDue writes taken whole)
    → EndsWith line whole (mid, writes.1) (between, taken.1) ended → EndsAs IsDue writes taken ended
behind-ends_as IsDue writes mid taken between whole done line last ended later grew same due as_whole ends =
    rw ends.2 (writing-ends_as IsDue writes taken whole (done ++ line) ends.0 (rw same due)
    (writing-behind done line writes.0 mid writes.1 taken.0 between taken.1 ends.0 later grew ends.1) as_whole)

-- a front of a text, and what is behind it, is a front of the text with a line
pub front-of : (old now : Output) (front behind text line : List ℕ) → front ++ behind ≡ text → 0 < length line → Grew old now front → GrewInPart old now (text ++ line)
front-of old now front behind text line split some grew = (
  front,
  behind ++ line,
  sym (append_assoc front behind line) ∙ ap (λ (t : List ℕ). t ++ line) split,
  (let l = length-append behind line in omega (arith, l, some)),
  grew,
)

-- ---- what the last line says of the status

pub other-status : (line : List ℕ) (whole ended other : Status) (faults : ℕ × ℕ) (taken : Output × Output) → EndsWith line whole faults taken ended → ended ≡ other
    → (whole ≡ other → ⊥) → (status.WriteFault ≡ other → ⊥) → (status.Memory ≡ other → ⊥) → ⊥
other-status line whole ended other faults taken ends is no_whole no_fault no_memory = go ends.0 (sym ends.2 ∙ is) where
  go : (written : Result (Unit {0}) Trouble) → status_after written whole ≡ other → ⊥
  go (Ok done) same = no_whole same
  go (Err trouble.Failed) same = no_fault same
  go (Err trouble.Memory) same = no_memory same

-- the line is written whole
pub line-told : (line : List ℕ) (whole ended : Status) (faults : ℕ × ℕ) (taken : Output × Output) → EndsWith line whole faults taken ended → ended ≡ whole
    → (status.WriteFault ≡ whole → ⊥) → (status.Memory ≡ whole → ⊥) → Grew taken.0 taken.1 line
line-told line whole ended faults taken ends is no_fault no_memory = go ends.0 (sym ends.2 ∙ is) ends.1 where
  go : (written : Result (Unit {0}) Trouble) → status_after written whole ≡ whole → IsWriting line faults taken written → Grew taken.0 taken.1 line
  go (Ok done) same writing = writing.whole
  go (Err trouble.Failed) same writing = absurd (no_fault same)
  go (Err trouble.Memory) same writing = absurd (no_memory same)

-- a front of it is written, and not the whole
pub front-told : (line : List ℕ) (whole ended : Status) (faults : ℕ × ℕ) (taken : Output × Output) → EndsWith line whole faults taken ended → ended ≡ status.WriteFault
    → (whole ≡ status.WriteFault → ⊥) → GrewInPart taken.0 taken.1 line
front-told line whole ended faults taken ends is no_whole = go ends.0 (sym ends.2 ∙ is) ends.1 where
  go : (written : Result (Unit {0}) Trouble) → status_after written whole ≡ status.WriteFault → IsWriting line faults taken written → GrewInPart taken.0 taken.1 line
  go (Ok done) same writing = absurd (no_whole same)
  go (Err trouble.Failed) same writing = writing.front
  go (Err trouble.Memory) same writing = absurd (cc same)

-- ---- in which pieces

-- a line is handed over, whole or in part
pub line-handed : (line : List ℕ) (whole ended : Status) (faults : ℕ × ℕ) (taken : Output × Output) → EndsWith line whole faults taken ended → AreHandedInPart taken.0 taken.1 (line ∷ [])
line-handed line whole ended faults taken ends = go ends.0 ends.1 where
  go : (written : Result (Unit {0}) Trouble) → IsWriting line faults taken written → AreHandedInPart taken.0 taken.1 (line ∷ [])
  go (Ok done) writing = inr (taken.1, writing.handed, refl)
  go (Err why) writing = inl (inr writing.in_part)

-- and whole with `Done`
pub line-handed-whole : (line : List ℕ) (ended : Status) (faults : ℕ × ℕ) (taken : Output × Output) → EndsWith line status.Done faults taken ended → ended ≡ status.Done → AreHanded taken.0 taken.1 (line ∷ [])
line-handed-whole line ended faults taken ends is = go ends.0 (sym ends.2 ∙ is) ends.1 where
  go : (written : Result (Unit {0}) Trouble) → status_after written status.Done ≡ status.Done → IsWriting line faults taken written → AreHanded taken.0 taken.1 (line ∷ [])
  go (Ok done) same writing = (taken.1, writing.handed, refl)
  go (Err trouble.Failed) same writing = absurd (cc same)
  go (Err trouble.Memory) same writing = absurd (cc same)
