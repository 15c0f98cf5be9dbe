-- A reply's first word, and what its block is counted by.
use Rattle.std.proofs.Common.{◌≡◌, ◌∙◌, ◌+◌, ◌<◌, ◌≤◌, ℕ, false, List, [], ◌∷◌, ◌++◌, length, refl, sym, ap, arith, map, codes, append-nil}
use Rattle.std.specs.Prelude.{flat_map, nat_le}
use Rattle.std.proofs.lemmas.Bool.{and_parts, leb-true}
use Rattle.std.proofs.lemmas.List.{length-append}
use Rattle.std.proofs.lemmas.List.Concat.{flat_map-append}
use Rattle.taxi_base.specs.declared.answers.Refusal.{Refusal}
use Rattle.taxi_base.specs.declared.answers.Refusal.TheVariants as refusal
use Rattle.taxi_base.specs.Airport.{Airport}
use Rattle.taxi_text.specs.Words.{words_of}
use Rattle.replies.specs.declared.block.Block.{Block}
use Rattle.replies.specs.declared.block.Block.TheVariants.{Refused, Filed, Cancelled, Route, NoRoute, Windows, Occupancy, Timetable, Batch, Late}
use Rattle.replies.specs.declared.entries.Entry.{Entry}
use Rattle.replies.specs.Texts.{block_text, lines_text, refusal_words}
use Rattle.replies.specs.Printable.{IsPrintable}
use Rattle.run_figures.specs.declared.counting.Count.{Count}
use Rattle.run_figures.specs.declared.counting.ReplyCounts.{ReplyCounts}
use Rattle.run_figures.specs.Counts.{reply_word, entry_word, refusal_word, reply_kinds, entry_kinds, refusal_kinds, refusals_of, entries_of, tallied, AreCounts}
use Rattle.run_figures.specs.Tallies.{with_one, tells_more}
use Rattle.run_figures.proofs.TallyLaws.{tallied-more}

-- the word before the first blank of a block's text
pub block-word : (airport : Airport) (block : Block) → (rest : List (List ℕ)) × (words_of (block_text airport block) ≡ reply_word airport block ∷ rest)
unfolding block_text
block-word airport (Refused why) = refused-word why where
  refused-word : (why : Refusal) → (rest : List (List ℕ)) × (words_of (lines_text ((codes "refused" ∷ refusal_words why) ∷ [])) ≡ codes "refused" ∷ rest)
  refused-word refusal.BadLine = (_, refl)
  refused-word refusal.InForce = (_, refl)
  refused-word refusal.UnknownClass = (_, refl)
  refused-word refusal.UnknownNode = (_, refl)
  refused-word refusal.WrongKind = (_, refl)
  refused-word refusal.UnknownSegment = (_, refl)
  refused-word refusal.NotInForce = (_, refl)
  refused-word refusal.NotRouted = (_, refl)
  refused-word refusal.NotArrival = (_, refl)
  refused-word (refusal.AlreadyDone end) = (_, refl)
  refused-word (refusal.AlreadyMoving start) = (_, refl)
  refused-word refusal.Full = (_, refl)
  refused-word (refusal.Step fault) = (_, refl)
  refused-word (refusal.NotMoving start) = (_, refl)
  refused-word (refusal.NotLate leave) = (_, refl)
  refused-word (refusal.PastEnd horizon) = (_, refl)
  refused-word refusal.Memory = (_, refl)
block-word airport (Filed flight start end) = (_, refl)
block-word airport (Cancelled flight) = (_, refl)
block-word airport (Route flight second steps labels) = (_, refl)
block-word airport (NoRoute labels) = (_, refl)
block-word airport (Windows segment windows) = (_, refl)
block-word airport (Occupancy segment held) = (_, refl)
block-word airport (Timetable flights) = (_, refl)
block-word airport (Batch total entries) = (_, refl)
block-word airport (Late flight entries) = (_, refl)

-- so what is read of a reply is the word of its block
pub reply-word : (airport : Airport) (block : Block) (text word : List ℕ) (rest : List (List ℕ)) → text ≡ block_text airport block → words_of text ≡ word ∷ rest → word ≡ reply_word airport block
reply-word airport block text word rest is read =
    let known = block-word airport block in
    let same : word ∷ rest ≡ reply_word airport block ∷ known.0 = sym read ∙ ap words_of is ∙ known.1 in
    cc

-- a block with another word neither refuses nor tells of several flights
pub tells-none : (airport : Airport) (block : Block) → tells_more (reply_word airport block) ≡ false → (refusals_of block ≡ []) × (entries_of block ≡ [])
tells-none airport (Refused why) other = absurd (cc other)
tells-none airport (Filed flight start end) other = (refl, refl)
tells-none airport (Cancelled flight) other = (refl, refl)
tells-none airport (Route flight second steps labels) other = (refl, refl)
tells-none airport (NoRoute labels) other = (refl, refl)
tells-none airport (Windows segment windows) other = (refl, refl)
tells-none airport (Occupancy segment held) other = (refl, refl)
tells-none airport (Timetable flights) other = (refl, refl)
tells-none airport (Batch total entries) other = absurd (cc other)
tells-none airport (Late flight entries) other = absurd (cc other)

-- what is told of one block more
pub told-more : {X : Type 0} (of : Block → List X) (blocks : List Block) (block : Block) → flat_map of (blocks ++ block ∷ []) ≡ flat_map of blocks ++ of block
told-more of blocks block = flat_map-append of blocks (block ∷ []) ∙ ap (λ (own : List _). flat_map of blocks ++ own) (append-nil (of block))

-- how much a block may tell of
pub entries-few : (airport : Airport) (block : Block) → IsPrintable airport block → length (entries_of block) < 10000000000
entries-few airport (Refused why) printable = omega arith
entries-few airport (Filed flight start end) printable = omega arith
entries-few airport (Cancelled flight) printable = omega arith
entries-few airport (Route flight second steps labels) printable = omega arith
entries-few airport (NoRoute labels) printable = omega arith
entries-few airport (Windows segment windows) printable = omega arith
entries-few airport (Occupancy segment held) printable = omega arith
entries-few airport (Timetable flights) printable = omega arith
entries-few airport (Batch total entries) printable =
    let both = and_parts (nat_le 2 (length entries)) (nat_le (length entries) 6) printable.0.0 in
    let few = leb-true (length entries) 6 both.1 in
    omega (arith, few)
entries-few airport (Late flight entries) printable = let few : length entries < 10000000000 = printable.1.0.1 in omega (arith, few)

refusals-few : (block : Block) → length (refusals_of block) ≤ 1
refusals-few (Refused why) = omega arith
refusals-few (Filed flight start end) = omega arith
refusals-few (Cancelled flight) = omega arith
refusals-few (Route flight second steps labels) = omega arith
refusals-few (NoRoute labels) = omega arith
refusals-few (Windows segment windows) = omega arith
refusals-few (Occupancy segment held) = omega arith
refusals-few (Timetable flights) = omega arith
refusals-few (Batch total entries) = omega arith
refusals-few (Late flight entries) = omega arith

pub all-refusals-few : (blocks : List Block) → length (flat_map refusals_of blocks) ≤ length blocks
all-refusals-few [] = omega arith
all-refusals-few (block ∷ blocks) =
    let own = refusals-few block in
    let rest = all-refusals-few blocks in
    let long = length-append (refusals_of block) (flat_map refusals_of blocks) in
    omega (arith, own, rest, long)

-- ---- the counts of one block more

pub counts-add : (airport : Airport) (blocks : List Block) (block : Block) (old new : ReplyCounts) → AreCounts airport blocks old → IsPrintable airport block → new.commands ≡ old.commands + 1
    → new.replies.items ≡ map (with_one (reply_word airport block)) old.replies.items
    → new.entries.items ≡ tallied (λ (told : List ℕ × Entry). entry_word told.1) entry_kinds (flat_map entries_of blocks ++ entries_of block)
    → new.refusals.items ≡ tallied refusal_word refusal_kinds (flat_map refusals_of blocks ++ refusals_of block)
    → AreCounts airport (blocks ++ block ∷ []) new
counts-add airport blocks block old new are printable commands replies entries refusals =
    let told = told-more entries_of blocks block in
    let more = length-append blocks (block ∷ []) in
    let before = are.commands in
    record {
      commands = omega (arith, commands, before, more);
      replies = replies ∙ ap (map (with_one (reply_word airport block))) are.replies ∙ tallied-more (reply_word airport) reply_kinds blocks block;
      entries = entries ∙ ap (tallied (λ (t : List ℕ × Entry). entry_word t.1) entry_kinds) (sym told);
      refusals = refusals ∙ ap (tallied refusal_word refusal_kinds) (sym (told-more refusals_of blocks block));
      few =
          let few = are.few in
          let own = entries-few airport block printable in
          let long = length-append (flat_map entries_of blocks) (entries_of block) in
          let all = ap (λ (es : List (List ℕ × Entry)). length es) told in
          omega (arith, few, own, long, all, more);
    }

-- a block that tells nothing more leaves the counts of entries and of refusals
pub told-none : {X : Type 0} (word : X → List ℕ) (kinds : List (List ℕ)) (xs own : List X) (counts : List Count) → counts ≡ tallied word kinds xs → own ≡ [] → counts ≡ tallied word kinds (xs ++ own)
told-none word kinds xs own counts are none = are ∙ ap (tallied word kinds) (sym (ap (λ ys. xs ++ ys) none ∙ append-nil xs))

-- so does a block of none of these kinds
pub other-block : (block : Block) → ((why : _) → block ≡ Refused why → ⊥) → ((total : _) (entries : _) → block ≡ Batch total entries → ⊥) → ((flight : _) (entries : _) → block ≡ Late flight entries → ⊥)
    → (refusals_of block ≡ []) × (entries_of block ≡ [])
other-block (Refused why) refuses batches late = absurd (refuses why refl)
other-block (Filed flight start end) refuses batches late = (refl, refl)
other-block (Cancelled flight) refuses batches late = (refl, refl)
other-block (Route flight second steps labels) refuses batches late = (refl, refl)
other-block (NoRoute labels) refuses batches late = (refl, refl)
other-block (Windows segment windows) refuses batches late = (refl, refl)
other-block (Occupancy segment held) refuses batches late = (refl, refl)
other-block (Timetable flights) refuses batches late = (refl, refl)
other-block (Batch total entries) refuses batches late = absurd (batches total entries refl)
other-block (Late flight entries) refuses batches late = absurd (late flight entries refl)
