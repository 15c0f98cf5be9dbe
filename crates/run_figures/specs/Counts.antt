-- How often did each kind of reply come in a run, each kind of entry, and each refusal?
use Rattle.std.specs.Prelude.{ℕ, ◌≡◌, ◌*◌, ◌≤◌, List, [], ◌∷◌, ◌++◌, length, map, flat_map, count_by, slice_index_or, bytes_eq, codes}
use Rattle.taxi_base.specs.declared.answers.StepCause.{StepCause}
use Rattle.taxi_base.specs.declared.answers.Refusal.{Refusal}
use Rattle.taxi_base.specs.declared.answers.Refusal.TheVariants as refusal
use Rattle.taxi_base.specs.Airport.{Airport}
use Rattle.replies.specs.declared.block.Block.{Block}
use Rattle.replies.specs.declared.block.Block.TheVariants.{Refused, Batch, Late}
use Rattle.replies.specs.declared.entries.Entry.{Entry}
use Rattle.replies.specs.declared.entries.Entry.TheVariants as entry
use Rattle.replies.specs.Texts.{cause_words, refusal_words, block_lines}
use Rattle.run_figures.specs.declared.counting.Count.{Count}
use Rattle.run_figures.specs.declared.counting.ReplyCounts.{ReplyCounts}

-- ---- kinds, by their words

abbrev pub first_word : List (List ℕ) → List ℕ
first_word words = slice_index_or words 0 []

-- of a block, the word with which its text begins
abbrev pub reply_word : Airport → Block → List ℕ
reply_word airport block = first_word (slice_index_or (block_lines airport block) 0 [])

-- of what is told of a flight, whether it is a route, that there is none, or that the flight is dropped
abbrev pub entry_word : Entry → List ℕ
entry_word (entry.Route second steps labels) = codes "route"
entry_word (entry.NoRoute labels) = codes "no-route"
entry_word entry.Dropped = codes "dropped"

abbrev pub step_word : StepCause → List ℕ
step_word cause = codes "step " ++ first_word (cause_words cause)

-- of a refusal its first word, and of one for a step the cause too
abbrev pub refusal_word : Refusal → List ℕ
refusal_word (refusal.Step fault) = step_word fault.cause
refusal_word why = first_word (refusal_words why)

-- in the order of their lines
abbrev pub reply_kinds : List (List ℕ)
reply_kinds =
    codes "filed" ∷ codes "cancelled" ∷ codes "route" ∷ codes "no-route" ∷ codes "windows" ∷ codes "occupancy" ∷ codes "timetable" ∷ codes "batch" ∷ codes "late"
    ∷ codes "refused" ∷ []

abbrev pub entry_kinds : List (List ℕ)
entry_kinds = codes "route" ∷ codes "no-route" ∷ codes "dropped" ∷ []

-- all but want of memory, which the figures never tell of
abbrev pub refusal_kinds : List (List ℕ)
refusal_kinds =
    codes "bad-line" ∷ codes "in-force" ∷ codes "unknown-class" ∷ codes "unknown-node" ∷ codes "wrong-kind" ∷ codes "unknown-segment" ∷ codes "not-in-force"
    ∷ codes "not-routed" ∷ codes "not-arrival" ∷ codes "already-done" ∷ codes "already-moving" ∷ codes "full" ∷ codes "step class-barred" ∷ codes "step bad-turn"
    ∷ codes "step too-fast" ∷ codes "step past-horizon" ∷ codes "step taken" ∷ codes "not-moving" ∷ codes "not-late" ∷ codes "past-end" ∷ []

-- ---- what is counted

-- the refusal of a block that refuses
abbrev pub refusals_of : Block → List Refusal
refusals_of (Refused why) = why ∷ []
refusals_of _ = []

-- what a block tells of several flights, each in turn
abbrev pub entries_of : Block → List (List ℕ × Entry)
entries_of (Batch total entries) = entries
entries_of (Late flight entries) = entries
entries_of _ = []

-- how many are of a kind
abbrev pub how_many : {X : Type 0} → (X → List ℕ) → List ℕ → List X → ℕ
how_many word kind xs = count_by (λ x. bytes_eq kind (word x)) xs

abbrev pub count_of : List ℕ → ℕ → Count
count_of kind number = record { kind = kind; number = number }

-- the same of each kind in turn
abbrev pub tallied : {X : Type 0} → (X → List ℕ) → List (List ℕ) → List X → List Count
tallied word kinds xs = map (λ kind. count_of kind (how_many word kind xs)) kinds

abbrev pub replies_tallied : Airport → List Block → List Count
replies_tallied airport blocks = tallied (reply_word airport) reply_kinds blocks

abbrev pub entries_tallied : List Block → List Count
entries_tallied blocks = tallied (λ (told : List ℕ × Entry). entry_word told.1) entry_kinds (flat_map entries_of blocks)

abbrev pub refusals_tallied : List Block → List Count
refusals_tallied blocks = tallied refusal_word refusal_kinds (flat_map refusals_of blocks)

-- these are the counts of some blocks, none of which has more than 10,000,000,000 entries
pub record AreCounts (airport : Airport) (blocks : List Block) (counts : ReplyCounts) : Type 0 where
  pub commands : counts.commands ≡ length blocks
  pub replies : counts.replies.items ≡ replies_tallied airport blocks
  pub entries : counts.entries.items ≡ entries_tallied blocks
  pub refusals : counts.refusals.items ≡ refusals_tallied blocks
  pub few : length (flat_map entries_of blocks) ≤ 10000000000 * length blocks
