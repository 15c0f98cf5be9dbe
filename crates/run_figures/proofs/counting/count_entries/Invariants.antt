use Rattle.std.proofs.Common.{◌≡◌, ◌++◌, ℕ, List, take}
use Rattle.replies.specs.declared.entries.Entry.{Entry}
use Rattle.run_figures.specs.Counts.{entry_word, entry_kinds, tallied}
use Rattle.run_figures.proofs.counting.count_entries.Given as goal

abbrev pub invariant-loop-told : goal.invariant-loop-told
invariant-loop-told l =
    (told : List (List ℕ × Entry)) → l.initial.counts.items ≡ tallied (λ (t : List ℕ × Entry). entry_word t.1) entry_kinds told
    → l.counts.items ≡ tallied (λ (t : List ℕ × Entry). entry_word t.1) entry_kinds (told ++ take l.told-index l.entries)
