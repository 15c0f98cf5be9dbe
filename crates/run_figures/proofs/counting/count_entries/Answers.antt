use Rattle.std.proofs.Common.{◌≡◌, ◌+◌, ◌<◌, ◌++◌, ℕ, List, length, take, sym, arith}
use Rattle.std.proofs.lemmas.List.{length-append, length-take}
use Rattle.std.proofs.lemmas.List.Elements.{All-same}
use Rattle.replies.specs.declared.entries.Entry.{Entry}
use Rattle.run_figures.specs.declared.counting.Count.{Count}
use Rattle.run_figures.specs.Counts.{entry_word, entry_kinds, tallied}
use Rattle.run_figures.proofs.TallyLaws.{tallied-few, tally-step}
use Rattle.run_figures.proofs.counting.count_entries.Goals as goal

pub count_one-requires : goal.count_one-requires
count_one-requires c =
    let told = c.requires in
    let entries = c.args.entries.now in
    let i = c.loop-told.told-index in
    let low : i < length entries = c.loop-told-test.true in
    let part : length (take i entries) ≡ i = grind (arith, length-take) in
    let long = length-append told.0 (take i entries) in
    let bound = told.2 in
    All-same (λ (count : Count). count.number + 1 < 18446744073709551616) c.loop-told.counts.items (tallied (λ (t : List ℕ × Entry). entry_word t.1) entry_kinds (told.0 ++ take i entries))
    (c.loop-told.invariant told.0 told.1)
    (tallied-few (λ (t : List ℕ × Entry). entry_word t.1) entry_kinds (told.0 ++ take i entries) 18446744073709551616 (omega (arith, part, long, low, bound)))

pub loop-told-preserved : goal.loop-told-preserved
loop-told-preserved c = λ told is.
    tally-step (λ (t : List ℕ × Entry). entry_word t.1) entry_kinds told c.args.entries.now c.loop-told.told-index c.told-item.result c.loop-told.counts.items c.count_one.new.counts.items c.entry_word.result.now
    (c.loop-told.invariant told is) c.loop-told-test.true (sym c.told-item.is) c.entry_word.ensures c.count_one.ensures
