use Rattle.std.proofs.Common.{◌≡◌, ◌∙◌, ◌+◌, ◌<◌, ◌++◌, ℕ, false, List, map, refl, sym, ap, arith, Vec, Global}
use Rattle.std.specs.Prelude.{flat_map}
use Rattle.std.proofs.lemmas.List.Elements.{All-same}
use Rattle.replies.specs.declared.block.Block.{Block}
use Rattle.replies.specs.declared.entries.Entry.{Entry}
use Rattle.run_figures.specs.declared.counting.Count.{Count}
use Rattle.run_figures.specs.Counts.{reply_word, entry_word, entry_kinds, refusals_of, entries_of, tallied, refusal_word, refusal_kinds, refusals_tallied}
use Rattle.run_figures.specs.Tallies.{with_one, tells_more}
use Rattle.run_figures.proofs.TallyLaws.{tallied-few}
use Rattle.run_figures.proofs.BlockLaws.{reply-word, tells-none, told-none, all-refusals-few, counts-add}
use Rattle.run_figures.proofs.counting.ReplyCounts.add.Goals as goal

pub count_told-requires-clause-refusals : goal.count_told-requires-clause-refusals
count_told-requires-clause-refusals c =
    let before = c.requires.few in
    let fewer = all-refusals-few before.0 in
    let few = before.2 in
    All-same (λ (count : Count). count.number + 1 < 18446744073709551616) c.args.self.now.refusals.items (refusals_tallied before.0) before.1.refusals
    (tallied-few refusal_word refusal_kinds (flat_map refusals_of before.0) 18446744073709551616 (omega (arith, fewer, few)))

pub returns-in_ok-block : goal.returns-in_ok-block
returns-in_ok-block c = λ blocks block are printable is.
    let airport = c.args.airport.now in
    let counts = c.args.self.now in
    let word = reply-word airport block c.args.reply.now c.first_word-word.result.now c.first_word-word.ensures.0 is c.first_word-word.ensures.1 in
    let read : c.in_ok-block.block ≡ block = c.in_ok-block.ensures.only block printable is in
    counts-add airport blocks block counts c.count_told.new.self are printable c.count_told.ensures.commands
    (ap (λ (v : Vec Count Global). v.items) c.count_told.ensures.replies ∙ c.count_one.ensures ∙ ap (λ (w : List ℕ). map (with_one w) counts.replies.items) word)
    (c.count_told.ensures.entries (flat_map entries_of blocks) are.entries
    ∙ ap (λ (b : Block). tallied (λ (t : List ℕ × Entry). entry_word t.1) entry_kinds (flat_map entries_of blocks ++ entries_of b)) read)
    (c.count_told.ensures.refusals (flat_map refusals_of blocks) are.refusals ∙ ap (λ (b : Block). tallied refusal_word refusal_kinds (flat_map refusals_of blocks ++ refusals_of b)) read)

pub returns-else-tells_more : goal.returns-else-tells_more
returns-else-tells_more c = λ blocks block are printable is.
    let airport = c.args.airport.now in
    let counts = c.args.self.now in
    let word = reply-word airport block c.args.reply.now c.first_word-word.result.now c.first_word-word.ensures.0 is c.first_word-word.ensures.1 in
    let other : tells_more (reply_word airport block) ≡ false = ap tells_more (sym word) ∙ sym c.tells_more.ensures ∙ c.if-tells_more.false in
    let none = tells-none airport block other in
    counts-add airport blocks block counts _ are printable refl (c.count_one.ensures ∙ ap (λ (w : List ℕ). map (with_one w) counts.replies.items) word)
    (told-none (λ (t : List ℕ × Entry). entry_word t.1) entry_kinds (flat_map entries_of blocks) (entries_of block) counts.entries.items are.entries none.1)
    (told-none refusal_word refusal_kinds (flat_map refusals_of blocks) (refusals_of block) counts.refusals.items are.refusals none.0)
