use Rattle.std.proofs.Common.{◌∙◌, ◌++◌, ℕ, List, map, refl, sym, ap}
use Rattle.replies.specs.declared.block.Block.{Block}
use Rattle.replies.specs.declared.entries.Entry.{Entry}
use Rattle.run_figures.specs.Counts.{refusals_of, entries_of, tallied, entry_word, entry_kinds, refusal_word, refusal_kinds}
use Rattle.run_figures.specs.Tallies.{with_one}
use Rattle.run_figures.proofs.TallyLaws.{tallied-more}
use Rattle.run_figures.proofs.BlockLaws.{told-none, other-block}
use Rattle.run_figures.proofs.counting.ReplyCounts.count_told.Goals as goal

pub returns-in-Refused-clause-refusals : goal.returns-in-Refused-clause-refusals
returns-in-Refused-clause-refusals c = λ told is.
    c.count_one.ensures ∙ ap (map (with_one c.refusal_word.result.now)) is
    ∙ ap (λ (w : List ℕ). map (with_one w) (tallied refusal_word refusal_kinds told)) c.refusal_word.ensures ∙ tallied-more refusal_word refusal_kinds told c.in-Refused.why
    ∙ ap (λ (b : Block). tallied refusal_word refusal_kinds (told ++ refusals_of b)) (sym c.in-Refused.is)

pub returns-in-Batch-clause-refusals : goal.returns-in-Batch-clause-refusals
returns-in-Batch-clause-refusals c = λ told is. told-none refusal_word refusal_kinds told (refusals_of c.args.block.now) _ is (ap refusals_of c.in-Batch.is)

pub returns-in-Late-clause-refusals : goal.returns-in-Late-clause-refusals
returns-in-Late-clause-refusals c = λ told is. told-none refusal_word refusal_kinds told (refusals_of c.args.block.now) _ is (ap refusals_of c.in-Late.is)

pub returns-in_default : goal.returns-in_default
returns-in_default c =
    let none = other-block c.args.block.now c.in_default.not-Refused c.in_default.not-Batch c.in_default.not-Late in
    record {
      entries = λ told is. told-none (λ (t : List ℕ × Entry). entry_word t.1) entry_kinds told (entries_of c.args.block.now) _ is none.1;
      refusals = λ told is. told-none refusal_word refusal_kinds told (refusals_of c.args.block.now) _ is none.0;
      replies = refl;
      commands = refl;
    }
