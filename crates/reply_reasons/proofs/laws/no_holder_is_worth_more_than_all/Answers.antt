use Rattle.reply_reasons.specs.Routes.{second_found}
use Rattle.reply_reasons.specs.Explained.{holder_names}
use Rattle.reply_reasons.proofs.LeftOutLaws.{gains-within, gains-none}
use Rattle.reply_reasons.proofs.laws.no_holder_is_worth_more_than_all.Goals as goal

pub returns-clause-between : goal.returns-clause-between
returns-clause-between c = λ airport asking others reasons told.
    gains-within airport asking others (second_found asking.request told.answer) told.alone told.best_alone (holder_names others) told.others_left_out told.best_without

pub returns-clause-none : goal.returns-clause-none
returns-clause-none c = λ airport asking others reasons told no_gain.
    gains-none airport asking others (second_found asking.request told.answer) told.alone told.best_alone no_gain (holder_names others) told.others_left_out told.best_without
