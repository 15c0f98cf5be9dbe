-- The six words are the first of those that are left.
use Rattle.std.proofs.Common.{rules}
use Rattle.taxi_text.specs.Words.{words_left}
use Rattle.taxi_text.proofs.AskedWords.{asked-take}
use Rattle.taxi_text.proofs.reader.next_asked.Goals as goal

pub returns-clause-value : goal.returns-clause-value
returns-clause-value c = rw (asked-take (words_left c.args.words.now)) (search rules)

pub returns-in_err-flight-clause-value : goal.returns-in_err-flight-clause-value
returns-in_err-flight-clause-value c = rw (asked-take (words_left c.args.words.now)) (search rules)

pub returns-in_err-class-clause-value : goal.returns-in_err-class-clause-value
returns-in_err-class-clause-value c = rw (asked-take (words_left c.args.words.now)) (search rules)

pub returns-in_err-from-clause-value : goal.returns-in_err-from-clause-value
returns-in_err-from-clause-value c = rw (asked-take (words_left c.args.words.now)) (search rules)

pub returns-in_err-to-clause-value : goal.returns-in_err-to-clause-value
returns-in_err-to-clause-value c = rw (asked-take (words_left c.args.words.now)) (search rules)

pub returns-in_err-time-clause-value : goal.returns-in_err-time-clause-value
returns-in_err-time-clause-value c = rw (asked-take (words_left c.args.words.now)) (search rules)

pub returns-in_err-slack-clause-value : goal.returns-in_err-slack-clause-value
returns-in_err-slack-clause-value c = rw (asked-take (words_left c.args.words.now)) (search rules)
