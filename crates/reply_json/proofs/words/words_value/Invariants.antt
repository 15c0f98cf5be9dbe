use Rattle.std.proofs.Common.{◌≡◌, ◌++◌, ℕ, List, map}
use Rattle.taxi_text.specs.Words.{words_of, words_left}
use Rattle.serde_json.specs.View.{view}
use Rattle.reply_json.specs.Values.{text_value}
use Rattle.reply_json.proofs.words.words_value.Given as goal

-- the words before this one are strings
abbrev pub invariant-loop-word : goal.invariant-loop-word
invariant-loop-word l =
    record {
      can : goal.iterator-loop-word.can_next l.word-iterator;
      finite : goal.iterator-loop-word.is_finite l.word-iterator;
      values : (read : List (List ℕ)) × (read ++ words_left l.word-iterator ≡ words_of l.text) × (map view l.values.items ≡ map text_value read);
    }
