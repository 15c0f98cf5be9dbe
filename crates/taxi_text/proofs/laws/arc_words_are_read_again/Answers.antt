use Rattle.taxi_text.proofs.ArcWords.{arc_word-again, arc_word-only}
use Rattle.taxi_text.proofs.laws.arc_words_are_read_again.Goals as goal

pub returns : goal.returns
returns c = record { again = arc_word-again; only = arc_word-only }
