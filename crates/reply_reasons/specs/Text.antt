-- How is an explanation written?
use Rattle.std.specs.Prelude.{ℕ, List, [], ◌∷◌, flat_map, codes, decimal, Option, Some, None}
use Rattle.taxi_base.specs.Airport.{Airport}
use Rattle.airport_file.specs.Words.{segment_word, word_of_arc}
use Rattle.replies.specs.Texts.{line_text}
use Rattle.reply_reasons.specs.declared.reason.Reason.{Reason}
use Rattle.reply_reasons.specs.declared.reason.Reason.TheVariants as reason

-- a second, or that there is none
abbrev pub second_word : Option ℕ → List ℕ
second_word None = codes "none"
second_word (Some second) = decimal second

-- the name of a holder, where there is one
abbrev pub holder_words : Option (List ℕ) → List (List ℕ)
holder_words None = []
holder_words (Some name) = name ∷ []

-- the words of a line
abbrev pub reason_words : Airport → Reason → List (List ℕ)
reason_words airport (reason.Answer second) = codes "answer" ∷ second_word second ∷ []
reason_words airport (reason.Alone second) = codes "alone" ∷ second_word second ∷ []
reason_words airport (reason.Without holder second) = codes "without" ∷ holder ∷ decimal second ∷ []
reason_words airport (reason.Later begin end) = codes "later" ∷ decimal begin ∷ decimal end ∷ []
reason_words airport (reason.Sooner begin end) = codes "sooner" ∷ decimal begin ∷ decimal end ∷ []
reason_words airport (reason.Hold seconds holder) = codes "hold" ∷ decimal seconds ∷ holder_words holder
reason_words airport (reason.Queue seconds holder) = codes "queue" ∷ decimal seconds ∷ holder_words holder
reason_words airport (reason.Wait step arc seconds holder) = codes "wait" ∷ decimal step ∷ word_of_arc airport arc ∷ decimal seconds ∷ holder_words holder
reason_words airport (reason.Refused step at by) = codes "refused" ∷ codes "step" ∷ decimal step ∷ codes "taken" ∷ decimal at ∷ by ∷ []
reason_words airport (reason.Held from until holder segment) = codes "held" ∷ decimal from ∷ decimal until ∷ holder ∷ segment_word airport segment ∷ []
reason_words airport reason.Nothing = codes "nothing" ∷ codes "to" ∷ codes "explain" ∷ []

unfoldable pub reason_line : Airport → Reason → List ℕ
reason_line airport line = line_text (reason_words airport line)

-- the lines, one after the other
unfoldable pub reasons_text : Airport → List Reason → List ℕ
reasons_text airport reasons = flat_map (reason_line airport) reasons
