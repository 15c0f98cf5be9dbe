-- What is written of a command and its reply, and last of all?
use Rattle.std.specs.Prelude.{ℕ, List, [], ◌∷◌, ◌++◌, codes, decimal, map}
use Rattle.taxi_base.specs.Airport.{Airport}
use Rattle.taxi_text.specs.Words.{words_of}
use Rattle.replies.specs.declared.block.Block.{Block}
use Rattle.serde_json.specs.Data.{Data}
use Rattle.serde_json.specs.Written.{compact_text}
use Rattle.reply_json.specs.Values.{text_value, number_value, list_value, object_value}
use Rattle.reply_json.specs.Replies.{reply_members}

-- The object of a command: the number of the command and of its line, the words of the line, and its reply. Words are the pieces
-- between blanks, some of them empty, so that they give the line again.
abbrev pub command_object : Airport → (command line : ℕ) → List ℕ → Block → Data
command_object airport command line text block =
    object_value ((codes "command", number_value command) ∷ (codes "line", number_value line) ∷ (codes "words", list_value (map text_value (words_of text)))
    ∷ reply_members airport block)

-- its line: the value's text with no space
unfoldable pub object_line : Airport → (command line : ℕ) → List ℕ → Block → List ℕ
object_line airport command line text block = compact_text (command_object airport command line text block) ++ 10 ∷ []

-- the last line, with the number of commands
abbrev pub done_line : ℕ → List ℕ
done_line count = codes "{\"done\":" ++ decimal count ++ codes "}\n"
