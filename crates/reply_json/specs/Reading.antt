-- Which line does an object give again, and which text of a block? Which transcript do the objects of a run give?
use Rattle.std.specs.Prelude.{◌≡◌, ℕ, List, [], ◌∷◌, ◌++◌, length, map, flat_map, chars, codes, decimal, bytes_eq, Option, Some, ⊤, if◌then◌else◌}
use Rattle.std.specs.List.{join_with_byte}
use Rattle.taxi_base.specs.Airport.{Airport}
use Rattle.replies.specs.declared.block.Block.{Block}
use Rattle.replies.specs.Texts.{lines_text}
use Rattle.transcripts.specs.Runs.{done_line}
use Rattle.serde_json.specs.Data.{Data, unsigned, number, string, array, Items, no_items, item}
use Rattle.serde_json.specs.Find.{get}
use Rattle.reply_json.specs.Lines.{command_object}

-- the words of a line
abbrev pub Words : Type 0
Words = List (List ℕ)

-- ---- the members of an object

-- a string is a word, and so is a number, by its digits
abbrev pub word_in : Option Data → Words
word_in (Some (string text)) = text ∷ []
word_in (Some (number (unsigned n))) = decimal n ∷ []
word_in _ = []

-- the words under these keys, of those that the object has
abbrev pub words_at : List (List ℕ) → Data → Words
words_at [] shown = []
words_at (key ∷ keys) shown = word_in (get key shown) ++ words_at keys shown

abbrev pub values_of : Items → List Data
values_of no_items = []
values_of (item value items) = value ∷ values_of items

abbrev pub values_in : Option Data → List Data
values_in (Some (array items)) = values_of items
values_in _ = []

-- the values of the list under a key, and how many they are
abbrev pub values_at : List ℕ → Data → List Data
values_at key shown = values_in (get key shown)

abbrev pub count_at : List ℕ → Data → List ℕ
count_at key shown = decimal (length (values_at key shown))

-- a line for each value of the list under a key: a word, and then the words under these keys
abbrev pub rows_at : (list word : List ℕ) → List (List ℕ) → Data → List Words
rows_at list word keys shown = map (λ row. word ∷ words_at keys row) (values_at list shown)

-- ---- the line of a command

-- the bytes of a string: each of its characters has the number of a byte
abbrev pub bytes_in : Data → List ℕ
bytes_in (string text) = chars text
bytes_in _ = []

-- The line of the command that an object tells of: the bytes of its words, joined by single blanks.
unfoldable pub command_line_of : Data → List ℕ
command_line_of shown = join_with_byte 32 (map bytes_in (values_at (codes "words") shown))

-- ---- the lines of a block

abbrev pub labels_at : Data → List Words
labels_at shown = rows_at (codes "labels") (codes "label") (codes "arc" ∷ codes "from" ∷ codes "until" ∷ codes "value" ∷ []) shown

abbrev pub route_at : Data → List Words
route_at shown =
    (codes "route" ∷ (words_at (codes "flight" ∷ codes "second" ∷ []) shown ++ count_at (codes "steps") shown ∷ count_at (codes "labels") shown ∷ []))
    ∷ (rows_at (codes "steps") (codes "step") (codes "arc" ∷ codes "enter" ∷ codes "leave" ∷ []) shown ++ labels_at shown)

abbrev pub no_route_at : Data → List Words
no_route_at shown = (codes "no-route" ∷ count_at (codes "labels") shown ∷ []) ∷ labels_at shown

-- the first word of a reply
abbrev pub reply_of : Words → List ℕ
reply_of [] = []
reply_of (word ∷ words) = word

abbrev pub reply_at : Data → List ℕ
reply_at shown = reply_of (words_at (codes "reply" ∷ []) shown)

-- the lines of an entry
abbrev pub entry_at : Data → List Words
entry_at shown =
    if bytes_eq (reply_at shown) (codes "dropped") then (codes "dropped" ∷ words_at (codes "flight" ∷ []) shown) ∷ []
    else (codes "next" ∷ words_at (codes "flight" ∷ []) shown) ∷ (if bytes_eq (reply_at shown) (codes "route") then route_at shown else no_route_at shown)

abbrev pub entries_at : Data → List Words
entries_at shown = flat_map entry_at (values_at (codes "entries") shown)

-- a refusal has one line: the word that says why, and of these members those that it has
abbrev pub refusal_at : Data → Words
refusal_at shown =
    words_at (codes "why" ∷ codes "end" ∷ codes "start" ∷ codes "leave" ∷ codes "horizon" ∷ codes "step" ∷ codes "cause" ∷ codes "at" ∷ codes "by" ∷ []) shown

-- The lines of a block. The first begins with the word under "reply".
abbrev pub block_at : Data → List Words
block_at shown =
    if bytes_eq (reply_at shown) (codes "refused") then (codes "refused" ∷ refusal_at shown) ∷ []
    else (if bytes_eq (reply_at shown) (codes "filed") then (codes "filed" ∷ words_at (codes "flight" ∷ codes "start" ∷ codes "end" ∷ []) shown) ∷ []
    else (if bytes_eq (reply_at shown) (codes "cancelled") then (codes "cancelled" ∷ words_at (codes "flight" ∷ []) shown) ∷ []
    else (if bytes_eq (reply_at shown) (codes "route") then route_at shown
    else (if bytes_eq (reply_at shown) (codes "no-route") then no_route_at shown
    else (if bytes_eq (reply_at shown) (codes "windows") then (codes "windows" ∷ (words_at (codes "segment" ∷ []) shown ++ count_at (codes "windows") shown ∷ [])) ∷ rows_at (codes "windows") (codes "window") (codes "from" ∷ codes "until" ∷ []) shown
    else (if bytes_eq (reply_at shown) (codes "occupancy") then (codes "occupancy" ∷ (words_at (codes "segment" ∷ []) shown ++ count_at (codes "held") shown ∷ [])) ∷ rows_at (codes "held") (codes "held") (codes "from" ∷ codes "until" ∷ codes "flight" ∷ codes "segment" ∷ []) shown
    else (if bytes_eq (reply_at shown) (codes "timetable") then (codes "timetable" ∷ count_at (codes "flights") shown ∷ []) ∷ rows_at (codes "flights") (codes "flight") (codes "flight" ∷ codes "kind" ∷ codes "class" ∷ codes "start" ∷ codes "end" ∷ []) shown
    else (if bytes_eq (reply_at shown) (codes "batch") then (codes "batch" ∷ count_at (codes "entries") shown ∷ words_at (codes "total" ∷ []) shown) ∷ entries_at shown
    else (codes "late" ∷ (words_at (codes "flight" ∷ []) shown ++ count_at (codes "entries") shown ∷ [])) ∷ entries_at shown))))))))

-- ---- texts

-- the text of the block that an object tells of
unfoldable pub block_text_of : Data → List ℕ
block_text_of shown = lines_text (block_at shown)

-- the transcript that the objects of a run give
abbrev pub transcript_of : List Data → List ℕ
transcript_of objects = flat_map block_text_of objects ++ done_line (length objects)

-- these objects tell of these blocks, each with some command and its numbers
abbrev pub TellOf : Airport → List Data → List Block → Type 0
TellOf airport [] [] = ⊤
TellOf airport [] (block ∷ blocks) = ⊥
TellOf airport (shown ∷ objects) [] = ⊥
TellOf airport (shown ∷ objects) (block ∷ blocks) =
    ((command : ℕ) × (line : ℕ) × (text : List ℕ) × (shown ≡ command_object airport command line text block)) × TellOf airport objects blocks
