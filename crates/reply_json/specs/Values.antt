-- Which JSON values stand for texts, numbers, lists and named members?
use Rattle.std.specs.Prelude.{ℕ, List, [], ◌∷◌, encode_utf8_all}
use Rattle.serde_json.specs.Data.{Data, number, unsigned, string, array, object, Members, no_members, put}
use Rattle.serde_json.specs.View.{items_of}

-- a string, in which each byte is the character of its number
abbrev pub text_value : List ℕ → Data
text_value bytes = string (encode_utf8_all bytes)

-- a word of the format itself, which is ASCII
abbrev pub word_value : List ℕ → Data
word_value word = string word

abbrev pub number_value : ℕ → Data
number_value n = number (unsigned n)

abbrev pub list_value : List Data → Data
list_value values = array (items_of values)

-- A member of an object: its key, and its value.
abbrev pub Member : Type 0
Member = List ℕ × Data

-- Members that are put to those of an object, one after the other. Keys stand in rising order whatever the order in which they are put.
abbrev pub with_members : List Member → Members → Members
with_members [] members = members
with_members (first ∷ more) members = with_members more (put first.0 first.1 members)

-- the object of some members
abbrev pub object_value : List Member → Data
object_value members = object (with_members members no_members)
