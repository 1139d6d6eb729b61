-- The values of JSON that entries are made of.
use Rattle.std.specs.Prelude.{ℕ, List, [], ◌∷◌, Option, Some, None}
use Rattle.std.specs.Str.Lossy.{utf8_lossy}
use Rattle.serde_json.specs.Data.{Data, Members, array, no_members, null, number, object, put, string, unsigned}
use Rattle.serde_json.specs.View.{items_of}

-- the members `old` with those of a list of keys and values, which are put in one after another:
-- each in its place by the order of keys
abbrev pub with_members : List (List ℕ × Data) → Members → Members
with_members [] old = old
with_members (m ∷ ms) old = with_members ms (put m.0 m.1 old)

-- the object with these keys and values, in the order of its keys
abbrev pub object_with : List (List ℕ × Data) → Data
object_with members = object (with_members members no_members)

-- the array of these values
abbrev pub array_of : List Data → Data
array_of values = array (items_of values)

-- a number
abbrev pub number_data : ℕ → Data
number_data n = number (unsigned n)

-- a number, or null if there is none
abbrev pub number_or_null : Option ℕ → Data
number_or_null None = null
number_or_null (Some n) = number_data n

-- the string of some bytes, with U+FFFD for what isn't UTF-8
abbrev pub text_data : List ℕ → Data
text_data bytes = string (utf8_lossy bytes)

-- the string of a text, or null if there is none
abbrev pub text_or_null : Option (List ℕ) → Data
text_or_null None = null
text_or_null (Some bytes) = text_data bytes
