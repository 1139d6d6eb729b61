-- How bytes of a text are quoted.
use Rattle.std.specs.Prelude.{ℕ, List, ◌++◌, length, map, take, codes, if◌then◌else◌, nat_lt, ◌||◌}

-- `byte` as it is quoted: `?` unless it is a printable character of ASCII
abbrev pub shown_byte : ℕ → ℕ
shown_byte byte = if nat_lt byte 32 || nat_lt 126 byte then 63 else byte

-- the bytes as they are quoted: all of them, or the first 60 and `..` if there are more
abbrev pub quoted : List ℕ → List ℕ
quoted bytes =
    if nat_lt 60 (length bytes) then map shown_byte (take 60 bytes) ++ codes ".."
    else map shown_byte bytes
