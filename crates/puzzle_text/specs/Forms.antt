-- Forms of a text that explain why it is refused.
use Rattle.std.specs.Prelude.{ℕ, Bool, not, ◌&&◌, ◌||◌, List, [], ◌∷◌, Option, Some, None, nat_eq, ◌==◌, if◌then◌else◌}
use Rattle.std.specs.List.{list_any, starts_with}
use Rattle.puzzle_text.specs.declared.forms.TextForm.{TextForm}
use Rattle.puzzle_text.specs.declared.forms.TextForm.TheVariants.{ByteOrderMark, Utf16, LoneReturns}

-- `bytes` begin with the byte order mark of UTF-8
abbrev pub has_byte_order_mark : List ℕ → Bool
has_byte_order_mark bytes = starts_with nat_eq bytes (0xEF ∷ 0xBB ∷ 0xBF ∷ [])

-- `bytes` begin with a byte order mark of UTF-16
abbrev pub is_utf16 : List ℕ → Bool
is_utf16 bytes =
    starts_with nat_eq bytes (0xFE ∷ 0xFF ∷ []) || starts_with nat_eq bytes (0xFF ∷ 0xFE ∷ [])

-- `bytes` have a carriage return, but no line feed
abbrev pub has_lone_returns : List ℕ → Bool
has_lone_returns bytes =
    list_any (λ byte. byte == 13) bytes && not (list_any (λ byte. byte == 10) bytes)

-- the form that the bytes of a text have, whatever its format and its fault
abbrev pub form_of_bytes : List ℕ → Option TextForm
form_of_bytes bytes =
    if has_byte_order_mark bytes then Some ByteOrderMark
    else (if is_utf16 bytes then Some Utf16
    else (if has_lone_returns bytes then Some LoneReturns else None))
