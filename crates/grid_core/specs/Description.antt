-- The texts that describe a puzzle.
use Rattle.std.specs.Prelude.{◌≡◌, ℕ, Bool, true, not, ◌&&◌, ◌==◌, nat_le, List, length, Option, Some, None, Vec}
use Rattle.std.specs.List.{list_all}
use Rattle.std.specs.declared.alloc.Global.{Global}
use Rattle.grid_core.specs.declared.fields.Field.{Field}
use Rattle.grid_core.specs.declared.fields.Field.TheVariants.{Catalogue, Title, By, Copyright, License}
use Rattle.grid_core.specs.declared.limits.TheConstants.{MAX_TEXT_LEN}

-- the texts of a puzzle by field, as bytes; each may be absent
pub record Description : Type 0 where
  pub catalogue : Option (List ℕ)
  pub title : Option (List ℕ)
  pub by : Option (List ℕ)
  pub copyright : Option (List ℕ)
  pub license : Option (List ℕ)

-- the description without any text
abbrev pub no_texts : Description
no_texts = record { catalogue = None; title = None; by = None; copyright = None; license = None }

-- the given description, or the one without any text if there is none
abbrev pub described : Option Description → Description
described None = no_texts
described (Some d) = d

-- the bytes of a text, if there is one
abbrev pub bytes_of : Option (Vec ℕ Global) → Option (List ℕ)
bytes_of None = None
bytes_of (Some v) = Some v.items

-- the text of a field of `d`, if it has one
abbrev pub text_of : Description → Field → Option (List ℕ)
text_of d Catalogue = d.catalogue
text_of d Title = d.title
text_of d By = d.by
text_of d Copyright = d.copyright
text_of d License = d.license

-- the description `d` with `text` as the text of a field
abbrev pub with_text : Description → Field → List ℕ → Description
with_text d Catalogue text = record d { catalogue = Some text }
with_text d Title text = record d { title = Some text }
with_text d By text = record d { by = Some text }
with_text d Copyright text = record d { copyright = Some text }
with_text d License text = record d { license = Some text }

-- whether `bytes` are admissible as a text: at most `MAX_TEXT_LEN` bytes, none of them a line feed
abbrev pub is_text : List ℕ → Bool
is_text bytes = nat_le (length bytes) MAX_TEXT_LEN && list_all (λ byte. not (byte == 10)) bytes

-- whether the text of a field, if there is one, is admissible
abbrev pub is_field : Option (List ℕ) → Bool
is_field None = true
is_field (Some bytes) = is_text bytes

-- each text of `d` is admissible; the invariant of the type `Texts`
pub record IsDescription (d : Description) : Type 0 where
  pub catalogue : is_field d.catalogue ≡ true
  pub title : is_field d.title ≡ true
  pub by : is_field d.by ≡ true
  pub copyright : is_field d.copyright ≡ true
  pub license : is_field d.license ≡ true
