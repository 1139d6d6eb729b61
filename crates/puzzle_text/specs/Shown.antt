-- Entries as the code has them, and as the definitions have them.
use Rattle.puzzle_text.specs.declared.collections.Entry.{Entry as KeptEntry}
use Rattle.puzzle_text.specs.Collections.{Entry}

-- the name and the text of an entry
abbrev pub shown_entry : KeptEntry → Entry
shown_entry entry = record { name = entry.name.now; body = entry.body.now }
