-- The finding on a file that can't be read.
use Rattle.std.specs.Prelude.{ℕ, List, ◌++◌, codes, None}
use Rattle.check_text.specs.Heads.{head}
use Rattle.check_text.specs.declared.heads.Level.TheVariants.{Error}
use Rattle.check_text.specs.declared.unread.Unread.{Unread}
use Rattle.check_text.specs.declared.unread.Unread.TheVariants.{Missing, Denied, Folder, Failed}

-- why a file can't be read
abbrev pub unread_sentence : Unread → List ℕ
unread_sentence Missing = codes "there is no such file"
unread_sentence Denied = codes "permission denied"
unread_sentence Folder = codes "it is a folder"
unread_sentence Failed = codes "it can't be read"

-- the finding on the file `name`
abbrev pub unread_finding : List ℕ → Unread → List ℕ
unread_finding name unread = head name None Error ++ unread_sentence unread ++ codes "\n"
