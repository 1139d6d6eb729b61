-- How much a reader consumed.
use Rattle.std.specs.Prelude.{ℕ, ◌≤◌, List, length, Option}
use Rattle.std.specs.Io.KnownBytes.{Consumes}

-- from `old` to `new` a reader consumed its first bytes, at most `limit` of them
pub record ReadsWithin (limit : ℕ) (old new : Option (List ℕ)) : Type 0 where
  pub bytes : List ℕ
  pub few : length bytes ≤ limit
  pub read : Consumes old new bytes
