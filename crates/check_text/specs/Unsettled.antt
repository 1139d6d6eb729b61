-- The finding on a puzzle whose search was cut short.
use Rattle.std.specs.Prelude.{ℕ, List, [], ◌++◌, codes, if◌then◌else◌, nat_lt}
use Rattle.check_text.specs.Findings.{finding}
use Rattle.check_text.specs.Numbers.{guess_count}
use Rattle.check_text.specs.declared.heads.Level.TheVariants.{Warning}

-- the hint to allow more guesses; nothing if the limit is the greatest one
abbrev pub limit_hint : ℕ → List ℕ
limit_hint limit = if nat_lt limit 1000000 then codes " (try --guesses 1000000)" else []

-- that a search wasn't finished within a limit on guesses, with a hint to allow more
abbrev pub limit_text : ℕ → List ℕ
limit_text limit = codes "not settled within " ++ guess_count limit ++ limit_hint limit

-- the finding that a search wasn't finished within a limit on guesses
abbrev pub unsettled : List ℕ → ℕ → List ℕ
unsettled name limit = finding name Warning (limit_text limit)
