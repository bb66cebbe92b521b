-- The rows of an auction's reduced program with some cuts.
use Rattle.std.specs.Prelude.{ℕ, List, length}
use Rattle.md_setting.specs.Auction.{SymmetricAuction, value_count}
use Rattle.md_reduced.specs.Conditions.{conditions_of}

-- how many there are: one for each condition
abbrev pub reduced_rows : SymmetricAuction → List ℕ → ℕ
reduced_rows a cuts = length (conditions_of (value_count a) cuts)
