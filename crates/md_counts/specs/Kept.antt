-- What is kept of the lists of counts.
use Rattle.std.specs.Prelude.{◌≡◌, ℕ, List}
use Rattle.md_math.specs.Lists.{up_to}
use Rattle.md_counts.specs.Counts.{CountsOf, list_count, counts_at, AreFew}

-- the first lists one after another
abbrev pub table_to : ℕ → ℕ → ℕ → List ℕ
table_to bidders kinds n = up_to n (λ rank. counts_at bidders kinds rank)

-- what is kept is right
pub record AreKept (c : CountsOf) (lists : ℕ) (table : List ℕ) : Type 0 where
  pub few : AreFew c
  pub count : lists ≡ list_count c
  pub table_is : table ≡ table_to c.bidders c.kinds (list_count c)
