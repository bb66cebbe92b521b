-- The table of all lists one after another.
use Rattle.std.proofs.Common.{◌≡◌, ℕ, ◌+◌, ◌-◌, ◌*◌, ◌<◌, ◌≤◌, List, length, take, drop, ap, ◌∙◌, arith}
use Rattle.std.proofs.lemmas.Nat.{mul-le}
use Rattle.md_math.proofs.Builders.{length-up_to}
use Rattle.md_setting.specs.CountLists.{count_lists}
use Rattle.md_counts.specs.Counts.{counts_at}
use Rattle.md_counts.specs.Kept.{table_to}
use Rattle.md_math.proofs.ListLaws.{cut-up_to}
use Rattle.md_counts.proofs.RankLaws.{ranked}

-- the list at a rank, cut out of the table
pub record IsCut (bidders kinds rank : ℕ) (table : List ℕ) : Type 0 where
  pub inside : rank * kinds + kinds ≤ length table
  pub list : take (rank * kinds + kinds - rank * kinds) (drop (rank * kinds) table) ≡ counts_at bidders kinds rank

pub cut : (bidders kinds rank : ℕ) (table : List ℕ) → table ≡ table_to bidders kinds (length (count_lists bidders kinds)) → rank < length (count_lists bidders kinds) → IsCut bidders kinds rank table
cut bidders kinds rank table e b =
    let lists = length (count_lists bidders kinds) in
    let long : (r : ℕ) → r < lists → length (counts_at bidders kinds r) ≡ kinds = λ r l. (ranked kinds bidders r l).counts.one_each in
    let whole : length table ≡ lists * kinds = ap length e ∙ length-up_to lists kinds (λ r. counts_at bidders kinds r) long in
    let size : rank * kinds + kinds - rank * kinds ≡ kinds = omega arith in
    record {
      inside = omega (arith, whole, mul-le (rank + 1) kinds lists kinds (omega arith) (omega arith));
      list = ap (λ n. take n (drop (rank * kinds) table)) size ∙ ap (λ xs. take kinds (drop (rank * kinds) xs)) e ∙ cut-up_to lists kinds rank (λ r. counts_at bidders kinds r) long b;
    }
