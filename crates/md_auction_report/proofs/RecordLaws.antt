-- The names of rows.
use Rattle.std.proofs.Common.{◌≡◌, ℕ, ◌<◌, List, length, get_or}
use Rattle.std.specs.Prelude.{Some, slice_get}
use Rattle.std.specs.Option.{ForSome}
use Rattle.std.proofs.lemmas.Option.{slice_get-get_or}
use Rattle.md_setting.specs.Auction.{SymmetricAuction, value_count}
use Rattle.md_reduced.specs.declared.condition.ReducedCondition.TheVariants.{Cut}
use Rattle.md_reduced.specs.Conditions.{conditions_of}
use Rattle.md_reduced.specs.Names.{name_of}
use Rattle.md_auction_report.specs.Records.{name_in}

pub name-told : (a : SymmetricAuction) (cuts : List ℕ) (row : ℕ) (name : List ℕ) → row < length (conditions_of (value_count a) cuts)
    → ForSome (slice_get (conditions_of (value_count a) cuts) row) (λ c. name ≡ name_of a c) → name ≡ name_in a (slice_get (conditions_of (value_count a) cuts) row)
name-told a cuts row name inside h =
    let rows = conditions_of (value_count a) cuts in
    let e : slice_get rows row ≡ Some (get_or rows row (Cut 0)) = slice_get-get_or rows row (Cut 0) inside in
    rw e (h (get_or rows row (Cut 0)) e)
