-- The point of the reduced program that odds by value are, with the payments that make it best to tell the true value.
use Rattle.std.specs.Prelude.{ℕ, ◌≡◌, ◌+◌, ◌*◌, ◌<◌, ℤ, pos, List, ◌++◌}
use Rattle.md_math.specs.Lists.{number_at, list_to}
use Rattle.md_setting.specs.Auction.{SymmetricAuction, value_count}
use Rattle.md_iron_values.specs.Odds.{pay_by}

-- by column the odds, then the payments, none of which is negative, and then their minus parts, which are 0
pub record IsPointOf (a : SymmetricAuction) (q : ℕ → ℤ) (x : ℕ → ℤ) : Type 0 where
  pub odds : (v : ℕ) → v < value_count a → x v ≡ q v
  pub pays : (v : ℕ) → v < value_count a → x (value_count a + v) ≡ pay_by (number_at a.values) q v
  pub none : (v : ℕ) → v < value_count a → x (2 * value_count a + v) ≡ pos 0

-- this point as a list
abbrev pub closed_point : SymmetricAuction → (ℕ → ℤ) → List ℤ
closed_point a q =
    list_to (value_count a) q ++ (list_to (value_count a) (pay_by (number_at a.values) q) ++ list_to (value_count a) (λ _. pos 0))
