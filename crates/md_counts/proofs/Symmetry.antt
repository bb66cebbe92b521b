-- Functions of lists of values in which the order of the values does not matter.
use Rattle.std.proofs.Common.{◌≡◌, ℕ, zero, suc, ◌+◌, ◌*◌, ◌<◌, ◌≤◌, ℤ, pos, Bool, ◌==◌, if◌then◌else◌, List, [], ◌∷◌, ◌++◌, sym, ap, ap₂, ◌∙◌, arith}
use Rattle.std.proofs.Math.ListN.{replicate}
use Rattle.md_math.specs.Products.{product_by}
use Rattle.md_math.specs.Sums.{total_by}
use Rattle.md_math.proofs.SumLaws.{sum_to-same}
use Rattle.md_space.specs.ByType.{where_type}
use Rattle.md_space.proofs.TypeSums.{total-same, by_first, first_only, behind_first}
use Rattle.md_counts.specs.Weights.{count_in, value_lists}
use Rattle.md_setting.proofs.TestLaws.{all_below-same}
use Rattle.md_counts.proofs.Agreement.{weigh}

-- two neighbours may change their places
pub record IsSymmetric (g : List ℕ → ℤ) : Type 0 where
  pub swap : (before after : List ℕ) (u v : ℕ) → g (before ++ u ∷ v ∷ after) ≡ g (before ++ v ∷ u ∷ after)

pub IsSymmetric-behind : (g : List ℕ → ℤ) (x : ℕ) → IsSymmetric g → IsSymmetric (λ values. g (x ∷ values))
IsSymmetric-behind g x h = record { swap = λ before after u v. h.swap (x ∷ before) after u v }

-- the sum over the lists in which one bidder has v is that over the lists that begin with v
pub given-first : (n kinds i v : ℕ) (g : List ℕ → ℤ) → IsSymmetric g → i ≤ n → v < kinds
    → total_by (where_type i v g) (value_lists (suc n) kinds) ≡ total_by (λ values. g (v ∷ values)) (value_lists n kinds)
given-first n kinds zero v g h b l = first_only kinds v (replicate n kinds) g l
given-first zero kinds (suc i) v g h b l = absurd (omega arith)
given-first (suc n) kinds (suc i) v g h b l =
    behind_first kinds (replicate (suc n) kinds) i v g
    ∙ sum_to-same kinds _ (λ x. total_by (λ values. g (v ∷ x ∷ values)) (value_lists n kinds))
    (λ x c.
    given-first n kinds i v (λ values. g (x ∷ values)) (IsSymmetric-behind g x h) (omega arith) l
    ∙ total-same (replicate n kinds) (λ values. g (x ∷ v ∷ values)) (λ values. g (v ∷ x ∷ values)) (λ values p. h.swap [] values x v))
    ∙ sym (by_first kinds (replicate n kinds) (λ values. g (v ∷ values)))

-- ---- the weight of lists with given counts

count-swap : (w : ℕ) (before after : List ℕ) (u v : ℕ) → count_in w (before ++ u ∷ v ∷ after) ≡ count_in w (before ++ v ∷ u ∷ after)
count-swap w [] after u v = turned (if u == w then 1 else 0) (if v == w then 1 else 0) (count_in w after)
  where
    turned : (a b n : ℕ) → a + (b + n) ≡ b + (a + n)
    turned a b n = omega arith
count-swap w (x ∷ before) after u v = ap (λ n. (if x == w then 1 else 0) + n) (count-swap w before after u v)

product-swap : (f : ℕ → ℕ) (before after : List ℕ) (u v : ℕ) → product_by f (before ++ u ∷ v ∷ after) ≡ product_by f (before ++ v ∷ u ∷ after)
product-swap f [] after u v = turned (f u) (f v) (product_by f after)
  where
    turned : (a b n : ℕ) → a * (b * n) ≡ b * (a * n)
    turned a b n = omega arith
product-swap f (x ∷ before) after u v = ap (λ n. f x * n) (product-swap f before after u v)

pub IsSymmetric-product : (f : ℕ → ℕ) → IsSymmetric (λ values. pos (product_by f values))
IsSymmetric-product f = record { swap = λ before after u v. ap pos (product-swap f before after u v) }

pub IsSymmetric-weigh : (kinds : ℕ) (f c : ℕ → ℕ) → IsSymmetric (weigh kinds f c)
IsSymmetric-weigh kinds f c = record {
  swap = λ before after u v.
      ap₂ (λ (b : Bool) (n : ℕ). if b then pos n else pos 0)
      (all_below-same kinds _ _ (λ w l. ap (λ n. n == c w) (count-swap w before after u v)))
      (product-swap f before after u v);
}
