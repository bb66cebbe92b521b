-- Each bidder is one of a group that is there.
use Rattle.std.proofs.Common.{ℕ, suc, ◌+◌, ◌<◌, pos, ◌<ℤ◌, List, [], ◌∷◌, length, replicate, All, arith}
use Rattle.std.proofs.lemmas.List.Elements.{All-nil, All-append, All-replicate, All-weaker}
use Rattle.std.specs.Prelude.{slice_index}
use Rattle.md_setting.specs.Grouped.{Group, GroupedAuction, members_from, bidder_count, group_of, group_with, value_count, value_at, weight_at}
use Rattle.md_setting.specs.GroupedShaped.{IsGroup, IsOrdered}
use Rattle.md_math.proofs.Order.{positive_pos}

members-below : (k : ℕ) (groups : List Group) → All (λ m. m < k + length groups) (members_from k groups)
members-below k [] = All-nil (λ m. m < k + 0)
members-below k (group ∷ others) =
    All-append (λ m. m < k + suc (length others)) (replicate group.count k) (members_from (suc k) others)
    (All-replicate (λ m. m < k + suc (length others)) group.count k (omega arith))
    (All-weaker (λ m. m < suc k + length others) (λ m. m < k + suc (length others)) (λ m b. omega (arith, b)) (members_from (suc k) others) (members-below (suc k) others))

pub group-below : (a : GroupedAuction) (i : ℕ) → i < bidder_count a → group_of a i < length a.groups
group-below a i b = omega (arith, members-below 0 a.groups i 0 b)

module _ (a : GroupedAuction) (ordered : IsOrdered a) (i : ℕ) (b : i < bidder_count a) where
  pub is-group : IsGroup (group_with a i)
  is-group = ordered.group (group_of a i) (group-below a i b)

  pub values-ascend : (v : ℕ) → suc v < value_count a i → value_at a i v <ℤ value_at a i (suc v)
  values-ascend = is-group.ascending

  pub weights-positive : (v : ℕ) → v < value_count a i → pos 0 <ℤ weight_at a i v
  weights-positive v l = positive_pos (slice_index (group_with a i).weights v) (is-group.positive v l)
