-- An auction whose weights are, in each group, those of another one divided by a common factor.
use Rattle.std.specs.Prelude.{◌≡◌, ℕ, ◌*◌, ◌<◌, length, slice_index}
use Rattle.md_setting.specs.Grouped.{Group, GroupedAuction, group_at}

-- the second group has the weights of the first one divided by the factor, and all else of it
pub record IsReducedGroup (factor : ℕ) (group reduced : Group) : Type 0 where
  pub positive : 0 < factor
  pub count : reduced.count ≡ group.count
  pub values : reduced.values ≡ group.values
  pub worth : reduced.worth ≡ group.worth
  pub one_each : length reduced.weights ≡ length group.weights
  pub weights : (v : ℕ) → v < length group.weights → slice_index group.weights v ≡ factor * slice_index reduced.weights v

pub record IsReduced (a b : GroupedAuction) (factor : ℕ → ℕ) : Type 0 where
  pub slots : b.slots ≡ a.slots
  pub revenue : b.revenue ≡ a.revenue
  pub welfare : b.welfare ≡ a.welfare
  pub keep : b.keep ≡ a.keep
  pub group_count : length b.groups ≡ length a.groups
  pub group : (k : ℕ) → k < length a.groups → IsReducedGroup (factor k) (group_at a k) (group_at b k)
