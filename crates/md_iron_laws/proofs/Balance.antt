-- The rows with their multipliers, before these are divided, give the cost of any point and what is left of its odds.
use Rattle.std.proofs.Common.{◌≡◌, ℕ, zero, suc, ◌+◌, ◌-◌, ◌*◌, ◌^◌, ◌<◌, false, nat_lt, if◌then◌else◌, ℤ, pos, ◌+ℤ◌, ◌-ℤ◌, ◌*ℤ◌, refl, sym, ap, ap₂, ◌∙◌, arith}
use Rattle.std.specs.Prelude.{slice_index}
use Rattle.std.proofs.lemmas.Int.{ints}
use Rattle.md_math.specs.Lists.{number_at}
use Rattle.md_math.specs.Sums.{sum_to}
use Rattle.md_math.proofs.Ring.{linear, ring, *ℤ-zero, *ℤ_assoc, *ℤ_left_comm}
use Rattle.md_math.proofs.SumLaws.{sum_to-same, sum_to-+ℤ, sum_to-*ℤ}
use Rattle.md_setting.specs.Auction.{SymmetricAuction, value_count, total_weight}
use Rattle.md_setting.specs.AuctionShaped.{IsAuction}
use Rattle.md_border.specs.Odds.{weight_given}
use Rattle.md_border.specs.Worth.{surplus_of}
use Rattle.md_reduced.specs.Sides.{pay_in, cost_of}
use Rattle.md_iron_values.specs.Weights.{weight_before}
use Rattle.md_iron_values.specs.Pools.{Pools, over_pool}
use Rattle.md_iron_values.specs.Cuts.{begins}
use Rattle.md_iron_values.specs.VirtualValues.{weight_to, weight_from, virtual_value, virtual_to, IsPooledAuction}
use Rattle.md_iron_values.specs.Odds.{step_of, share_den}
use Rattle.md_iron_values.proofs.AuctionLaws.{weight-ascends, weight_from-end}
use Rattle.md_iron_laws.specs.Ironed.{AreMeans, gap_times, rest_of, IsIroned}
use Rattle.md_iron_laws.specs.Undivided.{Undivided, left_total}
use Rattle.md_iron_laws.proofs.MultipleLaws.{HasMultiple}
use Rattle.md_iron_laws.proofs.IronedLaws.{mean_by, have-means, is-ironed}
use Rattle.md_iron_laws.proofs.EdgeLaws.{AreEdges, pull_of, edges-sum, steps-sum, sum-tails, value-at}
use Rattle.md_iron_laws.proofs.RowSums.{left_total-is}

-- ---- the numbers

-- how far a value is above the one before; 1 for the lowest
abbrev pub value_step : (ℕ → ℤ) → ℕ → ℤ
value_step v zero = pos 1
value_step v (suc j) = v (suc j) -ℤ v j

-- common multiples of the weights of pools, and of the steps of values
pub record Multiples (a : SymmetricAuction) (pools : Pools) : Type 0 where
  pub weights : HasMultiple (value_count a) (over_pool (weight_to a) pools)
  pub steps : HasMultiple (value_count a) (value_step (number_at a.values))

abbrev pub mean_of : (a : SymmetricAuction) (pools : Pools) → Multiples a pools → ℕ → ℤ
mean_of a pools m = mean_by (virtual_to a) pools m.weights.part

abbrev pub gap_of : (a : SymmetricAuction) (pools : Pools) → Multiples a pools → ℕ → ℤ
gap_of a pools m = gap_times (value_count a) (weight_to a) (virtual_to a) pools m.weights.whole (mean_of a pools m)

abbrev pub left_of : (a : SymmetricAuction) (pools : Pools) → Multiples a pools → ℕ → ℤ
left_of a pools m = rest_of (weight_to a) (virtual_to a) m.weights.whole (mean_of a pools m) (gap_of a pools m)

-- what gaps are multiplied by, and what the cost is
abbrev pub gap_factor : (a : SymmetricAuction) (pools : Pools) → Multiples a pools → ℤ
gap_factor a pools m = share_den a *ℤ m.steps.whole

abbrev pub cost_factor : (a : SymmetricAuction) (pools : Pools) → Multiples a pools → ℤ
cost_factor a pools m = gap_factor a pools m *ℤ m.weights.whole

abbrev pub worth_of : (a : SymmetricAuction) (pools : Pools) → Multiples a pools → ℕ → ℤ
worth_of a pools m j = cost_factor a pools m *ℤ (a.revenue *ℤ weight_from a j)

abbrev pub up_of : (a : SymmetricAuction) (pools : Pools) → Multiples a pools → ℕ → ℤ
up_of a pools m j = share_den a *ℤ (m.steps.part j *ℤ gap_of a pools m j)

abbrev pub cut_of : (a : SymmetricAuction) (pools : Pools) → Multiples a pools → ℕ → ℤ
cut_of a pools m s = m.steps.whole *ℤ step_of (mean_of a pools m) s

abbrev pub undivided_of : (a : SymmetricAuction) (pools : Pools) → Multiples a pools → Undivided
undivided_of a pools m = record {
  up = up_of a pools m;
  down = λ j. worth_of a pools m j +ℤ up_of a pools m j;
  cut = cut_of a pools m;
}

-- ---- they are ironed

pub means : (a : SymmetricAuction) (pools : Pools) (m : Multiples a pools) → AreMeans (value_count a) (weight_to a) (virtual_to a) pools m.weights.whole (mean_of a pools m)
means a pools m = have-means (value_count a) (weight_to a) (virtual_to a) pools m.weights

pub ironed : (a : SymmetricAuction) (pools : Pools) (m : Multiples a pools) → IsAuction a → IsPooledAuction a pools
    → IsIroned (value_count a) (weight_to a) (virtual_to a) pools m.weights.whole (mean_of a pools m) (gap_of a pools m)
ironed a pools m shaped p =
    is-ironed (value_count a) (weight_to a) (virtual_to a) pools m.weights.whole (mean_of a pools m) p (weight-ascends a shaped) (means a pools m)

up-at : (d n e w g : ℤ) → d *ℤ e ≡ w → d *ℤ (n *ℤ (e *ℤ g)) ≡ (n *ℤ w) *ℤ g
up-at d n e w g h =
    let known : n *ℤ ((d *ℤ e) *ℤ g) ≡ n *ℤ (w *ℤ g) = ap (λ z. n *ℤ (z *ℤ g)) h in
    *ℤ_left_comm d n (e *ℤ g) ∙ ap (λ z. n *ℤ z) (sym (*ℤ_assoc d e g)) ∙ known ∙ sym (*ℤ_assoc n w g)

pub are-edges : (a : SymmetricAuction) (pools : Pools) (m : Multiples a pools) → IsAuction a → IsPooledAuction a pools
    → AreEdges (value_count a) (number_at a.values) (worth_of a pools m) (gap_of a pools m) (gap_factor a pools m) (up_of a pools m) (undivided_of a pools m).down
are-edges a pools m shaped p =
    let iron = ironed a pools m shaped p in
    record {
      up_is = λ j b. up-at (number_at a.values (suc j) -ℤ number_at a.values j) (share_den a) (m.steps.part (suc j)) m.steps.whole (gap_of a pools m (suc j)) (m.steps.is (suc j) b);
      down_is = λ j b. refl;
      none_up = ap (λ z. share_den a *ℤ (m.steps.part 0 *ℤ z)) iron.first ∙ ap (λ z. share_den a *ℤ z) (*ℤ-zero (m.steps.part 0)) ∙ *ℤ-zero (share_den a);
      none_first = iron.first;
      none_last = iron.last;
      none_worth = ap (λ z. cost_factor a pools m *ℤ (a.revenue *ℤ z)) (weight_from-end a shaped) ∙ ap (λ z. cost_factor a pools m *ℤ z) (*ℤ-zero a.revenue) ∙ *ℤ-zero (cost_factor a pools m);
    }

-- ---- one value

rest-parts : (k l g0 g1 f c r v0 v1 t0 t1 m phi : ℤ) → phi ≡ f *ℤ c +ℤ r *ℤ (v0 *ℤ t0 -ℤ v1 *ℤ t1)
    → k *ℤ (((g1 -ℤ g0) -ℤ l *ℤ phi) +ℤ f *ℤ m)
    ≡ ((k *ℤ g1 -ℤ k *ℤ g0) -ℤ (((k *ℤ l) *ℤ (f *ℤ c) +ℤ ((k *ℤ l) *ℤ (r *ℤ t0)) *ℤ v0) -ℤ ((k *ℤ l) *ℤ (r *ℤ t1)) *ℤ v1)) +ℤ k *ℤ (f *ℤ m)
rest-parts k l g0 g1 f c r v0 v1 t0 t1 m phi e = rw e (simp ring (omega (arith, linear)))

worth-parts : (b r f t0 t1 : ℤ) → t0 -ℤ t1 ≡ f → b *ℤ (r *ℤ t0) -ℤ b *ℤ (r *ℤ t1) ≡ b *ℤ (r *ℤ f)
worth-parts b r f t0 t1 e = (let known : b *ℤ (r *ℤ (t0 -ℤ t1)) ≡ b *ℤ (r *ℤ f) = ap (λ z. b *ℤ (r *ℤ z)) e in let h = simp ring at known in omega (arith, linear, h))

cut-parts : (n f x d m w : ℤ) → w ≡ n *ℤ f → (w *ℤ x) *ℤ (d *ℤ m) ≡ ((n *ℤ d) *ℤ (f *ℤ m)) *ℤ x
cut-parts n f x d m w e = rw e (simp ring (omega (arith, linear)))

cost-parts : (b f c r x p : ℤ) → b *ℤ (f *ℤ (c *ℤ x +ℤ r *ℤ p)) ≡ (b *ℤ (f *ℤ c)) *ℤ x +ℤ (b *ℤ (r *ℤ f)) *ℤ p
cost-parts b f c r x p = simp ring (omega (arith, linear))

weight-step : (a : SymmetricAuction) (j : ℕ) → weight_to a (suc j) -ℤ weight_to a j ≡ pos (slice_index a.weights j)
weight-step a j = grown (weight_before (slice_index a.weights) j) (slice_index a.weights j)
  where
    grown : (w f : ℕ) → pos (w + f) -ℤ pos w ≡ pos f
    grown w f = omega (arith, ints)

from-step : (a : SymmetricAuction) (j : ℕ) → weight_from a j -ℤ weight_from a (suc j) ≡ pos (slice_index a.weights j)
from-step a j = omega (arith, linear, weight-step a j)

virtual-step : (a : SymmetricAuction) (j : ℕ)
    → virtual_to a (suc j) -ℤ virtual_to a j ≡ pos (slice_index a.weights j) *ℤ surplus_of a j +ℤ a.revenue *ℤ (number_at a.values j *ℤ weight_from a j -ℤ number_at a.values (suc j) *ℤ weight_from a (suc j))
virtual-step a j =
    let next : j + 1 ≡ suc j = omega arith in
    let grown : virtual_to a (suc j) -ℤ virtual_to a j ≡ virtual_value a j = added (virtual_to a j) (virtual_value a j) in
    grown ∙ ap (λ i. pos (slice_index a.weights j) *ℤ surplus_of a j +ℤ a.revenue *ℤ (number_at a.values j *ℤ weight_from a j -ℤ number_at a.values i *ℤ weight_from a i)) next
  where
    added : (s v : ℤ) → (s +ℤ v) -ℤ s ≡ v
    added s v = omega (arith, linear)

-- what a value is worth, at the factor of the cost
abbrev pub cost_at_value : SymmetricAuction → (ℕ → ℤ) → ℕ → ℤ
cost_at_value a x v = pos (slice_index a.weights v) *ℤ (surplus_of a v *ℤ x v +ℤ a.revenue *ℤ pay_in a x v)

abbrev pub pull : (a : SymmetricAuction) (pools : Pools) → Multiples a pools → ℕ → ℤ
pull a pools m = pull_of (number_at a.values) (worth_of a pools m) (gap_of a pools m) (gap_factor a pools m)

one-value : (a : SymmetricAuction) (pools : Pools) (m : Multiples a pools) (x : ℕ → ℤ) (v : ℕ)
    → ((pull a pools m v -ℤ pull a pools m (suc v)) *ℤ x v +ℤ (worth_of a pools m v -ℤ worth_of a pools m (suc v)) *ℤ pay_in a x v) +ℤ (pos (a.bidders * weight_given a v) *ℤ x v) *ℤ (m.steps.whole *ℤ mean_of a pools m v)
    ≡ cost_factor a pools m *ℤ cost_at_value a x v +ℤ (gap_factor a pools m *ℤ left_of a pools m v) *ℤ x v
one-value a pools m x v =
    let k = gap_factor a pools m in
    let b = cost_factor a pools m in
    let f = pos (slice_index a.weights v) in
    let c = surplus_of a v in
    let r = a.revenue in
    let here = number_at a.values v in
    let next = number_at a.values (suc v) in
    let g0 = gap_of a pools m v in
    let g1 = gap_of a pools m (suc v) in
    let mean = mean_of a pools m v in
    let l = m.weights.whole in
    let left : left_of a pools m v ≡ ((g1 -ℤ g0) -ℤ l *ℤ (virtual_to a (suc v) -ℤ virtual_to a v)) +ℤ f *ℤ mean = ap (λ w. ((g1 -ℤ g0) -ℤ l *ℤ (virtual_to a (suc v) -ℤ virtual_to a v)) +ℤ w *ℤ mean) (weight-step a v) in
    let parts : k *ℤ left_of a pools m v ≡ ((k *ℤ g1 -ℤ k *ℤ g0) -ℤ ((b *ℤ (f *ℤ c) +ℤ worth_of a pools m v *ℤ here) -ℤ worth_of a pools m (suc v) *ℤ next)) +ℤ k *ℤ (f *ℤ mean) =
    ap (λ z. k *ℤ z) left ∙ rest-parts k l g0 g1 f c r here next (weight_from a v) (weight_from a (suc v)) mean (virtual_to a (suc v) -ℤ virtual_to a v) (virtual-step a v) in
    let worth : worth_of a pools m v -ℤ worth_of a pools m (suc v) ≡ b *ℤ (r *ℤ f) = worth-parts b r f (weight_from a v) (weight_from a (suc v)) (from-step a v) in
    let asked : pos (a.bidders * weight_given a v) ≡ share_den a *ℤ f = grouped a.bidders (slice_index a.weights v) (total_weight a.weights ^ (a.bidders - 1)) in
    let cut : (pos (a.bidders * weight_given a v) *ℤ x v) *ℤ (m.steps.whole *ℤ mean) ≡ (k *ℤ (f *ℤ mean)) *ℤ x v = cut-parts (share_den a) f (x v) m.steps.whole mean (pos (a.bidders * weight_given a v)) asked in
    ap₂ (λ y z. ((pull a pools m v -ℤ pull a pools m (suc v)) *ℤ x v +ℤ y *ℤ pay_in a x v) +ℤ z) worth cut
    ∙ value-at (k *ℤ g0) (k *ℤ g1) (worth_of a pools m v *ℤ here) (worth_of a pools m (suc v) *ℤ next) (b *ℤ (f *ℤ c)) (b *ℤ (r *ℤ f)) (k *ℤ (f *ℤ mean)) (k *ℤ left_of a pools m v) (x v) (pay_in a x v) parts
    ∙ ap (λ z. z +ℤ (k *ℤ left_of a pools m v) *ℤ x v) (sym (cost-parts b f c r (x v) (pay_in a x v)))
  where
    grouped : (n f e : ℕ) → pos (n * (f * e)) ≡ pos (n * e) *ℤ pos f
    grouped n f e = ap (λ m. pos m) (let same : n * (f * e) ≡ (n * e) * f = omega arith in same)

-- ---- all values

-- whatever the point
pub balance : (a : SymmetricAuction) (pools : Pools) (m : Multiples a pools) (x : ℕ → ℤ) → IsAuction a → IsPooledAuction a pools
    → left_total a pools (undivided_of a pools m) x ≡ cost_factor a pools m *ℤ cost_of a x +ℤ sum_to (value_count a) (λ v. (gap_factor a pools m *ℤ left_of a pools m v) *ℤ x v)
balance a pools m x shaped p =
    let k = value_count a in
    let u = undivided_of a pools m in
    let iron = ironed a pools m shaped p in
    let asked = λ (v : ℕ). pos (a.bidders * weight_given a v) *ℤ x v in
    let no_cut : (s : ℕ) → s < value_count a → begins pools s ≡ false → (undivided_of a pools m).cut s ≡ pos 0 =
    λ s b f. ap (λ z. m.steps.whole *ℤ z) (iron.starts s b f) ∙ *ℤ-zero m.steps.whole in
    let edges = edges-sum k (number_at a.values) (worth_of a pools m) (gap_of a pools m) (gap_factor a pools m) u.up u.down x (pay_in a x) (are-edges a pools m shaped p) in
    let tails : sum_to k (λ s. cut_of a pools m s *ℤ sum_to k (λ v. if nat_lt v s then pos 0 else asked v)) ≡ sum_to k (λ v. asked v *ℤ (m.steps.whole *ℤ mean_of a pools m v)) =
    sum-tails k (cut_of a pools m) asked
    ∙ sum_to-same k _ (λ v. asked v *ℤ (m.steps.whole *ℤ mean_of a pools m v))
    (λ v b. ap (λ z. asked v *ℤ z) (sum_to-*ℤ (suc v) m.steps.whole (step_of (mean_of a pools m)) ∙ ap (λ z. m.steps.whole *ℤ z) (steps-sum (suc v) (mean_of a pools m)))) in
    let first = λ (v : ℕ). (pull a pools m v -ℤ pull a pools m (suc v)) *ℤ x v in
    let second = λ (v : ℕ). (worth_of a pools m v -ℤ worth_of a pools m (suc v)) *ℤ pay_in a x v in
    let third = λ (v : ℕ). asked v *ℤ (m.steps.whole *ℤ mean_of a pools m v) in
    let costs = λ (v : ℕ). cost_factor a pools m *ℤ cost_at_value a x v in
    let rests = λ (v : ℕ). (gap_factor a pools m *ℤ left_of a pools m v) *ℤ x v in
    left_total-is a pools u x no_cut
    ∙ ap₂ (λ y z. y +ℤ z) (edges ∙ sym (sum_to-+ℤ k first second)) tails
    ∙ sym (sum_to-+ℤ k (λ v. first v +ℤ second v) third)
    ∙ sum_to-same k _ (λ v. costs v +ℤ rests v) (λ v b. one-value a pools m x v)
    ∙ sum_to-+ℤ k costs rests
    ∙ ap (λ z. z +ℤ sum_to k rests) (sum_to-*ℤ k (cost_factor a pools m) (cost_at_value a x))
