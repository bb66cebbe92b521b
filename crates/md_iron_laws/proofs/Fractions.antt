-- The multipliers as fractions are those before the division, over one factor.
use Rattle.std.proofs.Common.{◌≡◌, ℕ, zero, suc, ◌+◌, ◌-◌, ◌<◌, ◌≤◌, ℤ, pos, ◌+ℤ◌, ◌-ℤ◌, ◌*ℤ◌, ◌≤ℤ◌, ◌<ℤ◌, inl, inr, refl, sym, ap, ap₂, subst, ◌∙◌, arith, lt-ltb, le-ltb, eq-eqb, ne_eqb}
use Rattle.std.proofs.lemmas.Bool.{cases_lt, cases_eq}
use Rattle.std.proofs.lemmas.Int.{ints}
use Rattle.md_math.specs.Lists.{number_at}
use Rattle.md_math.proofs.Ring.{linear, ring, *ℤ-zero, zero-*ℤ, one-*ℤ}
use lib.IntN.{*ℤ_comm}
use Rattle.md_math.proofs.Order.{nonneg_from_*ℤ, nonneg-*ℤ, positive-*ℤ, le_from_lt}
use Rattle.md_setting.specs.Auction.{SymmetricAuction, value_count, total_weight}
use Rattle.md_setting.specs.AuctionShaped.{IsAuction}
use Rattle.md_iron_values.specs.Pools.{Pools, over_pool}
use Rattle.md_iron_values.specs.VirtualValues.{weight_to, weight_from, virtual_to, IsPooledAuction}
use Rattle.md_iron_values.specs.Odds.{step_of, share_den}
use Rattle.md_iron_values.specs.Gaps.{scale_in, gap_in}
use Rattle.md_iron_values.proofs.GapLaws.{scale-positive, pool-weight}
use Rattle.md_iron_values.proofs.AuctionLaws.{before-at_most, weight-ascends, values-rise, share_den-positive}
use Rattle.md_iron_laws.specs.Rows.{ProgramRow, truth_row, rational_row, cut_row}
use Rattle.md_iron_laws.specs.RowsIn.{IsRowIn}
use Rattle.md_iron_laws.specs.Multipliers.{sum_before, weight_of_before, apart_by, steeper_den, multiplier_num, multiplier_den}
use Rattle.md_iron_laws.specs.Undivided.{times_of}
use Rattle.md_iron_laws.proofs.EdgeLaws.{before_of, step-is}
use Rattle.md_iron_laws.proofs.IronedLaws.{begins-is, gap-scaled}
use Rattle.md_iron_laws.proofs.Balance.{Multiples, mean_of, gap_of, gap_factor, cost_factor, worth_of, up_of, undivided_of, means, ironed}

-- ---- over plain numbers: n, w and l are the factors, h the divisor of the cost

up-fraction : (n w l h d e m g gap : ℤ) → d *ℤ e ≡ w → m *ℤ g ≡ l *ℤ gap → gap *ℤ (((n *ℤ w) *ℤ l) *ℤ h) ≡ (m *ℤ (d *ℤ h)) *ℤ (n *ℤ (e *ℤ g))
up-fraction n w l h d e m g gap p q =
    let left : gap *ℤ (((n *ℤ w) *ℤ l) *ℤ h) ≡ (n *ℤ h) *ℤ (w *ℤ (l *ℤ gap)) = simp ring in
    let right : (m *ℤ (d *ℤ h)) *ℤ (n *ℤ (e *ℤ g)) ≡ (n *ℤ h) *ℤ ((d *ℤ e) *ℤ (m *ℤ g)) = simp ring in
    left ∙ sym (right ∙ ap₂ (λ y z. (n *ℤ h) *ℤ (y *ℤ z)) p q)

down-fraction : (n w l h d e m g gap r t : ℤ) → d *ℤ e ≡ w → m *ℤ g ≡ l *ℤ gap
    → (r *ℤ (t *ℤ (m *ℤ d)) +ℤ gap) *ℤ (((n *ℤ w) *ℤ l) *ℤ h) ≡ (m *ℤ (d *ℤ h)) *ℤ (((n *ℤ w) *ℤ l) *ℤ (r *ℤ t) +ℤ n *ℤ (e *ℤ g))
down-fraction n w l h d e m g gap r t p q =
    let up = up-fraction n w l h d e m g gap p q in
    let left : (r *ℤ (t *ℤ (m *ℤ d)) +ℤ gap) *ℤ (((n *ℤ w) *ℤ l) *ℤ h) ≡ (r *ℤ (t *ℤ (m *ℤ d))) *ℤ (((n *ℤ w) *ℤ l) *ℤ h) +ℤ gap *ℤ (((n *ℤ w) *ℤ l) *ℤ h) = split (r *ℤ (t *ℤ (m *ℤ d))) gap (((n *ℤ w) *ℤ l) *ℤ h) in
    let right : (m *ℤ (d *ℤ h)) *ℤ (((n *ℤ w) *ℤ l) *ℤ (r *ℤ t) +ℤ n *ℤ (e *ℤ g)) ≡ (m *ℤ (d *ℤ h)) *ℤ (((n *ℤ w) *ℤ l) *ℤ (r *ℤ t)) +ℤ (m *ℤ (d *ℤ h)) *ℤ (n *ℤ (e *ℤ g)) =
    join (m *ℤ (d *ℤ h)) (((n *ℤ w) *ℤ l) *ℤ (r *ℤ t)) (n *ℤ (e *ℤ g)) in
    let worth : (r *ℤ (t *ℤ (m *ℤ d))) *ℤ (((n *ℤ w) *ℤ l) *ℤ h) ≡ (m *ℤ (d *ℤ h)) *ℤ (((n *ℤ w) *ℤ l) *ℤ (r *ℤ t)) = simp ring in
    omega (arith, linear, up, left, right, worth)
  where
    split : (a b c : ℤ) → (a +ℤ b) *ℤ c ≡ a *ℤ c +ℤ b *ℤ c
    split a b c = simp ring (omega (arith, linear))

    join : (a b c : ℤ) → a *ℤ (b +ℤ c) ≡ a *ℤ b +ℤ a *ℤ c
    join a b c = simp ring (omega (arith, linear))

rational-fraction : (b h r t u f : ℤ) → u ≡ pos 0 → t ≡ f → (r *ℤ f) *ℤ (b *ℤ h) ≡ h *ℤ (b *ℤ (r *ℤ t) +ℤ u)
rational-fraction b h r t u f p q = rw (p, q) (simp ring (omega (arith, linear)))

cut-fraction : (n w l h d m1 m0 s1 s0 y1 y0 : ℤ) → m1 *ℤ y1 ≡ l *ℤ s1 → m0 *ℤ y0 ≡ l *ℤ s0
    → ((s1 *ℤ m0 -ℤ s0 *ℤ m1) *ℤ d) *ℤ (((n *ℤ w) *ℤ l) *ℤ h) ≡ ((m1 *ℤ m0) *ℤ (n *ℤ h)) *ℤ (d *ℤ (w *ℤ (y1 -ℤ y0)))
cut-fraction n w l h d m1 m0 s1 s0 y1 y0 p q =
    let left : ((s1 *ℤ m0 -ℤ s0 *ℤ m1) *ℤ d) *ℤ (((n *ℤ w) *ℤ l) *ℤ h) ≡ ((n *ℤ h) *ℤ (d *ℤ w)) *ℤ ((l *ℤ s1) *ℤ m0 -ℤ (l *ℤ s0) *ℤ m1) = simp ring (omega (arith, linear)) in
    let right : ((m1 *ℤ m0) *ℤ (n *ℤ h)) *ℤ (d *ℤ (w *ℤ (y1 -ℤ y0))) ≡ ((n *ℤ h) *ℤ (d *ℤ w)) *ℤ ((m1 *ℤ y1) *ℤ m0 -ℤ (m0 *ℤ y0) *ℤ m1) = simp ring (omega (arith, linear)) in
    left ∙ sym (right ∙ ap₂ (λ y z. ((n *ℤ h) *ℤ (d *ℤ w)) *ℤ (y *ℤ m0 -ℤ z *ℤ m1)) p q)

-- ---- of an auction

-- the number by which a row is divided: that of the cut, and 1 where payments stand in it
abbrev pub IsBy : ProgramRow → (ℕ → ℤ) → ℤ → Type 0
IsBy (truth_row v w) divisor by = by ≡ pos 1
IsBy (rational_row v) divisor by = by ≡ pos 1
IsBy (cut_row s) divisor by = by ≡ divisor s

by-one : (by t : ℤ) → by ≡ pos 1 → by *ℤ t ≡ t
by-one by t e = ap (λ z. z *ℤ t) e ∙ one-*ℤ t

steps-at : (a : SymmetricAuction) (pools : Pools) (m : Multiples a pools) (v w : ℕ) → suc v ≡ w → w < value_count a → apart_by a w v *ℤ m.steps.part w ≡ m.steps.whole
steps-at a pools m v w e b = subst (λ i. apart_by a i v *ℤ m.steps.part i ≡ m.steps.whole) e (m.steps.is (suc v) (omega (arith, e, b)))

scaled-at : (a : SymmetricAuction) (pools : Pools) (m : Multiples a pools) (w : ℕ) → w < value_count a → scale_in a pools w *ℤ gap_of a pools m w ≡ m.weights.whole *ℤ gap_in a pools w
scaled-at a pools m w b = gap-scaled (value_count a) (weight_to a) (virtual_to a) pools m.weights.whole (mean_of a pools m) (means a pools m) w b

-- the mean of the pool before
before-mean : (a : SymmetricAuction) (pools : Pools) (m : Multiples a pools) (s : ℕ) → s < value_count a → pools.reserve ≤ s → weight_of_before a pools s *ℤ before_of (mean_of a pools m) s ≡ m.weights.whole *ℤ sum_before a pools s
before-mean a pools m zero b g =
    rw (le-ltb pools.reserve 0 (omega arith)) (*ℤ-zero (pos 1) ∙ sym (*ℤ-zero m.weights.whole))
before-mean a pools m (suc i) b g = elim (cases_lt pools.reserve (suc i)) [
  | inl l ↦
      let back : i ≡ suc i - 1 = omega arith in
      let some : over_pool (weight_to a) pools i *ℤ mean_of a pools m i ≡ m.weights.whole *ℤ over_pool (virtual_to a) pools i = (means a pools m).some i (omega (arith, l)) (omega (arith, b)) in
      rw (lt-ltb pools.reserve (suc i) l) (subst (λ j. over_pool (weight_to a) pools j *ℤ mean_of a pools m i ≡ m.weights.whole *ℤ over_pool (virtual_to a) pools j) back some)
  | inr h ↦
      let none : mean_of a pools m i ≡ pos 0 = (means a pools m).none i (omega (arith, h)) in
      rw (le-ltb pools.reserve (suc i) h) (ap (λ z. pos 1 *ℤ z) none ∙ *ℤ-zero (pos 1) ∙ sym (*ℤ-zero m.weights.whole))
]

pub row-fraction : (a : SymmetricAuction) (pools : Pools) (m : Multiples a pools) (h by : ℤ) (divisor : ℕ → ℤ) → IsAuction a → IsPooledAuction a pools → (row : ProgramRow) → IsRowIn (value_count a) pools row → IsBy row divisor by
    → multiplier_num a pools divisor row *ℤ (cost_factor a pools m *ℤ h) ≡ multiplier_den a pools h row *ℤ (by *ℤ times_of (undivided_of a pools m) row)
row-fraction a pools m h by divisor shaped p (truth_row v w) inside one =
    let (b, l, d) = inside in
    elim (cases_eq w (v + 1)) [
      | inl e ↦
          rw (eq-eqb w (v + 1) e, by-one by (up_of a pools m w) one)
          (up-fraction (share_den a) m.steps.whole m.weights.whole h (apart_by a w v) (m.steps.part w) (scale_in a pools w) (gap_of a pools m w) (gap_in a pools w) (steps-at a pools m v w (omega (arith, e)) l) (scaled-at a pools m w l))
      | inr n ↦ elim (cases_eq v (w + 1)) [
        | inl e ↦
            rw (ne_eqb w (v + 1) n, eq-eqb v (w + 1) e, by-one by (worth_of a pools m v +ℤ up_of a pools m v) one)
            (down-fraction (share_den a) m.steps.whole m.weights.whole h (apart_by a v w) (m.steps.part v) (scale_in a pools v) (gap_of a pools m v) (gap_in a pools v) a.revenue (weight_from a v) (steps-at a pools m w v (omega (arith, e)) b) (scaled-at a pools m v b))
        | inr o ↦ rw (ne_eqb w (v + 1) n, ne_eqb v (w + 1) o) (zero-*ℤ (cost_factor a pools m *ℤ h) ∙ sym (one-*ℤ (by *ℤ pos 0) ∙ *ℤ-zero by))
      ]
    ]
row-fraction a pools m h by divisor shaped p (rational_row v) b one = elim (cases_eq v 0) [
  | inl e ↦
      let none : up_of a pools m 0 ≡ pos 0 = ap (λ z. share_den a *ℤ (m.steps.part 0 *ℤ z)) (ironed a pools m shaped p).first ∙ ap (λ z. share_den a *ℤ z) (*ℤ-zero (m.steps.part 0)) ∙ *ℤ-zero (share_den a) in
      let all : weight_from a 0 ≡ pos (total_weight a.weights) = omega (arith, linear) in
      rw (eq-eqb v 0 e, by-one by (worth_of a pools m 0 +ℤ up_of a pools m 0) one)
      (rational-fraction (cost_factor a pools m) h a.revenue (weight_from a 0) (up_of a pools m 0) (pos (total_weight a.weights)) none all)
  | inr n ↦ rw (ne_eqb v 0 n) (zero-*ℤ (cost_factor a pools m *ℤ h) ∙ sym (one-*ℤ (by *ℤ pos 0) ∙ *ℤ-zero by))
]
row-fraction a pools m h by divisor shaped p (cut_row s) inside same =
    let (b, begun) = inside in
    let (buys, first) = begins-is pools s begun in
    let fraction = cut-fraction (share_den a) m.steps.whole m.weights.whole h (divisor s) (over_pool (weight_to a) pools s) (weight_of_before a pools s) (over_pool (virtual_to a) pools s) (sum_before a pools s) (mean_of a pools m s) (before_of (mean_of a pools m) s)
    ((means a pools m).some s buys b) (before-mean a pools m s b buys) in
    fraction ∙ ap₂ (λ y z. (steeper_den a pools s *ℤ (share_den a *ℤ h)) *ℤ (y *ℤ (m.steps.whole *ℤ z))) (sym same) (sym (step-is (mean_of a pools m) s))

-- ---- signs

den-positive-before : (a : SymmetricAuction) (pools : Pools) → IsAuction a → IsPooledAuction a pools → (s : ℕ) → s < value_count a → pos 0 <ℤ weight_of_before a pools s
den-positive-before a pools shaped p s b = elim (cases_lt pools.reserve s) [
  | inl l ↦ rw (lt-ltb pools.reserve s l) (pool-weight (value_count a) (weight_to a) (virtual_to a) pools p (weight-ascends a shaped) (s - 1) (omega (arith, b)))
  | inr g ↦ rw (le-ltb pools.reserve s g) (let one : pos 0 <ℤ pos 1 = omega (arith, ints) in one)
]

one-positive : pos 0 <ℤ pos 1
one-positive = omega (arith, ints)

apart-positive : (a : SymmetricAuction) → IsAuction a → (v w : ℕ) → suc v ≡ w → w < value_count a → pos 0 <ℤ apart_by a w v
apart-positive a shaped v w e b =
    subst (λ i. pos 0 <ℤ apart_by a i v) e (let rise : number_at a.values v <ℤ number_at a.values (suc v) = values-rise a shaped v (omega (arith, e, b)) in omega (arith, linear, rise))

pub den-positive : (a : SymmetricAuction) (pools : Pools) (h : ℤ) → IsAuction a → IsPooledAuction a pools → pos 0 <ℤ h → (row : ProgramRow) → IsRowIn (value_count a) pools row → pos 0 <ℤ multiplier_den a pools h row
den-positive a pools h shaped p above (truth_row v w) inside =
    let (b, l, d) = inside in
    let scale = λ (i : ℕ) (c : i < value_count a). scale-positive (value_count a) (weight_to a) (virtual_to a) pools p (weight-ascends a shaped) i c in
    elim (cases_eq w (v + 1)) [
      | inl e ↦
          rw (eq-eqb w (v + 1) e)
          (positive-*ℤ (scale_in a pools w) (apart_by a w v *ℤ h) (scale w l) (positive-*ℤ (apart_by a w v) h (apart-positive a shaped v w (omega (arith, e)) l) above))
      | inr n ↦ elim (cases_eq v (w + 1)) [
        | inl e ↦
            rw (ne_eqb w (v + 1) n, eq-eqb v (w + 1) e)
            (positive-*ℤ (scale_in a pools v) (apart_by a v w *ℤ h) (scale v b) (positive-*ℤ (apart_by a v w) h (apart-positive a shaped w v (omega (arith, e)) b) above))
        | inr o ↦ rw (ne_eqb w (v + 1) n, ne_eqb v (w + 1) o) one-positive
      ]
    ]
den-positive a pools h shaped p above (rational_row v) b = elim (cases_eq v 0) [
  | inl e ↦ rw (eq-eqb v 0 e) above
  | inr n ↦ rw (ne_eqb v 0 n) one-positive
]
den-positive a pools h shaped p above (cut_row s) inside =
    let weight = pool-weight (value_count a) (weight_to a) (virtual_to a) pools p (weight-ascends a shaped) s inside.0 in
    positive-*ℤ (steeper_den a pools s) (share_den a *ℤ h)
    (positive-*ℤ (over_pool (weight_to a) pools s) (weight_of_before a pools s) weight (den-positive-before a pools shaped p s inside.0))
    (positive-*ℤ (share_den a) h (share_den-positive a shaped) above)

pub cost_factor-positive : (a : SymmetricAuction) (pools : Pools) (m : Multiples a pools) → IsAuction a → pos 0 <ℤ cost_factor a pools m
cost_factor-positive a pools m shaped =
    positive-*ℤ (gap_factor a pools m) m.weights.whole (positive-*ℤ (share_den a) m.steps.whole (share_den-positive a shaped) m.steps.positive) m.weights.positive

up-nonneg : (a : SymmetricAuction) (pools : Pools) (m : Multiples a pools) → IsAuction a → IsPooledAuction a pools → (w : ℕ) → w < value_count a → pos 0 ≤ℤ up_of a pools m w
up-nonneg a pools m shaped p w b =
    nonneg-*ℤ (share_den a) (m.steps.part w *ℤ gap_of a pools m w) (le_from_lt (pos 0) (share_den a) (share_den-positive a shaped))
    (nonneg-*ℤ (m.steps.part w) (gap_of a pools m w) (le_from_lt (pos 0) (m.steps.part w) (m.steps.parts w b)) ((ironed a pools m shaped p).nonneg w b))

from-nonneg : (a : SymmetricAuction) → IsAuction a → (v : ℕ) → v ≤ value_count a → pos 0 ≤ℤ weight_from a v
from-nonneg a shaped v l = omega (arith, ints, before-at_most a shaped v l)

down-nonneg : (a : SymmetricAuction) (pools : Pools) (m : Multiples a pools) → IsAuction a → IsPooledAuction a pools → (v : ℕ) → v < value_count a → pos 0 ≤ℤ (worth_of a pools m v +ℤ up_of a pools m v)
down-nonneg a pools m shaped p v b =
    let worth : pos 0 ≤ℤ worth_of a pools m v =
    nonneg-*ℤ (cost_factor a pools m) (a.revenue *ℤ weight_from a v) (le_from_lt (pos 0) (cost_factor a pools m) (cost_factor-positive a pools m shaped))
    (nonneg-*ℤ a.revenue (weight_from a v) shaped.revenue.0 (from-nonneg a shaped v (omega (arith, b)))) in
    omega (arith, linear, worth, up-nonneg a pools m shaped p v b)

pub times-nonneg : (a : SymmetricAuction) (pools : Pools) (m : Multiples a pools) → IsAuction a → IsPooledAuction a pools → (row : ProgramRow) → IsRowIn (value_count a) pools row → pos 0 ≤ℤ times_of (undivided_of a pools m) row
times-nonneg a pools m shaped p (truth_row v w) inside =
    let (b, l, d) = inside in
    elim (cases_eq w (v + 1)) [
      | inl e ↦ rw (eq-eqb w (v + 1) e) (up-nonneg a pools m shaped p w l)
      | inr n ↦ elim (cases_eq v (w + 1)) [
        | inl e ↦ rw (ne_eqb w (v + 1) n, eq-eqb v (w + 1) e) (down-nonneg a pools m shaped p v b)
        | inr o ↦ rw (ne_eqb w (v + 1) n, ne_eqb v (w + 1) o) (let none : pos 0 ≤ℤ pos 0 = omega (arith, ints) in none)
      ]
    ]
times-nonneg a pools m shaped p (rational_row v) b = elim (cases_eq v 0) [
  | inl e ↦ rw (eq-eqb v 0 e) (down-nonneg a pools m shaped p 0 (omega (arith, b)))
  | inr n ↦ rw (ne_eqb v 0 n) (let none : pos 0 ≤ℤ pos 0 = omega (arith, ints) in none)
]
times-nonneg a pools m shaped p (cut_row s) inside =
    nonneg-*ℤ m.steps.whole (step_of (mean_of a pools m) s) (le_from_lt (pos 0) m.steps.whole m.steps.positive) ((ironed a pools m shaped p).rise s inside.0)

-- no numerator is negative where no cut is divided by less than nothing
pub num-nonneg : (a : SymmetricAuction) (pools : Pools) (m : Multiples a pools) (divisor : ℕ → ℤ) → IsAuction a → IsPooledAuction a pools → (row : ProgramRow) → IsRowIn (value_count a) pools row
    → ((s : ℕ) → row ≡ cut_row s → pos 0 ≤ℤ divisor s) → pos 0 ≤ℤ multiplier_num a pools divisor row
num-nonneg a pools m divisor shaped p row inside above =
    let factor : pos 0 <ℤ (cost_factor a pools m *ℤ pos 1) = positive-*ℤ (cost_factor a pools m) (pos 1) (cost_factor-positive a pools m shaped) one-positive in
    let den : pos 0 ≤ℤ multiplier_den a pools (pos 1) row = le_from_lt (pos 0) (multiplier_den a pools (pos 1) row) (den-positive a pools (pos 1) shaped p one-positive row inside) in
    let (by, is, some) = by-of row above in
    let product : pos 0 ≤ℤ (multiplier_den a pools (pos 1) row *ℤ (by *ℤ times_of (undivided_of a pools m) row)) =
    nonneg-*ℤ (multiplier_den a pools (pos 1) row) (by *ℤ times_of (undivided_of a pools m) row) den
    (nonneg-*ℤ by (times_of (undivided_of a pools m) row) some (times-nonneg a pools m shaped p row inside)) in
    let turned : (cost_factor a pools m *ℤ pos 1) *ℤ multiplier_num a pools divisor row ≡ multiplier_den a pools (pos 1) row *ℤ (by *ℤ times_of (undivided_of a pools m) row) =
    *ℤ_comm (cost_factor a pools m *ℤ pos 1) (multiplier_num a pools divisor row) ∙ row-fraction a pools m (pos 1) by divisor shaped p row inside is in
    nonneg_from_*ℤ (cost_factor a pools m *ℤ pos 1) (multiplier_num a pools divisor row) factor (subst (λ z. pos 0 ≤ℤ z) (sym turned) product)
  where
    by-of : (row : ProgramRow) → ((s : ℕ) → row ≡ cut_row s → pos 0 ≤ℤ divisor s) → (by : ℤ) × IsBy row divisor by × (pos 0 ≤ℤ by)
    by-of (truth_row v w) above = (pos 1, refl, le_from_lt (pos 0) (pos 1) one-positive)
    by-of (rational_row v) above = (pos 1, refl, le_from_lt (pos 0) (pos 1) one-positive)
    by-of (cut_row s) above = (divisor s, refl, above s refl)
