-- A reduced program is met by the point of zeros, and with a cut for each value alone no point of it grows without end.
use Rattle.std.proofs.Common.{◌≡◌, ℕ, ◌+◌, ◌*◌, ◌<◌, ℤ, pos, ◌+ℤ◌, ◌-ℤ◌, ◌*ℤ◌, ◌≤ℤ◌, ◌<ℤ◌, neg_ℤ, unsigned_abs, Bool, true, false, if◌then◌else◌, List, refl, subst, arith, inl, inr, min}
use Rattle.std.specs.Prelude.{slice_index}
use Rattle.std.proofs.lemmas.Int.{ints}
use Rattle.md_math.specs.Lists.{number_at}
use Rattle.md_math.specs.Sets.{member}
use Rattle.md_math.specs.Sums.{sum_to}
use Rattle.md_math.proofs.Order.{≤ℤ_trans, *ℤ-le, nonneg-*ℤ}
use Rattle.md_math.proofs.Ring.{linear, ring, *ℤ-zero, one-*ℤ}
use Rattle.md_math.proofs.SumLaws.{sum_to-zero, sum_to-le}
use Rattle.md_math.proofs.TotalLaws.{total_by-nonneg}
use Rattle.md_setting.specs.Auction.{SymmetricAuction, value_count}
use Rattle.md_setting.specs.AuctionShaped.{IsAuction}
use Rattle.md_setting.specs.CountLists.{count_lists}
use Rattle.md_counts.specs.Weights.{weight_of_counts}
use Rattle.md_lp.specs.Program.{Program}
use Rattle.md_lp.specs.Point.{Meets, cost_sum}
use Rattle.md_lp.specs.Divided.{IsDivisorFor}
use Rattle.md_cert.specs.Claims.{along}
use Rattle.md_forms.specs.Forms.{Holds, unit}
use Rattle.md_lp.specs.Cuts.{HasSingles}
use Rattle.md_border.specs.Odds.{weight_given}
use Rattle.md_border.specs.Sets.{sum_in}
use Rattle.md_border.specs.Sides.{right_by_counts}
use Rattle.md_border.specs.Worth.{surplus_of}
use Rattle.md_reduced.specs.Mechanisms.{IsBounded}
use Rattle.md_reduced.specs.Points.{MeetsReduced}
use Rattle.md_reduced.specs.ProgramOf.{column_count, form_of, IsReducedProgram}
use Rattle.md_reduced.specs.Sides.{pay_in, demands_of, cost_of}
use Rattle.md_reduced.proofs.AdmissibleLaws.{KeepsRows, keeps-rows}
use Rattle.md_reduced.proofs.BuiltLaws.{meets-conditions, costs-points}
use Rattle.md_reduced.proofs.AverageRows.{all-conditions}
use Rattle.md_reduced.proofs.MeanLaws.{nonneg_pos}
use Rattle.md_reduced.proofs.PointLaws.{odds-at_most}

-- ---- the point of zeros

pub right-nonneg : (a : SymmetricAuction) (units set : ℕ) → pos 0 ≤ℤ right_by_counts a units set
right-nonneg a units set =
    total_by-nonneg (λ counts. pos (weight_of_counts a.weights a.bidders counts) *ℤ pos (min units (sum_in set counts))) (count_lists a.bidders (value_count a))
    (λ k d b. nonneg-*ℤ _ _ (nonneg_pos _) (nonneg_pos _))

demands-zero : (a : SymmetricAuction) (set : ℕ) → demands_of a (λ _. pos 0) set ≡ pos 0
demands-zero a set = sum_to-zero (value_count a) _ (λ v b. nothing (member set v) (pos (a.bidders * weight_given a v)))
  where
    nothing : (s : Bool) (z : ℤ) → (if s then z *ℤ pos 0 else pos 0) ≡ pos 0
    nothing true z = *ℤ-zero z
    nothing false z = refl

pub zero-meets : (a : SymmetricAuction) (units : ℕ) (cuts : List ℕ) (p : Program) → IsReducedProgram a units cuts p → Meets p (pos 1) (λ _. pos 0)
zero-meets a units cuts p is =
    (meets-conditions a units cuts p is (pos 1) (λ _. pos 0) (record { positive = omega (arith, ints); nonneg = λ j b. nonneg_pos 0 })).1
    (all-conditions (λ c. Holds (pos 1) (λ _. pos 0) (form_of a units c)) (value_count a) cuts
    (λ v w l k. truth (number_at a.values v *ℤ pos 0))
    (λ v l. rational (number_at a.values v *ℤ pos 0) (*ℤ-zero (number_at a.values v)))
    (λ set. cut (demands_of a (λ _. pos 0) set) (right_by_counts a units set) (demands-zero a set) (right-nonneg a units set)))
  where
    truth : (z : ℤ) → ((z -ℤ (pos 0 -ℤ pos 0)) -ℤ (z -ℤ (pos 0 -ℤ pos 0))) ≤ℤ (pos 1 *ℤ pos 0)
    truth z = (let e : pos 1 *ℤ pos 0 ≡ pos 0 = refl in omega (arith, linear, e))

    rational : (z : ℤ) → z ≡ pos 0 → neg_ℤ (z -ℤ (pos 0 -ℤ pos 0)) ≤ℤ (pos 1 *ℤ pos 0)
    rational z h = (let e : pos 1 *ℤ pos 0 ≡ pos 0 = refl in omega (arith, linear, e))

    cut : (d r : ℤ) → d ≡ pos 0 → pos 0 ≤ℤ r → d ≤ℤ (pos 1 *ℤ r)
    cut d r e h = (let f : pos 1 *ℤ r ≡ r = one-*ℤ r in omega (arith, linear, f))

-- ---- no growth

-- what a bidder with a value can add to the objective at most, in a point over the denominator
abbrev most_at : SymmetricAuction → ℤ → ℕ → ℤ
most_at a den v = pos (slice_index a.weights v) *ℤ (pos (unsigned_abs (surplus_of a v)) *ℤ den +ℤ a.revenue *ℤ (number_at a.values v *ℤ den))

cost-bounded : (a : SymmetricAuction) (den : ℤ) (x : ℕ → ℤ) → IsAuction a → MeetsReduced a den x → cost_of a x ≤ℤ sum_to (value_count a) (most_at a den)
cost-bounded a den x shaped h = sum_to-le (value_count a) _ (most_at a den) at
  where
    rows : KeepsRows a x
    rows = keeps-rows a h.units h.cuts h.program den x h.is_program h.meets

    nonneg : (v : ℕ) → v < value_count a → pos 0 ≤ℤ x v
    nonneg v l = h.meets.point.nonneg v (inside (h.program.columns) (h.is_program.columns))
      where
        inside : (n : ℕ) → n ≡ column_count a → v < n
        inside n e = omega (arith, e, l)

    item : (s d y : ℤ) → pos 0 ≤ℤ y → y ≤ℤ d → (s *ℤ y) ≤ℤ (pos (unsigned_abs s) *ℤ d)
    item s d y p q =
        ≤ℤ_trans (s *ℤ y) (pos (unsigned_abs s) *ℤ y) (pos (unsigned_abs s) *ℤ d)
        (subst (λ z. z ≤ℤ (pos (unsigned_abs s) *ℤ y)) (turned y s) (subst (λ z. (y *ℤ s) ≤ℤ z) (turned y (pos (unsigned_abs s))) (*ℤ-le y s (pos (unsigned_abs s)) p (size s))))
        (*ℤ-le (pos (unsigned_abs s)) y d (nonneg_pos (unsigned_abs s)) q)
      where
        size : (z : ℤ) → z ≤ℤ pos (unsigned_abs z)
        size z = omega (arith, ints)

        turned : (y z : ℤ) → y *ℤ z ≡ z *ℤ y
        turned y z = simp ring

    less : (u p : ℤ) → pos 0 ≤ℤ (u -ℤ p) → p ≤ℤ u
    less u p l = omega (arith, linear)

    both : (x y u v : ℤ) → x ≤ℤ u → y ≤ℤ v → (x +ℤ y) ≤ℤ (u +ℤ v)
    both x y u v l m = omega (arith, linear)

    at : (v : ℕ) → v < value_count a → (pos (slice_index a.weights v) *ℤ (surplus_of a v *ℤ x v +ℤ a.revenue *ℤ pay_in a x v)) ≤ℤ most_at a den v
    at v l =
        let c = number_at a.values v in
        let odds : x v ≤ℤ den = odds-at_most a den x v shaped h l in
        let paid : pay_in a x v ≤ℤ (c *ℤ den) = ≤ℤ_trans (pay_in a x v) (c *ℤ x v) (c *ℤ den) (less (c *ℤ x v) (pay_in a x v) (rows.rational v l)) (*ℤ-le c (x v) den (shaped.value v l).0 odds) in
        *ℤ-le (pos (slice_index a.weights v)) _ _ (nonneg_pos (slice_index a.weights v))
        (both _ _ _ _ (item (surplus_of a v) den (x v) (nonneg v l) odds) (*ℤ-le a.revenue (pay_in a x v) (c *ℤ den) shaped.revenue.0 paid))

factor-positive : (n : ℕ) (f : ℕ → ℤ) (g : ℤ) → IsDivisorFor n f g → pos 1 ≤ℤ g
factor-positive n f g (inl h) = (let some : pos 0 <ℤ g = h.1 in omega (arith, ints, some))
factor-positive n f g (inr h) = (let one : g ≡ pos 1 = h.1 in omega (arith, ints, one))

-- no number bounds a factor times a cost that grows
unbounded : (factor cost most grown : ℤ) → pos 1 ≤ℤ factor → (cost +ℤ pos (unsigned_abs cost + unsigned_abs most + 1)) ≤ℤ grown → (factor *ℤ grown) ≤ℤ most → ⊥
unbounded factor cost most grown some gains bound =
    let above : (pos (unsigned_abs most) +ℤ pos 1) ≤ℤ grown = omega (arith, ints, gains) in
    let size : most ≤ℤ pos (unsigned_abs most) = omega (arith, ints) in
    let nonneg : pos 0 ≤ℤ grown = omega (arith, ints, above) in
    let more : pos 0 ≤ℤ (factor -ℤ pos 1) = omega (arith, ints, some) in
    let product : pos 0 ≤ℤ ((factor -ℤ pos 1) *ℤ grown) = nonneg-*ℤ (factor -ℤ pos 1) grown more nonneg in
    let whole : factor *ℤ grown ≡ grown +ℤ (factor -ℤ pos 1) *ℤ grown = parts factor grown in
    omega (arith, linear, above, size, product, whole, bound, one-more)
  where
    parts : (f g : ℤ) → f *ℤ g ≡ g +ℤ (f -ℤ pos 1) *ℤ g
    parts f g = simp ring (omega (arith, linear))

    one-more : pos 0 <ℤ pos 1
    one-more = omega (arith, ints)

pub bounded : (a : SymmetricAuction) (units : ℕ) (cuts : List ℕ) (p : Program) → IsAuction a → IsReducedProgram a units cuts p → HasSingles (value_count a) cuts → IsBounded p
bounded a units cuts p shaped is singles den x ray grows =
    unbounded p.factor (cost_sum p x) most (cost_sum p y) (factor-positive (column_count a) (λ j. cost_of a (unit j)) p.factor is.has_cost.factor) (grows.gains k)
    (subst (λ z. z ≤ℤ most) (costs-points a units cuts p is y)
    (cost-bounded a den y shaped (record { units = units; cuts = cuts; program = p; is_program = is; singles = singles; meets = grows.meets k })))
  where
    most : ℤ
    most = sum_to (value_count a) (most_at a den)

    k : ℕ
    k = unsigned_abs (cost_sum p x) + unsigned_abs most + 1

    y : ℕ → ℤ
    y = along x k ray
