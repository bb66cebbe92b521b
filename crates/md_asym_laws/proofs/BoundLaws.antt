-- The program of a sale is met by the point of zeros, and with a cut for each pair alone no point of it grows without end.
use Rattle.std.proofs.Common.{◌≡◌, ℕ, ◌+◌, ◌<◌, ℤ, pos, ◌+ℤ◌, ◌-ℤ◌, ◌*ℤ◌, ◌≤ℤ◌, ◌<ℤ◌, unsigned_abs, Bool, true, false, if◌then◌else◌, List, get_or, refl, subst, arith}
use Rattle.std.proofs.lemmas.Int.{ints}
use Rattle.md_math.specs.Sets.{member}
use Rattle.md_math.specs.Sums.{sum_to}
use Rattle.md_math.proofs.Order.{≤ℤ_trans, *ℤ-le, le_from_lt, nonneg-*ℤ, chosen-nonneg}
use Rattle.md_math.proofs.Ring.{linear, ring, *ℤ-zero, one-*ℤ}
use Rattle.md_math.proofs.SumLaws.{sum_to-zero, sum_to-le}
use Rattle.md_math.proofs.TotalLaws.{total_by-nonneg}
use Rattle.md_space.specs.AllProfiles.{profiles_of}
use Rattle.md_space.proofs.InOrder.{All-profiles_of}
use Rattle.md_setting.specs.Setting.{GeneralSetting}
use Rattle.md_setting.specs.Meaning.{sizes_of, weight_of}
use Rattle.md_setting.specs.Shaped.{IsShaped}
use Rattle.md_lp.specs.Program.{Program}
use Rattle.md_lp.specs.Point.{Meets, cost_sum}
use Rattle.md_lp.specs.Cuts.{HasSingles}
use Rattle.md_cert.specs.Claims.{along}
use Rattle.md_asym_sale.specs.Forms.{pay_in, cost_of}
use Rattle.md_asym_sale.specs.Pairs.{pair_number, agent_of, kind_of}
use Rattle.md_asym_sale.specs.ProgramOf.{IsSaleProgram}
use Rattle.md_asym_sale.specs.Sale.{IsSale}
use Rattle.md_asym_sale.specs.Sides.{has_some, right_of, demands_in}
use Rattle.md_asym_sale.specs.Values.{pairs_of, own_value, value_at, marginal_at, surplus_at}
use Rattle.md_asym_sale.proofs.BuiltLaws.{costs-points}
use Rattle.md_asym_sale.proofs.PairSums.{number-of}
use Rattle.md_asym_sale.proofs.SaleLaws.{told-profile}
use Rattle.md_asym_laws.specs.Mechanisms.{IsBounded}
use Rattle.md_asym_laws.specs.Points.{MeetsSale}
use Rattle.md_asym_laws.proofs.OptimalLaws.{factor-positive}
use Rattle.md_asym_laws.proofs.PairFacts.{marginal-positive, pair-of}
use Rattle.md_asym_laws.proofs.PointLaws.{odds-at_most, odds-nonneg}
use Rattle.md_asym_laws.proofs.RowLaws.{keeps-rows, rows-meet}

-- ---- the point of zeros

pub right-nonneg : (s : GeneralSetting) (set : ℕ) → IsShaped s → pos 0 ≤ℤ right_of s set
right-nonneg s set shaped =
    total_by-nonneg (λ t. if has_some s set t then weight_of s t else pos 0) (profiles_of (sizes_of s))
    (λ k d l. chosen-nonneg (has_some s set (get_or (profiles_of (sizes_of s)) k d)) (weight_of s (get_or (profiles_of (sizes_of s)) k d)) (shaped.weight (get_or (profiles_of (sizes_of s)) k d) (All-profiles_of (sizes_of s) k d l)).nonneg)

demands-zero : (s : GeneralSetting) (set : ℕ) → demands_in s (λ _. pos 0) set ≡ pos 0
demands-zero s set = sum_to-zero (pairs_of s) _ (λ p b. nothing (member set p) (marginal_at s p))
  where
    nothing : (b : Bool) (z : ℤ) → (if b then z *ℤ pos 0 else pos 0) ≡ pos 0
    nothing true z = *ℤ-zero z
    nothing false z = refl

pub zero-meets : (s : GeneralSetting) (cuts : List ℕ) (p : Program) → IsShaped s → IsSaleProgram s cuts p → Meets p (pos 1) (λ _. pos 0)
zero-meets s cuts p shaped is =
    rows-meet s cuts p (pos 1) (λ _. pos 0) is (record { positive = omega (arith, ints); nonneg = λ j b. omega (arith, ints) })
    (record { truth = λ i a b h l k. same (own_value s i a *ℤ pos 0); rational = λ i a h l. none (own_value s i a *ℤ pos 0) (*ℤ-zero (own_value s i a)) })
    (λ k d b. let set = get_or cuts k d in cut (demands_in s (λ _. pos 0) set) (right_of s set) (demands-zero s set) (right-nonneg s set shaped))
  where
    same : (z : ℤ) → (z -ℤ (pos 0 -ℤ pos 0)) ≤ℤ (z -ℤ (pos 0 -ℤ pos 0))
    same z = omega (arith, linear)

    none : (z : ℤ) → z ≡ pos 0 → pos 0 ≤ℤ (z -ℤ (pos 0 -ℤ pos 0))
    none z h = omega (arith, linear)

    cut : (d r : ℤ) → d ≡ pos 0 → pos 0 ≤ℤ r → d ≤ℤ (pos 1 *ℤ r)
    cut d r e h = (let f : pos 1 *ℤ r ≡ r = one-*ℤ r in omega (arith, linear, f))

-- ---- no growth

-- the item is worth no less than nothing to the agent of a pair
pub value-nonneg : (s : GeneralSetting) (p : ℕ) → IsSale s → IsShaped s → p < pairs_of s → pos 0 ≤ℤ value_at s p
value-nonneg s p sale shaped h =
    let inside = pair-of s p h in
    let i = agent_of (sizes_of s) p in
    let a = kind_of (sizes_of s) p in
    (sale.sold i inside.agent).nonneg _ (told-profile s i a shaped inside.agent inside.kind)

-- what a pair pays is no more than what it wins is worth to it
pays-at_most : (s : GeneralSetting) (den : ℤ) (x : ℕ → ℤ) (p : ℕ) → MeetsSale s den x → p < pairs_of s → pay_in s x p ≤ℤ (value_at s p *ℤ x p)
pays-at_most s den x p meets h =
    let inside = pair-of s p h in
    let i = agent_of (sizes_of s) p in
    let a = kind_of (sizes_of s) p in
    let rows = keeps-rows s meets.cuts meets.program den x meets.is_program meets.meets in
    let kept : pos 0 ≤ℤ (value_at s p *ℤ x (pair_number (sizes_of s) i a) -ℤ pay_in s x (pair_number (sizes_of s) i a)) = rows.rational i a inside.agent inside.kind in
    less (value_at s p *ℤ x p) (pay_in s x p) (subst (λ q. pos 0 ≤ℤ (value_at s p *ℤ x q -ℤ pay_in s x q)) (number-of (sizes_of s) p h) kept)
  where
    less : (u p : ℤ) → pos 0 ≤ℤ (u -ℤ p) → p ≤ℤ u
    less u p l = omega (arith, linear)

-- what a pair can add to the objective at most, in a point over the denominator
abbrev most_at : GeneralSetting → ℤ → ℕ → ℤ
most_at s den p = marginal_at s p *ℤ (pos (unsigned_abs (surplus_at s p)) *ℤ den +ℤ s.revenue *ℤ (value_at s p *ℤ den))

item-bounded : (u d y : ℤ) → pos 0 ≤ℤ y → y ≤ℤ d → (u *ℤ y) ≤ℤ (pos (unsigned_abs u) *ℤ d)
item-bounded u d y p q =
    ≤ℤ_trans (u *ℤ y) (pos (unsigned_abs u) *ℤ y) (pos (unsigned_abs u) *ℤ d)
    (subst (λ z. z ≤ℤ (pos (unsigned_abs u) *ℤ y)) (turned y u) (subst (λ z. (y *ℤ u) ≤ℤ z) (turned y (pos (unsigned_abs u))) (*ℤ-le y u (pos (unsigned_abs u)) p (size u))))
    (*ℤ-le (pos (unsigned_abs u)) y d (nonneg (unsigned_abs u)) q)
  where
    size : (z : ℤ) → z ≤ℤ pos (unsigned_abs z)
    size z = omega (arith, ints)

    turned : (y z : ℤ) → y *ℤ z ≡ z *ℤ y
    turned y z = simp ring

    nonneg : (n : ℕ) → pos 0 ≤ℤ pos n
    nonneg n = omega (arith, ints)

pub cost-bounded : (s : GeneralSetting) (den : ℤ) (x : ℕ → ℤ) → IsSale s → IsShaped s → MeetsSale s den x → cost_of s x ≤ℤ sum_to (pairs_of s) (most_at s den)
cost-bounded s den x sale shaped meets = sum_to-le (pairs_of s) _ (most_at s den) at
  where
    both : (x y u v : ℤ) → x ≤ℤ u → y ≤ℤ v → (x +ℤ y) ≤ℤ (u +ℤ v)
    both x y u v l m = omega (arith, linear)

    at : (p : ℕ) → p < pairs_of s → (marginal_at s p *ℤ (surplus_at s p *ℤ x p +ℤ s.revenue *ℤ pay_in s x p)) ≤ℤ most_at s den p
    at p h =
        let v = value_at s p in
        let odds : x p ≤ℤ den = odds-at_most s den x p shaped meets h in
        let paid : pay_in s x p ≤ℤ (v *ℤ den) = ≤ℤ_trans (pay_in s x p) (v *ℤ x p) (v *ℤ den) (pays-at_most s den x p meets h) (*ℤ-le v (x p) den (value-nonneg s p sale shaped h) odds) in
        *ℤ-le (marginal_at s p) _ _ (le_from_lt (pos 0) (marginal_at s p) (marginal-positive s p shaped h))
        (both _ _ _ _ (item-bounded (surplus_at s p) den (x p) (odds-nonneg s den x p meets h) odds) (*ℤ-le s.revenue (pay_in s x p) (v *ℤ den) sale.revenue paid))

-- no number bounds a factor times a cost that grows
unbounded : (factor cost most grown : ℤ) → pos 0 <ℤ factor → (cost +ℤ pos (unsigned_abs cost + unsigned_abs most + 1)) ≤ℤ grown → (factor *ℤ grown) ≤ℤ most → ⊥
unbounded factor cost most grown some gains bound =
    let above : (pos (unsigned_abs most) +ℤ pos 1) ≤ℤ grown = omega (arith, ints, gains) in
    let size : most ≤ℤ pos (unsigned_abs most) = omega (arith, ints) in
    let nonneg : pos 0 ≤ℤ grown = omega (arith, ints, above) in
    let more : pos 0 ≤ℤ (factor -ℤ pos 1) = omega (arith, ints, some) in
    let product : pos 0 ≤ℤ ((factor -ℤ pos 1) *ℤ grown) = nonneg-*ℤ (factor -ℤ pos 1) grown more nonneg in
    let whole : factor *ℤ grown ≡ grown +ℤ (factor -ℤ pos 1) *ℤ grown = parts factor grown in
    omega (arith, linear, above, size, product, whole, bound, one-more)
  where
    parts : (f g : ℤ) → f *ℤ g ≡ g +ℤ (f -ℤ pos 1) *ℤ g
    parts f g = simp ring (omega (arith, linear))

    one-more : pos 0 <ℤ pos 1
    one-more = omega (arith, ints)

pub bounded : (s : GeneralSetting) (cuts : List ℕ) (p : Program) → IsSale s → IsShaped s → IsSaleProgram s cuts p → HasSingles (pairs_of s) cuts → IsBounded p
bounded s cuts p sale shaped is singles den x ray grows =
    unbounded p.factor (cost_sum p x) most (cost_sum p y) (factor-positive s cuts p is) (grows.gains k)
    (subst (λ z. z ≤ℤ most) (costs-points s cuts p is y)
    (cost-bounded s den y sale shaped (record { cuts = cuts; program = p; is_program = is; singles = singles; meets = grows.meets k })))
  where
    most : ℤ
    most = sum_to (pairs_of s) (most_at s den)

    k : ℕ
    k = unsigned_abs (cost_sum p x) + unsigned_abs most + 1

    y : ℕ → ℤ
    y = along x k ray
