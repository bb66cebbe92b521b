-- What is missed of a condition is by how much its left side is over its right side.
use Rattle.std.proofs.Common.{◌≡◌, ◌↔◌, ℕ, ◌+◌, ◌*◌, ◌<◌, ℤ, pos, ◌-ℤ◌, ◌*ℤ◌, neg_ℤ, ◌≤ℤ◌, if◌then◌else◌, sym, ap, ap₂, ◌∙◌, arith}
use Rattle.std.proofs.lemmas.List.{get_or_past, get_or_append_left}
use Rattle.md_math.specs.Lists.{number_at}
use Rattle.md_math.specs.Sets.{member}
use Rattle.md_math.proofs.Builders.{number_at-behind}
use Rattle.md_math.proofs.Ring.{linear, *ℤ-zero}
use Rattle.md_math.proofs.SumLaws.{sum_to-same}
use Rattle.md_setting.specs.Auction.{SymmetricAuction, value_count}
use Rattle.md_border.specs.declared.interim.Interim.{Interim}
use Rattle.md_border.specs.Odds.{IsInterim, weight_given, demands_in}
use Rattle.md_border.specs.Sides.{right_by_counts}
use Rattle.md_reduced.specs.declared.condition.ReducedCondition.{ReducedCondition}
use Rattle.md_reduced.specs.declared.condition.ReducedCondition.TheVariants.{Truth, Rational, Cut}
use Rattle.md_reduced.specs.Conditions.{IsInside}
use Rattle.md_reduced.specs.Sides.{pay_in, utility_in, demands_of, left_side, right_side}
use Rattle.md_auction_report.specs.Shortfalls.{missed}
use Rattle.md_auction_report.specs.Tight.{columns_of}
use Rattle.md_auction_report.specs.Utility.{utility_at}

-- ---- the odds and payments as numbers for the columns

pub odds-column : (a : SymmetricAuction) (interim : Interim) (v : ℕ) → IsInterim a interim → v < value_count a → columns_of interim v ≡ number_at interim.odds v
odds-column a interim v h l = get_or_append_left interim.odds interim.pays (pos 0) v (omega (arith, l, h.one_odds))

less-none : (x y z : ℤ) → x ≡ z → y ≡ pos 0 → x -ℤ y ≡ z
less-none x y z e f = omega (arith, linear, e, f)

pub pay-column : (a : SymmetricAuction) (interim : Interim) (v : ℕ) → IsInterim a interim → pay_in a (columns_of interim) v ≡ number_at interim.pays v
pay-column a interim v h =
    let n = value_count a in
    let twice : 2 * n + v ≡ n + (n + v) = omega arith in
    let minus : columns_of interim (2 * n + v) ≡ pos 0 =
    ap (columns_of interim) twice ∙ number_at-behind interim.odds interim.pays n (n + v) h.one_odds ∙ get_or_past interim.pays (n + v) (pos 0) (omega (arith, h.one_pay)) in
    less-none (columns_of interim (n + v)) (columns_of interim (2 * n + v)) (number_at interim.pays v) (number_at-behind interim.odds interim.pays n v h.one_odds) minus

utility-column : (a : SymmetricAuction) (interim : Interim) (v w : ℕ) → IsInterim a interim → w < value_count a → utility_in a (columns_of interim) v w ≡ utility_at a interim v w
utility-column a interim v w h l = ap₂ (λ x y. number_at a.values v *ℤ x -ℤ y) (odds-column a interim w h l) (pay-column a interim w h)

demands-column : (a : SymmetricAuction) (interim : Interim) (set : ℕ) → IsInterim a interim → demands_of a (columns_of interim) set ≡ demands_in a interim set
demands-column a interim set h =
    sum_to-same (value_count a) _ _ (λ v l. ap (λ x. if member set v then pos (a.bidders * weight_given a v) *ℤ x else pos 0) (odds-column a interim v h l))

-- ---- conditions

-- the values of a condition are there
abbrev pub IsThere : ℕ → ReducedCondition → Type 0
IsThere kinds (Truth v w) = (v < kinds) × (w < kinds)
IsThere kinds (Rational v) = v < kinds
IsThere kinds (Cut set) = Unit {0}

pub there : (kinds : ℕ) (c : ReducedCondition) → IsInside kinds c → IsThere kinds c
there kinds (Truth v w) h = (h.0, h.1)
there kinds (Rational v) h = h
there kinds (Cut set) h = tt

less-nothing : (x o : ℤ) → o ≡ pos 0 → x -ℤ o ≡ x
less-nothing x o e = omega (arith, linear, e)

pub missed-sides : (a : SymmetricAuction) (units : ℕ) (interim : Interim) (c : ReducedCondition) → IsInterim a interim → IsThere (value_count a) c
    → left_side a c (columns_of interim) -ℤ interim.den *ℤ right_side a units c ≡ missed a units interim c
missed-sides a units interim (Truth v w) h (l, k) =
    ap₂ (λ x y. (x -ℤ y) -ℤ interim.den *ℤ pos 0) (utility-column a interim v w h k) (utility-column a interim v v h l)
    ∙ less-nothing (utility_at a interim v w -ℤ utility_at a interim v v) (interim.den *ℤ pos 0) (*ℤ-zero interim.den)
missed-sides a units interim (Rational v) h l =
    ap (λ x. neg_ℤ x -ℤ interim.den *ℤ pos 0) (utility-column a interim v v h l)
    ∙ less-nothing (neg_ℤ (utility_at a interim v v)) (interim.den *ℤ pos 0) (*ℤ-zero interim.den)
missed-sides a units interim (Cut set) h l = ap (λ x. x -ℤ interim.den *ℤ right_by_counts a units set) (demands-column a interim set h)

at_most_0 : (l r x : ℤ) → l -ℤ r ≡ x → (l ≤ℤ r) ↔ (x ≤ℤ pos 0)
at_most_0 l r x e = ((λ h. omega (arith, linear, e, h)), (λ h. omega (arith, linear, e, h)))

-- it holds exactly where nothing is missed of it
pub holds-missed : (a : SymmetricAuction) (units : ℕ) (interim : Interim) (c : ReducedCondition) → IsInterim a interim → IsThere (value_count a) c
    → (left_side a c (columns_of interim) ≤ℤ (interim.den *ℤ right_side a units c)) ↔ (missed a units interim c ≤ℤ pos 0)
holds-missed a units interim c h l =
    at_most_0 (left_side a c (columns_of interim)) (interim.den *ℤ right_side a units c) (missed a units interim c) (missed-sides a units interim c h l)

same-0 : (y x : ℤ) → y ≡ x → (x ≡ pos 0) ↔ (y ≡ pos 0)
same-0 y x e = ((λ h. e ∙ h), (λ h. sym e ∙ h))

-- and with equality where what is missed is 0
pub tight-missed : (a : SymmetricAuction) (units : ℕ) (interim : Interim) (c : ReducedCondition) → IsInterim a interim → IsThere (value_count a) c
    → (missed a units interim c ≡ pos 0) ↔ (left_side a c (columns_of interim) -ℤ interim.den *ℤ right_side a units c ≡ pos 0)
tight-missed a units interim c h l =
    same-0 (left_side a c (columns_of interim) -ℤ interim.den *ℤ right_side a units c) (missed a units interim c) (missed-sides a units interim c h l)
