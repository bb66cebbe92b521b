-- Border's condition is necessary at each sale: where some mechanism has the odds, no set of values has a positive excess.
use Rattle.std.proofs.Common.{◌≡◌, ℕ, ◌*◌, ◌<◌, ℤ, pos, ◌-ℤ◌, ◌*ℤ◌, ◌≤ℤ◌, ◌<ℤ◌, if◌then◌else◌, List, length, get_or, sym, ap, ◌∙◌, subst, arith}
use Rattle.std.proofs.lemmas.Int.{ints}
use Rattle.std.proofs.Math.IntN.{pos-*ℤ-pos}
use Rattle.md_math.specs.Lists.{number_at}
use Rattle.md_math.specs.Sets.{member}
use Rattle.md_math.specs.Sums.{sum_to, total_by}
use Rattle.md_math.proofs.Order.{*ℤ-le, le_from_*ℤ, chosen-times}
use Rattle.md_math.proofs.Ring.{linear, ring, *ℤ_left_comm}
use Rattle.md_math.proofs.SumLaws.{sum_to-constant, sum_to-same, sum_to-*ℤ, sum_to-swap, sum_to-if}
use Rattle.md_math.proofs.TotalLaws.{total_by-sum_to}
use Rattle.md_space.specs.AllProfiles.{profiles_of}
use Rattle.md_space.specs.ByType.{where_type}
use Rattle.md_setting.specs.Meaning.{sizes_of, weight_of}
use Rattle.md_setting.specs.Auction.{SymmetricAuction, value_count}
use Rattle.md_setting.specs.General.{general_of}
use Rattle.md_mech.specs.declared.mechanism.Mechanism.{Mechanism}
use Rattle.md_mech.specs.Mechanism.{IsMechanism}
use Rattle.md_mech.specs.Utility.{weighted_given}
use Rattle.md_border.specs.declared.interim.Interim.{Interim}
use Rattle.md_border.specs.Sides.{right_by_counts}
use Rattle.md_border.specs.Odds.{HasOdds, WinsAs, sum_given, won_in, weight_given, demand_of, demands_in, excess_of, unit_excess_of}
use Rattle.md_border.proofs.ByValues.{count-general, kinds-general}
use Rattle.md_border.proofs.Sales.{Sale, IsSaleOf, item_sale, item-sale, odds-as}
use Rattle.md_border.proofs.SideLaws.{right_of-counts}
use Rattle.md_border.proofs.Wins.{where_in, by_kinds, won-le}

-- ---- sums over bidders and kinds

-- the kinds of the set, with all bidders of each, are the bidders with a value in the set
pub by_bidders : (sizes : List ℕ) (n kinds set : ℕ) (f : ℕ → List ℕ → ℤ) → length sizes ≡ n → ((i : ℕ) → i < n → get_or sizes i 0 ≡ kinds)
    → sum_to kinds (λ v. if member set v then sum_to n (λ i. total_by (where_type i v (f i)) (profiles_of sizes)) else pos 0)
    ≡ total_by (λ t. sum_to n (λ i. where_in set i (f i) t)) (profiles_of sizes)
by_bidders sizes n kinds set f long each =
    sum_to-same kinds _ (λ v. sum_to n (λ i. if member set v then total_by (where_type i v (f i)) (profiles_of sizes) else pos 0))
    (λ v b. sym (sum_to-if n (member set v) (λ i. total_by (where_type i v (f i)) (profiles_of sizes))))
    ∙ sum_to-swap kinds n (λ v i. if member set v then total_by (where_type i v (f i)) (profiles_of sizes) else pos 0)
    ∙ sum_to-same n _ (λ i. total_by (where_in set i (f i)) (profiles_of sizes))
    (λ i b. ap (λ k. sum_to k (λ v. if member set v then total_by (where_type i v (f i)) (profiles_of sizes) else pos 0)) (sym (each i b)) ∙ sym (by_kinds sizes set i (f i) (omega (arith, long))))
    ∙ sym (total_by-sum_to n (λ t i. where_in set i (f i) t) (profiles_of sizes))

-- ---- demands and wins, by any function of what bidders win

-- the demand of a value is what all bidders together win with it
demand-won : (a : SymmetricAuction) (win : ℕ → List ℕ → ℤ) (whole : ℤ) (interim : Interim) (v : ℕ) → WinsAs a win whole interim.den interim.odds → v < value_count a
    → whole *ℤ demand_of a interim v ≡ interim.den *ℤ sum_given a win v
demand-won a win whole interim v h b =
    apart a.bidders (weight_given a v) whole (number_at interim.odds v)
    ∙ sym (sum_to-constant a.bidders (whole *ℤ (pos (weight_given a v) *ℤ number_at interim.odds v)))
    ∙ sum_to-same a.bidders _ _ (λ i c. sym (h.wins i v c b))
    ∙ sum_to-*ℤ a.bidders interim.den (λ i. weighted_given (general_of a) i v (win i))
  where
    apart : (n g : ℕ) (d q : ℤ) → d *ℤ (pos (n * g) *ℤ q) ≡ pos n *ℤ (d *ℤ (pos g *ℤ q))
    apart n g d q = ap (λ x. d *ℤ (x *ℤ q)) (sym (pos-*ℤ-pos n g)) ∙ simp ring

-- the demands of a set are what its bidders win over all profiles
pub demands-won : (a : SymmetricAuction) (win : ℕ → List ℕ → ℤ) (whole : ℤ) (interim : Interim) (set : ℕ) → WinsAs a win whole interim.den interim.odds
    → whole *ℤ demands_in a interim set ≡ interim.den *ℤ won_in a win set
demands-won a win whole interim set h =
    let kinds = value_count a in
    let won = sum_given a win in
    sym (sum_to-*ℤ kinds whole (λ v. if member set v then demand_of a interim v else pos 0))
    ∙ sum_to-same kinds _ (λ v. interim.den *ℤ (if member set v then won v else pos 0))
    (λ v b.
    chosen-times (member set v) whole (demand_of a interim v)
    ∙ ap (λ z. if member set v then z else pos 0) (demand-won a win whole interim v h b)
    ∙ sym (chosen-times (member set v) interim.den (won v)))
    ∙ sum_to-*ℤ kinds interim.den (λ v. if member set v then won v else pos 0)
    ∙ ap (λ z. interim.den *ℤ z) (by_bidders (sizes_of (general_of a)) a.bidders kinds set (λ i t. weight_of (general_of a) t *ℤ win i t) (count-general a) (kinds-general a))

-- ---- Border's condition

pub sale-border : (a : SymmetricAuction) (sale : Sale) (interim : Interim) (set : ℕ) (m : Mechanism) → IsSaleOf a sale → pos 1 ≤ℤ interim.den → IsMechanism sale.setting m
    → WinsAs a (sale.win m) m.den interim.den interim.odds → unit_excess_of a sale.units interim set ≤ℤ pos 0
sale-border a sale interim set m is positive mechanism wins =
    let right = right_by_counts a sale.units set in
    let won = won_in a (sale.win m) set in
    let at_most : (interim.den *ℤ won) ≤ℤ (interim.den *ℤ (m.den *ℤ right)) = *ℤ-le interim.den won (m.den *ℤ right) (some interim.den positive) (won-le a sale m set is mechanism) in
    let both : (m.den *ℤ demands_in a interim set) ≤ℤ (m.den *ℤ (interim.den *ℤ right)) =
    subst (λ z. z ≤ℤ (m.den *ℤ (interim.den *ℤ right))) (sym (demands-won a (sale.win m) m.den interim set wins))
    (subst (λ z. (interim.den *ℤ won) ≤ℤ z) (*ℤ_left_comm interim.den m.den right) at_most) in
    negative (demands_in a interim set) (interim.den *ℤ right) (le_from_*ℤ m.den (demands_in a interim set) (interim.den *ℤ right) (above m.den mechanism.den) both)
  where
    some : (z : ℤ) → pos 1 ≤ℤ z → pos 0 ≤ℤ z
    some z l = omega (arith, ints, l)

    above : (z : ℤ) → pos 1 ≤ℤ z → pos 0 <ℤ z
    above z l = omega (arith, ints, l)

    negative : (x y : ℤ) → x ≤ℤ y → (x -ℤ y) ≤ℤ pos 0
    negative x y l = omega (arith, linear, l)

pub border : (a : SymmetricAuction) (interim : Interim) (set : ℕ) (m : Mechanism) → pos 1 ≤ℤ interim.den → IsMechanism (general_of a) m → HasOdds a m interim.den interim.odds
    → excess_of a interim set ≤ℤ pos 0
border a interim set m positive mechanism odds =
    subst (λ r. (demands_in a interim set -ℤ interim.den *ℤ r) ≤ℤ pos 0) (sym (right_of-counts a set))
    (sale-border a (item_sale a) interim set m (item-sale a) positive mechanism (odds-as a m interim.den interim.odds odds))
