-- Sales of identical units to the bidders of an auction, each of whom wants one: what the laws of interim odds need of their general
-- settings. The sale of one item is one of them.
use Rattle.std.proofs.Common.{◌≡◌, ℕ, zero, suc, ◌+◌, ◌<◌, ℤ, pos, ◌+ℤ◌, ◌-ℤ◌, ◌*ℤ◌, ◌≤ℤ◌, Bool, false, ◌==◌, if◌then◌else◌, List, get_or, refl, sym, ap, ◌∙◌, subst, arith, eq-eqb, ne_eqb}
use Rattle.std.specs.Prelude.{slice_index}
use Rattle.std.proofs.lemmas.Int.{ints}
use Rattle.md_math.specs.Lists.{number_at}
use Rattle.md_math.specs.Sums.{sum_to, total_by}
use Rattle.md_math.proofs.Ring.{linear}
use Rattle.md_math.proofs.SumLaws.{sum_to-zero, sum_to-single}
use Rattle.md_space.specs.AllProfiles.{profiles_of}
use Rattle.md_space.specs.ByType.{where_type}
use Rattle.md_space.specs.Profiles.{IsProfile}
use Rattle.md_space.proofs.TypeSums.{total-same, total_given-same}
use Rattle.md_setting.specs.declared.kinds.Truth.TheVariants.{Bayes}
use Rattle.md_setting.specs.declared.kinds.Rational.TheVariants.{Interim}
use Rattle.md_setting.specs.Setting.{GeneralSetting}
use Rattle.md_setting.specs.Meaning.{agent_count, outcome_count, sizes_of, weight_of, total_of, utility_of, outside_of, value_of}
use Rattle.md_setting.specs.Auction.{SymmetricAuction, value_count}
use Rattle.md_setting.specs.General.{general_of}
use Rattle.md_setting.proofs.GeneralLaws.{HasValues, agent_count-general, outcome_count-general, general-truth, general-rational, general-no_deficit, general-revenue, utility_of-general, outside_of-general, value_of-keep, value_of-bidder}
use Rattle.md_mech.specs.declared.mechanism.Mechanism.{Mechanism}
use Rattle.md_mech.specs.Mechanism.{chance_of, pay_of}
use Rattle.md_mech.specs.Utility.{weighted_given}
use Rattle.md_border.specs.Odds.{HasOdds, HasPays, WinsAs}
use Rattle.md_border.specs.Worth.{surplus_of}
use Rattle.md_border.proofs.ByValues.{kinds-general}

-- how many units there are, what they are worth to the designer where all are kept, which bidders get one at which outcome of a general
-- setting, and how often each bidder gets one in a mechanism at a report; bidders are counted from 0
pub record Sale : Type 0 where
  pub units : ℕ
  pub kept : ℤ
  pub setting : GeneralSetting
  pub gets : ℕ → ℕ → Bool
  pub win : Mechanism → ℕ → List ℕ → ℤ

-- what a bidder pays in a mechanism at a report
abbrev pub paid_at : Sale → Mechanism → ℕ → List ℕ → ℤ
paid_at sale m i t = pay_of sale.setting m i t

-- It is a sale to the bidders of the auction. They have the values and the weights that they have where one item is sold, and want a
-- unit each; at each outcome there are enough units, and those that no bidder gets are kept.
pub record IsSaleOf (a : SymmetricAuction) (sale : Sale) : Type 0 where
  pub agents : agent_count sale.setting ≡ a.bidders
  pub sizes : sizes_of sale.setting ≡ sizes_of (general_of a)
  pub weight : (t : List ℕ) → weight_of sale.setting t ≡ weight_of (general_of a) t
  pub utility : (i : ℕ) (t : List ℕ) (o : ℕ) → i < a.bidders → slice_index t i < value_count a → o < outcome_count sale.setting
      → utility_of sale.setting i t o ≡ (if sale.gets o i then number_at a.values (slice_index t i) else pos 0)
  pub outside : (i v : ℕ) → i < a.bidders → outside_of sale.setting i v ≡ pos 0
  pub value : (t : List ℕ) (o : ℕ) → HasValues a t → o < outcome_count sale.setting
      → value_of sale.setting t o ≡ sale.kept +ℤ sum_to a.bidders (λ i. if sale.gets o i then surplus_of a (slice_index t i) else pos 0)
  pub enough : (o : ℕ) → o < outcome_count sale.setting → sum_to a.bidders (λ i. if sale.gets o i then pos 1 else pos 0) ≤ℤ pos sale.units
  pub wins : (m : Mechanism) (i : ℕ) (t : List ℕ) → i < a.bidders
      → sale.win m i t ≡ sum_to (outcome_count sale.setting) (λ o. if sale.gets o i then chance_of sale.setting m t o else pos 0)
  pub truth : sale.setting.truth ≡ Bayes
  pub rational : sale.setting.rational ≡ Interim
  pub no_deficit : sale.setting.no_deficit ≡ false
  pub revenue : sale.setting.revenue ≡ a.revenue

-- ---- profiles

module _ (a : SymmetricAuction) (sale : Sale) (is : IsSaleOf a sale) where
  pub sale-kinds : (i : ℕ) → i < a.bidders → get_or (sizes_of sale.setting) i 0 ≡ value_count a
  sale-kinds i b = ap (λ sizes. get_or sizes i 0) is.sizes ∙ kinds-general a i b

  pub sale-profile : (t : List ℕ) → IsProfile (sizes_of (general_of a)) t → IsProfile (sizes_of sale.setting) t
  sale-profile t p = subst (λ sizes. IsProfile sizes t) (sym is.sizes) p

  pub sale-total : total_of sale.setting ≡ total_of (general_of a)
  sale-total =
      ap (λ sizes. total_by (weight_of sale.setting) (profiles_of sizes)) is.sizes
      ∙ total-same (sizes_of (general_of a)) (weight_of sale.setting) (weight_of (general_of a)) (λ t p. is.weight t)

  -- what f is over the profiles in which a bidder has a value, it is where one item is sold
  pub sale-given : (i v : ℕ) (f : List ℕ → ℤ) → weighted_given sale.setting i v f ≡ weighted_given (general_of a) i v f
  sale-given i v f =
      ap (λ sizes. total_by (where_type i v (λ t. weight_of sale.setting t *ℤ f t)) (profiles_of sizes)) is.sizes
      ∙ total_given-same (sizes_of (general_of a)) i v (λ t. weight_of sale.setting t *ℤ f t) (λ t. weight_of (general_of a) t *ℤ f t)
      (λ t p e. ap (λ z. z *ℤ f t) (is.weight t))

-- ---- one item

-- bidder i gets it at outcome i + 1
abbrev pub item_sale : SymmetricAuction → Sale
item_sale a = record {
  units = 1;
  kept = a.keep;
  setting = general_of a;
  gets = λ o i. o == i + 1;
  win = λ m i t. chance_of (general_of a) m t (i + 1);
}

-- of a number for each bidder, that of the bidder whose outcome it is
abbrev own : ℕ → (ℕ → ℤ) → ℤ
own zero f = pos 0
own (suc j) f = f j

item-sum : (n o : ℕ) (f : ℕ → ℤ) → o < n + 1 → sum_to n (λ i. if o == i + 1 then f i else pos 0) ≡ own o f
item-sum n zero f b = sum_to-zero n _ (λ i c. ap (λ s. if s then f i else pos 0) (ne_eqb zero (i + 1) (λ e. omega (arith, e))))
item-sum n (suc j) f b =
    sum_to-single n j (λ i. if suc j == i + 1 then f i else pos 0) (omega (arith, b)) (λ i c d. ap (λ s. if s then f i else pos 0) (ne_eqb (suc j) (i + 1) (λ e. d (omega (arith, e)))))
    ∙ ap (λ s. if s then f j else pos 0) (eq-eqb (suc j) (j + 1) (omega arith))

item-enough : (n o : ℕ) → o < n + 1 → sum_to n (λ i. if o == i + 1 then pos 1 else pos 0) ≤ℤ pos 1
item-enough n o b = subst (λ z. z ≤ℤ pos 1) (sym (item-sum n o (λ _. pos 1) b)) (one o)
  where
    one : (o : ℕ) → own o (λ _. pos 1) ≤ℤ pos 1
    one zero = omega (arith, ints)
    one (suc j) = omega (arith, ints)

item-value : (a : SymmetricAuction) (t : List ℕ) (o : ℕ) → HasValues a t → o < a.bidders + 1
    → value_of (general_of a) t o ≡ a.keep +ℤ sum_to a.bidders (λ i. if o == i + 1 then surplus_of a (slice_index t i) else pos 0)
item-value a t o h b = by_outcome o b ∙ ap (λ z. a.keep +ℤ z) (sym (item-sum a.bidders o (λ i. surplus_of a (slice_index t i)) b))
  where
    none : (k : ℤ) → k ≡ k +ℤ pos 0
    none k = omega (arith, linear)

    more : (k w : ℤ) → w ≡ k +ℤ (w -ℤ k)
    more k w = omega (arith, linear)

    by_outcome : (o : ℕ) → o < a.bidders + 1 → value_of (general_of a) t o ≡ a.keep +ℤ own o (λ i. surplus_of a (slice_index t i))
    by_outcome zero c = value_of-keep a t h ∙ none a.keep
    by_outcome (suc j) c =
        ap (value_of (general_of a) t) (let e : suc j ≡ j + 1 = omega arith in e)
        ∙ value_of-bidder a t j h (omega (arith, c))
        ∙ more a.keep (a.welfare *ℤ number_at a.values (slice_index t j))

item-wins : (a : SymmetricAuction) (m : Mechanism) (i : ℕ) (t : List ℕ) → i < a.bidders
    → chance_of (general_of a) m t (i + 1) ≡ sum_to (outcome_count (general_of a)) (λ o. if o == i + 1 then chance_of (general_of a) m t o else pos 0)
item-wins a m i t b =
    let chance = chance_of (general_of a) m t in
    sym (sum_to-single (outcome_count (general_of a)) (i + 1) (λ o. if o == i + 1 then chance o else pos 0) (omega (arith, b, outcome_count-general a))
    (λ o c d. ap (λ s. if s then chance o else pos 0) (ne_eqb o (i + 1) d))
    ∙ ap (λ s. if s then chance (i + 1) else pos 0) (eq-eqb (i + 1) (i + 1) refl))

pub item-sale : (a : SymmetricAuction) → IsSaleOf a (item_sale a)
item-sale a = record {
  agents = agent_count-general a;
  sizes = refl;
  weight = λ t. refl;
  utility = λ i t o b l c. utility_of-general a i t o b l (inside o c);
  outside = λ i v b. outside_of-general a i v b;
  value = λ t o h c. item-value a t o h (inside o c);
  enough = λ o c. item-enough a.bidders o (inside o c);
  wins = item-wins a;
  truth = general-truth a;
  rational = general-rational a;
  no_deficit = general-no_deficit a;
  revenue = general-revenue a;
}
  where
    inside : (o : ℕ) → o < outcome_count (general_of a) → o < a.bidders + 1
    inside o c = subst (λ n. o < n) (outcome_count-general a) c

-- odds and payments of a mechanism are averages of what its bidders win and pay
pub odds-as : (a : SymmetricAuction) (m : Mechanism) (den : ℤ) (odds : List ℤ) → HasOdds a m den odds → WinsAs a ((item_sale a).win m) m.den den odds
odds-as a m den odds h = record { wins = h.wins }

pub pays-as : (a : SymmetricAuction) (m : Mechanism) (den : ℤ) (pays : List ℤ) → HasPays a m den pays → WinsAs a (paid_at (item_sale a) m) m.den den pays
pays-as a m den pays h = record { wins = h.paid }
