-- What a mechanism of a sale is worth, by what its bidders win and pay with each value, and by its odds and payments.
use Rattle.std.proofs.Common.{◌≡◌, ℕ, suc, ◌-◌, ◌*◌, ◌^◌, ◌<◌, ◌≤◌, ℤ, pos, ◌+ℤ◌, ◌*ℤ◌, ◌≤ℤ◌, ◌<ℤ◌, Bool, if◌then◌else◌, List, sym, ap, ap₂, ◌∙◌, subst, arith}
use Rattle.std.specs.Prelude.{slice_index}
use Rattle.std.proofs.lemmas.Int.{ints}
use Rattle.std.proofs.Math.IntN.{pos-*ℤ-pos}
use Rattle.std.proofs.Math.Nat.{pow-suc}
use lib.IntN.{*ℤ_comm}
use Rattle.md_math.specs.Lists.{number_at}
use Rattle.md_math.specs.Sums.{sum_to, total_by}
use Rattle.md_math.proofs.Order.{*ℤ_cancel, chosen-times}
use Rattle.md_math.proofs.Ring.{linear, ring, *ℤ-+ℤ}
use Rattle.md_math.proofs.SumLaws.{sum_to-same, sum_to-+ℤ, sum_to-*ℤ, sum_to-swap, sum_to-constant}
use Rattle.md_math.proofs.TotalLaws.{total_by-+ℤ, total_by-*ℤ}
use Rattle.md_num.specs.declared.frac.Frac.{Frac}
use Rattle.md_space.specs.Profiles.{IsProfile}
use Rattle.md_space.specs.AllProfiles.{profiles_of}
use Rattle.md_space.proofs.Ranks.{report-below}
use Rattle.md_space.proofs.TypeSums.{total-same}
use Rattle.md_setting.specs.Meaning.{outcome_count, sizes_of, weight_of, total_of, value_of}
use Rattle.md_setting.specs.Auction.{SymmetricAuction, value_count, total_weight}
use Rattle.md_setting.specs.AuctionShaped.{IsAuction}
use Rattle.md_setting.specs.General.{general_of}
use Rattle.md_setting.proofs.GeneralLaws.{HasValues, total_of-general}
use Rattle.md_mech.specs.declared.mechanism.Mechanism.{Mechanism}
use Rattle.md_mech.specs.Mechanism.{chance_of, pay_of, IsMechanism}
use Rattle.md_mech.specs.Optimal.{objective_at, worth_of as mechanism_worth}
use Rattle.md_mech.specs.Utility.{weighted_given}
use Rattle.md_mech.specs.Value.{HasValue}
use Rattle.md_border.specs.declared.interim.Interim.{Interim}
use Rattle.md_border.specs.Odds.{HasOdds, HasPays, WinsAs, weight_given}
use Rattle.md_border.specs.Worth.{surplus_of, gain_of, gains_of, HasWorth}
use Rattle.md_border.proofs.ByValues.{count-general, kinds-general, gains-by_values}
use Rattle.md_border.proofs.Sales.{Sale, IsSaleOf, paid_at, sale-profile, sale-total, item_sale, item-sale, odds-as, pays-as}

-- ---- one profile

-- at a profile each bidder has one of the values
pub has-values : (a : SymmetricAuction) (t : List ℕ) → IsProfile (sizes_of (general_of a)) t → HasValues a t
has-values a t p = record {
  value = λ i b.
      subst (λ k. slice_index t i < k) (kinds-general a i b)
      (report-below (sizes_of (general_of a)) t i p (omega (arith, b, count-general a)));
}

-- what bidders add to the objective where they win and pay so much
abbrev pub added : SymmetricAuction → (ℕ → List ℕ → ℤ) → (ℕ → List ℕ → ℤ) → List ℕ → ℤ
added a win pay t = sum_to a.bidders (λ i. surplus_of a (slice_index t i) *ℤ win i t +ℤ a.revenue *ℤ pay i t)

-- ---- a lottery over outcomes at a profile

-- in a product with a number that is chosen or 0, either factor may be the one that is chosen
pub chosen-turned : (b : Bool) (x y : ℤ) → x *ℤ (if b then y else pos 0) ≡ y *ℤ (if b then x else pos 0)
chosen-turned b x y = chosen-times b x y ∙ ap (λ z. if b then z else pos 0) (*ℤ_comm x y) ∙ sym (chosen-times b y x)

lottery-worth : (n count : ℕ) (base whole : ℤ) (surplus : ℕ → ℤ) (test : ℕ → ℕ → Bool) (chance worth : ℕ → ℤ)
    → ((o : ℕ) → o < count → worth o ≡ base +ℤ sum_to n (λ i. if test o i then surplus i else pos 0)) → sum_to count chance ≡ whole
    → sum_to count (λ o. chance o *ℤ worth o) ≡ base *ℤ whole +ℤ sum_to n (λ i. surplus i *ℤ sum_to count (λ o. if test o i then chance o else pos 0))
lottery-worth n count base whole surplus test chance worth each all =
    sum_to-same count (λ o. chance o *ℤ worth o) (λ o. base *ℤ chance o +ℤ sum_to n (λ i. surplus i *ℤ (if test o i then chance o else pos 0))) one
    ∙ sum_to-+ℤ count (λ o. base *ℤ chance o) (λ o. sum_to n (λ i. surplus i *ℤ (if test o i then chance o else pos 0)))
    ∙ ap₂ (λ x y. x +ℤ y) (sum_to-*ℤ count base chance ∙ ap (λ z. base *ℤ z) all)
    (sum_to-swap count n (λ o i. surplus i *ℤ (if test o i then chance o else pos 0))
    ∙ sum_to-same n _ _ (λ i b. sum_to-*ℤ count (surplus i) (λ o. if test o i then chance o else pos 0)))
  where
    one : (o : ℕ) → o < count → chance o *ℤ worth o ≡ base *ℤ chance o +ℤ sum_to n (λ i. surplus i *ℤ (if test o i then chance o else pos 0))
    one o c =
        ap (λ z. chance o *ℤ z) (each o c)
        ∙ *ℤ-+ℤ (chance o) base (sum_to n (λ i. if test o i then surplus i else pos 0))
        ∙ ap₂ (λ x y. x +ℤ y) (*ℤ_comm (chance o) base)
        (sym (sum_to-*ℤ n (chance o) (λ i. if test o i then surplus i else pos 0)) ∙ sum_to-same n _ _ (λ i b. chosen-turned (test o i) (chance o) (surplus i)))

objective-at : (a : SymmetricAuction) (sale : Sale) (m : Mechanism) (t : List ℕ) → IsSaleOf a sale → IsMechanism sale.setting m → IsProfile (sizes_of (general_of a)) t
    → objective_at sale.setting m t ≡ sale.kept *ℤ m.den +ℤ added a (sale.win m) (paid_at sale m) t
objective-at a sale m t is mechanism p =
    let s = sale.setting in
    let n = a.bidders in
    let surplus = λ (i : ℕ). surplus_of a (slice_index t i) in
    let chance = chance_of s m t in
    let won = sum_to n (λ i. surplus i *ℤ sale.win m i t) in
    let lottery : sum_to (outcome_count s) (λ o. chance o *ℤ value_of s t o) ≡ sale.kept *ℤ m.den +ℤ won =
    lottery-worth n (outcome_count s) sale.kept m.den surplus sale.gets chance (value_of s t) (λ o c. is.value t o (has-values a t p) c) (mechanism.whole t (sale-profile a sale is t p))
    ∙ ap (λ z. sale.kept *ℤ m.den +ℤ z)
    (sum_to-same n (λ i. surplus i *ℤ sum_to (outcome_count s) (λ o. if sale.gets o i then chance o else pos 0)) (λ i. surplus i *ℤ sale.win m i t)
    (λ i b. ap (λ z. surplus i *ℤ z) (sym (is.wins m i t b)))) in
    ap₂ (λ k r. sum_to (outcome_count s) (λ o. chance o *ℤ value_of s t o) +ℤ (r *ℤ sum_to k (λ i. pay_of s m i t))) is.agents is.revenue
    ∙ ap₂ (λ x y. x +ℤ y) lottery (sym (sum_to-*ℤ n a.revenue (λ i. paid_at sale m i t)))
    ∙ together (sale.kept *ℤ m.den) won (sum_to n (λ i. a.revenue *ℤ paid_at sale m i t))
    ∙ ap (λ z. sale.kept *ℤ m.den +ℤ z) (sym (sum_to-+ℤ n (λ i. surplus i *ℤ sale.win m i t) (λ i. a.revenue *ℤ paid_at sale m i t)))
  where
    together : (x y z : ℤ) → (x +ℤ y) +ℤ z ≡ x +ℤ (y +ℤ z)
    together x y z = omega (arith, linear)

-- ---- all profiles

-- what bidders with each value add to the objective
abbrev pub added_by_values : SymmetricAuction → (ℕ → List ℕ → ℤ) → (ℕ → List ℕ → ℤ) → ℤ
added_by_values a win pay =
    sum_to (value_count a) (λ v. sum_to a.bidders (λ i. surplus_of a v *ℤ weighted_given (general_of a) i v (win i) +ℤ a.revenue *ℤ weighted_given (general_of a) i v (pay i)))

-- what keeping all units is worth, and what bidders with each value add to it
pub worth-by_values : (a : SymmetricAuction) (sale : Sale) (m : Mechanism) → IsAuction a → IsSaleOf a sale → IsMechanism sale.setting m
    → mechanism_worth sale.setting m ≡ (sale.kept *ℤ m.den) *ℤ pos (total_weight a.weights ^ a.bidders) +ℤ added_by_values a (sale.win m) (paid_at sale m)
worth-by_values a sale m shaped is mechanism =
    let s = sale.setting in
    let g = general_of a in
    let all = profiles_of (sizes_of g) in
    let kept = sale.kept *ℤ m.den in
    let more = added a (sale.win m) (paid_at sale m) in
    ap (λ sizes. total_by (λ t. weight_of s t *ℤ objective_at s m t) (profiles_of sizes)) is.sizes
    ∙ total-same (sizes_of g) _ (λ t. kept *ℤ weight_of g t +ℤ weight_of g t *ℤ more t)
    (λ t p. ap₂ (λ x y. x *ℤ y) (is.weight t) (objective-at a sale m t is mechanism p) ∙ parts (weight_of g t) kept (more t))
    ∙ total_by-+ℤ (λ t. kept *ℤ weight_of g t) (λ t. weight_of g t *ℤ more t) all
    ∙ ap₂ (λ x y. x +ℤ y) (total_by-*ℤ kept (weight_of g) all ∙ ap (λ z. kept *ℤ z) (total_of-general a shaped.one_each)) (gains-by_values a (sale.win m) (paid_at sale m))
  where
    parts : (w k x : ℤ) → w *ℤ (k +ℤ x) ≡ k *ℤ w +ℤ w *ℤ x
    parts w k x = *ℤ-+ℤ w k x ∙ ap (λ z. z +ℤ w *ℤ x) (*ℤ_comm w k)

-- ---- by odds and payments

-- the weight of all profiles of the others
abbrev pub others : SymmetricAuction → ℤ
others a = pos (total_weight a.weights ^ (a.bidders - 1))

pub power-of_all : (a : SymmetricAuction) → 1 ≤ a.bidders → pos (total_weight a.weights ^ a.bidders) ≡ pos (total_weight a.weights) *ℤ others a
power-of_all a some =
    ap (λ n. pos (total_weight a.weights ^ n)) (let e : a.bidders ≡ suc (a.bidders - 1) = omega (arith, some) in e)
    ∙ ap pos (pow-suc (total_weight a.weights) (a.bidders - 1) ∙ turned (total_weight a.weights ^ (a.bidders - 1)) (total_weight a.weights))
    ∙ sym (pos-*ℤ-pos (total_weight a.weights) (total_weight a.weights ^ (a.bidders - 1)))
  where
    turned : (x y : ℕ) → x * y ≡ y * x
    turned x y = omega arith

-- what bidders add to the objective where they win and pay as odds and payments say
pub added-by_odds : (a : SymmetricAuction) (win pay : ℕ → List ℕ → ℤ) (whole : ℤ) (interim : Interim) → WinsAs a win whole interim.den interim.odds → WinsAs a pay whole interim.den interim.pays
    → interim.den *ℤ added_by_values a win pay ≡ ((whole *ℤ others a) *ℤ pos a.bidders) *ℤ gains_of a interim
added-by_odds a win pay whole interim odds pays =
    let n = a.bidders in
    let d = interim.den in
    let kinds = value_count a in
    let won = λ (i v : ℕ). weighted_given (general_of a) i v (win i) in
    let paid = λ (i v : ℕ). weighted_given (general_of a) i v (pay i) in
    let sums = λ (v : ℕ). sum_to n (λ i. surplus_of a v *ℤ won i v +ℤ a.revenue *ℤ paid i v) in
    sym (sum_to-*ℤ kinds d sums)
    ∙ sum_to-same kinds _ (λ v. ((whole *ℤ others a) *ℤ pos n) *ℤ (pos (slice_index a.weights v) *ℤ gain_of a interim v))
    (λ v c.
    sym (sum_to-*ℤ n d (λ i. surplus_of a v *ℤ won i v +ℤ a.revenue *ℤ paid i v))
    ∙ sum_to-same n _ (λ _. whole *ℤ (pos (weight_given a v) *ℤ gain_of a interim v))
    (λ i b.
    first d (surplus_of a v) (won i v) a.revenue (paid i v)
    ∙ ap₂ (λ x y. surplus_of a v *ℤ x +ℤ a.revenue *ℤ y) (odds.wins i v b c) (pays.wins i v b c)
    ∙ second (surplus_of a v) whole (pos (weight_given a v)) (number_at interim.odds v) a.revenue (number_at interim.pays v))
    ∙ sum_to-constant n (whole *ℤ (pos (weight_given a v) *ℤ gain_of a interim v))
    ∙ ap (λ z. pos n *ℤ (whole *ℤ (z *ℤ gain_of a interim v))) (sym (pos-*ℤ-pos (slice_index a.weights v) (total_weight a.weights ^ (n - 1))))
    ∙ third (pos n) whole (pos (slice_index a.weights v)) (others a) (gain_of a interim v))
    ∙ sum_to-*ℤ kinds ((whole *ℤ others a) *ℤ pos n) (λ v. pos (slice_index a.weights v) *ℤ gain_of a interim v)
  where
    first : (d x w r p : ℤ) → d *ℤ (x *ℤ w +ℤ r *ℤ p) ≡ x *ℤ (d *ℤ w) +ℤ r *ℤ (d *ℤ p)
    first d x w r p = simp ring

    second : (x m g q r p : ℤ) → x *ℤ (m *ℤ (g *ℤ q)) +ℤ r *ℤ (m *ℤ (g *ℤ p)) ≡ m *ℤ (g *ℤ (x *ℤ q +ℤ r *ℤ p))
    second x m g q r p = simp ring

    third : (n m f o g : ℤ) → n *ℤ (m *ℤ ((f *ℤ o) *ℤ g)) ≡ ((m *ℤ o) *ℤ n) *ℤ (f *ℤ g)
    third n m f o g = simp ring

-- what odds and payments are worth where keeping all is worth so much
abbrev pub worth_with : SymmetricAuction → ℤ → Interim → ℤ
worth_with a kept interim = kept *ℤ (pos (total_weight a.weights) *ℤ interim.den) +ℤ pos a.bidders *ℤ gains_of a interim

module _ (a : SymmetricAuction) (sale : Sale) (m : Mechanism) (interim : Interim) (shaped : IsAuction a) (is : IsSaleOf a sale) (mechanism : IsMechanism sale.setting m)
    (odds : WinsAs a (sale.win m) m.den interim.den interim.odds) (pays : WinsAs a (paid_at sale m) m.den interim.den interim.pays) where
  -- the mechanism's worth is that of its odds and payments
  pub worth-of_wins : interim.den *ℤ mechanism_worth sale.setting m ≡ (m.den *ℤ others a) *ℤ worth_with a sale.kept interim
  worth-of_wins =
      let d = interim.den in
      ap (λ z. d *ℤ z) (worth-by_values a sale m shaped is mechanism)
      ∙ *ℤ-+ℤ d ((sale.kept *ℤ m.den) *ℤ pos (total_weight a.weights ^ a.bidders)) (added_by_values a (sale.win m) (paid_at sale m))
      ∙ ap₂ (λ x y. d *ℤ ((sale.kept *ℤ m.den) *ℤ x) +ℤ y) (power-of_all a shaped.some_bidder) (added-by_odds a (sale.win m) (paid_at sale m) m.den interim odds pays)
      ∙ parts d sale.kept m.den (pos (total_weight a.weights)) (others a) (pos a.bidders) (gains_of a interim)
    where
      parts : (d k m f o n g : ℤ) → d *ℤ ((k *ℤ m) *ℤ (f *ℤ o)) +ℤ ((m *ℤ o) *ℤ n) *ℤ g ≡ (m *ℤ o) *ℤ (k *ℤ (f *ℤ d) +ℤ n *ℤ g)
      parts d k m f o n g = simp ring

  -- a fraction that they are worth is its value
  pub value-of_wins : (value : Frac) → pos 1 ≤ℤ interim.den → value.num *ℤ (pos (total_weight a.weights) *ℤ interim.den) ≡ worth_with a sale.kept interim *ℤ value.den → HasValue sale.setting m value
  value-of_wins value positive worth =
      let s = sale.setting in
      let d = interim.den in
      let f = pos (total_weight a.weights) in
      *ℤ_cancel d (value.num *ℤ (m.den *ℤ total_of s)) (mechanism_worth s m *ℤ value.den) (some d positive)
      (ap (λ z. d *ℤ (value.num *ℤ (m.den *ℤ z))) (sale-total a sale is ∙ total_of-general a shaped.one_each ∙ power-of_all a shaped.some_bidder)
      ∙ first d value.num m.den f (others a)
      ∙ ap (λ z. (m.den *ℤ others a) *ℤ z) worth
      ∙ second (m.den *ℤ others a) (worth_with a sale.kept interim) value.den
      ∙ ap (λ z. z *ℤ value.den) (sym worth-of_wins)
      ∙ third d (mechanism_worth s m) value.den)
    where
      some : (z : ℤ) → pos 1 ≤ℤ z → pos 0 <ℤ z
      some z l = omega (arith, ints)

      first : (d x m f o : ℤ) → d *ℤ (x *ℤ (m *ℤ (f *ℤ o))) ≡ (m *ℤ o) *ℤ (x *ℤ (f *ℤ d))
      first d x m f o = simp ring

      second : (c w e : ℤ) → c *ℤ (w *ℤ e) ≡ (c *ℤ w) *ℤ e
      second c w e = simp ring

      third : (d w e : ℤ) → (d *ℤ w) *ℤ e ≡ d *ℤ (w *ℤ e)
      third d w e = simp ring

-- ---- one item

pub value-of_odds : (a : SymmetricAuction) (m : Mechanism) (interim : Interim) (value : Frac) → IsAuction a → pos 1 ≤ℤ interim.den → IsMechanism (general_of a) m
    → HasOdds a m interim.den interim.odds → HasPays a m interim.den interim.pays → HasWorth a interim value → HasValue (general_of a) m value
value-of_odds a m interim value shaped positive mechanism odds pays =
    value-of_wins a (item_sale a) m interim shaped (item-sale a) mechanism (odds-as a m interim.den interim.odds odds) (pays-as a m interim.den interim.pays pays) value positive
