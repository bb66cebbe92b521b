-- A list whose levels are at least the gains contributes at least as much to an objective as any mechanism with honest bidders.
use Rattle.std.proofs.Common.{◌≡◌, ℕ, suc, ◌<◌, ℤ, pos, ◌+ℤ◌, ◌-ℤ◌, ◌*ℤ◌, ◌≤ℤ◌, ◌<ℤ◌, List, length, get_or, sym, ap, ◌∙◌, subst, arith}
use Rattle.std.specs.Prelude.{slice_index}
use Rattle.md_math.specs.Sums.{sum_to, total_by}
use Rattle.md_math.proofs.Order.{*ℤ-le, le_from_*ℤ, le_from_lt, ≤ℤ_trans}
use Rattle.md_math.proofs.Ring.{linear, ring, *ℤ_left_comm}
use Rattle.md_math.proofs.SumLaws.{sum_to-same, sum_to-+ℤ, sum_to-*ℤ, sum_to-le}
use Rattle.md_math.proofs.TotalLaws.{total_by-+ℤ, total_by-*ℤ, total_by-le, total_by-sum_to}
use Rattle.md_space.specs.AllProfiles.{profiles_of}
use Rattle.md_space.specs.Profiles.{IsProfile}
use Rattle.md_space.proofs.InOrder.{All-profiles_of}
use Rattle.md_space.proofs.TypeSums.{total-same}
use Rattle.md_list.specs.Ranks.{Rank, place_of}
use Rattle.md_list_laws.proofs.Bidders.{IsHonest, IsListed, adds, by_level, bidder-bound, bidder-reached, no-excess}
use Rattle.md_list_laws.proofs.Interim.{AreApart}
use Rattle.md_list_laws.proofs.Levels.{gain_by}
use Rattle.md_list_laws.proofs.Tails.{IsTail}

-- bidders by groups, with values and weights; `from` is the weight of a value and of all above it
pub record IsMarket (sizes : List ℕ) (weight : List ℕ → ℤ) (member : ℕ → ℕ) (values weights from : ℕ → ℕ → ℤ) : Type 0 where
  pub apart : AreApart sizes weight (λ i. weights (member i))
  pub ascends : (i v : ℕ) → i < length sizes → suc v < slice_index sizes i → values (member i) v <ℤ values (member i) (suc v)
  pub ends : (i : ℕ) → i < length sizes → from (member i) (slice_index sizes i) ≡ pos 0
  pub weights_are : (k v : ℕ) → weights k v ≡ from k v -ℤ from k (suc v)

-- what all bidders contribute to an objective over all profiles
abbrev pub score : List ℕ → (List ℕ → ℤ) → (ℕ → ℕ) → (ℕ → ℕ → ℤ) → ℤ → (ℕ → List ℕ → ℤ) → (ℕ → List ℕ → ℤ) → ℤ
score sizes weight member c r x p =
    total_by (λ t. weight t *ℤ (sum_to (length sizes) (λ i. c (member i) (slice_index t i) *ℤ x i t) +ℤ r *ℤ sum_to (length sizes) (λ i. p i t))) (profiles_of sizes)

pub score-by_bidders : (sizes : List ℕ) (weight : List ℕ → ℤ) (member : ℕ → ℕ) (c : ℕ → ℕ → ℤ) (r : ℤ) (x p : ℕ → List ℕ → ℤ)
    → score sizes weight member c r x p ≡ sum_to (length sizes) (λ i. adds sizes weight i (x i) (p i) (c (member i)) r)
score-by_bidders sizes weight member c r x p =
    let n = length sizes in
    total-same sizes _ (λ t. sum_to n (λ i. weight t *ℤ (c (member i) (slice_index t i) *ℤ x i t +ℤ r *ℤ p i t)))
    (λ t q.
    ap (λ z. weight t *ℤ z)
    (ap (λ z. sum_to n (λ i. c (member i) (slice_index t i) *ℤ x i t) +ℤ z) (sym (sum_to-*ℤ n r (λ i. p i t)))
    ∙ sym (sum_to-+ℤ n (λ i. c (member i) (slice_index t i) *ℤ x i t) (λ i. r *ℤ p i t)))
    ∙ sym (sum_to-*ℤ n (weight t) (λ i. c (member i) (slice_index t i) *ℤ x i t +ℤ r *ℤ p i t)))
    ∙ total_by-sum_to n (λ t i. weight t *ℤ (c (member i) (slice_index t i) *ℤ x i t +ℤ r *ℤ p i t)) (profiles_of sizes)

-- what bidders get over all profiles, weighted by levels
abbrev leveled : List ℕ → (List ℕ → ℤ) → (ℕ → ℕ → ℤ) → (ℕ → List ℕ → ℤ) → ℤ
leveled sizes weight level x = total_by (λ t. weight t *ℤ sum_to (length sizes) (λ i. level i (slice_index t i) *ℤ x i t)) (profiles_of sizes)

leveled-by_bidders : (sizes : List ℕ) (weight : List ℕ → ℤ) (level : ℕ → ℕ → ℤ) (x : ℕ → List ℕ → ℤ) → leveled sizes weight level x ≡ sum_to (length sizes) (λ i. by_level sizes weight i (x i) (level i))
leveled-by_bidders sizes weight level x =
    let n = length sizes in
    total-same sizes _ (λ t. sum_to n (λ i. weight t *ℤ (level i (slice_index t i) *ℤ x i t))) (λ t q. sym (sum_to-*ℤ n (weight t) (λ i. level i (slice_index t i) *ℤ x i t)))
    ∙ total_by-sum_to n (λ t i. weight t *ℤ (level i (slice_index t i) *ℤ x i t)) (profiles_of sizes)

-- if at each profile x gets at most d times as much as y by levels, it does over all profiles
leveled-le : (sizes : List ℕ) (weight : List ℕ → ℤ) (level : ℕ → ℕ → ℤ) (d : ℤ) (x y : ℕ → List ℕ → ℤ) → ((t : List ℕ) → IsProfile sizes t → pos 0 ≤ℤ weight t)
    → ((t : List ℕ) → IsProfile sizes t → sum_to (length sizes) (λ i. level i (slice_index t i) *ℤ x i t) ≤ℤ sum_to (length sizes) (λ i. level i (slice_index t i) *ℤ (d *ℤ y i t)))
    → leveled sizes weight level x ≤ℤ (d *ℤ leveled sizes weight level y)
leveled-le sizes weight level d x y nonneg less =
    subst (λ z. leveled sizes weight level x ≤ℤ z)
    (total-same sizes _ _ (λ t q. scaled t) ∙ total_by-*ℤ d (λ t. weight t *ℤ sum_to (length sizes) (λ i. level i (slice_index t i) *ℤ y i t)) (profiles_of sizes))
    (total_by-le (λ t. weight t *ℤ sum_to (length sizes) (λ i. level i (slice_index t i) *ℤ x i t)) (λ t. weight t *ℤ sum_to (length sizes) (λ i. level i (slice_index t i) *ℤ (d *ℤ y i t))) (profiles_of sizes)
    (λ k e l.
    let t = get_or (profiles_of sizes) k e in
    let q : IsProfile sizes t = All-profiles_of sizes k e l in
    *ℤ-le (weight t) _ _ (nonneg t q) (less t q)))
  where
    scaled : (t : List ℕ) → weight t *ℤ sum_to (length sizes) (λ i. level i (slice_index t i) *ℤ (d *ℤ y i t)) ≡ d *ℤ (weight t *ℤ sum_to (length sizes) (λ i. level i (slice_index t i) *ℤ y i t))
    scaled t =
        ap (λ z. weight t *ℤ z) (sum_to-same (length sizes) _ _ (λ i b. *ℤ_left_comm (level i (slice_index t i)) d (y i t)) ∙ sum_to-*ℤ (length sizes) d (λ i. level i (slice_index t i) *ℤ y i t))
        ∙ *ℤ_left_comm (weight t) d (sum_to (length sizes) (λ i. level i (slice_index t i) *ℤ y i t))

module _ (sizes : List ℕ) (weight : List ℕ → ℤ) (member : ℕ → ℕ) (values weights from : ℕ → ℕ → ℤ) (market : IsMarket sizes weight member values weights from)
    (c : ℕ → ℕ → ℤ) (r den : ℤ) (level : ℕ → ℤ) (ranks : List Rank)
    (tails : (i v : ℕ) → i < length sizes → v < slice_index sizes i → IsTail weights (λ k. gain_by (values k) (weights k) (from k) (c k) r) level den ranks (member i) (slice_index sizes i) v) where
  abbrev own_level : ℕ → ℕ → ℤ
  own_level i v = level (place_of ranks (member i) v)

  honest-score : (x p : ℕ → List ℕ → ℤ) → pos 0 ≤ℤ r → pos 0 ≤ℤ den → ((i : ℕ) → i < length sizes → IsHonest sizes weight i (values (member i)) (x i) (p i))
      → (den *ℤ score sizes weight member c r x p) ≤ℤ leveled sizes weight own_level x
  honest-score x p r_nonneg den_nonneg honest =
      subst (λ z. z ≤ℤ leveled sizes weight own_level x)
      (sum_to-*ℤ (length sizes) den (λ i. adds sizes weight i (x i) (p i) (c (member i)) r) ∙ ap (λ z. den *ℤ z) (sym (score-by_bidders sizes weight member c r x p)))
      (subst (λ z. sum_to (length sizes) (λ i. den *ℤ adds sizes weight i (x i) (p i) (c (member i)) r) ≤ℤ z) (sym (leveled-by_bidders sizes weight own_level x))
      (sum_to-le (length sizes) _ _
      (λ i b.
      bidder-bound sizes weight (λ j. weights (member j)) market.apart i b (values (member i)) (x i) (p i) (from (member i)) (c (member i)) (own_level i) r den (market.ends i b) (market.weights_are (member i)) r_nonneg den_nonneg
      (λ v l. market.ascends i v b l) (honest i b) (λ v l. (tails i v b l).nonneg))))

  listed-score : (y q : ℕ → List ℕ → ℤ) → ((i : ℕ) → i < length sizes → IsListed sizes i (values (member i)) (length ranks) (place_of ranks (member i)) (y i) (q i))
      → den *ℤ score sizes weight member c r y q ≡ leveled sizes weight own_level y
  listed-score y q listed =
      ap (λ z. den *ℤ z) (score-by_bidders sizes weight member c r y q)
      ∙ sym (sum_to-*ℤ (length sizes) den (λ i. adds sizes weight i (y i) (q i) (c (member i)) r))
      ∙ sum_to-same (length sizes) _ _
      (λ i b.
      bidder-reached sizes weight (λ j. weights (member j)) market.apart i b (values (member i)) (y i) (q i) (from (member i)) (c (member i)) r den level ranks (member i) (market.ends i b) (market.weights_are (member i)) (listed i b)
      (λ v l.
      no-excess sizes weight (λ j. weights (member j)) market.apart i b (values (member i)) (y i) (q i) weights (λ k. gain_by (values k) (weights k) (from k) (c k) r) level den ranks (member i) (slice_index sizes i) v (listed i b) (tails i v b l)))
      ∙ sym (leveled-by_bidders sizes weight own_level y)

  -- honest bidders that get x and pay p, over the denominator d, contribute no more than bidders under the list
  pub list-no_less : (x p y q : ℕ → List ℕ → ℤ) (d : ℤ) → pos 0 ≤ℤ r → pos 0 <ℤ den → ((i : ℕ) → i < length sizes → IsHonest sizes weight i (values (member i)) (x i) (p i))
      → ((i : ℕ) → i < length sizes → IsListed sizes i (values (member i)) (length ranks) (place_of ranks (member i)) (y i) (q i))
      → ((t : List ℕ) → IsProfile sizes t → sum_to (length sizes) (λ i. own_level i (slice_index t i) *ℤ x i t) ≤ℤ sum_to (length sizes) (λ i. own_level i (slice_index t i) *ℤ (d *ℤ y i t)))
      → score sizes weight member c r x p ≤ℤ (d *ℤ score sizes weight member c r y q)
  list-no_less x p y q d r_nonneg positive honest listed less =
      let mine = score sizes weight member c r y q in
      le_from_*ℤ den (score sizes weight member c r x p) (d *ℤ mine) positive
      (≤ℤ_trans (den *ℤ score sizes weight member c r x p) (leveled sizes weight own_level x) (den *ℤ (d *ℤ mine)) (honest-score x p r_nonneg (le_from_lt (pos 0) den positive) honest)
      (subst (λ z. leveled sizes weight own_level x ≤ℤ z) (ap (λ z. d *ℤ z) (sym (listed-score y q listed)) ∙ *ℤ_left_comm d den mine)
      (leveled-le sizes weight own_level d x y market.apart.nonneg less)))

-- ---- two objectives

-- one objective k times, and another one once
pub score-both : (sizes : List ℕ) (weight : List ℕ → ℤ) (member : ℕ → ℕ) (c e : ℕ → ℕ → ℤ) (r k : ℤ) (x p : ℕ → List ℕ → ℤ)
    → score sizes weight member (λ g v. k *ℤ c g v +ℤ e g v) (k *ℤ r) x p ≡ k *ℤ score sizes weight member c r x p +ℤ score sizes weight member e (pos 0) x p
score-both sizes weight member c e r k x p =
    let n = length sizes in
    let first = λ (t : List ℕ). weight t *ℤ (sum_to n (λ i. c (member i) (slice_index t i) *ℤ x i t) +ℤ r *ℤ sum_to n (λ i. p i t)) in
    let second = λ (t : List ℕ). weight t *ℤ (sum_to n (λ i. e (member i) (slice_index t i) *ℤ x i t) +ℤ pos 0 *ℤ sum_to n (λ i. p i t)) in
    total-same sizes _ (λ t. k *ℤ first t +ℤ second t)
    (λ t q.
    ap (λ z. weight t *ℤ (z +ℤ (k *ℤ r) *ℤ sum_to n (λ i. p i t)))
    (sum_to-same n _ _ (λ i b. one (c (member i) (slice_index t i)) (e (member i) (slice_index t i)) (x i t))
    ∙ sum_to-+ℤ n (λ i. k *ℤ (c (member i) (slice_index t i) *ℤ x i t)) (λ i. e (member i) (slice_index t i) *ℤ x i t)
    ∙ ap (λ z. z +ℤ sum_to n (λ i. e (member i) (slice_index t i) *ℤ x i t)) (sum_to-*ℤ n k (λ i. c (member i) (slice_index t i) *ℤ x i t)))
    ∙ all (weight t) (sum_to n (λ i. c (member i) (slice_index t i) *ℤ x i t)) (sum_to n (λ i. e (member i) (slice_index t i) *ℤ x i t)) (sum_to n (λ i. p i t)))
    ∙ total_by-+ℤ (λ t. k *ℤ first t) second (profiles_of sizes)
    ∙ ap (λ z. z +ℤ total_by second (profiles_of sizes)) (total_by-*ℤ k first (profiles_of sizes))
  where
    one : (c e x : ℤ) → (k *ℤ c +ℤ e) *ℤ x ≡ k *ℤ (c *ℤ x) +ℤ e *ℤ x
    one c e x = simp ring

    all : (w a b p : ℤ) → w *ℤ ((k *ℤ a +ℤ b) +ℤ (k *ℤ r) *ℤ p) ≡ k *ℤ (w *ℤ (a +ℤ r *ℤ p)) +ℤ w *ℤ (b +ℤ pos 0 *ℤ p)
    all w a b p = simp ring (omega (arith, linear))
