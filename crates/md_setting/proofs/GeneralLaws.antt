-- The general setting of an auction: its sizes, weights, utilities and values. Nothing above opens the setting.
use Rattle.std.proofs.Common.{◌≡◌, ◌≢◌, ℕ, zero, suc, ◌+◌, ◌*◌, ◌^◌, ◌<◌, pos, ◌*ℤ◌, true, false, List, [], ◌∷◌, map, length, get_or, remove, refl, sym, ap, ap₂, ◌∙◌, arith, eq-eqb, ne_eqb, slice_index, if◌then◌else◌, ◌==◌}
use Rattle.std.specs.Prelude.{◌+ℤ◌, replicate}
use Rattle.std.proofs.lemmas.List.{length-map, get_or-map}
use Rattle.std.proofs.Math.Nat.{pow-zero, pow-suc}
use Rattle.std.proofs.Math.IntN.{pos-*ℤ-pos}
use Rattle.md_math.specs.Lists.{number_at}
use Rattle.md_math.specs.Products.{product_by}
use Rattle.md_math.specs.Sums.{sum_to}
use Rattle.md_math.proofs.Builders.{length-list_to, get_or-list_to}
use Rattle.md_math.proofs.ProductLaws.{pos-sum_by, pos-product_by}
use Rattle.md_math.proofs.Ring.{linear, *ℤ-zero}
use Rattle.md_math.proofs.SumLaws.{sum_to-same, sum_to-zero, sum_to-single}
use Rattle.md_math.proofs.TotalLaws.{total_by-places}
use Rattle.md_num.specs.WholeText.{text_of}
use Rattle.md_space.specs.Profiles.{rank_of}
use Rattle.md_setting.specs.declared.kinds.Truth.TheVariants.{Bayes}
use Rattle.md_setting.specs.declared.kinds.Rational.TheVariants.{Interim}
use Rattle.md_setting.specs.Setting.{Agent}
use Rattle.md_setting.specs.Meaning.{nobody, agent_at, agent_count, outcome_count, sizes_of, type_weights, weight_of, total_of, marginal_of, utilities_by, utility_of, outside_of, value_of}
use Rattle.md_setting.specs.Auction.{SymmetricAuction, value_count, total_weight}
use Rattle.md_setting.specs.General.{bidder_utilities, bidder_of, bidders_from, general_of}
use Rattle.md_setting.proofs.IndependentLaws.{types_of, whole_of, wholes, total-type_weights, given-type_weights}

-- ---- what the setting asks for

pub general-agents : (a : SymmetricAuction) → (general_of a).agents ≡ bidders_from a 0 a.bidders
unfolding general_of
general-agents a = refl

pub general-truth : (a : SymmetricAuction) → (general_of a).truth ≡ Bayes
unfolding general_of
general-truth a = refl

pub general-rational : (a : SymmetricAuction) → (general_of a).rational ≡ Interim
unfolding general_of
general-rational a = refl

pub general-payments : (a : SymmetricAuction) → (general_of a).payments ≡ true
unfolding general_of
general-payments a = refl

pub general-no_deficit : (a : SymmetricAuction) → (general_of a).no_deficit ≡ false
unfolding general_of
general-no_deficit a = refl

pub general-revenue : (a : SymmetricAuction) → (general_of a).revenue ≡ a.revenue
unfolding general_of
general-revenue a = refl

-- ---- sizes

length-bidders_from : (a : SymmetricAuction) (i n : ℕ) → length (bidders_from a i n) ≡ n
length-bidders_from a i zero = refl
length-bidders_from a i (suc n) = ap suc (length-bidders_from a (suc i) n)

get_or-bidders_from : (a : SymmetricAuction) (i n k : ℕ) → k < n → get_or (bidders_from a i n) k nobody ≡ bidder_of a (i + k)
get_or-bidders_from a i zero k h = absurd (omega arith)
get_or-bidders_from a i (suc n) zero h = ap (bidder_of a) (let e : i ≡ i + zero = omega arith in e)
get_or-bidders_from a i (suc n) (suc k) h = get_or-bidders_from a (suc i) n k (omega arith) ∙ ap (bidder_of a) (let e : suc i + k ≡ i + suc k = omega arith in e)

types_of-bidders_from : (a : SymmetricAuction) (i n : ℕ) → types_of (bidders_from a i n) ≡ replicate n (value_count a)
types_of-bidders_from a i zero = refl
types_of-bidders_from a i (suc n) = ap₂ (λ x xs. x ∷ xs) (length-map a.values _) (types_of-bidders_from a (suc i) n)

pub agent_count-general : (a : SymmetricAuction) → agent_count (general_of a) ≡ a.bidders
unfolding general_of
agent_count-general a = length-bidders_from a 0 a.bidders

pub outcome_count-general : (a : SymmetricAuction) → outcome_count (general_of a) ≡ a.bidders + 1
unfolding general_of
outcome_count-general a = omega (arith, length-list_to a.bidders (λ i. text_of (pos (i + 1))))

pub sizes_of-general : (a : SymmetricAuction) → sizes_of (general_of a) ≡ replicate a.bidders (value_count a)
unfolding general_of
sizes_of-general a = types_of-bidders_from a 0 a.bidders

pub agent_at-general : (a : SymmetricAuction) (i : ℕ) → i < a.bidders → agent_at (general_of a) i ≡ bidder_of a i
unfolding general_of
agent_at-general a i h = get_or-bidders_from a 0 a.bidders i h ∙ ap (bidder_of a) (let e : 0 + i ≡ i = omega arith in e)

-- ---- weights

number_at-pos : (xs : List ℕ) (k : ℕ) → number_at (map pos xs) k ≡ pos (slice_index xs k)
number_at-pos [] k = refl
number_at-pos (x ∷ xs) zero = refl
number_at-pos (x ∷ xs) (suc k) = number_at-pos xs k

whole-bidder : (a : SymmetricAuction) (i : ℕ) → length a.weights ≡ value_count a → whole_of (bidder_of a i) ≡ pos (total_weight a.weights)
whole-bidder a i e =
    ap (λ n. sum_to n (number_at (map pos a.weights))) (length-map a.values _ ∙ sym e)
    ∙ sum_to-same (length a.weights) (number_at (map pos a.weights)) (λ k. pos (slice_index a.weights k)) (λ k b. number_at-pos a.weights k)
    ∙ sym (total_by-places pos a.weights 0)
    ∙ sym (pos-sum_by (λ weight. weight) a.weights)

power-more : (total n : ℕ) → pos total *ℤ pos (total ^ n) ≡ pos (total ^ suc n)
power-more total n = pos-*ℤ-pos total (total ^ n) ∙ ap pos (omega (arith, pow-suc total n))

wholes-bidders : (a : SymmetricAuction) (i n : ℕ) → length a.weights ≡ value_count a → wholes (bidders_from a i n) ≡ pos (total_weight a.weights ^ n)
wholes-bidders a i zero e = ap pos (sym (pow-zero (total_weight a.weights)))
wholes-bidders a i (suc n) e = ap₂ (λ x y. x *ℤ y) (whole-bidder a i e) (wholes-bidders a (suc i) n e) ∙ power-more (total_weight a.weights) n

wholes-others : (a : SymmetricAuction) (i n k : ℕ) → length a.weights ≡ value_count a → k < suc n → wholes (remove (bidders_from a i (suc n)) k) ≡ pos (total_weight a.weights ^ n)
wholes-others a i n zero e h = wholes-bidders a (suc i) n e
wholes-others a i zero (suc k) e h = absurd (omega arith)
wholes-others a i (suc n) (suc k) e h = ap₂ (λ x y. x *ℤ y) (whole-bidder a i e) (wholes-others a (suc i) n k e (omega arith)) ∙ power-more (total_weight a.weights) n

-- the weight of a profile is the product of the weights of its values
type_weights-bidders : (a : SymmetricAuction) (i : ℕ) (t : List ℕ) → type_weights (bidders_from a i (length t)) t ≡ pos (product_by (slice_index a.weights) t)
type_weights-bidders a i [] = refl
type_weights-bidders a i (v ∷ t) =
    ap₂ (λ x y. x *ℤ y) (number_at-pos a.weights v) (type_weights-bidders a (suc i) t) ∙ sym (pos-product_by (slice_index a.weights) v t)

weight_of-bidders : (a : SymmetricAuction) (t : List ℕ) → weight_of (general_of a) t ≡ type_weights (bidders_from a 0 a.bidders) t
unfolding general_of
weight_of-bidders a t = refl

pub weight_of-general : (a : SymmetricAuction) (t : List ℕ) → length t ≡ a.bidders → weight_of (general_of a) t ≡ pos (product_by (slice_index a.weights) t)
weight_of-general a t e = weight_of-bidders a t ∙ ap (λ n. type_weights (bidders_from a 0 n) t) (sym e) ∙ type_weights-bidders a 0 t

pub total_of-general : (a : SymmetricAuction) → length a.weights ≡ value_count a → total_of (general_of a) ≡ pos (total_weight a.weights ^ a.bidders)
unfolding general_of
total_of-general a e = total-type_weights (bidders_from a 0 a.bidders) ∙ wholes-bidders a 0 a.bidders e

-- the weight of a bidder's value: that of the value times what the others weigh
pub marginal_of-general : (a : SymmetricAuction) (n i v : ℕ) → length a.weights ≡ value_count a → a.bidders ≡ suc n → i < a.bidders → v < value_count a
    → marginal_of (general_of a) i v ≡ pos (slice_index a.weights v * total_weight a.weights ^ n)
unfolding general_of
marginal_of-general a n i v e count h k =
    let bidder : get_or (bidders_from a 0 a.bidders) i nobody ≡ bidder_of a (0 + i) = get_or-bidders_from a 0 a.bidders i h in
    let types : v < length (get_or (bidders_from a 0 a.bidders) i nobody).types = omega (arith, ap (λ (b : Agent). length b.types) bidder, length-map a.values text_of, k) in
    given-type_weights (bidders_from a 0 a.bidders) i v (omega (arith, length-bidders_from a 0 a.bidders)) types
    ∙ ap₂ (λ x y. x *ℤ y) (ap (λ (b : Agent). number_at b.weights v) bidder ∙ number_at-pos a.weights v)
    (ap (λ m. wholes (remove (bidders_from a 0 m) i)) count ∙ wholes-others a 0 n i e (omega arith))
    ∙ pos-*ℤ-pos (slice_index a.weights v) (total_weight a.weights ^ n)

-- ---- utilities

pub utility_of-general : (a : SymmetricAuction) (i : ℕ) (t : List ℕ) (o : ℕ) → i < a.bidders → slice_index t i < value_count a → o < a.bidders + 1
    → utility_of (general_of a) i t o ≡ (if o == i + 1 then number_at a.values (slice_index t i) else pos 0)
utility_of-general a i t o h k l =
    ap (λ (b : Agent). number_at (utilities_by b.at b.utility (rank_of (sizes_of (general_of a)) t) (slice_index t i)) o) (agent_at-general a i h)
    ∙ ap (λ row. number_at row o) (get_or-map (bidder_utilities (a.bidders + 1) (i + 1)) a.values (slice_index t i) (pos 0) [] k)
    ∙ get_or-list_to (a.bidders + 1) (λ o. if o == i + 1 then number_at a.values (slice_index t i) else pos 0) o (pos 0) l

pub own_utility-general : (a : SymmetricAuction) (i : ℕ) (t : List ℕ) → i < a.bidders → slice_index t i < value_count a
    → utility_of (general_of a) i t (i + 1) ≡ number_at a.values (slice_index t i)
own_utility-general a i t h k = utility_of-general a i t (i + 1) h k (omega arith) ∙ ap (λ b. if b then number_at a.values (slice_index t i) else pos 0) (eq-eqb (i + 1) (i + 1) refl)

pub other_utility-general : (a : SymmetricAuction) (i : ℕ) (t : List ℕ) (o : ℕ) → i < a.bidders → slice_index t i < value_count a → o < a.bidders + 1 → o ≢ i + 1
    → utility_of (general_of a) i t o ≡ pos 0
other_utility-general a i t o h k l d = utility_of-general a i t o h k l ∙ ap (λ b. if b then number_at a.values (slice_index t i) else pos 0) (ne_eqb o (i + 1) d)

zeros : (n k : ℕ) → number_at (replicate n (pos 0)) k ≡ pos 0
zeros zero k = refl
zeros (suc n) zero = refl
zeros (suc n) (suc k) = zeros n k

pub outside_of-general : (a : SymmetricAuction) (i v : ℕ) → i < a.bidders → outside_of (general_of a) i v ≡ pos 0
outside_of-general a i v h = ap (λ (b : Agent). number_at b.outside v) (agent_at-general a i h) ∙ zeros (value_count a) v

-- ---- what outcomes are worth to the designer

-- each bidder has a value
pub record HasValues (a : SymmetricAuction) (t : List ℕ) : Type 0 where
  pub value : (i : ℕ) → i < a.bidders → slice_index t i < value_count a

values-general : (a : SymmetricAuction) (o : ℕ) → number_at (general_of a).values o ≡ number_at (a.keep ∷ replicate a.bidders (pos 0)) o
unfolding general_of
values-general a o = refl

pub general-welfare : (a : SymmetricAuction) → (general_of a).welfare ≡ a.welfare
unfolding general_of
general-welfare a = refl

outcome_value : (a : SymmetricAuction) (t : List ℕ) (o : ℕ) → value_of (general_of a) t o ≡ number_at (a.keep ∷ replicate a.bidders (pos 0)) o +ℤ a.welfare *ℤ sum_to a.bidders (λ i. utility_of (general_of a) i t o)
outcome_value a t o = ap₂ (λ x y. x +ℤ y) (values-general a o) (ap₂ (λ w n. w *ℤ sum_to n (λ i. utility_of (general_of a) i t o)) (general-welfare a) (agent_count-general a))

pub value_of-keep : (a : SymmetricAuction) (t : List ℕ) → HasValues a t → value_of (general_of a) t 0 ≡ a.keep
value_of-keep a t h =
    let none : sum_to a.bidders (λ i. utility_of (general_of a) i t 0) ≡ pos 0 =
    sum_to-zero a.bidders (λ i. utility_of (general_of a) i t 0) (λ i b. other_utility-general a i t 0 b (h.value i b) (omega arith) (λ e. omega arith)) in
    outcome_value a t 0 ∙ ap (λ z. a.keep +ℤ a.welfare *ℤ z) none ∙ (let e : a.welfare *ℤ pos 0 ≡ pos 0 = *ℤ-zero a.welfare in omega (arith, linear))

pub value_of-bidder : (a : SymmetricAuction) (t : List ℕ) (i : ℕ) → HasValues a t → i < a.bidders → value_of (general_of a) t (i + 1) ≡ a.welfare *ℤ number_at a.values (slice_index t i)
value_of-bidder a t i h k =
    let one : sum_to a.bidders (λ j. utility_of (general_of a) j t (i + 1)) ≡ number_at a.values (slice_index t i) =
    sum_to-single a.bidders i (λ j. utility_of (general_of a) j t (i + 1)) k (λ j b d. other_utility-general a j t (i + 1) b (h.value j b) (omega arith) (λ e. d (omega arith)))
    ∙ own_utility-general a i t k (h.value i k) in
    let none : number_at (a.keep ∷ replicate a.bidders (pos 0)) (i + 1) ≡ pos 0 = ap (number_at (a.keep ∷ replicate a.bidders (pos 0))) (let e : i + 1 ≡ suc i = omega arith in e) ∙ zeros a.bidders i in
    outcome_value a t (i + 1) ∙ ap₂ (λ x y. x +ℤ a.welfare *ℤ y) none one ∙ omega (arith, linear)
