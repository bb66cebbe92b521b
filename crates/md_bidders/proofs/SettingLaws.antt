-- The general setting of an auction with groups: its sizes, weights, utilities and values. Nothing above opens the setting.
use Rattle.std.proofs.Common.{◌≡◌, ℕ, zero, suc, ◌<◌, ◌≤◌, ℤ, pos, ◌+ℤ◌, ◌-ℤ◌, ◌*ℤ◌, ◌≤ℤ◌, true, false, List, [], ◌∷◌, ◌++◌, map, length, replicate, refl, sym, ap, ap₂, subst, ◌∙◌, arith}
use Rattle.std.specs.Prelude.{slice_index}
use Rattle.std.proofs.lemmas.Int.{ints}
use Rattle.std.proofs.lemmas.List.{length-map, get_or-map}
use lib.IntN.{*ℤ_comm}
use Rattle.md_math.specs.Lists.{number_at, list_to}
use Rattle.md_math.specs.Sums.{sum_to}
use Rattle.md_math.proofs.Builders.{length-list_to, get_or-list_to, list_to-same, map-list_to}
use Rattle.md_math.proofs.Ring.{linear, ring, *ℤ_assoc}
use Rattle.md_math.proofs.SumLaws.{sum_to-same, sum_to-+ℤ, sum_to-sub, sum_to-*ℤ}
use Rattle.md_space.specs.Profiles.{IsProfile, rank_of}
use Rattle.md_space.proofs.Ranks.{length-IsProfile, report-below}
use Rattle.md_setting.specs.declared.kinds.Truth.TheVariants.{Bayes}
use Rattle.md_setting.specs.declared.kinds.Rational.TheVariants.{Interim}
use Rattle.md_setting.specs.Setting.{Agent}
use Rattle.md_setting.specs.Meaning.{nobody, agent_at, agent_count, outcome_count, sizes_of, type_weights, weight_of, utilities_by, utility_of, outside_of, welfare_of, value_of}
use Rattle.md_bidders.specs.Products.{product_below}
use Rattle.md_setting.specs.Grouped.{GroupedAuction, bidder_count, group_with, value_count, value_at, weight_at}
use Rattle.md_bidders.specs.Assignments.{assignments, assignment_at, amount_in}
use Rattle.md_bidders.specs.Setting.{bidder_utilities, bidder_of, all_units, own_worth, way_name, setting_of}
use Rattle.md_bidders.proofs.ProductLaws.{product_below-same, product_below-nonneg}

-- ---- what the setting asks for

pub setting-truth : (a : GroupedAuction) → (setting_of a).truth ≡ Bayes
unfolding setting_of
setting-truth a = refl

pub setting-rational : (a : GroupedAuction) → (setting_of a).rational ≡ Interim
unfolding setting_of
setting-rational a = refl

pub setting-payments : (a : GroupedAuction) → (setting_of a).payments ≡ true
unfolding setting_of
setting-payments a = refl

pub setting-no_deficit : (a : GroupedAuction) → (setting_of a).no_deficit ≡ false
unfolding setting_of
setting-no_deficit a = refl

pub setting-revenue : (a : GroupedAuction) → (setting_of a).revenue ≡ a.revenue
unfolding setting_of
setting-revenue a = refl

pub setting-welfare : (a : GroupedAuction) → (setting_of a).welfare ≡ a.welfare
unfolding setting_of
setting-welfare a = refl

-- ---- sizes

pub agent_count-setting : (a : GroupedAuction) → agent_count (setting_of a) ≡ bidder_count a
unfolding setting_of
agent_count-setting a = length-list_to (bidder_count a) (bidder_of a)

pub outcome_count-setting : (a : GroupedAuction) → outcome_count (setting_of a) ≡ length (assignments a)
unfolding setting_of
outcome_count-setting a = length-map (assignments a) way_name

pub sizes_of-setting : (a : GroupedAuction) → sizes_of (setting_of a) ≡ list_to (bidder_count a) (value_count a)
unfolding setting_of
sizes_of-setting a =
    map-list_to (λ (b : Agent). length b.types) (bidder_count a) (bidder_of a)
    ∙ list_to-same (bidder_count a) (λ i. length (bidder_of a i).types) (value_count a) (λ i b. length-map (group_with a i).values _)

pub size_at-setting : (a : GroupedAuction) (i : ℕ) → i < bidder_count a → slice_index (sizes_of (setting_of a)) i ≡ value_count a i
size_at-setting a i b = ap (λ sizes. slice_index sizes i) (sizes_of-setting a) ∙ get_or-list_to (bidder_count a) (value_count a) i 0 b

agent_at-setting : (a : GroupedAuction) (i : ℕ) → i < bidder_count a → agent_at (setting_of a) i ≡ bidder_of a i
unfolding setting_of
agent_at-setting a i b = get_or-list_to (bidder_count a) (bidder_of a) i nobody b

-- a profile gives each bidder one of its values
pub record IsReport (a : GroupedAuction) (t : List ℕ) : Type 0 where
  pub long : length t ≡ bidder_count a
  pub below : (i : ℕ) → i < bidder_count a → slice_index t i < value_count a i

pub is-report : (a : GroupedAuction) (t : List ℕ) → IsProfile (sizes_of (setting_of a)) t → IsReport a t
is-report a t p =
    let count : length (sizes_of (setting_of a)) ≡ bidder_count a = ap length (sizes_of-setting a) ∙ length-list_to (bidder_count a) (value_count a) in
    record {
      long = length-IsProfile (sizes_of (setting_of a)) t p ∙ count;
      below = λ i b. subst (λ n. slice_index t i < n) (size_at-setting a i b) (report-below (sizes_of (setting_of a)) t i p (omega (arith, b, count)));
    }

-- ---- weights

number_at-pos : (xs : List ℕ) (k : ℕ) → number_at (map pos xs) k ≡ pos (slice_index xs k)
number_at-pos [] k = refl
number_at-pos (x ∷ xs) zero = refl
number_at-pos (x ∷ xs) (suc k) = number_at-pos xs k

type_weights-push : (front : List Agent) (last : Agent) (t : List ℕ) → length front < length t
    → type_weights (front ++ last ∷ []) t ≡ type_weights front t *ℤ number_at last.weights (slice_index t (length front))
type_weights-push [] last [] h = absurd (omega (arith, h))
type_weights-push [] last (v ∷ t) h = *ℤ_comm (number_at last.weights v) (pos 1)
type_weights-push (agent ∷ front) last [] h = absurd (omega (arith, h))
type_weights-push (agent ∷ front) last (v ∷ t) h =
    ap (λ z. number_at agent.weights v *ℤ z) (type_weights-push front last t (omega (arith, h)))
    ∙ sym (*ℤ_assoc (number_at agent.weights v) (type_weights front t) (number_at last.weights (slice_index t (length front))))

type_weights-list_to : (n : ℕ) (f : ℕ → Agent) (t : List ℕ) → n ≤ length t → type_weights (list_to n f) t ≡ product_below n (λ i. number_at (f i).weights (slice_index t i))
type_weights-list_to zero f t h = refl
type_weights-list_to (suc n) f t h =
    type_weights-push (list_to n f) (f n) t (omega (arith, h, length-list_to n f))
    ∙ ap₂ (λ z k. z *ℤ number_at (f n).weights (slice_index t k)) (type_weights-list_to n f t (omega (arith, h))) (length-list_to n f)

-- a profile weighs the product of the weights of its values
pub weight_of-setting : (a : GroupedAuction) (t : List ℕ) → IsProfile (sizes_of (setting_of a)) t → weight_of (setting_of a) t ≡ product_below (bidder_count a) (λ i. weight_at a i (slice_index t i))
unfolding setting_of
weight_of-setting a t p =
    let is = is-report a t p in
    type_weights-list_to (bidder_count a) (bidder_of a) t (omega (arith, is.long))
    ∙ product_below-same (bidder_count a) (λ i. number_at (bidder_of a i).weights (slice_index t i)) (λ i. weight_at a i (slice_index t i)) (λ i b. number_at-pos (group_with a i).weights (slice_index t i))

pub weight-nonneg : (a : GroupedAuction) (t : List ℕ) → IsProfile (sizes_of (setting_of a)) t → pos 0 ≤ℤ weight_of (setting_of a) t
weight-nonneg a t p =
    subst (λ z. pos 0 ≤ℤ z) (sym (weight_of-setting a t p)) (product_below-nonneg (bidder_count a) (λ i. weight_at a i (slice_index t i)) (λ i b. nonneg (slice_index (group_with a i).weights (slice_index t i))))
  where
    nonneg : (m : ℕ) → pos 0 ≤ℤ pos m
    nonneg m = omega (arith, ints)

-- ---- utilities

-- a bidder has its value for each unit that it gets
pub utility_of-setting : (a : GroupedAuction) (i : ℕ) (t : List ℕ) (o : ℕ) → i < bidder_count a → slice_index t i < value_count a i → o < length (assignments a)
    → utility_of (setting_of a) i t o ≡ value_at a i (slice_index t i) *ℤ pos (amount_in a (assignment_at a o) i)
utility_of-setting a i t o b l c =
    ap (λ (agent : Agent). number_at (utilities_by agent.at agent.utility (rank_of (sizes_of (setting_of a)) t) (slice_index t i)) o) (agent_at-setting a i b)
    ∙ ap (λ row. number_at row o) (get_or-map (bidder_utilities a i) (group_with a i).values (slice_index t i) (pos 0) [] l)
    ∙ get_or-map (λ way. value_at a i (slice_index t i) *ℤ pos (amount_in a way i)) (assignments a) o [] (pos 0) c

zeros : (n k : ℕ) → number_at (replicate n (pos 0)) k ≡ pos 0
zeros zero k = refl
zeros (suc n) zero = refl
zeros (suc n) (suc k) = zeros n k

pub outside_of-setting : (a : GroupedAuction) (i v : ℕ) → i < bidder_count a → outside_of (setting_of a) i v ≡ pos 0
outside_of-setting a i v b = ap (λ (agent : Agent). number_at agent.outside v) (agent_at-setting a i b) ∙ zeros (value_count a i) v

-- ---- what outcomes are worth

-- what bidders have of a way to give slots
pub welfare_of-setting : (a : GroupedAuction) (t : List ℕ) (o : ℕ) → IsProfile (sizes_of (setting_of a)) t → o < length (assignments a)
    → welfare_of (setting_of a) t o ≡ sum_to (bidder_count a) (λ i. value_at a i (slice_index t i) *ℤ pos (amount_in a (assignment_at a o) i))
welfare_of-setting a t o p c =
    ap (λ n. sum_to n (λ i. utility_of (setting_of a) i t o)) (agent_count-setting a)
    ∙ sum_to-same (bidder_count a) _ _ (λ i b. utility_of-setting a i t o b ((is-report a t p).below i b) c)

values-setting : (a : GroupedAuction) (o : ℕ) → o < length (assignments a) → number_at (setting_of a).values o ≡ own_worth a (assignment_at a o)
unfolding setting_of
values-setting a o c = get_or-map (own_worth a) (assignments a) o [] (pos 0) c

-- all units kept, and what the designer has of each unit that a bidder gets, more than where it is kept
pub value_of-setting : (a : GroupedAuction) (t : List ℕ) (o : ℕ) → IsProfile (sizes_of (setting_of a)) t → o < length (assignments a)
    → value_of (setting_of a) t o
    ≡ a.keep *ℤ all_units a
    +ℤ sum_to (bidder_count a) (λ i. ((a.welfare *ℤ value_at a i (slice_index t i) +ℤ (group_with a i).worth) -ℤ a.keep) *ℤ pos (amount_in a (assignment_at a o) i))
value_of-setting a t o p c =
    let n = bidder_count a in
    let value = λ (i : ℕ). value_at a i (slice_index t i) in
    let worth = λ (i : ℕ). (group_with a i).worth in
    let amount = λ (i : ℕ). pos (amount_in a (assignment_at a o) i) in
    let more : sum_to n (λ i. ((a.welfare *ℤ value i +ℤ worth i) -ℤ a.keep) *ℤ amount i)
    ≡ (a.welfare *ℤ sum_to n (λ i. value i *ℤ amount i) +ℤ sum_to n (λ i. worth i *ℤ amount i)) -ℤ a.keep *ℤ sum_to n amount =
    sum_to-same n _ _ (λ i b. one a.welfare (value i) (worth i) a.keep (amount i))
    ∙ sum_to-sub n (λ i. a.welfare *ℤ (value i *ℤ amount i) +ℤ worth i *ℤ amount i) (λ i. a.keep *ℤ amount i)
    ∙ ap₂ (λ x y. x -ℤ y) (sum_to-+ℤ n (λ i. a.welfare *ℤ (value i *ℤ amount i)) (λ i. worth i *ℤ amount i)) (sum_to-*ℤ n a.keep amount)
    ∙ ap (λ z. (z +ℤ sum_to n (λ i. worth i *ℤ amount i)) -ℤ a.keep *ℤ sum_to n amount) (sum_to-*ℤ n a.welfare (λ i. value i *ℤ amount i)) in
    ap₂ (λ w z. number_at (setting_of a).values o +ℤ w *ℤ z) (setting-welfare a) (welfare_of-setting a t o p c)
    ∙ ap (λ z. z +ℤ a.welfare *ℤ sum_to n (λ i. value i *ℤ amount i)) (values-setting a o c)
    ∙ parts a.keep (all_units a) (sum_to n amount) (sum_to n (λ i. worth i *ℤ amount i)) (a.welfare *ℤ sum_to n (λ i. value i *ℤ amount i))
    ∙ ap (λ z. a.keep *ℤ all_units a +ℤ z) (sym more)
  where
    one : (w v g k x : ℤ) → ((w *ℤ v +ℤ g) -ℤ k) *ℤ x ≡ (w *ℤ (v *ℤ x) +ℤ g *ℤ x) -ℤ k *ℤ x
    one w v g k x = simp ring (omega (arith, linear))

    parts : (k u x g w : ℤ) → (g +ℤ k *ℤ (u -ℤ x)) +ℤ w ≡ k *ℤ u +ℤ ((w +ℤ g) -ℤ k *ℤ x)
    parts k u x g w = simp ring (omega (arith, linear))
