-- The weights of profiles and what they add to.
use Rattle.std.proofs.Common.{◌≡◌, ◌≢◌, ℕ, zero, suc, ◌+◌, ◌*◌, ◌^◌, ◌<◌, ◌≤◌, ℤ, pos, negsuc, ◌*ℤ◌, ◌≤ℤ◌, ◌<ℤ◌, unsigned_abs, Bool, true, false, not, List, [], ◌∷◌, length, get_or, drop, Option, None, Some, refl, sym, ap, ◌∙◌, subst, arith, add-one, slice_index, ◌==◌, if◌then◌else◌, nat_le, lit<, inl, inr, ne_eqb}
use Rattle.std.proofs.lemmas.Int.{ints}
use Rattle.std.proofs.lemmas.Bool.{eq-eqb}
use Rattle.std.proofs.lemmas.Bool.Decides.{nat_tests}
use Rattle.std.proofs.lemmas.Nat.{mul-le}
use Rattle.std.proofs.lemmas.List.{drop_all}
use Rattle.std.proofs.Math.Nat.{pow-suc, pow-le-pow_right}
use Rattle.std.proofs.Math.Dec.{eqb-suc-zero}
use Rattle.md_math.specs.Lists.{number_at}
use Rattle.md_math.specs.Sums.{sum_to}
use Rattle.md_math.specs.Sizes.{IsWithin}
use Rattle.md_math.proofs.SizeLaws.{IsWithin-*ℤ, IsWithin-from_bounds, IsWithin-high}
use Rattle.md_math.proofs.Ring.{*ℤ_assoc, *ℤ-one}
use Rattle.md_math.proofs.Order.{nonneg-*ℤ, lt_or_le, ≤ℤ_antisymm, chosen-nonneg}
use Rattle.md_math.proofs.SumLaws.{sum_to-positive, sum_to-nonneg, sum_to-at_least}
use Rattle.md_math.proofs.Prefixes.{sum_to-prefix}
use Rattle.md_space.specs.Profiles.{profile_count, profile_at}
use Rattle.md_space.proofs.InOrder.{total_by-profiles}
use Rattle.md_space.proofs.Ranks.{rank_of-profile_at}
use Rattle.md_setting.specs.Setting.{Agent, GeneralSetting}
use Rattle.md_setting.specs.Meaning.{nobody, sizes_of, type_weights, weight_by, weight_of, total_of, marginal_of}
use Rattle.md_setting.specs.Shaped.{IsWeight, IsSmall}
use Rattle.md_setting.specs.Refusals.{has_small_total}

weights-suc : (agents : List Agent) (t : List ℕ) (i : ℕ) → i < length agents → length t ≡ length agents →
    type_weights (drop i agents) (drop i t) ≡ number_at (get_or agents i nobody).weights (get_or t i 0) *ℤ type_weights (drop (suc i) agents) (drop (suc i) t)
weights-suc [] t i h l = absurd (omega arith)
weights-suc (agent ∷ agents) [] i h l = absurd (omega arith)
weights-suc (agent ∷ agents) (a ∷ t) zero h l = refl
weights-suc (agent ∷ agents) (a ∷ t) (suc i) h l = weights-suc agents t i (omega arith) (omega arith)

-- one agent more in a product of weights
pub weights-more : (agents : List Agent) (t : List ℕ) (i : ℕ) (v w : ℤ) → i < length agents → length t ≡ length agents →
    v *ℤ type_weights (drop i agents) (drop i t) ≡ type_weights agents t → w ≡ number_at (get_or agents i nobody).weights (get_or t i 0) →
    (v *ℤ w) *ℤ type_weights (drop (i + 1) agents) (drop (i + 1) t) ≡ type_weights agents t
weights-more agents t i v w h l e f =
    rw add-one
    (*ℤ_assoc v w (type_weights (drop (suc i) agents) (drop (suc i) t))
    ∙ ap (λ x. v *ℤ (x *ℤ type_weights (drop (suc i) agents) (drop (suc i) t))) f
    ∙ ap (λ x. v *ℤ x) (sym (weights-suc agents t i h l))
    ∙ e)

pub weights-end : (agents : List Agent) (t : List ℕ) (i : ℕ) (v : ℤ) → length agents ≤ i →
    v *ℤ type_weights (drop i agents) (drop i t) ≡ type_weights agents t → v ≡ type_weights agents t
weights-end agents t i v h e =
    sym (*ℤ-one v) ∙ ap (λ l. v *ℤ type_weights l (drop i t)) (sym (drop_all i agents h)) ∙ e

-- a product of up to six weights fits
pub weights_fit : (i : ℕ) (v w : ℤ) → i < 6 → IsWithin (1000000 ^ i) v → IsWithin 1000000 w → unsigned_abs v * unsigned_abs w < 2 ^ 126
weights_fit i v w h a b =
    let few : 1000000 ^ i ≤ 1000000 ^ 5 = pow-le-pow_right {n = 1000000} (lit< tt) {i = i} {j = 5} (omega arith) in
    let p : unsigned_abs v ≤ 1000000 ^ 5 = omega (arith, a.within, few) in
    omega (arith, mul-le (unsigned_abs v) (unsigned_abs w) (1000000 ^ 5) 1000000 p b.within)

pub weights_within : (i : ℕ) (v w : ℤ) → IsWithin (1000000 ^ i) v → IsWithin 1000000 w → IsWithin (1000000 ^ (i + 1)) (v *ℤ w)
weights_within i v w a b = rw (add-one, pow-suc) (IsWithin-*ℤ (1000000 ^ i) 1000000 v w a b)

pub weights_small : (i : ℕ) (v : ℤ) → i ≤ 6 → IsWithin (1000000 ^ i) v → unsigned_abs v ≤ 10 ^ 36
weights_small i v h a =
    let few : 1000000 ^ i ≤ 1000000 ^ 6 = pow-le-pow_right {n = 1000000} (lit< tt) {i = i} {j = 6} h in
    omega (arith, a.within, few)

pub type_weights-nonneg : (agents : List Agent) (t : List ℕ) → ((i a : ℕ) → IsWeight (number_at (get_or agents i nobody).weights a)) → pos 0 ≤ℤ type_weights agents t
type_weights-nonneg [] t h = omega (arith, ints)
type_weights-nonneg (agent ∷ agents) [] h = omega (arith, ints)
type_weights-nonneg (agent ∷ agents) (a ∷ t) h =
    nonneg-*ℤ (number_at agent.weights a) (type_weights agents t) (h 0 a).nonneg (type_weights-nonneg agents t (λ i b. h (suc i) b))

weight_by-nonneg : (prior : Option (List ℤ)) (agents : List Agent) (sizes t : List ℕ) →
    ((i a : ℕ) → IsWeight (number_at (get_or agents i nobody).weights a)) →
    ((p : List ℤ) → prior ≡ Some p → (r : ℕ) → IsWeight (number_at p r)) → pos 0 ≤ℤ weight_by prior agents sizes t
weight_by-nonneg None agents sizes t h k = type_weights-nonneg agents t h
weight_by-nonneg (Some p) agents sizes t h k = (k p refl _).nonneg

-- beside a prior the weight is listed
pub weight_of-prior : (s : GeneralSetting) (prior : List ℤ) (r : ℕ) → s.prior ≡ Some prior → r < profile_count (sizes_of s) →
    weight_of s (profile_at (sizes_of s) r) ≡ number_at prior r
weight_of-prior s prior r e h =
    ap (λ p. weight_by p s.agents (sizes_of s) (profile_at (sizes_of s) r)) e ∙ ap (number_at prior) (rank_of-profile_at (sizes_of s) r h)

pub weight_of-types : (s : GeneralSetting) (t : List ℕ) → s.prior ≡ None → weight_of s t ≡ type_weights s.agents t
weight_of-types s t e = ap (λ p. weight_by p s.agents (sizes_of s) t) e

pub weight_of-nonneg : (s : GeneralSetting) (t : List ℕ) → IsSmall s → pos 0 ≤ℤ weight_of s t
weight_of-nonneg s t h = weight_by-nonneg s.prior s.agents (sizes_of s) t h.weight h.prior

-- the weight at a rank, for one type of an agent only
abbrev pub weight_with : GeneralSetting → ℕ → ℕ → ℕ → ℤ
weight_with s i a r = if slice_index (profile_at (sizes_of s) r) i == a then weight_of s (profile_at (sizes_of s) r) else pos 0

pub weight_with-nonneg : (s : GeneralSetting) (i a r : ℕ) → IsSmall s → pos 0 ≤ℤ weight_with s i a r
weight_with-nonneg s i a r h = chosen-nonneg (slice_index (profile_at (sizes_of s) r) i == a) (weight_of s (profile_at (sizes_of s) r)) (weight_of-nonneg s _ h)

pub marginal-by_rank : (s : GeneralSetting) (i a : ℕ) → marginal_of s i a ≡ sum_to (profile_count (sizes_of s)) (weight_with s i a)
marginal-by_rank s i a = total_by-profiles (sizes_of s) (λ t. if slice_index t i == a then weight_of s t else pos 0)

pub total-by_rank : (s : GeneralSetting) → total_of s ≡ sum_to (profile_count (sizes_of s)) (λ r. weight_of s (profile_at (sizes_of s) r))
total-by_rank s = total_by-profiles (sizes_of s) (weight_of s)

some : (z : ℤ) → pos 0 <ℤ z → true ≡ not (unsigned_abs z == 0)
some (pos zero) h = absurd (omega (arith, ints))
some (pos (suc n)) h = rw (eqb-suc-zero n) refl
some (negsuc n) h = rw (eqb-suc-zero n) refl

pub marginal-some : (s : GeneralSetting) (i a r : ℕ) → IsSmall s → r < profile_count (sizes_of s) → slice_index (profile_at (sizes_of s) r) i ≡ a →
    pos 0 <ℤ weight_of s (profile_at (sizes_of s) r) → true ≡ not (unsigned_abs (marginal_of s i a) == 0)
marginal-some s i a r h l e p =
    let here : pos 0 <ℤ weight_with s i a r = rw (eq-eqb _ _ e) p in
    let all : pos 0 <ℤ marginal_of s i a =
    rw (marginal-by_rank s i a) (sum_to-positive (profile_count (sizes_of s)) r (weight_with s i a) l (λ j k. weight_with-nonneg s i a j h) here) in
    some (marginal_of s i a) all

pub marginal-none : (s : GeneralSetting) (i a n : ℕ) → n ≡ profile_count (sizes_of s) → sum_to n (weight_with s i a) ≡ pos 0 →
    false ≡ not (unsigned_abs (marginal_of s i a) == 0)
marginal-none s i a n e h = rw (marginal-by_rank s i a, ← e, h) refl

-- a profile with another type, or without a weight, adds nothing
pub weight_with-other : (s : GeneralSetting) (i a r : ℕ) → slice_index (profile_at (sizes_of s) r) i ≢ a → weight_with s i a r ≡ pos 0
weight_with-other s i a r h = rw (ne_eqb _ _ h) refl

pub weight_with-zero : (s : GeneralSetting) (i a r : ℕ) → IsSmall s → ¬ (pos 0 <ℤ weight_of s (profile_at (sizes_of s) r)) → weight_with s i a r ≡ pos 0
weight_with-zero s i a r h n =
    choose (slice_index (profile_at (sizes_of s) r) i == a) (weight_of s (profile_at (sizes_of s) r)) (weight_of-nonneg s _ h) n
  where
    choose : (b : Bool) (w : ℤ) → pos 0 ≤ℤ w → ¬ (pos 0 <ℤ w) → (if b then w else pos 0) ≡ pos 0
    choose true w l m = elim (lt_or_le (pos 0) w) [ inl p ↦ absurd (m p) | inr q ↦ ≤ℤ_antisymm w (pos 0) q l ]
    choose false w l m = refl

large : (z : ℤ) → pos 1000000 <ℤ z → nat_le (unsigned_abs z) 1000000 ≡ false
large (pos n) h = let l : 1000000 < n = omega (arith, ints) in grind (arith, nat_tests)
large (negsuc n) h = absurd (omega (arith, ints))

small : (z : ℤ) → IsWithin 1000000 z → nat_le (unsigned_abs z) 1000000 ≡ true
small z h = let l : unsigned_abs z ≤ 1000000 = h.within in grind (arith, nat_tests)

-- the weights up to a rank pass the limit
pub total-large : (s : GeneralSetting) (n : ℕ) (v : ℤ) → IsSmall s → n ≤ profile_count (sizes_of s) →
    v ≡ sum_to n (λ r. weight_of s (profile_at (sizes_of s) r)) → pos 1000000 <ℤ v → has_small_total s ≡ false
unfolding has_small_total
total-large s n v h l e p =
    let part : sum_to n (λ r. weight_of s (profile_at (sizes_of s) r)) ≤ℤ sum_to (profile_count (sizes_of s)) (λ r. weight_of s (profile_at (sizes_of s) r)) =
    sum_to-prefix (profile_count (sizes_of s)) n _ l (λ j k. weight_of-nonneg s _ h) in
    large (total_of s) (rw (total-by_rank s) (omega (arith, ints, e, part, p)))

pub total-small : (s : GeneralSetting) (n : ℕ) (v : ℤ) → n ≡ profile_count (sizes_of s) →
    v ≡ sum_to n (λ r. weight_of s (profile_at (sizes_of s) r)) → IsWithin 1000000 v → (has_small_total s ≡ true) × (v ≡ total_of s)
unfolding has_small_total
total-small s n v e f h =
    let same : v ≡ total_of s = rw (total-by_rank s, ← e) f in
    (small (total_of s) (subst (IsWithin 1000000) same h), same)

pub within_total : (z : ℤ) → nat_le (unsigned_abs z) 1000000 ≡ true → IsWithin 1000000 z
within_total z h = record { within = grind (arith, nat_tests) }

part-within : (w z : ℤ) → pos 0 ≤ℤ w → w ≤ℤ z → IsWithin 1000000 z → IsWithin 1000000 w
part-within w z p l h = IsWithin-from_bounds 1000000 w (omega (arith, ints)) (omega (arith, ints, IsWithin-high 1000000 z h))

-- each weight is within the total
pub weight_of-within : (s : GeneralSetting) (r : ℕ) → IsSmall s → has_small_total s ≡ true → r < profile_count (sizes_of s) →
    IsWithin 1000000 (weight_of s (profile_at (sizes_of s) r))
unfolding has_small_total
weight_of-within s r h t l =
    part-within _ (total_of s) (weight_of-nonneg s _ h)
    (rw (total-by_rank s) (sum_to-at_least (profile_count (sizes_of s)) r _ l (λ j k. weight_of-nonneg s _ h)))
    (within_total (total_of s) t)

pub total-nonneg : (s : GeneralSetting) → IsSmall s → pos 0 ≤ℤ total_of s
total-nonneg s h = rw (total-by_rank s) (sum_to-nonneg (profile_count (sizes_of s)) _ (λ j k. weight_of-nonneg s _ h))

pub marginal-nonneg : (s : GeneralSetting) (i a : ℕ) → IsSmall s → pos 0 ≤ℤ marginal_of s i a
marginal-nonneg s i a h = rw (marginal-by_rank s i a) (sum_to-nonneg (profile_count (sizes_of s)) _ (λ j k. weight_with-nonneg s i a j h))
