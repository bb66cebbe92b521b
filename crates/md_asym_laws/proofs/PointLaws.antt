-- What a point that meets the program of a sale with a cut for each pair alone says of its odds.
use Rattle.std.proofs.Common.{◌≡◌, ◌≢◌, ℕ, ◌<◌, ◌^◌, true, false, ℤ, pos, ◌*ℤ◌, ◌≤ℤ◌, ◌==◌, if◌then◌else◌, List, [], ◌∷◌, zero, suc, get_or, All, Some, refl, sym, ap, ◌∙◌, subst, arith, inl, inr}
use Rattle.std.specs.Prelude.{slice_get, slice_index}
use lib.IntN.{*ℤ_comm}
use Rattle.std.proofs.lemmas.Bool.{cases_eq}
use Rattle.std.proofs.lemmas.List.Elements.{All-head, All-tail}
use Rattle.std.proofs.lemmas.Nat.Bits.{bit_at-pow_same, bit_at-pow_other}
use Rattle.std.proofs.lemmas.Option.{none-some}
use Rattle.md_math.specs.Sets.{member}
use Rattle.md_math.proofs.BoundedTests.{true_or_false}
use Rattle.md_math.proofs.Order.{≤ℤ_trans, le_from_lt, le_from_same, *ℤ-le, le_from_*ℤ, chosen-nonneg}
use Rattle.md_math.proofs.SumLaws.{sum_to-single}
use Rattle.md_math.proofs.TotalLaws.{total_by-le}
use Rattle.md_space.specs.AllProfiles.{profiles_of}
use Rattle.md_space.specs.ByType.{where_type}
use Rattle.md_space.specs.Profiles.{IsProfile}
use Rattle.md_space.proofs.InOrder.{All-profiles_of}
use Rattle.md_space.proofs.Ranks.{report-below}
use Rattle.md_space.proofs.TypeSums.{where-here}
use Rattle.md_setting.specs.Setting.{GeneralSetting}
use Rattle.md_setting.specs.Meaning.{agent_count, sizes_of, weight_of}
use Rattle.md_setting.specs.Shaped.{IsShaped}
use Rattle.md_flow.proofs.AnyBelow.{any_below-place}
use Rattle.md_asym_sale.specs.Pairs.{pair_number, agent_of, kind_of}
use Rattle.md_asym_sale.specs.Sides.{has_some, right_of, demand_at, demands_in}
use Rattle.md_asym_sale.specs.Values.{pairs_of, marginal_at}
use Rattle.md_asym_sale.proofs.PairLaws.{agent-of, kind-of}
use Rattle.md_asym_sale.proofs.SaleLaws.{in-sizes}
use Rattle.md_asym_laws.specs.Points.{MeetsSale}
use Rattle.md_asym_laws.proofs.PairFacts.{marginal-positive}
use Rattle.md_asym_laws.proofs.RowLaws.{keeps-cuts}

-- ---- sets of one pair

single-here : (p : ℕ) → member (2 ^ p) p ≡ true
unfolding member
single-here p = rw (bit_at-pow_same p) refl

single-other : (p q : ℕ) → q ≢ p → member (2 ^ p) q ≡ false
unfolding member
single-other p q d = rw (bit_at-pow_other p q d) refl

single-only : (p q : ℕ) → member (2 ^ p) q ≡ true → q ≡ p
single-only p q h = elim (cases_eq q p) [
  | inl e ↦ e
  | inr d ↦ (let away : member (2 ^ p) q ≡ false = single-other p q d in absurd cc)
]

pub single-demand : (s : GeneralSetting) (x : ℕ → ℤ) (p : ℕ) → p < pairs_of s → demands_in s x (2 ^ p) ≡ demand_at s x p
single-demand s x p h =
    sum_to-single (pairs_of s) p (λ q. if member (2 ^ p) q then demand_at s x q else pos 0) h (λ q b d. rw (single-other p q d) refl)
    ∙ rw (single-here p) refl

-- where a profile has some pair of a set of one pair, its agent has the pair's type
single-type : (s : GeneralSetting) (p : ℕ) (t : List ℕ) → IsProfile (sizes_of s) t → has_some s (2 ^ p) t ≡ true → slice_index t (agent_of (sizes_of s) p) ≡ kind_of (sizes_of s) p
single-type s p t q h =
    let (i, b, e) = any_below-place (agent_count s) (λ j. member (2 ^ p) (pair_number (sizes_of s) j (slice_index t j))) h in
    let same : pair_number (sizes_of s) i (slice_index t i) ≡ p = single-only p (pair_number (sizes_of s) i (slice_index t i)) e in
    let there = in-sizes s i b in
    let below = report-below (sizes_of s) t i q there in
    let agent : agent_of (sizes_of s) p ≡ i = ap (agent_of (sizes_of s)) (sym same) ∙ agent-of (sizes_of s) i (slice_index t i) there below in
    let kind : kind_of (sizes_of s) p ≡ slice_index t i = ap (kind_of (sizes_of s)) (sym same) ∙ kind-of (sizes_of s) i (slice_index t i) there below in
    ap (slice_index t) agent ∙ sym kind

-- the item can go to a pair no more often than its agent has its type
pub single-right : (s : GeneralSetting) (p : ℕ) → IsShaped s → right_of s (2 ^ p) ≤ℤ marginal_at s p
single-right s p shaped =
    total_by-le (λ t. if has_some s (2 ^ p) t then weight_of s t else pos 0) (where_type (agent_of (sizes_of s) p) (kind_of (sizes_of s) p) (weight_of s)) (profiles_of (sizes_of s))
    (λ k d l. at (get_or (profiles_of (sizes_of s)) k d) (All-profiles_of (sizes_of s) k d l))
  where
    i : ℕ
    i = agent_of (sizes_of s) p

    a : ℕ
    a = kind_of (sizes_of s) p

    at : (t : List ℕ) → IsProfile (sizes_of s) t → (if has_some s (2 ^ p) t then weight_of s t else pos 0) ≤ℤ where_type i a (weight_of s) t
    at t q = elim (true_or_false (has_some s (2 ^ p) t)) [
      | inl some ↦ rw some (le_from_same (weight_of s t) (where_type i a (weight_of s) t) (sym (where-here i a (weight_of s) t (single-type s p t q some))))
      | inr none ↦ rw none (chosen-nonneg (slice_index t i == a) (weight_of s t) (shaped.weight t q).nonneg)
    ]

-- ---- the odds

all-get : {X : Type 0} (P : X → Type 0) (xs : List X) (k : ℕ) (x : X) → All P xs → slice_get xs k ≡ Some x → P x
all-get P [] k x h e = absurd (none-some x e)
all-get P (y ∷ ys) zero x h e = (let same : y ≡ x = cc in subst P same (All-head P y ys h))
all-get P (y ∷ ys) (suc k) x h e = all-get P ys k x (All-tail P y ys h) e

-- no odds are more than the whole
pub odds-at_most : (s : GeneralSetting) (den : ℤ) (x : ℕ → ℤ) (p : ℕ) → IsShaped s → MeetsSale s den x → p < pairs_of s → x p ≤ℤ den
odds-at_most s den x p shaped meets h =
    let f = marginal_at s p in
    let right = right_of s (2 ^ p) in
    let place = meets.singles.single p h in
    let kept = keeps-cuts s meets.cuts meets.program den x meets.is_program meets.meets in
    let cut : demands_in s x (2 ^ p) ≤ℤ (den *ℤ right) = all-get (λ set. demands_in s x set ≤ℤ (den *ℤ right_of s set)) meets.cuts place.place (2 ^ p) kept place.is in
    let asked : (f *ℤ x p) ≤ℤ (den *ℤ right) = subst (λ z. z ≤ℤ (den *ℤ right)) (single-demand s x p h) cut in
    let most : (den *ℤ right) ≤ℤ (f *ℤ den) = subst (λ z. (den *ℤ right) ≤ℤ z) (*ℤ_comm den f) (*ℤ-le den right f (le_from_lt (pos 0) den meets.meets.point.positive) (single-right s p shaped)) in
    le_from_*ℤ f (x p) den (marginal-positive s p shaped h) (≤ℤ_trans (f *ℤ x p) (den *ℤ right) (f *ℤ den) asked most)

-- nor less than nothing
pub odds-nonneg : (s : GeneralSetting) (den : ℤ) (x : ℕ → ℤ) (p : ℕ) → MeetsSale s den x → p < pairs_of s → pos 0 ≤ℤ x p
odds-nonneg s den x p meets h = meets.meets.point.nonneg p (omega (arith, h, meets.is_program.columns))
