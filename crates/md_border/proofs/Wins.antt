-- How often bidders with values in a set win at a sale, by their values and by profiles: at a profile no more of them than there are
-- units, and no more than there are such bidders.
use Rattle.std.proofs.Common.{◌≡◌, ℕ, suc, ◌+◌, ◌<◌, ℤ, pos, ◌+ℤ◌, ◌*ℤ◌, ◌≤ℤ◌, Bool, true, false, ◌==◌, if◌then◌else◌, List, [], ◌∷◌, length, get_or, refl, sym, ap, ap₂, ◌∙◌, subst, arith, inl, inr, min}
use Rattle.std.specs.Prelude.{slice_index}
use Rattle.std.proofs.lemmas.Bool.{cases_Bool}
use Rattle.std.proofs.lemmas.Int.{ints}
use Rattle.std.proofs.lemmas.List.{length-replicate}
use Rattle.std.proofs.Math.ListN.{replicate}
use lib.IntN.{*ℤ_comm}
use Rattle.md_math.specs.Sets.{member}
use Rattle.md_math.specs.Sums.{sum_to, total_by}
use Rattle.md_math.proofs.Order.{≤ℤ_trans, *ℤ-le, chosen-le, chosen-pos}
use Rattle.md_math.proofs.Ring.{ring, *ℤ-zero, *ℤ-one}
use Rattle.md_math.proofs.SumLaws.{sum_to-same, sum_to-zero, sum_to-le, sum_to-*ℤ, sum_to-swap, sum_to-front}
use Rattle.md_math.proofs.TotalLaws.{total_by-same, total_by-zero, total_by-le, total_by-*ℤ}
use Rattle.md_space.specs.AllProfiles.{profiles_of}
use Rattle.md_space.specs.ByType.{where_type}
use Rattle.md_space.specs.Profiles.{IsProfile}
use Rattle.md_space.proofs.InOrder.{All-profiles_of}
use Rattle.md_space.proofs.Ranks.{length-IsProfile}
use Rattle.md_space.proofs.TypeSums.{by_type, where-same}
use Rattle.md_setting.specs.Meaning.{outcome_count, sizes_of, weight_of}
use Rattle.md_setting.specs.Auction.{SymmetricAuction, value_count}
use Rattle.md_setting.specs.General.{general_of}
use Rattle.md_setting.proofs.GeneralLaws.{sizes_of-general}
use Rattle.md_mech.specs.declared.mechanism.Mechanism.{Mechanism}
use Rattle.md_mech.specs.Mechanism.{chance_of, IsMechanism}
use Rattle.md_border.specs.Odds.{won_in}
use Rattle.md_border.specs.Sides.{right_by_counts}
use Rattle.md_border.proofs.Sales.{Sale, IsSaleOf, sale-profile}
use Rattle.md_border.proofs.SetLaws.{bidders_in}
use Rattle.md_border.proofs.SideLaws.{profile-weight, units-by_counts}

-- ---- one bidder

-- f where the bidder's value is in the set
abbrev pub where_in : ℕ → ℕ → (List ℕ → ℤ) → List ℕ → ℤ
where_in set i f t = if member set (slice_index t i) then f t else pos 0

-- by the bidder's values
pub by_kinds : (sizes : List ℕ) (set i : ℕ) (f : List ℕ → ℤ) → i < length sizes
    → total_by (where_in set i f) (profiles_of sizes) ≡ sum_to (get_or sizes i 0) (λ v. if member set v then total_by (where_type i v f) (profiles_of sizes) else pos 0)
by_kinds sizes set i f h =
    by_type sizes i (where_in set i f) h
    ∙ sum_to-same (get_or sizes i 0) _ _ (λ v b. one v)
  where
    none : (s : Bool) → (if s then pos 0 else pos 0) ≡ pos 0
    none true = refl
    none false = refl

    one : (v : ℕ) → total_by (where_type i v (where_in set i f)) (profiles_of sizes) ≡ (if member set v then total_by (where_type i v f) (profiles_of sizes) else pos 0)
    one v = elim (cases_Bool (member set v)) [
      | inl here ↦
          rw here (total_by-same _ _ (profiles_of sizes) (λ k d l. where-same i v (where_in set i f) f (get_or (profiles_of sizes) k d) (λ e. ap (λ s. if s then f (get_or (profiles_of sizes) k d) else pos 0) (ap (member set) e ∙ here))))
      | inr away ↦
          rw away (total_by-zero _ (profiles_of sizes) (λ k d l.
          where-same i v (where_in set i f) (λ _. pos 0) (get_or (profiles_of sizes) k d) (λ e. ap (λ s. if s then f (get_or (profiles_of sizes) k d) else pos 0) (ap (member set) e ∙ away))
          ∙ none (slice_index (get_or (profiles_of sizes) k d) i == v)))
    ]

-- ---- one outcome at a profile

bidders-sum : (set : ℕ) (t : List ℕ) → pos (bidders_in set t) ≡ sum_to (length t) (λ i. if member set (slice_index t i) then pos 1 else pos 0)
bidders-sum set [] = refl
bidders-sum set (v ∷ t) =
    more (if member set v then 1 else 0) (bidders_in set t)
    ∙ ap₂ (λ x y. x +ℤ y) (chosen-pos (member set v) 1)
    (bidders-sum set t ∙ sum_to-same (length t) _ _ (λ i b. ap (λ u. if member set u then pos 1 else pos 0) (next i)))
    ∙ sym (sum_to-front (length t) (λ i. if member set (slice_index (v ∷ t) i) then pos 1 else pos 0))
  where
    more : (m n : ℕ) → pos (m + n) ≡ pos m +ℤ pos n
    more m n = omega (arith, ints)

    next : (i : ℕ) → slice_index t i ≡ slice_index (v ∷ t) (i + 1)
    next i = ap (slice_index (v ∷ t)) (let e : suc i ≡ i + 1 = omega arith in e)

-- 1 for a bidder with a value in the set that gets a unit, and 0 for all others
abbrev counted : ℕ → List ℕ → (ℕ → Bool) → ℕ → ℤ
counted set t gets i = if member set (slice_index t i) then (if gets i then pos 1 else pos 0) else pos 0

-- no more of them than there are units, nor than there are bidders with values in the set
winners-le : (n units set : ℕ) (t : List ℕ) (gets : ℕ → Bool) → length t ≡ n → sum_to n (λ i. if gets i then pos 1 else pos 0) ≤ℤ pos units
    → sum_to n (counted set t gets) ≤ℤ pos (min units (bidders_in set t))
winners-le n units set t gets long enough =
    both (sum_to n (counted set t gets)) (bidders_in set t)
    (≤ℤ_trans (sum_to n (counted set t gets)) (sum_to n (λ i. if gets i then pos 1 else pos 0)) (pos units)
    (sum_to-le n (counted set t gets) (λ i. if gets i then pos 1 else pos 0) (λ i b. chosen-le (member set (slice_index t i)) _ (one_or_none (gets i)))) enough)
    (subst (λ z. sum_to n (counted set t gets) ≤ℤ z) (ap (λ k. sum_to k (λ i. if member set (slice_index t i) then pos 1 else pos 0)) (sym long) ∙ sym (bidders-sum set t))
    (sum_to-le n (counted set t gets) (λ i. if member set (slice_index t i) then pos 1 else pos 0) (λ i b. inside (member set (slice_index t i)) (gets i))))
  where
    one_or_none : (h : Bool) → pos 0 ≤ℤ (if h then pos 1 else pos 0)
    one_or_none true = omega (arith, ints)
    one_or_none false = omega (arith, ints)

    inside : (s h : Bool) → (if s then (if h then pos 1 else pos 0) else pos 0) ≤ℤ (if s then pos 1 else pos 0)
    inside true true = omega (arith, ints)
    inside true false = omega (arith, ints)
    inside false h = omega (arith, ints)

    both : (z : ℤ) (k : ℕ) → z ≤ℤ pos units → z ≤ℤ pos k → z ≤ℤ pos (min units k)
    both z k p q = omega (arith, ints, p, q)

-- ---- a lottery over outcomes at a profile

-- The bidders with values in the set win no more often than the whole times the units, nor than the whole times their number.
wins-at : (n units set : ℕ) (t : List ℕ) (w whole : ℤ) (count : ℕ) (gets : ℕ → ℕ → Bool) (chance : ℕ → ℤ) → length t ≡ n → pos 0 ≤ℤ w
    → ((o : ℕ) → o < count → pos 0 ≤ℤ chance o) → sum_to count chance ≡ whole → ((o : ℕ) → o < count → sum_to n (λ i. if gets o i then pos 1 else pos 0) ≤ℤ pos units)
    → sum_to n (λ i. if member set (slice_index t i) then w *ℤ sum_to count (λ o. if gets o i then chance o else pos 0) else pos 0)
    ≤ℤ (whole *ℤ (w *ℤ pos (min units (bidders_in set t))))
wins-at n units set t w whole count gets chance long heavy chances all enough =
    let most = pos (min units (bidders_in set t)) in
    let won = sum_to count (λ o. chance o *ℤ sum_to n (counted set t (gets o))) in
    let by_outcomes : sum_to n (λ i. if member set (slice_index t i) then w *ℤ sum_to count (λ o. if gets o i then chance o else pos 0) else pos 0) ≡ w *ℤ won =
    sum_to-same n _ (λ i. w *ℤ sum_to count (λ o. chance o *ℤ counted set t (gets o) i)) (λ i b. inside (member set (slice_index t i)) (λ o. gets o i))
    ∙ sum_to-*ℤ n w (λ i. sum_to count (λ o. chance o *ℤ counted set t (gets o) i))
    ∙ ap (λ z. w *ℤ z)
    (sum_to-swap n count (λ i o. chance o *ℤ counted set t (gets o) i)
    ∙ sum_to-same count _ (λ o. chance o *ℤ sum_to n (counted set t (gets o))) (λ o c. sum_to-*ℤ n (chance o) (counted set t (gets o)))) in
    let less : won ≤ℤ sum_to count (λ o. most *ℤ chance o) =
    sum_to-le count _ _ (λ o c. subst (λ z. (chance o *ℤ sum_to n (counted set t (gets o))) ≤ℤ z) (*ℤ_comm (chance o) most)
    (*ℤ-le (chance o) _ most (chances o c) (winners-le n units set t (gets o) long (enough o c)))) in
    let summed : sum_to count (λ o. most *ℤ chance o) ≡ most *ℤ whole = sum_to-*ℤ count most chance ∙ ap (λ z. most *ℤ z) all in
    subst (λ z. z ≤ℤ (whole *ℤ (w *ℤ most))) (sym by_outcomes)
    (subst (λ z. (w *ℤ won) ≤ℤ z) (ap (λ z. w *ℤ z) summed ∙ turned w most whole) (*ℤ-le w won _ heavy less))
  where
    turned : (w m k : ℤ) → w *ℤ (m *ℤ k) ≡ k *ℤ (w *ℤ m)
    turned w m k = simp ring

    chosen : (h : Bool) (x : ℤ) → (if h then x else pos 0) ≡ x *ℤ (if h then pos 1 else pos 0)
    chosen true x = sym (*ℤ-one x)
    chosen false x = sym (*ℤ-zero x)

    inside : (s : Bool) (test : ℕ → Bool) → (if s then w *ℤ sum_to count (λ o. if test o then chance o else pos 0) else pos 0) ≡ w *ℤ sum_to count (λ o. chance o *ℤ (if s then (if test o then pos 1 else pos 0) else pos 0))
    inside true test = ap (λ z. w *ℤ z) (sum_to-same count _ _ (λ o c. chosen (test o) (chance o)))
    inside false test = sym (ap (λ z. w *ℤ z) (sum_to-zero count (λ o. chance o *ℤ pos 0) (λ o c. *ℤ-zero (chance o))) ∙ *ℤ-zero w)

-- ---- all profiles

-- in a mechanism of a sale the bidders with values in a set win no more often than the units can go to such bidders
pub won-le : (a : SymmetricAuction) (sale : Sale) (m : Mechanism) (set : ℕ) → IsSaleOf a sale → IsMechanism sale.setting m → won_in a (sale.win m) set ≤ℤ (m.den *ℤ right_by_counts a sale.units set)
won-le a sale m set is mechanism =
    let g = general_of a in
    let least = λ (t : List ℕ). weight_of g t *ℤ pos (min sale.units (bidders_in set t)) in
    subst (λ z. won_in a (sale.win m) set ≤ℤ z)
    (total_by-*ℤ m.den least (profiles_of (sizes_of g)) ∙ ap (λ z. m.den *ℤ z) (units-by_counts a sale.units set))
    (total_by-le _ (λ t. m.den *ℤ least t) (profiles_of (sizes_of g)) (λ k d l. at (get_or (profiles_of (sizes_of g)) k d) (All-profiles_of (sizes_of g) k d l)))
  where
    nonneg : (k : ℕ) → pos 0 ≤ℤ pos k
    nonneg k = omega (arith, ints)

    at : (t : List ℕ) → IsProfile (sizes_of (general_of a)) t
        → sum_to a.bidders (λ i. if member set (slice_index t i) then weight_of (general_of a) t *ℤ sale.win m i t else pos 0)
        ≤ℤ (m.den *ℤ (weight_of (general_of a) t *ℤ pos (min sale.units (bidders_in set t))))
    at t p =
        let s = sale.setting in
        let w = weight_of (general_of a) t in
        let profile : IsProfile (replicate a.bidders (value_count a)) t = subst (λ sizes. IsProfile sizes t) (sizes_of-general a) p in
        let there : IsProfile (sizes_of s) t = sale-profile a sale is t p in
        subst (λ z. z ≤ℤ (m.den *ℤ (w *ℤ pos (min sale.units (bidders_in set t)))))
        (sum_to-same a.bidders (λ i. if member set (slice_index t i) then w *ℤ sum_to (outcome_count s) (λ o. if sale.gets o i then chance_of s m t o else pos 0) else pos 0)
        (λ i. if member set (slice_index t i) then w *ℤ sale.win m i t else pos 0)
        (λ i b. ap (λ z. if member set (slice_index t i) then w *ℤ z else pos 0) (sym (is.wins m i t b))))
        (wins-at a.bidders sale.units set t w m.den (outcome_count s) sale.gets (chance_of s m t)
        (length-IsProfile _ t profile ∙ length-replicate a.bidders (value_count a))
        (subst (λ z. pos 0 ≤ℤ z) (sym (profile-weight a t profile)) (nonneg _))
        (λ o c. mechanism.not_negative t o there c)
        (mechanism.whole t there)
        is.enough)
