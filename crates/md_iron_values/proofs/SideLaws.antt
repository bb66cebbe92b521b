-- How often units can go to bidders with the values from one on.
use Rattle.std.proofs.Common.{◌≡◌, ℕ, zero, suc, min, List, get_or, ◌-◌, ◌*◌, ◌^◌, ◌<◌, ◌≤◌, nat_lt, if◌then◌else◌, ℤ, pos, ◌-ℤ◌, ◌*ℤ◌, ◌≤ℤ◌, ◌<ℤ◌, inl, inr, refl, sym, ap, subst, ◌∙◌, arith, lt-ltb, le-ltb}
use Rattle.std.specs.Prelude.{slice_index}
use Rattle.std.proofs.Math.Nat.{pow-lt-pow_left}
use Rattle.std.proofs.lemmas.Bool.{cases_lt}
use Rattle.std.proofs.lemmas.Int.{ints}
use Rattle.md_math.specs.Sums.{sum_to}
use Rattle.md_math.proofs.Order.{same_number, *ℤ-le}
use Rattle.md_math.proofs.Ring.{linear}
use Rattle.md_math.proofs.TotalLaws.{total_by-le}
use Rattle.md_setting.specs.Auction.{SymmetricAuction, value_count, total_weight}
use Rattle.md_setting.specs.AuctionShaped.{IsAuction}
use Rattle.md_setting.specs.CountLists.{count_lists}
use Rattle.md_counts.specs.Weights.{weight_of_counts}
use Rattle.md_border.specs.Sets.{sum_in}
use Rattle.md_border.specs.Sides.{right_of, right_by_counts}
use Rattle.md_border.proofs.SetLaws.{outside, sum-outside}
use Rattle.md_border.proofs.SideLaws.{right_of-power, right_of-counts}
use Rattle.md_iron_values.specs.Weights.{weight_before}
use Rattle.md_iron_values.specs.Cuts.{set_from}
use Rattle.md_iron_values.proofs.WeightLaws.{weight_before-same, weight_before-less, pos-weight_before}
use Rattle.md_iron_values.proofs.CutLaws.{member-from, member-below, weight-head}
use Rattle.md_iron_values.proofs.AuctionLaws.{total-before}

outside-weight : (a : SymmetricAuction) (set : ℕ) → IsAuction a → weight_before (outside set a.weights) (value_count a) ≡ total_weight a.weights - sum_in set a.weights
outside-weight a set shaped =
    same_number (weight_before (outside set a.weights) (value_count a)) (total_weight a.weights - sum_in set a.weights)
    (pos-weight_before (outside set a.weights) (value_count a)
    ∙ ap (λ n. sum_to n (λ v. pos (outside set a.weights v))) (sym shaped.one_each)
    ∙ sum-outside set a.weights)

-- the right side of a set, by the weight outside of it
right-side : (a : SymmetricAuction) (set : ℕ) → IsAuction a → right_of a set ≡ pos (total_weight a.weights ^ a.bidders) -ℤ pos (weight_before (outside set a.weights) (value_count a) ^ a.bidders)
right-side a set shaped =
    right_of-power a set shaped.one_each
    ∙ ap (λ m. pos (total_weight a.weights ^ a.bidders) -ℤ pos (m ^ a.bidders)) (sym (outside-weight a set shaped))

-- ---- the set of the values from one on

abbrev head : ℕ → (ℕ → ℕ) → ℕ → ℕ
head s g v = if nat_lt v s then g v else 0

-- what is outside of the set from s on is the weight of the values below s
outside-from : (a : SymmetricAuction) (s : ℕ) → s ≤ value_count a → weight_before (outside (set_from (value_count a) s) a.weights) (value_count a) ≡ weight_before (slice_index a.weights) s
outside-from a s l =
    weight_before-same (outside (set_from (value_count a) s) a.weights) (head s (slice_index a.weights)) (value_count a)
    (λ v b. elim (cases_lt v s) [
      | inl h ↦ rw (member-below (value_count a) s v h, lt-ltb v s h) refl
      | inr h ↦ rw (member-from (value_count a) s v h b, le-ltb v s h) refl
    ])
    ∙ weight-head (slice_index a.weights) s (value_count a) l

-- so much weight is not in the set
pub weight-outside : (a : SymmetricAuction) (s : ℕ) → IsAuction a → s ≤ value_count a → total_weight a.weights - sum_in (set_from (value_count a) s) a.weights ≡ weight_before (slice_index a.weights) s
weight-outside a s shaped l = sym (outside-weight a (set_from (value_count a) s) shaped) ∙ outside-from a s l

-- ---- right sides of the cuts

pub right-from : (a : SymmetricAuction) (s : ℕ) → IsAuction a → s ≤ value_count a
    → right_of a (set_from (value_count a) s) ≡ pos (total_weight a.weights ^ a.bidders) -ℤ pos (weight_before (slice_index a.weights) s ^ a.bidders)
right-from a s shaped l =
    right-side a (set_from (value_count a) s) shaped ∙ ap (λ m. pos (total_weight a.weights ^ a.bidders) -ℤ pos (m ^ a.bidders)) (outside-from a s l)

right-positive : (a : SymmetricAuction) (s : ℕ) → IsAuction a → s < value_count a → pos 0 <ℤ right_of a (set_from (value_count a) s)
right-positive a s shaped b =
    let part : weight_before (slice_index a.weights) s < weight_before (slice_index a.weights) (value_count a) = weight_before-less (slice_index a.weights) s (value_count a) b (λ i h. (shaped.weight i h).0) in
    let less : weight_before (slice_index a.weights) s < total_weight a.weights = omega (arith, part, total-before a shaped) in
    let powers : weight_before (slice_index a.weights) s ^ a.bidders < total_weight a.weights ^ a.bidders = pow-lt-pow_left less (λ e. omega (arith, e, shaped.some_bidder)) in
    omega (arith, ints, powers, right-from a s shaped (omega (arith, b)))

-- the more units, the more can be sold
less-units : (k n : ℕ) → 0 < k → min 1 n ≤ min k n
less-units zero n h = absurd (omega (arith, h))
less-units (suc k) zero h = omega arith
less-units (suc k) (suc n) h = omega arith

abbrev sold : SymmetricAuction → ℕ → ℕ → List ℕ → ℤ
sold a units set counts = pos (weight_of_counts a.weights a.bidders counts) *ℤ pos (min units (sum_in set counts))

more-units : (a : SymmetricAuction) (units set : ℕ) → 0 < units → right_by_counts a 1 set ≤ℤ right_by_counts a units set
more-units a units set some =
    total_by-le (sold a 1 set) (sold a units set) (count_lists a.bidders (value_count a))
    (λ k d b. grown (weight_of_counts a.weights a.bidders (get_or (count_lists a.bidders (value_count a)) k d)) _ _ (less-units units (sum_in set (get_or (count_lists a.bidders (value_count a)) k d)) some))
  where
    grown : (w m n : ℕ) → m ≤ n → (pos w *ℤ pos m) ≤ℤ (pos w *ℤ pos n)
    grown w m n h =
        let none : pos 0 ≤ℤ pos w = omega (arith, ints) in
        let less : pos m ≤ℤ pos n = omega (arith, ints, h) in
        *ℤ-le (pos w) (pos m) (pos n) none less

pub units-positive : (a : SymmetricAuction) (units s : ℕ) → IsAuction a → 0 < units → s < value_count a → pos 0 <ℤ right_by_counts a units (set_from (value_count a) s)
units-positive a units s shaped some b =
    let one : pos 0 <ℤ right_by_counts a 1 (set_from (value_count a) s) = subst (λ z. pos 0 <ℤ z) (right_of-counts a (set_from (value_count a) s)) (right-positive a s shaped b) in
    omega (arith, linear, one, more-units a units (set_from (value_count a) s) some)
