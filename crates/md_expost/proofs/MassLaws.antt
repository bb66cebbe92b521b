-- Numbers that pass the tests make a mass table, and how large masses are.
use Rattle.std.proofs.Common.{◌≡◌, ℕ, ◌+◌, ◌*◌, ◌^◌, ◌<◌, ◌≤◌, ℤ, pos, ◌≤ℤ◌, List, length, sym, ap₂, ◌∙◌, arith, mul-le-mul, le_refl}
use Rattle.std.specs.Prelude.{slice_index}
use Rattle.std.proofs.lemmas.Int.{ints}
use Rattle.std.proofs.lemmas.Nat.{mul-add-lt, div-mul-add, mod-mul-add}
use Rattle.md_math.specs.FirstFailure.{HoldsBelow}
use Rattle.md_math.specs.Sizes.{IsWithin}
use Rattle.md_math.specs.Sums.{sum_to}
use Rattle.md_math.proofs.Order.{nonneg-*ℤ}
use Rattle.md_math.proofs.SizeLaws.{IsWithin-wider, IsWithin-*ℤ, sum_to-within}
use Rattle.md_setting.specs.Auction.{SymmetricAuction, value_count, total_weight}
use Rattle.md_setting.specs.AuctionShaped.{IsAuction}
use Rattle.md_mech.specs.Accepted.{number_limit}
use Rattle.md_counts.specs.Weights.{weight_of_counts}
use Rattle.md_counts.proofs.RankLaws.{ranked}
use Rattle.md_counts.proofs.WeightLaws.{weight_of_counts-le}
use Rattle.md_expost.specs.declared.masses.Masses.{Masses}
use Rattle.md_expost.specs.Masses.{AreMasses, rank_count, counts_in, cap_at, mass_at}
use Rattle.md_expost.specs.Refusals.{HasPresent, IsKeptAt}

-- ---- places

pub place-below : (a : SymmetricAuction) (rows : List ℤ) (rank v : ℕ) → length rows ≡ rank_count a * value_count a → rank < rank_count a → v < value_count a → rank * value_count a + v < length rows
place-below a rows rank v e h l = omega (arith, e, mul-add-lt rank (value_count a) v (rank_count a) h l)

-- ---- a table

pub made : (a : SymmetricAuction) (y : Masses) → HasPresent a y → HoldsBelow (rank_count a) (IsKeptAt a y.den y.rows) → AreMasses a y
made a y h kept =
    let frame = h.signs.frame in
    record {
      den_positive = frame.den.positive;
      den_size = frame.den.size;
      whole = frame.shape;
      nonneg = λ rank v b l. h.signs.signs.holds (rank * value_count a + v) (place-below a y.rows rank v frame.shape b l);
      absent = λ rank v b l none.
          zero_of (mass_at a y rank v)
          (h.present.holds (rank * value_count a + v) (place-below a y.rows rank v frame.shape b l)
          (ap₂ (λ r u. slice_index (counts_in a r) u) (div-mul-add rank (value_count a) v l) (mod-mul-add rank (value_count a) v l) ∙ none))
          (h.signs.signs.holds (rank * value_count a + v) (place-below a y.rows rank v frame.shape b l));
      over = λ rank b. kept.holds rank b;
    }
  where
    zero_of : (z : ℤ) → z ≤ℤ pos 0 → pos 0 ≤ℤ z → z ≡ pos 0
    zero_of z l m = omega (arith, ints)

-- ---- sizes

nonneg_pos : (m : ℕ) → pos 0 ≤ℤ pos m
nonneg_pos m = omega (arith, ints)

pub cap-nonneg : (a : SymmetricAuction) (den : ℤ) (rank : ℕ) → pos 1 ≤ℤ den → pos 0 ≤ℤ cap_at a den rank
cap-nonneg a den rank h = nonneg-*ℤ den _ (above den h) (nonneg_pos _)
  where
    above : (z : ℤ) → pos 1 ≤ℤ z → pos 0 ≤ℤ z
    above z l = omega (arith, ints)

-- the weight of a list of counts
pub weight-small : (a : SymmetricAuction) (rank : ℕ) → IsAuction a → rank < rank_count a → weight_of_counts a.weights a.bidders (counts_in a rank) ≤ 10 ^ 12
weight-small a rank h b =
    let most : weight_of_counts a.weights a.bidders (counts_in a rank) ≤ total_weight a.weights ^ a.bidders =
    weight_of_counts-le a.weights a.bidders (counts_in a rank) (h.one_each ∙ sym (ranked (value_count a) a.bidders rank b).counts.one_each) in
    omega (arith, most, h.few_profiles)

pub cap-within : (a : SymmetricAuction) (den : ℤ) (rank : ℕ) → IsAuction a → pos 1 ≤ℤ den → den ≤ℤ pos number_limit → rank < rank_count a → IsWithin (number_limit * 10 ^ 12) (cap_at a den rank)
cap-within a den rank h l m b =
    IsWithin-*ℤ number_limit (10 ^ 12) den (pos (weight_of_counts a.weights a.bidders (counts_in a rank))) (within den l m) (record { within = weight-small a rank h b })
  where
    within : (z : ℤ) → pos 1 ≤ℤ z → z ≤ℤ pos number_limit → IsWithin number_limit z
    within z l m = record { within = omega (arith, ints) }

-- and the sum of those at the first lists of counts
pub caps-within : (a : SymmetricAuction) (den : ℤ) (k : ℕ) → IsAuction a → pos 1 ≤ℤ den → den ≤ℤ pos number_limit → k ≤ rank_count a → IsWithin (2 ^ 117) (sum_to k (cap_at a den))
caps-within a den k h p m l =
    IsWithin-wider (k * (number_limit * 10 ^ 12)) (2 ^ 117) _ (of_few (few h.few_counts))
    (sum_to-within k (number_limit * 10 ^ 12) (cap_at a den) (λ r b. cap-within a den r h p m (omega (arith, b, l))))
  where
    few : rank_count a ≤ 20000 → k ≤ 20000
    few c = omega (arith, l, c)

    of_few : k ≤ 20000 → k * (number_limit * 10 ^ 12) ≤ 2 ^ 117
    of_few m = (let most : k * (number_limit * 10 ^ 12) ≤ 20000 * (number_limit * 10 ^ 12) = mul-le-mul m (le_refl (number_limit * 10 ^ 12)) in omega (arith, most))
