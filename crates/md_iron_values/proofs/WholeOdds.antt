-- How often units can go to bidders differs between two sets of values by a multiple of the weights by which these differ.
use Rattle.std.proofs.Common.{◌≡◌, ℕ, zero, suc, ◌-◌, ◌^◌, ◌≤◌, ℤ, pos, ◌+ℤ◌, ◌-ℤ◌, ◌*ℤ◌, length, sym, ap, ap₂, ◌∙◌, arith}
use Rattle.std.specs.Prelude.{slice_index}
use Rattle.std.proofs.lemmas.Int.{ints}
use Rattle.md_math.specs.Divisors.{Divides}
use Rattle.md_math.proofs.Division.{Divides-from_product}
use Rattle.md_math.proofs.Ring.{linear, ring}
use Rattle.md_setting.specs.Auction.{SymmetricAuction, value_count, total_weight}
use Rattle.md_setting.specs.AuctionShaped.{IsAuction}
use Rattle.md_border.specs.Sets.{sum_in}
use Rattle.md_border.specs.Sides.{right_by_counts}
use Rattle.md_border.proofs.Served.{right-no_bidders, right-no_units, right-more}
use Rattle.md_border.proofs.SetLaws.{sum_in-le}
use Rattle.md_iron_values.specs.Cuts.{set_from}
use Rattle.md_iron_values.specs.VirtualValues.{weight_to}
use Rattle.md_iron_values.proofs.SideLaws.{weight-outside}

record IsMultiple (d z : ℤ) : Type 0 where
  times : ℤ
  is : z ≡ d *ℤ times

module _ (a : SymmetricAuction) (s e : ℕ) (one_each : length a.weights ≡ value_count a) where
  -- the weights outside of the sets, and what can be sold to so many bidders with values in them
  abbrev outside_in : ℕ → ℤ
  outside_in set = pos (total_weight a.weights - sum_in set a.weights)

  abbrev sold_to : ℕ → ℕ → ℕ → ℤ
  sold_to n units set = right_by_counts (record a { bidders = n }) units set

  abbrev apart : ℤ
  apart = outside_in e -ℤ outside_in s

  -- a first bidder has a value in the set, and takes a unit, or has none in it
  split : (n u set : ℕ) → sold_to (suc n) (suc u) set ≡ (pos (total_weight a.weights) -ℤ outside_in set) *ℤ (pos (total_weight a.weights ^ n) +ℤ sold_to n u set) +ℤ outside_in set *ℤ sold_to n (suc u) set
  split n u set =
      right-more a n u set one_each
      ∙ ap (λ z. z *ℤ (pos (total_weight a.weights ^ n) +ℤ sold_to n u set) +ℤ outside_in set *ℤ sold_to n (suc u) set)
      (inside (sum_in set a.weights) (total_weight a.weights) (sum_in-le set a.weights))
    where
      inside : (i f : ℕ) → i ≤ f → pos i ≡ pos f -ℤ pos (f - i)
      inside i f l = omega (arith, ints, l)

  -- with numbers of all profiles of the others, and of what is sold to them
  differ : (f o d p x y k l : ℤ)
      → ((f -ℤ o) *ℤ (p +ℤ (x +ℤ d *ℤ k)) +ℤ o *ℤ (y +ℤ d *ℤ l)) -ℤ ((f -ℤ (o +ℤ d)) *ℤ (p +ℤ x) +ℤ (o +ℤ d) *ℤ y) ≡ d *ℤ ((p +ℤ x) +ℤ ((f -ℤ o) *ℤ k +ℤ (o *ℤ l -ℤ y)))
  differ f o d p x y k l = simp ring (omega (arith, linear))

  multiple : (n u : ℕ) → IsMultiple apart (sold_to n u s -ℤ sold_to n u e)
  multiple zero u = record { times = pos 0; is = ap₂ (λ x y. x -ℤ y) (right-no_bidders a u s) (right-no_bidders a u e) ∙ none apart }
    where
      none : (d : ℤ) → pos 0 -ℤ pos 0 ≡ d *ℤ pos 0
      none d = simp ring
  multiple (suc n) zero = record { times = pos 0; is = ap₂ (λ x y. x -ℤ y) (right-no_units a (suc n) s) (right-no_units a (suc n) e) ∙ none apart }
    where
      none : (d : ℤ) → pos 0 -ℤ pos 0 ≡ d *ℤ pos 0
      none d = simp ring
  multiple (suc n) (suc u) =
      let f = pos (total_weight a.weights) in
      let o = outside_in s in
      let p = pos (total_weight a.weights ^ n) in
      let one = multiple n u in
      let two = multiple n (suc u) in
      record {
        times = (p +ℤ sold_to n u e) +ℤ ((f -ℤ o) *ℤ one.times +ℤ (o *ℤ two.times -ℤ sold_to n (suc u) e));
        is =
            ap₂ (λ x y. x -ℤ y)
            (split n u s ∙ ap₂ (λ x y. (f -ℤ o) *ℤ (p +ℤ x) +ℤ o *ℤ y) (whole (sold_to n u s) (sold_to n u e) _ one.is) (whole (sold_to n (suc u) s) (sold_to n (suc u) e) _ two.is))
            (split n u e ∙ ap (λ z. (f -ℤ z) *ℤ (p +ℤ sold_to n u e) +ℤ z *ℤ sold_to n (suc u) e) (above (outside_in e) o))
            ∙ differ f o apart p (sold_to n u e) (sold_to n (suc u) e) one.times two.times;
      }
    where
      whole : (x y z : ℤ) → x -ℤ y ≡ z → x ≡ y +ℤ z
      whole x y z h = omega (arith, linear, h)

      above : (x y : ℤ) → x ≡ y +ℤ (x -ℤ y)
      above x y = omega (arith, linear)

-- so the weights of the values between two places divide by how much more can be sold to the bidders from the first one on
pub weights-divide : (a : SymmetricAuction) (units s e : ℕ) → IsAuction a → s ≤ value_count a → e ≤ value_count a
    → Divides (weight_to a e -ℤ weight_to a s) (right_by_counts a units (set_from (value_count a) s) -ℤ right_by_counts a units (set_from (value_count a) e))
weights-divide a units s e shaped l h =
    let k = value_count a in
    let it = multiple a (set_from k s) (set_from k e) shaped.one_each a.bidders units in
    Divides-from_product (weight_to a e -ℤ weight_to a s) it.times _
    (it.is ∙ ap (λ z. z *ℤ it.times) (ap₂ (λ x y. pos x -ℤ pos y) (weight-outside a e shaped h) (weight-outside a s shaped l)))
