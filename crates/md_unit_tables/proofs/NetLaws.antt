-- The caps, demands and rooms of the net of an auction of several units: how many there are, and how large.
use Rattle.std.proofs.Common.{◌≡◌, ℕ, ◌+◌, ◌*◌, ◌^◌, ◌<◌, ◌≤◌, ℤ, pos, ◌*ℤ◌, ◌≤ℤ◌, ◌<ℤ◌, sym, ap, ap₂, ◌∙◌, subst, arith, mul-le-mul, le_refl, le_trans}
use Rattle.std.specs.Prelude.{slice_index, unsigned_abs}
use Rattle.std.proofs.lemmas.Int.{ints}
use Rattle.std.proofs.lemmas.List.Sums.{get_or-le-sum_by}
use Rattle.md_math.specs.Lists.{number_at, list_to, up_to}
use Rattle.md_math.specs.Sizes.{IsWithin}
use Rattle.md_math.specs.Sums.{sum_to}
use Rattle.md_math.proofs.Builders.{length-list_to, get_or-list_to, length-up_to, get_or-up_to}
use Rattle.md_math.proofs.Order.{nonneg-*ℤ}
use Rattle.md_math.proofs.SizeLaws.{IsWithin-*ℤ}
use Rattle.md_math.proofs.SumLaws.{sum_to-same, sum_to-*ℤ}
use Rattle.md_setting.specs.Auction.{SymmetricAuction, value_count}
use Rattle.md_setting.specs.AuctionShaped.{IsAuction}
use Rattle.md_mech.specs.Accepted.{number_limit}
use Rattle.md_counts.proofs.RankLaws.{ranked}
use Rattle.md_border.specs.declared.interim.Interim.{Interim}
use Rattle.md_border.specs.Odds.{IsInterim}
use Rattle.md_flow.specs.Network.{Network, IsNet, OneEach, node_count, demand_count, cap_of, room_in, room_of}
use Rattle.md_expost.specs.Masses.{rank_count, counts_in, cap_at}
use Rattle.md_expost.proofs.MassLaws.{cap-nonneg, cap-within, caps-within}
use Rattle.md_expost.proofs.CountNetLaws.{nodes-of, demands-of, cap-of}
use Rattle.md_expost.proofs.NetLaws.{IsFit, demands-fit}
use Rattle.md_unit_tables.specs.Tables.{room_at}
use Rattle.md_unit_tables.specs.UnitNets.{IsUnitNetOf, unit_cap}

-- ---- rooms

pub room-of : (a : SymmetricAuction) (units : ℕ) (interim : Interim) (net : Network) (rank v : ℕ) → IsUnitNetOf a units interim net → rank < rank_count a → v < value_count a
    → room_of net rank v ≡ room_at a interim.den rank v
unfolding room_in
room-of a units interim net rank v h b l =
    let rooms = λ (r : ℕ). list_to (value_count a) (room_at a interim.den r) in
    ap (λ kept. room_in net.caps net.wants kept rank v) h.rooms
    ∙ ap (λ m. number_at (up_to (rank_count a) rooms) (rank * m + v)) (demands-of a interim (unit_cap a units interim.den) net h.numbers)
    ∙ get_or-up_to (rank_count a) (value_count a) rank v rooms (pos 0) (λ r c. length-list_to (value_count a) (room_at a interim.den r)) b l
    ∙ get_or-list_to (value_count a) (room_at a interim.den rank) v (pos 0) l

-- ---- how large they are

-- no more bidders have a value than there are
pub count-few : (a : SymmetricAuction) (rank v : ℕ) → rank < rank_count a → v < value_count a → slice_index (counts_in a rank) v ≤ a.bidders
count-few a rank v b l =
    let counts = counts_in a rank in
    let r = ranked (value_count a) a.bidders rank b in
    let part = get_or-le-sum_by (λ (x : ℕ). x) counts v 0 (omega (arith, r.counts.one_each, l)) in
    omega (arith, part, r.counts.add)

pub room-nonneg : (a : SymmetricAuction) (den : ℤ) (rank v : ℕ) → pos 1 ≤ℤ den → pos 0 ≤ℤ room_at a den rank v
room-nonneg a den rank v h = nonneg-*ℤ (cap_at a den rank) _ (cap-nonneg a den rank h) (nonneg _)
  where
    nonneg : (m : ℕ) → pos 0 ≤ℤ pos m
    nonneg m = omega (arith, ints)

room-small : (a : SymmetricAuction) (den : ℤ) (rank v : ℕ) → IsAuction a → pos 1 ≤ℤ den → den ≤ℤ pos number_limit → rank < rank_count a → v < value_count a
    → room_at a den rank v <ℤ pos (2 ^ 126)
room-small a den rank v h p m b l =
    below _ (IsWithin-*ℤ (number_limit * 10 ^ 12) 12 (cap_at a den rank) (pos (slice_index (counts_in a rank) v)) (cap-within a den rank h p m b)
    (record { within = le_trans (count-few a rank v b l) h.few_bidders }))
  where
    below : (z : ℤ) → IsWithin (number_limit * 10 ^ 12 * 12) z → z <ℤ pos (2 ^ 126)
    below z w = omega (arith, ints, w.within)

caps-small : (a : SymmetricAuction) (units : ℕ) (den : ℤ) → IsAuction a → pos 1 ≤ℤ den → den ≤ℤ pos number_limit → units ≤ 12
    → sum_to (rank_count a) (λ rank. pos units *ℤ cap_at a den rank) <ℤ pos (2 ^ 126)
caps-small a units den h p m few =
    below _ (subst (IsWithin (12 * 2 ^ 117)) (sym (sum_to-*ℤ (rank_count a) (pos units) (cap_at a den)))
    (IsWithin-*ℤ 12 (2 ^ 117) (pos units) _ (record { within = few }) (caps-within a den (rank_count a) h p m (le_refl (rank_count a)))))
  where
    below : (z : ℤ) → IsWithin (12 * 2 ^ 117) z → z <ℤ pos (2 ^ 126)
    below z w = omega (arith, ints, w.within)

-- as many units as there can be fit
pub units-fit : (a : SymmetricAuction) (den x y : ℤ) (rank units : ℕ) → IsAuction a → pos 1 ≤ℤ den → den ≤ℤ pos number_limit → rank < rank_count a → units ≤ 12 → x ≡ pos units → y ≡ cap_at a den rank
    → unsigned_abs x * unsigned_abs y < 2 ^ 126
units-fit a den x y rank units h p m b few e f =
    let within : IsWithin (number_limit * 10 ^ 12) y = subst (IsWithin (number_limit * 10 ^ 12)) (sym f) (cap-within a den rank h p m b) in
    let most : units * unsigned_abs y ≤ 12 * (number_limit * 10 ^ 12) = mul-le-mul few within.within in
    subst (λ z. unsigned_abs z * unsigned_abs y < 2 ^ 126) (sym e) (let l : units * unsigned_abs y < 2 ^ 126 = omega (arith, most) in l)

-- the net is one whose flows are found
pub net-fits : (a : SymmetricAuction) (units : ℕ) (interim : Interim) (net : Network) → IsAuction a → IsInterim a interim → units ≤ 12 → IsUnitNetOf a units interim net → IsNet net
unfolding OneEach
net-fits a units interim net shaped fits few h = record {
  one_each =
      subst (OneEach net.caps net.wants) (sym h.rooms)
      (length-up_to (rank_count a) (value_count a) (λ r. list_to (value_count a) (room_at a interim.den r)) (λ r c. length-list_to (value_count a) (room_at a interim.den r)) ∙ sym (ap₂ (λ m k. m * k) nodes demands));
  few_nodes = omega (arith, nodes, shaped.few_counts);
  few_demands = wants.few;
  caps = λ u b. subst (λ z. pos 0 ≤ℤ z) (sym (cap-of a interim (unit_cap a units interim.den) net h.numbers u (node u b))) (nonneg-*ℤ (pos units) _ (nonneg units) (cap-nonneg a interim.den u fits.den_positive));
  wants = wants.nonneg;
  rooms = λ u d b l. subst (λ z. pos 0 ≤ℤ z) (sym (room-of a units interim net u d h (node u b) (demand d l))) (room-nonneg a interim.den u d fits.den_positive);
  cap_size =
      subst (λ z. z <ℤ pos (2 ^ 126))
      (sym (ap (λ n. sum_to n (cap_of net)) nodes ∙ sum_to-same (rank_count a) (cap_of net) (unit_cap a units interim.den) (λ r b. cap-of a interim (unit_cap a units interim.den) net h.numbers r b)))
      (caps-small a units interim.den shaped fits.den_positive fits.den_size few);
  want_size = wants.size;
  room_size = λ u d b l.
      subst (λ z. z <ℤ pos (2 ^ 126)) (sym (room-of a units interim net u d h (node u b) (demand d l)))
      (room-small a interim.den u d shaped fits.den_positive fits.den_size (node u b) (demand d l));
}
  where
    nodes : node_count net ≡ rank_count a
    nodes = nodes-of a interim (unit_cap a units interim.den) net h.numbers

    demands : demand_count net ≡ value_count a
    demands = demands-of a interim (unit_cap a units interim.den) net h.numbers

    wants : IsFit 12 net.wants
    wants = demands-fit a interim net.wants shaped fits h.numbers.wants

    node : (u : ℕ) → u < node_count net → u < rank_count a
    node u b = omega (arith, nodes, b)

    demand : (d : ℕ) → d < demand_count net → d < value_count a
    demand d l = omega (arith, demands, l)

    nonneg : (m : ℕ) → pos 0 ≤ℤ pos m
    nonneg m = omega (arith, ints)
