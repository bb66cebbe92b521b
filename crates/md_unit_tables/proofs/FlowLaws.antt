-- Flows from the lists of counts to the kinds of values are unit tables, and sets that are over what the lists of counts can give
-- ask for more units than there are.
use Rattle.std.proofs.Common.{◌≡◌, ℕ, ◌*◌, ◌<◌, ◌≤◌, ℤ, pos, ◌-ℤ◌, ◌*ℤ◌, ◌≤ℤ◌, if◌then◌else◌, List, length, min, sym, ap, ap₂, ◌∙◌, subst, arith, inl, inr}
use Rattle.std.specs.Prelude.{slice_index}
use Rattle.std.specs.Int.{int_min}
use Rattle.std.proofs.lemmas.Bool.{cases_lt}
use Rattle.std.proofs.lemmas.Int.{ints, clamps}
use lib.IntN.{*ℤ_comm}
use Rattle.md_math.specs.Sets.{member}
use Rattle.md_math.specs.Sums.{sum_to}
use Rattle.md_math.proofs.Order.{*ℤ-le, chosen-times}
use Rattle.md_math.proofs.Ring.{*ℤ_assoc}
use Rattle.md_math.proofs.SumLaws.{sum_to-same, sum_to-*ℤ}
use Rattle.md_lp.proofs.WorstLaws.{worst-same, none_over-same}
use Rattle.md_setting.specs.Auction.{SymmetricAuction, value_count}
use Rattle.md_counts.specs.Weights.{weight_of_counts}
use Rattle.md_counts.proofs.ListsOfValues.{total_by-count_lists}
use Rattle.md_counts.proofs.RankLaws.{ranked}
use Rattle.md_border.specs.declared.interim.Interim.{Interim}
use Rattle.md_border.specs.Odds.{IsInterim, unit_excess_of}
use Rattle.md_border.specs.Sets.{sum_in}
use Rattle.md_border.specs.Sides.{right_by_counts}
use Rattle.md_border.proofs.SetLaws.{pos-sum_in}
use Rattle.md_flow.specs.Network.{Network, node_count, demand_count, cap_of, room_of}
use Rattle.md_flow.specs.Flows.{Meets, amount_in}
use Rattle.md_flow.specs.Over.{open_at, over, NoneOver, IsWorst}
use Rattle.md_expost.specs.Masses.{rank_count, counts_in, cap_at, mass_at}
use Rattle.md_expost.proofs.CountNetLaws.{nodes-of, demands-of, node-in, demand-in, cap-of, asked-of, flow-nonneg, flow-given, flow-exact, flow-length, flow-amount}
use Rattle.md_expost.proofs.MassLaws.{cap-nonneg}
use Rattle.md_winners.specs.Odds.{IsWorstUnitSet, MeetsUnitBorder}
use Rattle.md_unit_tables.specs.Tables.{IsUnitTable, ImplementsUnits, table_of}
use Rattle.md_unit_tables.specs.UnitNets.{IsUnitNetOf, unit_cap}
use Rattle.md_unit_tables.proofs.NetLaws.{room-of}

-- ---- flows

-- a flow that gives each demand exactly is a unit table
pub table-of_flow : (a : SymmetricAuction) (units : ℕ) (interim : Interim) (net : Network) (rows : List ℤ) → IsInterim a interim → IsUnitNetOf a units interim net
    → length rows ≡ node_count net * demand_count net → Meets net (amount_in net rows) → IsUnitTable a units (table_of interim rows)
table-of_flow a units interim net rows fits h long meets = record {
  den_positive = fits.den_positive;
  whole = flow-length a interim cap net h.numbers rows long;
  nonneg = flow-nonneg a interim cap net h.numbers rows meets;
  each = λ rank v b l.
      subst (λ z. mass_at a (table_of interim rows) rank v ≤ℤ z) (room-of a units interim net rank v h b l)
      (subst (λ z. z ≤ℤ room_of net rank v) (flow-amount a interim cap net h.numbers rows rank v)
      (meets.part.rooms rank v (node-in a interim cap net h.numbers rank b) (demand-in a interim cap net h.numbers v l)));
  over = flow-given a interim cap net h.numbers rows meets;
}
  where
    cap : ℕ → ℤ
    cap = unit_cap a units interim.den

pub implements-of_flow : (a : SymmetricAuction) (units : ℕ) (interim : Interim) (net : Network) (rows : List ℤ) → IsUnitNetOf a units interim net → Meets net (amount_in net rows) → ImplementsUnits a interim rows
implements-of_flow a units interim net rows h meets = record { exact = flow-exact a interim (unit_cap a units interim.den) net h.numbers rows meets }

-- ---- sets

-- a node gives to a set as many units as there are, or one for each bidder with a value in the set where these are fewer
least : (c : ℤ) (units n : ℕ) → pos 0 ≤ℤ c → int_min (pos units *ℤ c) (c *ℤ pos n) ≡ c *ℤ pos (min units n)
least c units n h = elim (cases_lt n units) [
  | inl fewer ↦
      let le : (c *ℤ pos n) ≤ℤ (c *ℤ pos units) = *ℤ-le c (pos n) (pos units) h (order n units (omega arith)) in
      let e : min units n ≡ n = omega (arith, fewer) in
      second (c *ℤ pos units) (c *ℤ pos n) (pos units *ℤ c) (*ℤ_comm (pos units) c) le ∙ sym (ap (λ m. c *ℤ pos m) e)
  | inr enough ↦
      let le : (c *ℤ pos units) ≤ℤ (c *ℤ pos n) = *ℤ-le c (pos units) (pos n) h (order units n enough) in
      let e : min units n ≡ units = omega (arith, enough) in
      first (c *ℤ pos units) (c *ℤ pos n) (pos units *ℤ c) (*ℤ_comm (pos units) c) le ∙ sym (ap (λ m. c *ℤ pos m) e)
]
  where
    order : (m k : ℕ) → m ≤ k → pos m ≤ℤ pos k
    order m k l = omega (arith, ints)

    first : (x y z : ℤ) → z ≡ x → x ≤ℤ y → int_min z y ≡ x
    first x y z e l = omega (arith, ints, clamps)

    second : (x y z : ℤ) → z ≡ x → y ≤ℤ x → int_min z y ≡ y
    second x y z e l = omega (arith, ints, clamps)

-- the rooms of a node for a set: a unit for each bidder with a value in it
open-of : (a : SymmetricAuction) (units : ℕ) (interim : Interim) (net : Network) (set rank : ℕ) → IsUnitNetOf a units interim net → rank < rank_count a
    → open_at net (member set) rank ≡ cap_at a interim.den rank *ℤ pos (sum_in set (counts_in a rank))
open-of a units interim net set rank h b =
    let counts = counts_in a rank in
    let cap = cap_at a interim.den rank in
    let bidders = λ (v : ℕ). if member set v then pos (slice_index counts v) else pos 0 in
    ap (λ k. sum_to k (λ d. if member set d then room_of net rank d else pos 0)) (demands-of a interim (unit_cap a units interim.den) net h.numbers)
    ∙ sum_to-same (value_count a) _ (λ v. cap *ℤ bidders v)
    (λ v l. ap (λ z. if member set v then z else pos 0) (room-of a units interim net rank v h b l) ∙ sym (chosen-times (member set v) cap (pos (slice_index counts v))))
    ∙ sum_to-*ℤ (value_count a) cap bidders
    ∙ ap (λ z. cap *ℤ z) (sym (pos-sum_in set counts ∙ ap (λ k. sum_to k bidders) (ranked (value_count a) a.bidders rank b).counts.one_each))

-- what all nodes can give to a set is the right side of the set
given-to : (a : SymmetricAuction) (units : ℕ) (interim : Interim) (net : Network) (set : ℕ) → pos 1 ≤ℤ interim.den → IsUnitNetOf a units interim net
    → sum_to (node_count net) (λ u. int_min (cap_of net u) (open_at net (member set) u)) ≡ interim.den *ℤ right_by_counts a units set
given-to a units interim net set some h =
    let side = λ (r : ℕ). pos (weight_of_counts a.weights a.bidders (counts_in a r)) *ℤ pos (min units (sum_in set (counts_in a r))) in
    ap (λ n. sum_to n (λ u. int_min (cap_of net u) (open_at net (member set) u))) (nodes-of a interim (unit_cap a units interim.den) net h.numbers)
    ∙ sum_to-same (rank_count a) _ (λ r. interim.den *ℤ side r) (λ r b. at r b)
    ∙ sum_to-*ℤ (rank_count a) interim.den side
    ∙ ap (λ z. interim.den *ℤ z) (sym (total_by-count_lists a.bidders (value_count a) (λ counts. pos (weight_of_counts a.weights a.bidders counts) *ℤ pos (min units (sum_in set counts)))))
  where
    at : (r : ℕ) → r < rank_count a → int_min (cap_of net r) (open_at net (member set) r)
        ≡ interim.den *ℤ (pos (weight_of_counts a.weights a.bidders (counts_in a r)) *ℤ pos (min units (sum_in set (counts_in a r))))
    at r b =
        ap₂ int_min (cap-of a interim (unit_cap a units interim.den) net h.numbers r b) (open-of a units interim net set r h b)
        ∙ least (cap_at a interim.den r) units (sum_in set (counts_in a r)) (cap-nonneg a interim.den r some)
        ∙ *ℤ_assoc interim.den (pos (weight_of_counts a.weights a.bidders (counts_in a r))) (pos (min units (sum_in set (counts_in a r))))

-- by as much as the demands of a set are over what the nodes can give to it, it asks for more units than there are
over-excess : (a : SymmetricAuction) (units : ℕ) (interim : Interim) (net : Network) (set : ℕ) → pos 1 ≤ℤ interim.den → IsUnitNetOf a units interim net → over net (member set) ≡ unit_excess_of a units interim set
over-excess a units interim net set some h =
    ap₂ (λ x y. x -ℤ y) (asked-of a interim (unit_cap a units interim.den) net h.numbers set) (given-to a units interim net set some h)

pub border-met : (a : SymmetricAuction) (units : ℕ) (interim : Interim) (net : Network) → pos 1 ≤ℤ interim.den → IsUnitNetOf a units interim net → NoneOver net → MeetsUnitBorder a units interim
border-met a units interim net some h =
    none_over-same (demand_count net) (value_count a) (λ set. over net (member set)) (unit_excess_of a units interim) (demands-of a interim (unit_cap a units interim.den) net h.numbers) (λ set. over-excess a units interim net set some h)

pub worst-of_net : (a : SymmetricAuction) (units : ℕ) (interim : Interim) (net : Network) (set : ℕ) → pos 1 ≤ℤ interim.den → IsUnitNetOf a units interim net → IsWorst net set → IsWorstUnitSet a units interim set
worst-of_net a units interim net set some h =
    worst-same (demand_count net) (value_count a) (λ set. over net (member set)) (unit_excess_of a units interim) set (demands-of a interim (unit_cap a units interim.den) net h.numbers) (λ other. over-excess a units interim net other some h)
