-- Flows from the lists of counts to the kinds of values are mass tables, and sets that are over their caps break Border's condition.
use Rattle.std.proofs.Common.{◌≡◌, ℕ, ◌*◌, ◌<◌, ℤ, pos, ◌-ℤ◌, ◌*ℤ◌, ◌≤ℤ◌, ◌<ℤ◌, Bool, true, false, ◌&&◌, if◌then◌else◌, length, min, nat_lt, refl, sym, ap, ap₂, ◌∙◌, subst, arith, inl, inr}
use Rattle.std.specs.Prelude.{slice_index}
use Rattle.std.proofs.lemmas.Bool.{cases_Bool}
use Rattle.std.proofs.lemmas.Bool.Decides.{nat_tests}
use Rattle.std.proofs.lemmas.Int.{ints}
use Rattle.md_math.specs.Sets.{member}
use Rattle.md_math.specs.Sums.{sum_to}
use Rattle.md_math.proofs.BoundedTests.{and-left, and-right}
use Rattle.md_math.proofs.Ring.{*ℤ-zero, *ℤ-one, *ℤ_assoc}
use Rattle.md_math.proofs.SumLaws.{sum_to-same, sum_to-zero, sum_to-positive, sum_to-*ℤ}
use Rattle.md_lp.proofs.WorstLaws.{worst-same, none_over-same, worst-over}
use Rattle.md_setting.specs.Auction.{SymmetricAuction, value_count}
use Rattle.md_setting.specs.General.{general_of}
use Rattle.md_mech.specs.declared.mechanism.Mechanism.{Mechanism}
use Rattle.md_mech.specs.Accepted.{number_limit}
use Rattle.md_mech.specs.Mechanism.{IsMechanism}
use Rattle.md_counts.specs.Weights.{weight_of_counts}
use Rattle.md_counts.proofs.ListsOfValues.{total_by-count_lists}
use Rattle.md_counts.proofs.RankLaws.{ranked}
use Rattle.md_border.specs.declared.interim.Interim.{Interim}
use Rattle.md_border.specs.Odds.{IsInterim, HasOdds, excess_of}
use Rattle.md_border.specs.Sets.{sum_in}
use Rattle.md_border.specs.Sides.{right_of}
use Rattle.md_border.proofs.Necessity.{border}
use Rattle.md_border.proofs.SetLaws.{pos-sum_in}
use Rattle.md_border.proofs.SideLaws.{right_of-counts}
use Rattle.md_flow.specs.Network.{Network, node_count, demand_count, cap_of}
use Rattle.md_flow.specs.Flows.{Meets, amount_in}
use Rattle.md_flow.specs.Over.{any_below, over, NoneOver, IsWorst}
use Rattle.md_flow.proofs.AnyBelow.{any_below-place, any_below-false}
use Rattle.md_flow.proofs.Touching.{over-touching, untouched}
use Rattle.md_expost.specs.declared.masses.Masses.{Masses}
use Rattle.md_expost.specs.Masses.{AreMasses, rank_count, counts_in, cap_at, mass_at}
use Rattle.md_expost.specs.Implementing.{Implements}
use Rattle.md_expost.specs.CountNets.{IsNetOf}
use Rattle.md_expost.proofs.CountNetLaws.{nodes-of, demands-of, node-in, demand-in, cap-of, asked-of, flow-nonneg, flow-given, flow-exact, flow-length, flow-amount}
use Rattle.md_expost.specs.WorstSets.{IsWorstSet, MeetsBorder}

-- ---- flows

-- a flow that gives each demand exactly is a mass table
pub masses-of_flow : (a : SymmetricAuction) (interim : Interim) (net : Network) (y : Masses) → IsInterim a interim → IsNetOf a interim net → y.den ≡ interim.den
    → length y.rows ≡ node_count net * demand_count net → Meets net (amount_in net y.rows) → AreMasses a y
masses-of_flow a interim net y fits h same long meets = record {
  den_positive = subst (λ d. pos 1 ≤ℤ d) (sym same) fits.den_positive;
  den_size = subst (λ d. d ≤ℤ pos number_limit) (sym same) fits.den_size;
  whole = flow-length a interim cap net h.numbers y.rows long;
  nonneg = flow-nonneg a interim cap net h.numbers y.rows meets;
  absent = λ rank v b l none.
      let node = node-in a interim cap net h.numbers rank b in
      let demand = demand-in a interim cap net h.numbers v l in
      sym (flow-amount a interim cap net h.numbers y.rows rank v)
      ∙ untouched net (amount_in net y.rows) rank v meets.part node demand (h.rooms rank v node demand ∙ ap (λ n. if nat_lt 0 n then cap_of net rank else pos 0) none);
  over = λ rank b. subst (λ d. sum_to (value_count a) (mass_at a y rank) ≤ℤ cap_at a d rank) (sym same) (flow-given a interim cap net h.numbers y.rows meets rank b);
}
  where
    cap : ℕ → ℤ
    cap = cap_at a interim.den

pub implements-of_flow : (a : SymmetricAuction) (interim : Interim) (net : Network) (y : Masses) → IsNetOf a interim net → y.den ≡ interim.den → Meets net (amount_in net y.rows) → Implements a interim y
implements-of_flow a interim net y h same meets = record { same_den = same; exact = flow-exact a interim (cap_at a interim.den) net h.numbers y.rows meets }

-- ---- sets

-- some bidder has a value in the set exactly where a node touches it
touched : (a : SymmetricAuction) (rank set : ℕ) (z : ℤ) → rank < rank_count a
    → (if any_below (value_count a) (λ v. nat_lt 0 (slice_index (counts_in a rank) v) && member set v) then z else pos 0) ≡ z *ℤ pos (min 1 (sum_in set (counts_in a rank)))
touched a rank set z b =
    let counts = counts_in a rank in
    let test = λ (v : ℕ). nat_lt 0 (slice_index counts v) && member set v in
    let part = λ (v : ℕ). if member set v then pos (slice_index counts v) else pos 0 in
    let all : pos (sum_in set counts) ≡ sum_to (value_count a) part = pos-sum_in set counts ∙ ap (λ k. sum_to k part) (ranked (value_count a) a.bidders rank b).counts.one_each in
    elim (cases_Bool (any_below (value_count a) test)) [
      | inl some ↦
          let (v, l, e) = any_below-place (value_count a) test some in
          let more : pos 0 <ℤ sum_to (value_count a) part =
          sum_to-positive (value_count a) v part l (λ u m. part-nonneg (member set u) (slice_index counts u)) (positive (member set v) (slice_index counts v) (and-right (nat_lt 0 (slice_index counts v)) (member set v) e) (and-left (nat_lt 0 (slice_index counts v)) (member set v) e)) in
          rw some (one z (sum_in set counts) (subst (λ x. pos 0 <ℤ x) (sym all) more))
      | inr none ↦
          let zeros : sum_to (value_count a) part ≡ pos 0 =
          sum_to-zero (value_count a) part (λ v l. vanishes (member set v) (slice_index counts v) (any_below-false (value_count a) test none v l)) in
          rw none (nothing z (sum_in set counts) (all ∙ zeros))
    ]
  where
    part-nonneg : (s : Bool) (n : ℕ) → pos 0 ≤ℤ (if s then pos n else pos 0)
    part-nonneg true n = omega (arith, ints)
    part-nonneg false n = omega (arith, ints)

    counted : (n : ℕ) → nat_lt 0 n ≡ true → 0 < n
    counted n e = grind (arith, nat_tests)

    uncounted : (n : ℕ) → nat_lt 0 n ≡ false → n ≡ 0
    uncounted n e = grind (arith, nat_tests)

    positive : (s : Bool) (n : ℕ) → s ≡ true → nat_lt 0 n ≡ true → pos 0 <ℤ (if s then pos n else pos 0)
    positive true n e f = (let l : 0 < n = counted n f in omega (arith, ints))
    positive false n e f = cc

    vanishes : (s : Bool) (n : ℕ) → (nat_lt 0 n && s) ≡ false → (if s then pos n else pos 0) ≡ pos 0
    vanishes true n e = ap pos (uncounted n (left (nat_lt 0 n) e))
      where
        left : (b : Bool) → (b && true) ≡ false → b ≡ false
        left true h = cc
        left false h = refl
    vanishes false n e = refl

    one : (z : ℤ) (n : ℕ) → pos 0 <ℤ pos n → z ≡ z *ℤ pos (min 1 n)
    one z n l = (let e : min 1 n ≡ 1 = unit n (above n l) in sym (ap (λ m. z *ℤ pos m) e ∙ *ℤ-one z))
      where
        above : (n : ℕ) → pos 0 <ℤ pos n → 0 < n
        above n l = omega (arith, ints)

        unit : (n : ℕ) → 0 < n → min 1 n ≡ 1
        unit n l = omega arith

    nothing : (z : ℤ) (n : ℕ) → pos n ≡ pos 0 → pos 0 ≡ z *ℤ pos (min 1 n)
    nothing z n e = (let m : min 1 n ≡ 0 = least n (none n e) in sym (ap (λ k. z *ℤ pos k) m ∙ *ℤ-zero z))
      where
        none : (n : ℕ) → pos n ≡ pos 0 → n ≡ 0
        none n e = omega (arith, ints)

        least : (n : ℕ) → n ≡ 0 → min 1 n ≡ 0
        least n e = omega arith

-- the caps of the nodes that touch a set are the right side of the set
caps-touched : (a : SymmetricAuction) (interim : Interim) (net : Network) (set : ℕ) → IsNetOf a interim net
    → sum_to (node_count net) (λ r. if any_below (demand_count net) (λ v. nat_lt 0 (slice_index (counts_in a r) v) && member set v) then cap_of net r else pos 0) ≡ interim.den *ℤ right_of a set
caps-touched a interim net set h =
    ap₂ (λ n k. sum_to n (λ r. if any_below k (λ v. nat_lt 0 (slice_index (counts_in a r) v) && member set v) then cap_of net r else pos 0)) (nodes-of a interim (cap_at a interim.den) net h.numbers) (demands-of a interim (cap_at a interim.den) net h.numbers)
    ∙ sum_to-same (rank_count a) _ (λ r. interim.den *ℤ side r) (λ r b.
    ap (λ z. if any_below (value_count a) (λ v. nat_lt 0 (slice_index (counts_in a r) v) && member set v) then z else pos 0) (cap-of a interim (cap_at a interim.den) net h.numbers r b)
    ∙ touched a r set (cap_at a interim.den r) b
    ∙ *ℤ_assoc interim.den (pos (weight_of_counts a.weights a.bidders (counts_in a r))) (pos (min 1 (sum_in set (counts_in a r)))))
    ∙ sum_to-*ℤ (rank_count a) interim.den side
    ∙ ap (λ z. interim.den *ℤ z)
    (sym (total_by-count_lists a.bidders (value_count a) (λ counts. pos (weight_of_counts a.weights a.bidders counts) *ℤ pos (min 1 (sum_in set counts))))
    ∙ sym (right_of-counts a set))
  where
    side : ℕ → ℤ
    side r = pos (weight_of_counts a.weights a.bidders (counts_in a r)) *ℤ pos (min 1 (sum_in set (counts_in a r)))

-- what a set is over by in the net is its excess
pub over-excess : (a : SymmetricAuction) (interim : Interim) (net : Network) (set : ℕ) → IsNetOf a interim net → over net (member set) ≡ excess_of a interim set
over-excess a interim net set h =
    over-touching net (λ r v. nat_lt 0 (slice_index (counts_in a r) v)) (member set) h.nonneg h.rooms
    ∙ ap₂ (λ x y. x -ℤ y) (asked-of a interim (cap_at a interim.den) net h.numbers set) (caps-touched a interim net set h)

pub border-met : (a : SymmetricAuction) (interim : Interim) (net : Network) → IsNetOf a interim net → NoneOver net → MeetsBorder a interim
border-met a interim net h = none_over-same (demand_count net) (value_count a) (λ set. over net (member set)) (excess_of a interim) (demands-of a interim (cap_at a interim.den) net h.numbers) (λ set. over-excess a interim net set h)

pub worst-of_net : (a : SymmetricAuction) (interim : Interim) (net : Network) (set : ℕ) → IsNetOf a interim net → IsWorst net set → IsWorstSet a interim set
worst-of_net a interim net set h = worst-same (demand_count net) (value_count a) (λ set. over net (member set)) (excess_of a interim) set (demands-of a interim (cap_at a interim.den) net h.numbers) (λ other. over-excess a interim net other h)

-- where a set breaks Border's condition, no mechanism has the odds
pub no_mechanism : (a : SymmetricAuction) (interim : Interim) (set : ℕ) (m : Mechanism) → IsInterim a interim → IsWorstSet a interim set → IsMechanism (general_of a) m → HasOdds a m interim.den interim.odds → ⊥
no_mechanism a interim set m fits worst mechanism odds = worst-over (value_count a) (excess_of a interim) set worst (border a interim set m fits.den_positive mechanism odds)
