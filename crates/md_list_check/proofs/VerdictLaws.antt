-- The first faults of a list, with their numbers by weights in least terms.
use Rattle.std.proofs.Common.{◌≡◌, ℕ, suc, ◌<◌, ◌≤◌, ℤ, pos, ◌*ℤ◌, List, length, refl, sym, ap, ◌∙◌, subst, arith}
use Rattle.md_math.specs.Divisors.{Divides}
use Rattle.md_math.specs.FirstFailure.{HoldsBelow, IsFirstFailure}
use Rattle.md_math.proofs.Division.{Divides-from_product}
use Rattle.md_math.proofs.Order.{*ℤ_cancel, positive_pos}
use Rattle.md_math.proofs.Ring.{*ℤ_left_comm}
use Rattle.md_num.specs.declared.frac.Frac.{Frac}
use Rattle.md_setting.specs.Grouped.{GroupedAuction, group_at}
use Rattle.md_setting.specs.GroupedRefusals.{divisor_of}
use Rattle.md_list.specs.ByRule.{growth}
use Rattle.md_list.specs.Gains.{gain_of, benefit_of, between}
use Rattle.md_list.specs.Ranks.{Rank, IsList}
use Rattle.md_list.specs.Told.{divided}
use Rattle.md_list.specs.Valid.{rank_at, level_at, unlisted}
use Rattle.md_list_gains.specs.declared.sums.Sums.{Sums}
use Rattle.md_list_check.specs.declared.verdict.ListVerdict.{ListVerdict}
use Rattle.md_list_check.specs.declared.verdict.ListVerdict.TheVariants.{Valid, Undecided, Inside, Unlisted, Order, Value, Revenue, Welfare}
use Rattle.md_list_gains.specs.GroupSums.{AreSumsOf}
use Rattle.md_list_check.specs.ListSums.{IsRecord}
use Rattle.md_list_check.specs.LeftOut.{BringsNothingTo}
use Rattle.md_list_check.specs.Levels.{gain_side, weight_side, IsFirstUnkept}
use Rattle.md_list_gains.specs.Places.{weight_to, gain_to, benefit_to}
use Rattle.md_list_check.specs.Verdicts.{weights_by, gains_by, IsPoolFault, IsPoolAt, IsPoolVerdict, IsInsideVerdict, IsLeftOut, IsGroupFault, IsGroupVerdict, IsUnlistedVerdict}
use Rattle.md_list_check.proofs.DividedLaws.{divisor-positive, weight-least, gain-least, benefit-least}
use Rattle.md_list_check.proofs.LeftOutLaws.{unlisted-below, first-something}
use Rattle.md_list_check.proofs.LevelLaws.{weight-growth, gain-growth, benefit-growth, unkept-here, unkept-no_pool}

-- the greatest common divisor of the weights of a group
abbrev pub divisor_in : GroupedAuction → ℕ → ℤ
divisor_in a k = pos (divisor_of (group_at a k).weights)

-- a multiple of it is divided
pub divided-is : (a : GroupedAuction) (k : ℕ) (number sum least : ℤ) → divisor_in a k *ℤ number ≡ sum → sum ≡ divisor_in a k *ℤ least → number ≡ least
divided-is a k number sum least e f = *ℤ_cancel (divisor_in a k) number least (positive_pos (divisor_of (group_at a k).weights) (divisor-positive (group_at a k).weights)) (e ∙ f)

pub is-multiple : (a : GroupedAuction) (k : ℕ) (sum least : ℤ) → sum ≡ divisor_in a k *ℤ least → Divides (divisor_in a k) sum
is-multiple a k sum least e = Divides-from_product (divisor_in a k) least sum e

-- ---- records

module _ (a : GroupedAuction) (rank : Rank) (level : Frac) (places : List Sums) (sums : AreSumsOf a rank.group places) (is : IsRecord a rank) where
  pub gain-side : (value : ℕ) (left : ℤ) → value < rank.stop → left ≡ gain_side (gain_to places) rank.first level value → left ≡ divisor_in a rank.group *ℤ gain_side (gains_by (divided a) rank) rank.first level value
  gain-side value left b e =
      e
      ∙ ap (λ z. level.den *ℤ z) (gain-growth a rank.group places sums rank.first (suc value) (omega (arith, is.some, is.stop)) (omega (arith, b, is.stop)) ∙ gain-least a rank.group is.group rank.first (suc value))
      ∙ *ℤ_left_comm level.den (divisor_in a rank.group) (growth (gains_by (divided a) rank) rank.first (suc value))

  pub weight-side : (value : ℕ) (right : ℤ) → value < rank.stop → right ≡ weight_side (weight_to places) rank.first level value → right ≡ divisor_in a rank.group *ℤ weight_side (weights_by (divided a) rank) rank.first level value
  weight-side value right b e =
      e
      ∙ ap (λ z. level.num *ℤ z) (weight-growth a rank.group places sums rank.first (suc value) (omega (arith, is.some, is.stop)) (omega (arith, b, is.stop)) ∙ weight-least a rank.group is.group rank.first (suc value))
      ∙ *ℤ_left_comm level.num (divisor_in a rank.group) (growth (weights_by (divided a) rank) rank.first (suc value))

  pub pool-fault : (value : ℕ) (left right number other : ℤ) → IsFirstUnkept (weight_to places) (gain_to places) rank.first rank.stop level value
      → left ≡ gain_side (gain_to places) rank.first level value → right ≡ weight_side (weight_to places) rank.first level value
      → divisor_in a rank.group *ℤ number ≡ left → divisor_in a rank.group *ℤ other ≡ right → IsPoolFault a rank level rank.group value number other
  pool-fault value left right number other first e f g h = record {
    group_is = refl;
    first = unkept-here a rank level places sums is value first;
    left_is = divided-is a rank.group number left _ g (gain-side value left first.below e);
    right_is = divided-is a rank.group other right _ h (weight-side value right first.below f);
  }

pub inside-verdict : (a : GroupedAuction) (ranks : List Rank) (levels : List Frac) (place : ℕ) (rank : Rank) (level : Frac) (verdict : ListVerdict) → place < length ranks
    → rank ≡ rank_at ranks place → level ≡ level_at levels place → HoldsBelow place (IsPoolAt a ranks levels) → IsPoolVerdict a rank level verdict → IsInsideVerdict a ranks levels verdict
inside-verdict a ranks levels place rank level (Inside group value left right) b e f before h =
    let fault : IsPoolFault a (rank_at ranks place) (level_at levels place) group value left right =
    subst (λ r. IsPoolFault a r (level_at levels place) group value left right) e (subst (λ l. IsPoolFault a rank l group value left right) f h) in
    record {
      place = place;
      first = record { below = b; fails = unkept-no_pool a (rank_at ranks place) (level_at levels place) value fault.first; before = before };
      fault = fault;
    }
inside-verdict a ranks levels place rank level Valid b e f before h = absurd h
inside-verdict a ranks levels place rank level Undecided b e f before h = absurd h
inside-verdict a ranks levels place rank level (Unlisted group value gain benefit) b e f before h = absurd h
inside-verdict a ranks levels place rank level (Order other) b e f before h = absurd h
inside-verdict a ranks levels place rank level (Value right) b e f before h = absurd h
inside-verdict a ranks levels place rank level (Revenue right) b e f before h = absurd h
inside-verdict a ranks levels place rank level (Welfare right) b e f before h = absurd h

-- ---- values of no record

module _ (a : GroupedAuction) (ranks : List Rank) (is : IsList a ranks) (k : ℕ) (inside : k < length a.groups) (places : List Sums) (sums : AreSumsOf a k places) where
  gain-left : (value : ℕ) (gain : ℤ) → value < unlisted a ranks k → gain ≡ growth (gain_to places) value (unlisted a ranks k)
      → gain ≡ divisor_in a k *ℤ between (gain_of (divided a) (group_at (divided a) k)) value (unlisted a ranks k)
  gain-left value gain b e =
      let to : unlisted a ranks k ≤ length (group_at a k).values = unlisted-below a ranks is k in
      e ∙ gain-growth a k places sums value (unlisted a ranks k) (omega (arith, b, to)) to ∙ gain-least a k inside value (unlisted a ranks k)

  benefit-left : (value : ℕ) (benefit : ℤ) → value < unlisted a ranks k → benefit ≡ growth (benefit_to places) value (unlisted a ranks k)
      → benefit ≡ divisor_in a k *ℤ between (benefit_of (group_at (divided a) k)) value (unlisted a ranks k)
  benefit-left value benefit b e =
      let to : unlisted a ranks k ≤ length (group_at a k).values = unlisted-below a ranks is k in
      e ∙ benefit-growth a k places sums value (unlisted a ranks k) (omega (arith, b, to)) to ∙ benefit-least a k inside value (unlisted a ranks k)

  -- the same where the number of values of no record has another name
  module _ (value stop : ℕ) (same : stop ≡ unlisted a ranks k) (below : value < stop) where
    under : value < unlisted a ranks k
    under = omega (arith, below, same)

    gain-here : (gain : ℤ) → gain ≡ growth (gain_to places) value stop → gain ≡ divisor_in a k *ℤ between (gain_of (divided a) (group_at (divided a) k)) value (unlisted a ranks k)
    gain-here gain e = gain-left value gain under (e ∙ ap (growth (gain_to places) value) same)

    benefit-here : (benefit : ℤ) → benefit ≡ growth (benefit_to places) value stop → benefit ≡ divisor_in a k *ℤ between (benefit_of (group_at (divided a) k)) value (unlisted a ranks k)
    benefit-here benefit e = benefit-left value benefit under (e ∙ ap (growth (benefit_to places) value) same)

    pub gain-multiple : (gain : ℤ) → gain ≡ growth (gain_to places) value stop → Divides (divisor_in a k) gain
    gain-multiple gain e = is-multiple a k gain (between (gain_of (divided a) (group_at (divided a) k)) value (unlisted a ranks k)) (gain-here gain e)

    pub benefit-multiple : (benefit : ℤ) → benefit ≡ growth (benefit_to places) value stop → Divides (divisor_in a k) benefit
    benefit-multiple benefit e = is-multiple a k benefit (between (benefit_of (group_at (divided a) k)) value (unlisted a ranks k)) (benefit-here benefit e)

    pub group-fault : (gain benefit number other : ℤ) → IsFirstFailure stop (BringsNothingTo (gain_to places) (benefit_to places) stop) value
        → gain ≡ growth (gain_to places) value stop → benefit ≡ growth (benefit_to places) value stop → divisor_in a k *ℤ number ≡ gain → divisor_in a k *ℤ other ≡ benefit
        → IsGroupFault a ranks k value number other
    group-fault gain benefit number other first e f g h = record {
      first = first-something a ranks is k places sums stop value same first;
      gain_is = divided-is a k number gain (between (gain_of (divided a) (group_at (divided a) k)) value (unlisted a ranks k)) g (gain-here gain e);
      benefit_is = divided-is a k other benefit (between (benefit_of (group_at (divided a) k)) value (unlisted a ranks k)) h (benefit-here benefit f);
    }

pub unlisted-verdict : (a : GroupedAuction) (ranks : List Rank) (k : ℕ) (verdict : ListVerdict) → k < length a.groups → HoldsBelow k (IsLeftOut a ranks) → IsGroupVerdict a ranks k verdict → IsUnlistedVerdict a ranks verdict
unlisted-verdict a ranks k (Unlisted group value gain benefit) b before h =
    let fault : IsGroupFault a ranks k value gain benefit = h.1 in
    record {
      first = subst (IsFirstFailure (length a.groups) (IsLeftOut a ranks)) (sym h.0) (record { below = b; fails = λ all. fault.first.fails (all.holds value fault.first.below); before = before });
      fault = subst (λ j. IsGroupFault a ranks j value gain benefit) (sym h.0) fault;
    }
unlisted-verdict a ranks k Valid b before h = absurd h
unlisted-verdict a ranks k Undecided b before h = absurd h
unlisted-verdict a ranks k (Inside group value left right) b before h = absurd h
unlisted-verdict a ranks k (Order place) b before h = absurd h
unlisted-verdict a ranks k (Value right) b before h = absurd h
unlisted-verdict a ranks k (Revenue right) b before h = absurd h
unlisted-verdict a ranks k (Welfare right) b before h = absurd h
