-- Sums of the records of a list, and their order.
use Rattle.std.proofs.Common.{◌≡◌, ℕ, suc, ◌^◌, ◌<◌, ◌≤◌, ℤ, ◌-ℤ◌, ◌*ℤ◌, List, [], ◌∷◌, ◌++◌, length, Option, None, Some, MatchOption, inl, inr, refl, sym, ap, ap₂, ◌∙◌, subst, arith}
use Rattle.std.proofs.lemmas.Bool.{cases_lt}
use Rattle.std.proofs.lemmas.List.{get_or_append_left, length_push, get_or_push}
use Rattle.md_math.specs.FirstFailure.{HoldsBelow, IsFirstFailure}
use Rattle.md_math.specs.LexOrder.{IsPairNonNegative}
use Rattle.md_num.specs.declared.frac.Frac.{Frac}
use Rattle.md_setting.specs.Grouped.{GroupedAuction, group_at}
use Rattle.md_list.specs.ByRule.{growth, rank_weight, rank_benefit}
use Rattle.md_list.specs.Ranks.{Rank, IsList}
use Rattle.md_list.specs.Valid.{rank_at, level_at, IsValid}
use Rattle.md_list_laws.proofs.Inside.{ranks-inside}
use Rattle.md_list_gains.specs.declared.sums.Sums.{Sums}
use Rattle.md_list_gains.specs.GroupSums.{AreSumsOf, AreRankSums}
use Rattle.md_list_check.specs.ListSums.{IsRecord, AreListSums, AreSmall}
use Rattle.md_list_check.specs.Orders.{IsInOrderBy}
use Rattle.md_list_gains.specs.Places.{AreWithin, no_sums, sums_at, weight_to, gain_to, benefit_to}
use Rattle.md_list_check.specs.Verdicts.{IsPoolAt, IsLeftOut, IsInOrder}
use Rattle.md_list_check.proofs.LevelLaws.{weight-growth, gain-growth, benefit-growth}

-- each record of a list of the right form has some values of a group
pub is-record : (a : GroupedAuction) (ranks : List Rank) → IsList a ranks → (p : ℕ) → p < length ranks → IsRecord a (rank_at ranks p)
is-record a ranks is p b =
    let inside = ranks-inside (length a.groups) (λ k. length (group_at a k).values) (λ k. length (group_at a k).values) ranks is (λ k. omega arith) p b in
    record { group = inside.group; some = inside.some; stop = inside.stop }

pub rank-sums : (a : GroupedAuction) (rank : Rank) (places : List Sums) (sums : Sums) → IsRecord a rank → AreSumsOf a rank.group places
    → sums.weight ≡ growth (weight_to places) rank.first rank.stop → sums.gain ≡ growth (gain_to places) rank.first rank.stop → sums.benefit ≡ growth (benefit_to places) rank.first rank.stop
    → AreWithin (2 ^ 59) sums → AreRankSums a rank sums
rank-sums a rank places sums is of w g b size =
    let from : rank.first ≤ length (group_at a rank.group).values = omega (arith, is.some, is.stop) in
    record {
      weight = w ∙ weight-growth a rank.group places of rank.first rank.stop from is.stop;
      gain = g ∙ gain-growth a rank.group places of rank.first rank.stop from is.stop;
      benefit = b ∙ benefit-growth a rank.group places of rank.first rank.stop from is.stop;
      size = size;
    }

pub sums-none : (a : GroupedAuction) (ranks : List Rank) → AreListSums a ranks []
sums-none a ranks = record { each = λ p b. absurd (omega (arith, b)) }

pub sums-more : (a : GroupedAuction) (ranks : List Rank) (sums : List Sums) (next : Sums) (rank : Rank) (n : ℕ) → n ≡ length sums → rank ≡ rank_at ranks n
    → AreListSums a ranks sums → AreRankSums a rank next → AreListSums a ranks (sums ++ next ∷ [])
sums-more a ranks sums next rank n long e h here = record {
  each = λ p b.
      elim (cases_lt p (length sums)) [
        | inl l ↦ subst (AreRankSums a (rank_at ranks p)) (sym (get_or_append_left sums (next ∷ []) no_sums p l)) (h.each p l)
        | inr l ↦
            let end : length sums ≡ p = omega (arith, length_push sums next, b, l) in
            let same : rank ≡ rank_at ranks p = e ∙ ap (rank_at ranks) (long ∙ end) in
            subst (AreRankSums a (rank_at ranks p)) (sym (get_or_push sums next no_sums p end)) (subst (λ r. AreRankSums a r next) same here)
      ];
}

pub sums-small : (a : GroupedAuction) (ranks : List Rank) (sums : List Sums) → AreListSums a ranks sums → AreSmall sums
sums-small a ranks sums h = record { each = λ p b. (h.each p b).size }

module _ (a : GroupedAuction) (ranks : List Rank) (levels : List Frac) (sums : List Sums) (h : AreListSums a ranks sums) where
  benefit-same : (p : ℕ) → p < length sums → (sums_at sums p).benefit ≡ rank_benefit a (rank_at ranks p)
  benefit-same p b = (h.each p b).benefit

  more-same : (q p : ℕ) → q < length sums → p < length sums
      → (sums_at sums q).benefit *ℤ (sums_at sums p).weight -ℤ (sums_at sums p).benefit *ℤ (sums_at sums q).weight
      ≡ rank_benefit a (rank_at ranks q) *ℤ rank_weight a (rank_at ranks p) -ℤ rank_benefit a (rank_at ranks p) *ℤ rank_weight a (rank_at ranks q)
  more-same q p c b =
      ap₂ (λ x y. x -ℤ y) (ap₂ (λ x y. x *ℤ y) (h.each q c).benefit (h.each p b).weight) (ap₂ (λ x y. x *ℤ y) (h.each p b).benefit (h.each q c).weight)

  -- by how much the level of one record exceeds that of another, times both denominators
  abbrev more-level : ℕ → ℕ → ℤ
  more-level q p = (level_at levels q).num *ℤ (level_at levels p).den -ℤ (level_at levels p).num *ℤ (level_at levels q).den

  order-here : (p : ℕ) → p < length sums → IsInOrderBy sums levels p → IsInOrder a ranks levels p
  order-here p b by = record {
    some = subst (λ z. IsPairNonNegative (level_at levels p).num z) (benefit-same p b) by.some;
    no_more = λ q e. subst (λ z. IsPairNonNegative (more-level q p) z) (more-same q p (omega (arith, b, e)) b) (by.no_more q e);
  }

  order-there : (p : ℕ) → p < length sums → IsInOrder a ranks levels p → IsInOrderBy sums levels p
  order-there p b is = record {
    some = subst (λ z. IsPairNonNegative (level_at levels p).num z) (sym (benefit-same p b)) is.some;
    no_more = λ q e. subst (λ z. IsPairNonNegative (more-level q p) z) (sym (more-same q p (omega (arith, b, e)) b)) (is.no_more q e);
  }

  all-ordered : (n : ℕ) → n ≡ length sums → HoldsBelow (length sums) (IsInOrderBy sums levels) → HoldsBelow n (IsInOrder a ranks levels)
  all-ordered n e all = record { holds = λ p b. (let c : p < length sums = omega (arith, b, e) in order-here p c (all.holds p c)) }

  first-disorder : (n place : ℕ) → n ≡ length sums → IsFirstFailure (length sums) (IsInOrderBy sums levels) place → IsFirstFailure n (IsInOrder a ranks levels) place
  first-disorder n place e first = record {
    below = omega (arith, e, first.below);
    fails = λ is. first.fails (order-there place first.below is);
    before = record { holds = λ p b. order-here p (omega (arith, b, first.below)) (first.before.holds p b) };
  }

  pub ordered-or_not : (n : ℕ) (fault : Option ℕ) → n ≡ length sums → MatchOption fault (HoldsBelow (length sums) (IsInOrderBy sums levels)) (IsFirstFailure (length sums) (IsInOrderBy sums levels))
      → MatchOption fault (HoldsBelow n (IsInOrder a ranks levels)) (IsFirstFailure n (IsInOrder a ranks levels))
  ordered-or_not n None e h = all-ordered n e h
  ordered-or_not n (Some place) e h = first-disorder n place e h

-- a list of which all conditions hold is valid
pub whole-valid : (a : GroupedAuction) (ranks : List Rank) (levels : List Frac) → IsList a ranks → length levels ≡ length ranks
    → HoldsBelow (length ranks) (IsPoolAt a ranks levels) → HoldsBelow (length a.groups) (IsLeftOut a ranks) → HoldsBelow (length ranks) (IsInOrder a ranks levels) → IsValid a ranks levels
whole-valid a ranks levels form one_each pools left order = record {
  form = form;
  one_each = one_each;
  pool = pools.holds;
  left_out = λ k v b l. (left.holds k b).holds v l;
  some = λ p b. (order.holds p b).some;
  falling = λ p b. (order.holds (suc p) b).no_more p refl;
}
