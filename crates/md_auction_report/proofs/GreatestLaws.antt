-- The row at which most is missed, one row after another, and the condition of it among those of one kind.
use Rattle.std.proofs.Common.{◌≡◌, ℕ, ◌+◌, ◌-◌, ◌<◌, ◌≤◌, ◌⊎◌, inl, inr, ℤ, ◌≤ℤ◌, ◌<ℤ◌, List, [], ◌∷◌, ◌++◌, length, map, Some, refl, sym, ap, ◌∙◌, subst, arith, append_assoc}
use Rattle.std.specs.Prelude.{slice_get}
use Rattle.std.proofs.lemmas.Bool.{cases_lt}
use Rattle.std.proofs.lemmas.Option.{slice_get_within}
use Rattle.md_math.proofs.Order.{le_from_same, le_from_lt}
use Rattle.md_math.proofs.Ring.{linear}
use Rattle.md_setting.specs.Auction.{SymmetricAuction, value_count}
use Rattle.md_border.specs.declared.interim.Interim.{Interim}
use Rattle.md_reduced.specs.declared.condition.ReducedCondition.{ReducedCondition}
use Rattle.md_reduced.specs.declared.condition.ReducedCondition.TheVariants.{Cut}
use Rattle.md_reduced.specs.Conditions.{conditions_of, truths, rationals}
use Rattle.md_report.proofs.BlockLaws.{StandsAt, get-inside}
use Rattle.md_auction_report.specs.declared.greatest.Greatest.{Greatest}
use Rattle.md_auction_report.specs.Greatest.{IsGreatestRow, IsGreatestIn, IsGreatest}
use Rattle.md_auction_report.specs.Shortfalls.{missed, missed_in, missed_at}

less-then : (a b c : ℤ) → a ≤ℤ b → b <ℤ c → a <ℤ c
less-then a b c h k = omega (arith, linear, h, k)

pub greatest-first : (a : SymmetricAuction) (units : ℕ) (interim : Interim) (cuts : List ℕ) (start : ℕ) → IsGreatestRow a units interim cuts start (start + 1) start
greatest-first a units interim cuts start = record {
  from = omega arith;
  below = omega arith;
  most = λ k l h. (let e : k ≡ start = omega (arith, l, h) in le_from_same (missed_at a units interim cuts k) (missed_at a units interim cuts start) (ap (missed_at a units interim cuts) e));
  first = λ k l h. absurd (omega (arith, l, h));
}

pub greatest-more : (a : SymmetricAuction) (units : ℕ) (interim : Interim) (cuts : List ℕ) (start end old new : ℕ) → IsGreatestRow a units interim cuts start end old
    → ((new ≡ old) × (missed_at a units interim cuts end ≤ℤ missed_at a units interim cuts old)) ⊎ ((new ≡ end) × (missed_at a units interim cuts old <ℤ missed_at a units interim cuts end))
    → IsGreatestRow a units interim cuts start (end + 1) new
greatest-more a units interim cuts start end old new h (inl kept) = subst (IsGreatestRow a units interim cuts start (end + 1)) (sym kept.0) (record {
  from = h.from;
  below = omega (arith, h.below);
  most = λ k low high. elim (cases_lt k end) [
    | inl before ↦ h.most k low before
    | inr last ↦ (let e : end ≡ k = omega (arith, high, last) in subst (λ j. missed_at a units interim cuts j ≤ℤ missed_at a units interim cuts old) e kept.1)
  ];
  first = h.first;
})
greatest-more a units interim cuts start end old new h (inr more) = subst (IsGreatestRow a units interim cuts start (end + 1)) (sym more.0) (record {
  from = omega (arith, h.from, h.below);
  below = omega arith;
  most = λ k low high. elim (cases_lt k end) [
    | inl before ↦ le_from_lt (missed_at a units interim cuts k) (missed_at a units interim cuts end) (less k low before)
    | inr last ↦ (let e : k ≡ end = omega (arith, high, last) in le_from_same (missed_at a units interim cuts k) (missed_at a units interim cuts end) (ap (missed_at a units interim cuts) e))
  ];
  first = less;
})
  where
    less : (k : ℕ) → start ≤ k → k < end → missed_at a units interim cuts k <ℤ missed_at a units interim cuts end
    less k low before = less-then (missed_at a units interim cuts k) (missed_at a units interim cuts old) (missed_at a units interim cuts end) (h.most k low before) more.1

-- ---- among the conditions of one kind

pub stands-truths : (kinds : ℕ) (cuts : List ℕ) → StandsAt 0 (truths kinds) (conditions_of kinds cuts)
stands-truths kinds cuts = record { front = []; rest = rationals kinds ++ map Cut cuts; parts = refl; number = refl }

pub stands-rationals : (kinds : ℕ) (cuts : List ℕ) → StandsAt (length (truths kinds)) (rationals kinds) (conditions_of kinds cuts)
stands-rationals kinds cuts = record {
  front = truths kinds;
  rest = map Cut cuts;
  parts = sym (append_assoc (truths kinds) (rationals kinds) (map Cut cuts));
  number = refl;
}

pub greatest-block : (a : SymmetricAuction) (units : ℕ) (interim : Interim) (cuts : List ℕ) (block : List ReducedCondition) (start end : ℕ) (told : Greatest)
    → StandsAt start block (conditions_of (value_count a) cuts) → end ≡ start + length block → IsGreatestIn a units interim cuts start end told → IsGreatest a units interim block told
greatest-block a units interim cuts block start end told at size h =
    let low : start ≤ h.row = h.greatest.from in
    let high : h.row < end = h.greatest.below in
    let place : start + (h.row - start) ≡ h.row = omega (arith, low) in
    let inside : h.row - start < length block = omega (arith, low, high, size) in
    record {
      place = h.row - start;
      here = sym (get-inside start (h.row - start) block rows at inside) ∙ ap (slice_get rows) place ∙ h.here;
      is_missed = h.is_missed;
      most = λ k c e.
          (let l : k < length block = slice_get_within block k c e in
          subst (λ z. z ≤ℤ missed a units interim told.condition) (same k c e)
          (subst (λ z. missed_at a units interim cuts (start + k) ≤ℤ z) whole (h.greatest.most (start + k) (omega arith) (omega (arith, l, size)))));
      first = λ k c b e.
          (let l : k < length block = slice_get_within block k c e in
          subst (λ z. z <ℤ missed a units interim told.condition) (same k c e)
          (subst (λ z. missed_at a units interim cuts (start + k) <ℤ z) whole (h.greatest.first (start + k) (omega arith) (omega (arith, b, low)))));
    }
  where
    rows : List ReducedCondition
    rows = conditions_of (value_count a) cuts

    same : (k : ℕ) (c : ReducedCondition) → slice_get block k ≡ Some c → missed_at a units interim cuts (start + k) ≡ missed a units interim c
    same k c e = (let l : k < length block = slice_get_within block k c e in ap (missed_in a units interim) (get-inside start k block rows at l ∙ e))

    whole : missed_at a units interim cuts h.row ≡ missed a units interim told.condition
    whole = ap (missed_in a units interim) h.here

pub no-conditions : (conditions : List ReducedCondition) → length conditions ≡ 0 → conditions ≡ []
no-conditions [] e = refl
no-conditions (c ∷ others) e = absurd (omega (arith, e))
