-- Levels of records, value by value: a record keeps its level at each value exactly where it is a pool with this level.
use Rattle.std.proofs.Common.{◌≡◌, ◌≢◌, ℕ, zero, suc, ◌+◌, ◌-◌, ◌<◌, ◌≤◌, ℤ, ◌-ℤ◌, ◌*ℤ◌, ◌<ℤ◌, Bool, true, false, List, [], ◌∷◌, length, inl, inr, refl, sym, ap₂, ◌∙◌, subst, arith}
use Rattle.std.specs.Prelude.{slice_index_or}
use Rattle.std.proofs.lemmas.Bool.{cases_lt}
use Rattle.md_num.specs.declared.frac.Frac.{Frac}
use Rattle.md_setting.specs.Grouped.{GroupedAuction, group_at}
use Rattle.md_list.specs.ByRule.{growth, sums_of}
use Rattle.md_list.specs.Gains.{weight_in, gain_of, benefit_of}
use Rattle.md_list.specs.Ranks.{Rank}
use Rattle.md_list.specs.Valid.{IsPool}
use Rattle.md_list_gains.specs.declared.sums.Sums.{Sums}
use Rattle.md_list_gains.specs.GroupSums.{AreSumsOf}
use Rattle.md_list_check.specs.ListSums.{IsRecord}
use Rattle.md_list_check.specs.Levels.{IsLevel, gain_side, weight_side, KeepsLevel, AreKept, KeepsFrom, IsFirstUnkept}
use Rattle.md_list_gains.specs.Places.{weight_to, gain_to, benefit_to}
use Rattle.md_list_check.specs.Verdicts.{weights_by, gains_by}

-- ---- a search, value by value

pub kept-start : (weight gain : ℕ → ℤ) (first stop : ℕ) (level : Frac) → KeepsFrom weight gain first stop level first
kept-start weight gain first stop level = record { keeps = λ v l b. absurd (omega (arith, l, b)) }

pub kept-more : (weight gain : ℕ → ℤ) (first stop : ℕ) (level : Frac) (n : ℕ) → KeepsFrom weight gain first stop level n → KeepsLevel weight gain first stop level n → KeepsFrom weight gain first stop level (n + 1)
kept-more weight gain first stop level n h here = record {
  keeps = λ v l b. elim (cases_lt v n) [
    | inl m ↦ h.keeps v l m
    | inr m ↦ (let e : n ≡ v = omega (arith, m, b) in subst (KeepsLevel weight gain first stop level) e here)
  ];
}

-- by both sides at a value, which is the greatest one or not
pub level-kept : (weight gain : ℕ → ℤ) (first stop : ℕ) (level : Frac) (v : ℕ) (greatest : Bool) (left right : ℤ)
    → (greatest ≡ true → v + 1 ≡ stop) → (greatest ≡ false → v + 1 ≢ stop) → left ≡ gain_side gain first level v → right ≡ weight_side weight first level v
    → AreKept greatest left right → KeepsLevel weight gain first stop level v
level-kept weight gain first stop level v true left right same apart e f h = record {
  lower = λ l. (let here = same refl in absurd (omega (arith, l, here)));
  greatest = λ _. sym e ∙ h ∙ f;
}
level-kept weight gain first stop level v false left right same apart e f h = record {
  lower = λ _. subst (λ z. z <ℤ gain_side gain first level v) f (subst (λ z. right <ℤ z) e h);
  greatest = λ d. (let other = apart refl in absurd (other (omega (arith, d))));
}

-- ---- other sums that are the same

pub keeps-same : (weight gain other rest : ℕ → ℤ) (first stop : ℕ) (level : Frac) (v : ℕ) → growth weight first (suc v) ≡ growth other first (suc v) → growth gain first (suc v) ≡ growth rest first (suc v)
    → KeepsLevel weight gain first stop level v → KeepsLevel other rest first stop level v
keeps-same weight gain other rest first stop level v e f h = record {
  lower = λ l. subst (λ z. (level.num *ℤ z) <ℤ gain_side rest first level v) e (subst (λ z. weight_side weight first level v <ℤ (level.den *ℤ z)) f (h.lower l));
  greatest = λ d. subst (λ z. gain_side rest first level v ≡ level.num *ℤ z) e (subst (λ z. level.den *ℤ z ≡ weight_side weight first level v) f (h.greatest d));
}

module _ (a : GroupedAuction) (k : ℕ) (places : List Sums) (sums : AreSumsOf a k places) (x y : ℕ) (b : x ≤ length (group_at a k).values) (c : y ≤ length (group_at a k).values) where
  pub weight-growth : growth (weight_to places) x y ≡ growth (sums_of (weight_in (group_at a k))) x y
  weight-growth = ap₂ (λ u v. u -ℤ v) (sums.weight y c) (sums.weight x b)

  pub gain-growth : growth (gain_to places) x y ≡ growth (sums_of (gain_of a (group_at a k))) x y
  gain-growth = ap₂ (λ u v. u -ℤ v) (sums.gain y c) (sums.gain x b)

  pub benefit-growth : growth (benefit_to places) x y ≡ growth (sums_of (benefit_of (group_at a k))) x y
  benefit-growth = ap₂ (λ u v. u -ℤ v) (sums.benefit y c) (sums.benefit x b)

-- ---- records

-- a level of the list does not depend on what stands for none
pub level-default : (levels : List Frac) (p : ℕ) (d e : Frac) → p < length levels → slice_index_or levels p d ≡ slice_index_or levels p e
level-default [] p d e b = absurd (omega (arith, b))
level-default (level ∷ others) zero d e b = refl
level-default (level ∷ others) (suc p) d e b = level-default others p d e (omega (arith, b))

module _ (a : GroupedAuction) (rank : Rank) (level : Frac) where
  pub kept-pool : IsRecord a rank → IsLevel level → KeepsFrom (weights_by a rank) (gains_by a rank) rank.first rank.stop level rank.stop → IsPool a rank level
  kept-pool is range h = record {
    positive = range.positive;
    inside = λ x l b.
        (let e : suc (x - 1) ≡ x = omega (arith, l) in
        subst (λ y. (level.num *ℤ growth (weights_by a rank) rank.first y) <ℤ (level.den *ℤ growth (gains_by a rank) rank.first y)) e
        ((h.keeps (x - 1) (omega (arith, l)) (omega (arith, l, b))).lower (omega (arith, l, b))));
    whole =
        (let some : rank.first < rank.stop = is.some in
        let e : suc (rank.stop - 1) ≡ rank.stop = omega (arith, some) in
        subst (λ y. level.den *ℤ growth (gains_by a rank) rank.first y ≡ level.num *ℤ growth (weights_by a rank) rank.first y) e
        ((h.keeps (rank.stop - 1) (omega (arith, some)) (omega (arith, some))).greatest e));
  }

  pub pool-keeps : IsPool a rank level → (v : ℕ) → rank.first ≤ v → v < rank.stop → KeepsLevel (weights_by a rank) (gains_by a rank) rank.first rank.stop level v
  pool-keeps h v l b = record {
    lower = λ m. h.inside (suc v) (omega (arith, l)) m;
    greatest = λ e. subst (λ y. level.den *ℤ growth (gains_by a rank) rank.first y ≡ level.num *ℤ growth (weights_by a rank) rank.first y) (sym e) h.whole;
  }

  module _ (places : List Sums) (sums : AreSumsOf a rank.group places) (is : IsRecord a rank) where
    keeps-here : (v : ℕ) → rank.first ≤ v → v < rank.stop → KeepsLevel (weight_to places) (gain_to places) rank.first rank.stop level v
        → KeepsLevel (weights_by a rank) (gains_by a rank) rank.first rank.stop level v
    keeps-here v l b =
        let from : rank.first ≤ length (group_at a rank.group).values = omega (arith, is.some, is.stop) in
        let to : suc v ≤ length (group_at a rank.group).values = omega (arith, b, is.stop) in
        keeps-same _ _ _ _ rank.first rank.stop level v (weight-growth a rank.group places sums rank.first (suc v) from to) (gain-growth a rank.group places sums rank.first (suc v) from to)

    keeps-there : (v : ℕ) → rank.first ≤ v → v < rank.stop → KeepsLevel (weights_by a rank) (gains_by a rank) rank.first rank.stop level v
        → KeepsLevel (weight_to places) (gain_to places) rank.first rank.stop level v
    keeps-there v l b =
        let from : rank.first ≤ length (group_at a rank.group).values = omega (arith, is.some, is.stop) in
        let to : suc v ≤ length (group_at a rank.group).values = omega (arith, b, is.stop) in
        keeps-same _ _ _ _ rank.first rank.stop level v (sym (weight-growth a rank.group places sums rank.first (suc v) from to)) (sym (gain-growth a rank.group places sums rank.first (suc v) from to))

    pub pool-here : IsLevel level → KeepsFrom (weight_to places) (gain_to places) rank.first rank.stop level rank.stop → IsPool a rank level
    pool-here range h = kept-pool is range (record { keeps = λ v l b. keeps-here v l b (h.keeps v l b) })

    pub unkept-here : (value : ℕ) → IsFirstUnkept (weight_to places) (gain_to places) rank.first rank.stop level value → IsFirstUnkept (weights_by a rank) (gains_by a rank) rank.first rank.stop level value
    unkept-here value h = record {
      from = h.from;
      below = h.below;
      fails = λ keeps. h.fails (keeps-there value h.from h.below keeps);
      before = record { keeps = λ v l b. keeps-here v l (omega (arith, b, h.below)) (h.before.keeps v l b) };
    }

pub unkept-no_pool : (a : GroupedAuction) (rank : Rank) (level : Frac) (value : ℕ) → IsFirstUnkept (weights_by a rank) (gains_by a rank) rank.first rank.stop level value → ¬ IsPool a rank level
unkept-no_pool a rank level value h pool = h.fails (pool-keeps a rank level pool value h.from h.below)
