-- Sums by the weights of a group are multiples of those by the weights in least terms.
use Rattle.std.proofs.Common.{◌≡◌, ℕ, zero, suc, ◌/◌, ◌%◌, ◌<◌, ◌==◌, ℤ, pos, ◌+ℤ◌, ◌-ℤ◌, ◌*ℤ◌, true, unsigned_abs, List, [], ◌∷◌, map, length, inl, inr, refl, sym, ap, ap₂, ◌∙◌, subst, arith, div-add-mod'}
use Rattle.std.specs.Prelude.{slice_index}
use lib.IntN.{*ℤ_comm}
use Rattle.std.proofs.Math.IntN.{pos-*ℤ-pos}
use Rattle.std.proofs.lemmas.Bool.{cases_lt}
use Rattle.std.proofs.lemmas.Bool.Decides.{nat_tests}
use Rattle.std.proofs.lemmas.List.{length-map, get_or-map, get_or_past}
use Rattle.std.proofs.lemmas.List.Sums.{sum_by-cons}
use Rattle.md_math.specs.Divisors.{IsGcdOf}
use Rattle.md_math.specs.Lists.{number_at}
use Rattle.md_math.specs.Sums.{sum_to, total_by}
use Rattle.md_math.proofs.BoundedTests.{true_or_false}
use Rattle.md_math.proofs.Ring.{linear, ring, *ℤ_assoc}
use Rattle.md_math.proofs.SumLaws.{sum_to-same, sum_to-*ℤ}
use Rattle.md_math.proofs.TotalLaws.{total_by-places}
use Rattle.md_setting.specs.Auction.{total_weight}
use Rattle.md_setting.specs.Grouped.{Group, GroupedAuction, no_group, group_at}
use Rattle.md_setting.specs.GroupedRefusals.{divides_all, greatest_divisor, divisor_of}
use Rattle.md_setting.specs.GroupedShaped.{IsGroup}
use Rattle.md_setting.proofs.Divisors.{divisor_is}
use Rattle.md_setting.proofs.TestLaws.{and_left, and_right, and_both}
use Rattle.md_list.specs.ByRule.{growth, sums_of}
use Rattle.md_list.specs.Gains.{weight_in, weight_from, gain_of, benefit_of}
use Rattle.md_list.specs.Told.{divided_group, divided}

-- ---- the greatest divisor

zero_test : (n : ℕ) → (n == 0) ≡ true → n ≡ 0
zero_test n h = grind (arith, nat_tests)

by-one : (weights : List ℕ) → divides_all weights 1 ≡ true
by-one [] = refl
by-one (w ∷ ws) = and_both _ _ (none (w % 1) (omega arith)) (by-one ws)
  where
    none : (n : ℕ) → n ≡ 0 → (n == 0) ≡ true
    none n e = grind (arith, nat_tests)

greatest-divides : (weights : List ℕ) (n : ℕ) → divides_all weights (greatest_divisor weights n) ≡ true
greatest-divides weights zero = by-one weights
greatest-divides weights (suc n) = elim (true_or_false (divides_all weights (suc n))) [
  | inl e ↦ rw e e
  | inr e ↦ rw e (greatest-divides weights n)
]

greatest-positive : (weights : List ℕ) (n : ℕ) → 0 < greatest_divisor weights n
greatest-positive weights zero = omega arith
greatest-positive weights (suc n) = elim (true_or_false (divides_all weights (suc n))) [
  | inl e ↦ rw e (omega arith)
  | inr e ↦ rw e (greatest-positive weights n)
]

pub divisor-positive : (weights : List ℕ) → 0 < divisor_of weights
divisor-positive weights = greatest-positive weights (total_weight weights)

no-rest : (weights : List ℕ) (d : ℕ) → divides_all weights d ≡ true → (v : ℕ) → v < length weights → slice_index weights v % d ≡ 0
no-rest [] d h v b = absurd (omega (arith, b))
no-rest (w ∷ ws) d h zero b = zero_test (w % d) (and_left _ _ h)
no-rest (w ∷ ws) d h (suc v) b = no-rest ws d (and_right (w % d == 0) _ h) v (omega (arith, b))

exactly : (w d : ℕ) → w % d ≡ 0 → pos w ≡ pos d *ℤ pos (w / d)
exactly w d e =
    let parts = div-add-mod' w d in
    ap pos (omega (arith, parts, e)) ∙ sym (pos-*ℤ-pos (w / d) d) ∙ *ℤ_comm (pos (w / d)) (pos d)

-- ---- the code's divisor

back : (weights : List ℕ) → map unsigned_abs (map pos weights) ≡ weights
back [] = refl
back (w ∷ ws) = ap (λ others. w ∷ others) (back ws)

some-weight : (weights : List ℕ) → 0 < length weights → 0 < slice_index weights 0 → 0 < total_weight weights
some-weight [] b p = absurd (omega (arith, b))
some-weight (w ∷ ws) b p = rw (sum_by-cons (λ (weight : ℕ). weight) w ws) (omega (arith, p))

pub divisor-is : (group : Group) (numbers : List ℤ) (d : ℕ) → IsGroup group → numbers ≡ map pos group.weights → IsGcdOf (length numbers) (number_at numbers) (pos d) → d ≡ divisor_of group.weights
divisor-is group numbers d is e gcd =
    let same : map unsigned_abs numbers ≡ group.weights = ap (λ ns. map unsigned_abs ns) e ∙ back group.weights in
    let here : 0 < length group.weights = omega (arith, is.one_each, is.some_value) in
    let some : 0 < total_weight group.weights = some-weight group.weights here (is.positive 0 (omega (arith, is.some_value))) in
    sym (divisor_is numbers d gcd (subst (λ ws. 0 < total_weight ws) (sym same) some)) ∙ ap divisor_of same

-- ---- one group

module _ (a : GroupedAuction) (group : Group) where
  abbrev least : Group
  least = divided_group group

  abbrev by : ℤ
  by = pos (divisor_of group.weights)

  weight-times : (v : ℕ) → weight_in group v ≡ by *ℤ weight_in least v
  weight-times v = elim (cases_lt v (length group.weights)) [
    | inl b ↦
        exactly (slice_index group.weights v) (divisor_of group.weights) (no-rest group.weights (divisor_of group.weights) (greatest-divides group.weights (total_weight group.weights)) v b)
        ∙ ap (λ n. by *ℤ pos n) (sym (get_or-map (λ w. w / divisor_of group.weights) group.weights v 0 0 b))
    | inr b ↦
        ap pos (get_or_past group.weights v 0 b)
        ∙ sym (ap (λ n. by *ℤ pos n) (get_or_past least.weights v 0 (omega (arith, b, length-map group.weights (λ w. w / divisor_of group.weights)))) ∙ none by)
  ]
    where
      none : (z : ℤ) → z *ℤ pos 0 ≡ pos 0
      none z = simp ring

  weights-times : (x : ℕ) → sum_to x (weight_in group) ≡ by *ℤ sum_to x (weight_in least)
  weights-times x = sum_to-same x (weight_in group) (λ v. by *ℤ weight_in least v) (λ v b. weight-times v) ∙ sum_to-*ℤ x by (weight_in least)

  total-times : total_by pos group.weights ≡ by *ℤ total_by pos least.weights
  total-times =
      total_by-places pos group.weights 0
      ∙ weights-times (length group.weights)
      ∙ ap (λ n. by *ℤ sum_to n (weight_in least)) (sym (length-map group.weights (λ w. w / divisor_of group.weights)))
      ∙ ap (λ z. by *ℤ z) (sym (total_by-places pos least.weights 0))

  from-times : (x : ℕ) → weight_from group x ≡ by *ℤ weight_from least x
  from-times x = ap₂ (λ u v. u -ℤ v) total-times (weights-times x) ∙ parts by (total_by pos least.weights) (sum_to x (weight_in least))
    where
      parts : (d u v : ℤ) → d *ℤ u -ℤ d *ℤ v ≡ d *ℤ (u -ℤ v)
      parts d u v = simp ring (omega (arith, linear))

  gain-times : (v : ℕ) → gain_of a group v ≡ by *ℤ gain_of (divided a) least v
  gain-times v =
      let s = (a.welfare *ℤ number_at group.values v +ℤ group.worth) -ℤ a.keep in
      let x = number_at group.values v in
      let y = number_at group.values (suc v) in
      ap₂ (λ w z. w *ℤ s +ℤ a.revenue *ℤ z) (weight-times v) (ap₂ (λ f g. x *ℤ f -ℤ y *ℤ g) (from-times v) (from-times (suc v)))
      ∙ parts by (weight_in least v) s a.revenue x y (weight_from least v) (weight_from least (suc v))
    where
      inner : (d r x y f g : ℤ) → r *ℤ (x *ℤ (d *ℤ f) -ℤ y *ℤ (d *ℤ g)) ≡ d *ℤ (r *ℤ (x *ℤ f -ℤ y *ℤ g))
      inner d r x y f g = simp ring (omega (arith, linear))

      outer : (d w s z : ℤ) → (d *ℤ w) *ℤ s +ℤ d *ℤ z ≡ d *ℤ (w *ℤ s +ℤ z)
      outer d w s z = simp ring (omega (arith, linear))

      parts : (d w s r x y f g : ℤ) → (d *ℤ w) *ℤ s +ℤ r *ℤ (x *ℤ (d *ℤ f) -ℤ y *ℤ (d *ℤ g)) ≡ d *ℤ (w *ℤ s +ℤ r *ℤ (x *ℤ f -ℤ y *ℤ g))
      parts d w s r x y f g = ap (λ z. (d *ℤ w) *ℤ s +ℤ z) (inner d r x y f g) ∙ outer d w s (r *ℤ (x *ℤ f -ℤ y *ℤ g))

  benefit-times : (v : ℕ) → benefit_of group v ≡ by *ℤ benefit_of least v
  benefit-times v = ap (λ w. w *ℤ number_at group.values v) (weight-times v) ∙ *ℤ_assoc by (weight_in least v) (number_at group.values v)

growth-times : (d : ℤ) (f g : ℕ → ℤ) → ((v : ℕ) → f v ≡ d *ℤ g v) → (x y : ℕ) → growth (sums_of f) x y ≡ d *ℤ growth (sums_of g) x y
growth-times d f g e x y = ap₂ (λ u v. u -ℤ v) (all y) (all x) ∙ parts d (sum_to y g) (sum_to x g)
  where
    all : (n : ℕ) → sum_to n f ≡ d *ℤ sum_to n g
    all n = sum_to-same n f (λ v. d *ℤ g v) (λ v b. e v) ∙ sum_to-*ℤ n d g

    parts : (d u v : ℤ) → d *ℤ u -ℤ d *ℤ v ≡ d *ℤ (u -ℤ v)
    parts d u v = simp ring (omega (arith, linear))

-- ---- a group of the auction

module _ (a : GroupedAuction) (k : ℕ) (inside : k < length a.groups) where
  divided-at : group_at (divided a) k ≡ divided_group (group_at a k)
  divided-at = get_or-map divided_group a.groups k no_group no_group inside

  pub weight-least : (x y : ℕ) → growth (sums_of (weight_in (group_at a k))) x y ≡ pos (divisor_of (group_at a k).weights) *ℤ growth (sums_of (weight_in (group_at (divided a) k))) x y
  weight-least x y = rw divided-at (growth-times (pos (divisor_of (group_at a k).weights)) (weight_in (group_at a k)) (weight_in (divided_group (group_at a k))) (weight-times a (group_at a k)) x y)

  pub gain-least : (x y : ℕ) → growth (sums_of (gain_of a (group_at a k))) x y ≡ pos (divisor_of (group_at a k).weights) *ℤ growth (sums_of (gain_of (divided a) (group_at (divided a) k))) x y
  gain-least x y = rw divided-at (growth-times (pos (divisor_of (group_at a k).weights)) (gain_of a (group_at a k)) (gain_of (divided a) (divided_group (group_at a k))) (gain-times a (group_at a k)) x y)

  pub benefit-least : (x y : ℕ) → growth (sums_of (benefit_of (group_at a k))) x y ≡ pos (divisor_of (group_at a k).weights) *ℤ growth (sums_of (benefit_of (group_at (divided a) k))) x y
  benefit-least x y = rw divided-at (growth-times (pos (divisor_of (group_at a k).weights)) (benefit_of (group_at a k)) (benefit_of (divided_group (group_at a k))) (benefit-times a (group_at a k)) x y)
