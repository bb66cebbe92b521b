-- A bound on what a bidder contributes to an objective: levels of its values that, added up from any value on, are at least its
-- gains.
use Rattle.std.proofs.Common.{◌≡◌, ℕ, zero, suc, ◌<◌, ℤ, pos, ◌+ℤ◌, ◌-ℤ◌, ◌*ℤ◌, ◌≤ℤ◌, ◌<ℤ◌, sym, ap, ◌∙◌, arith}
use Rattle.md_math.specs.Sums.{sum_to}
use Rattle.md_math.proofs.Order.{*ℤ-le, nonneg-*ℤ}
use Rattle.md_math.proofs.Ring.{linear, ring}
use Rattle.md_math.proofs.SumLaws.{sum_to-same, sum_to-+ℤ, sum_to-sub, sum_to-*ℤ, sum_to-le, sum_to-nonneg, sum_to-zero}
use Rattle.md_list.specs.Rule.{step_of, pay_by}
use Rattle.md_list_laws.proofs.Steps.{by-parts, paid-by_parts, paid-at_most, rises}

-- what a bidder gets and pays on average by the value that it reports: truth is best, and it loses nothing by taking part
pub record TellsTruth (m : ℕ) (value q p : ℕ → ℤ) : Type 0 where
  pub none : pos 0 ≤ℤ q 0
  pub takes_part : pos 0 ≤ℤ (value 0 *ℤ q 0 -ℤ p 0)
  pub truthful : (v u : ℕ) → v < m → u < m → (value v *ℤ q u -ℤ p u) ≤ℤ (value v *ℤ q v -ℤ p v)

-- the gain of a value, where the designer has c of each unit that the bidder gets, and payments count r times
abbrev pub gain_by : (value weight from c : ℕ → ℤ) → ℤ → ℕ → ℤ
gain_by value weight from c r v = weight v *ℤ c v +ℤ r *ℤ (value v *ℤ from v -ℤ value (suc v) *ℤ from (suc v))

-- by how much a level exceeds the gain of a value, over a denominator
abbrev pub excess : (weight gain level : ℕ → ℤ) → ℤ → ℕ → ℤ
excess weight gain level den v = level v *ℤ weight v -ℤ den *ℤ gain v

abbrev pub excess_from : (weight gain level : ℕ → ℤ) → ℤ → ℕ → ℕ → ℤ
excess_from weight gain level den m x = sum_to m (excess weight gain level den) -ℤ sum_to x (excess weight gain level den)

amounts-rise : (m : ℕ) (value q p : ℕ → ℤ) → ((v : ℕ) → suc v < m → value v <ℤ value (suc v)) → TellsTruth m value q p → (x : ℕ) → x < m → pos 0 ≤ℤ step_of q x
amounts-rise m value q p up tells zero b = tells.none
amounts-rise m value q p up tells (suc v) b =
    rises (value v) (value (suc v)) (q v) (q (suc v)) (p v) (p (suc v)) (up v b) (tells.truthful v (suc v) (omega (arith, b)) b) (tells.truthful (suc v) v b (omega (arith, b)))

more : (m : ℕ) (x y : ℕ → ℤ) (r : ℤ) → sum_to m (λ v. x v +ℤ r *ℤ y v) ≡ sum_to m x +ℤ r *ℤ sum_to m y
more m x y r = sum_to-+ℤ m x (λ v. r *ℤ y v) ∙ ap (λ z. sum_to m x +ℤ z) (sum_to-*ℤ m r y)

module _ (m : ℕ) (value weight from c level q : ℕ → ℤ) (r den : ℤ) (ends : from m ≡ pos 0) (weights : (v : ℕ) → weight v ≡ from v -ℤ from (suc v)) where
  abbrev gain : ℕ → ℤ
  gain = gain_by value weight from c r

  -- the contribution of a bidder that pays for each unit the least value with which it would still get it
  by-gains : sum_to m (λ v. weight v *ℤ (c v *ℤ q v +ℤ r *ℤ pay_by value q v)) ≡ sum_to m (λ v. gain v *ℤ q v)
  by-gains =
      let part = λ (v : ℕ). value v *ℤ from v -ℤ value (suc v) *ℤ from (suc v) in
      let own = λ (v : ℕ). weight v *ℤ (c v *ℤ q v) in
      let paid : sum_to m (λ v. part v *ℤ q v) ≡ sum_to m (λ v. weight v *ℤ pay_by value q v) =
      paid-by_parts value weight from q m weights ∙ none (sum_to m (λ v. weight v *ℤ pay_by value q v)) (from m) _ ends in
      sum_to-same m _ (λ v. own v +ℤ r *ℤ (weight v *ℤ pay_by value q v)) (λ v b. first (weight v) (c v) (q v) r (pay_by value q v))
      ∙ more m own (λ v. weight v *ℤ pay_by value q v) r
      ∙ ap (λ z. sum_to m own +ℤ r *ℤ z) (sym paid)
      ∙ sym (more m own (λ v. part v *ℤ q v) r)
      ∙ sum_to-same m _ (λ v. gain v *ℤ q v) (λ v b. second (weight v) (c v) (q v) r (part v))
    where
      none : (z t y : ℤ) → t ≡ pos 0 → z +ℤ t *ℤ y ≡ z
      none z t y e = rw e (let n : pos 0 *ℤ y ≡ pos 0 = simp ring in omega (arith, linear, n))

      first : (w c q r p : ℤ) → w *ℤ (c *ℤ q +ℤ r *ℤ p) ≡ w *ℤ (c *ℤ q) +ℤ r *ℤ (w *ℤ p)
      first w c q r p = simp ring

      second : (w c q r z : ℤ) → w *ℤ (c *ℤ q) +ℤ r *ℤ (z *ℤ q) ≡ (w *ℤ c +ℤ r *ℤ z) *ℤ q
      second w c q r z = simp ring

  by-excess : sum_to m (λ v. (level v *ℤ weight v) *ℤ q v) -ℤ den *ℤ sum_to m (λ v. gain v *ℤ q v) ≡ sum_to m (λ x. excess_from weight gain level den m x *ℤ step_of q x)
  by-excess =
      let all = λ (v : ℕ). (level v *ℤ weight v) *ℤ q v in
      ap (λ z. sum_to m all -ℤ z) (sym (sum_to-*ℤ m den (λ v. gain v *ℤ q v)))
      ∙ sym (sum_to-sub m all (λ v. den *ℤ (gain v *ℤ q v)))
      ∙ sum_to-same m _ (λ v. excess weight gain level den v *ℤ q v) (λ v b. part (level v *ℤ weight v) (q v) den (gain v))
      ∙ by-parts (excess weight gain level den) q m
    where
      part : (l q d g : ℤ) → l *ℤ q -ℤ d *ℤ (g *ℤ q) ≡ (l -ℤ d *ℤ g) *ℤ q
      part l q d g = simp ring (omega (arith, linear))

  -- a truthful bidder contributes at most its levels
  pub levels-bound : (p : ℕ → ℤ) → pos 0 ≤ℤ r → pos 0 ≤ℤ den → ((v : ℕ) → v < m → pos 0 ≤ℤ weight v) → ((v : ℕ) → suc v < m → value v <ℤ value (suc v)) → TellsTruth m value q p
      → ((x : ℕ) → x < m → pos 0 ≤ℤ excess_from weight gain level den m x)
      → (den *ℤ sum_to m (λ v. weight v *ℤ (c v *ℤ q v +ℤ r *ℤ p v))) ≤ℤ sum_to m (λ v. (level v *ℤ weight v) *ℤ q v)
  levels-bound p r_nonneg den_nonneg positive up tells above =
      let paid : (v : ℕ) → v < m → p v ≤ℤ pay_by value q v =
      paid-at_most value q p m (omega (arith, linear, tells.takes_part)) (λ v b. next (value (suc v)) (q v) (q (suc v)) (p v) (p (suc v)) (tells.truthful (suc v) v b (omega (arith, b)))) in
      let least : sum_to m (λ v. weight v *ℤ (c v *ℤ q v +ℤ r *ℤ p v)) ≤ℤ sum_to m (λ v. weight v *ℤ (c v *ℤ q v +ℤ r *ℤ pay_by value q v)) =
      sum_to-le m _ _ (λ v b. *ℤ-le (weight v) _ _ (positive v b) (both (c v *ℤ q v) (r *ℤ p v) (r *ℤ pay_by value q v) (*ℤ-le r (p v) (pay_by value q v) r_nonneg (paid v b)))) in
      let rest : pos 0 ≤ℤ sum_to m (λ x. excess_from weight gain level den m x *ℤ step_of q x) =
      sum_to-nonneg m _ (λ x b. nonneg-*ℤ (excess_from weight gain level den m x) (step_of q x) (above x b) (amounts-rise m value q p up tells x b)) in
      let scaled = *ℤ-le den _ _ den_nonneg least in
      omega (arith, linear, scaled, ap (λ z. den *ℤ z) by-gains, by-excess, rest)
    where
      next : (v q r p s : ℤ) → (v *ℤ q -ℤ p) ≤ℤ (v *ℤ r -ℤ s) → (s -ℤ p) ≤ℤ (v *ℤ (r -ℤ q))
      next v q r p s h = (let e : v *ℤ (r -ℤ q) ≡ v *ℤ r -ℤ v *ℤ q = simp ring (omega (arith, linear)) in omega (arith, linear, h, e))

      both : (z x y : ℤ) → x ≤ℤ y → (z +ℤ x) ≤ℤ (z +ℤ y)
      both z x y h = omega (arith, linear, h)

  -- it contributes just as much where it pays unit by unit, and what it gets rises only where nothing is in excess
  pub levels-reached : (p : ℕ → ℤ) → ((v : ℕ) → v < m → p v ≡ pay_by value q v) → ((x : ℕ) → x < m → excess_from weight gain level den m x *ℤ step_of q x ≡ pos 0)
      → den *ℤ sum_to m (λ v. weight v *ℤ (c v *ℤ q v +ℤ r *ℤ p v)) ≡ sum_to m (λ v. (level v *ℤ weight v) *ℤ q v)
  levels-reached p pays none =
      let same : sum_to m (λ v. weight v *ℤ (c v *ℤ q v +ℤ r *ℤ p v)) ≡ sum_to m (λ v. weight v *ℤ (c v *ℤ q v +ℤ r *ℤ pay_by value q v)) =
      sum_to-same m _ _ (λ v b. ap (λ z. weight v *ℤ (c v *ℤ q v +ℤ r *ℤ z)) (pays v b)) in
      omega (arith, linear, ap (λ z. den *ℤ z) (same ∙ by-gains), by-excess, sum_to-zero m _ none)
