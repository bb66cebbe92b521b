-- Sums over the bidders of one group.
use Rattle.std.proofs.Common.{◌≡◌, ℕ, zero, suc, ◌<◌, ◌==◌, ℤ, pos, ◌+ℤ◌, ◌-ℤ◌, ◌*ℤ◌, Bool, true, false, if◌then◌else◌, refl, sym, ap, ap₂, ◌∙◌, inl, inr, arith, eqb-true, eq-eqb, ne_eqb}
use Rattle.std.proofs.lemmas.Bool.{cases_Bool}
use Rattle.md_math.specs.Sums.{sum_to}
use Rattle.md_math.proofs.Order.{chosen-times}
use Rattle.md_math.proofs.Ring.{linear}
use Rattle.md_math.proofs.SumLaws.{sum_to-same, sum_to-+ℤ, sum_to-sub, sum_to-*ℤ, sum_to-swap, sum_to-single, sum_to-if}
use Rattle.md_list.specs.Rule.{step_of, pay_by}

-- the sum of f over those of n bidders that are members of group k
abbrev pub of_group : ℕ → (ℕ → ℕ) → ℕ → (ℕ → ℤ) → ℤ
of_group n member k f = sum_to n (λ i. if member i == k then f i else pos 0)

-- a sum over all bidders is one over the groups
pub by-groups : (n m : ℕ) (member : ℕ → ℕ) (f : ℕ → ℤ) → ((i : ℕ) → i < n → member i < m) → sum_to n f ≡ sum_to m (λ k. of_group n member k f)
by-groups n m member f inside =
    sum_to-same n f _
    (λ i b.
    sym
    (sum_to-single m (member i) (λ k. if member i == k then f i else pos 0) (inside i b) (λ k c d. ap (λ (t : Bool). if t then f i else pos 0) (ne_eqb (member i) k (λ e. d (sym e))))
    ∙ ap (λ (t : Bool). if t then f i else pos 0) (eq-eqb (member i) (member i) refl)))
    ∙ sum_to-swap n m (λ i k. if member i == k then f i else pos 0)

module _ (n : ℕ) (member : ℕ → ℕ) (k : ℕ) where
  pub group-same : (f g : ℕ → ℤ) → ((i : ℕ) → i < n → member i ≡ k → f i ≡ g i) → of_group n member k f ≡ of_group n member k g
  group-same f g h =
      sum_to-same n _ _
      (λ i b. elim (cases_Bool (member i == k)) [
        | inl e ↦ rw e (h i b (eqb-true (member i) k e))
        | inr e ↦ rw e refl
      ])

  pub group-times : (c : ℤ) (f : ℕ → ℤ) → of_group n member k (λ i. c *ℤ f i) ≡ c *ℤ of_group n member k f
  group-times c f = sum_to-same n _ _ (λ i b. sym (chosen-times (member i == k) c (f i))) ∙ sum_to-*ℤ n c (λ i. if member i == k then f i else pos 0)

  pub group-plus : (f g : ℕ → ℤ) → of_group n member k (λ i. f i +ℤ g i) ≡ of_group n member k f +ℤ of_group n member k g
  group-plus f g =
      sum_to-same n _ (λ i. (if member i == k then f i else pos 0) +ℤ (if member i == k then g i else pos 0)) (λ i b. both (member i == k) (f i) (g i))
      ∙ sum_to-+ℤ n (λ i. if member i == k then f i else pos 0) (λ i. if member i == k then g i else pos 0)
    where
      both : (b : Bool) (x y : ℤ) → (if b then x +ℤ y else pos 0) ≡ (if b then x else pos 0) +ℤ (if b then y else pos 0)
      both true x y = refl
      both false x y = omega (arith, linear)

  pub group-less : (f g : ℕ → ℤ) → of_group n member k (λ i. f i -ℤ g i) ≡ of_group n member k f -ℤ of_group n member k g
  group-less f g =
      sum_to-same n _ (λ i. (if member i == k then f i else pos 0) -ℤ (if member i == k then g i else pos 0)) (λ i b. both (member i == k) (f i) (g i))
      ∙ sum_to-sub n (λ i. if member i == k then f i else pos 0) (λ i. if member i == k then g i else pos 0)
    where
      both : (b : Bool) (x y : ℤ) → (if b then x -ℤ y else pos 0) ≡ (if b then x else pos 0) -ℤ (if b then y else pos 0)
      both true x y = refl
      both false x y = omega (arith, linear)

  -- of sums, over the bidders for each term
  pub group-sum : (m : ℕ) (f : ℕ → ℕ → ℤ) → of_group n member k (λ i. sum_to m (f i)) ≡ sum_to m (λ v. of_group n member k (λ i. f i v))
  group-sum m f =
      sum_to-same n _ (λ i. sum_to m (λ v. if member i == k then f i v else pos 0)) (λ i b. sym (sum_to-if m (member i == k) (f i)))
      ∙ sum_to-swap n m (λ i v. if member i == k then f i v else pos 0)

  -- a linear sum of two functions
  pub group-both : (w c r : ℤ) (f g : ℕ → ℤ) → of_group n member k (λ i. w *ℤ (c *ℤ f i +ℤ r *ℤ g i)) ≡ w *ℤ (c *ℤ of_group n member k f +ℤ r *ℤ of_group n member k g)
  group-both w c r f g =
      group-times w (λ i. c *ℤ f i +ℤ r *ℤ g i)
      ∙ ap (λ z. w *ℤ z) (group-plus (λ i. c *ℤ f i) (λ i. r *ℤ g i) ∙ ap₂ (λ y z. y +ℤ z) (group-times c f) (group-times r g))

  group-step : (f : ℕ → ℕ → ℤ) (x : ℕ) → of_group n member k (λ i. step_of (f i) x) ≡ step_of (λ u. of_group n member k (λ i. f i u)) x
  group-step f zero = refl
  group-step f (suc x) = group-less (λ i. f i (suc x)) (λ i. f i x)

  -- payments unit by unit add to that for the sum of the amounts
  pub group-pays : (value : ℕ → ℤ) (f : ℕ → ℕ → ℤ) (v : ℕ) → of_group n member k (λ i. pay_by value (f i) v) ≡ pay_by value (λ u. of_group n member k (λ i. f i u)) v
  group-pays value f v =
      group-sum (suc v) (λ i x. value x *ℤ step_of (f i) x)
      ∙ sum_to-same (suc v) _ _ (λ x b. group-times (value x) (λ i. step_of (f i) x) ∙ ap (λ z. value x *ℤ z) (group-step f x))
