-- Sums over neighbouring values.
use Rattle.std.proofs.Common.{◌≡◌, ◌≢◌, ℕ, zero, suc, ◌+◌, ◌<◌, ◌==◌, Bool, true, false, nat_lt, if◌then◌else◌, ℤ, pos, ◌+ℤ◌, ◌-ℤ◌, ◌*ℤ◌, neg_ℤ, inl, inr, refl, sym, ap, ◌∙◌, arith, lt-ltb, le-ltb, eq-eqb, ne_eqb}
use Rattle.std.proofs.lemmas.Bool.{cases_lt}
use lib.IntN.{*ℤ_comm}
use Rattle.md_math.specs.Sums.{sum_to}
use Rattle.md_math.proofs.Ring.{linear, ring, *ℤ-zero, zero-*ℤ}
use Rattle.md_math.proofs.SumLaws.{sum_to-same, sum_to-zero, sum_to-single, sum_to-swap, sum_to-+ℤ, sum_to-*ℤ}
use Rattle.md_iron_values.specs.Odds.{step_of}

-- ---- sums by parts

-- a function at the place before
abbrev pub before_of : (ℕ → ℤ) → ℕ → ℤ
before_of x zero = pos 0
before_of x (suc j) = x j

pub step-is : (x : ℕ → ℤ) (j : ℕ) → step_of x j ≡ x j -ℤ before_of x j
step-is x zero = omega (arith, linear)
step-is x (suc j) = refl

parts-at : (y0 y1 x d l : ℤ) → d ≡ x -ℤ l → y0 *ℤ l +ℤ y0 *ℤ d ≡ (y0 -ℤ y1) *ℤ x +ℤ y1 *ℤ x
parts-at y0 y1 x d l e =
    let expand : y0 *ℤ (x -ℤ l) ≡ y0 *ℤ x -ℤ y0 *ℤ l = simp ring (omega (arith, linear)) in
    let right : (y0 -ℤ y1) *ℤ x ≡ y0 *ℤ x -ℤ y1 *ℤ x = simp ring (omega (arith, linear)) in
    omega (arith, linear, expand, right, ap (λ z. y0 *ℤ z) e)

pub by-parts : (n : ℕ) (y x : ℕ → ℤ) → sum_to n (λ j. y j *ℤ step_of x j) ≡ sum_to n (λ j. (y j -ℤ y (suc j)) *ℤ x j) +ℤ y n *ℤ before_of x n
by-parts zero y x = omega (arith, linear, *ℤ-zero (y 0))
by-parts (suc n) y x = omega (arith, linear, by-parts n y x, parts-at (y n) (y (suc n)) (x n) (step_of x n) (before_of x n) (step-is x n))

pub steps-sum : (n : ℕ) (g : ℕ → ℤ) → sum_to n (step_of g) ≡ before_of g n
steps-sum zero g = refl
steps-sum (suc zero) g = omega (arith, linear)
steps-sum (suc (suc n)) g = omega (arith, linear, steps-sum (suc n) g)

-- ---- sums over pairs of neighbours

abbrev pub at_edge : (ℕ → ℕ → ℤ) → ℕ → ℤ
at_edge h zero = pos 0
at_edge h (suc i) = h (suc i) i

one-edge : (k : ℕ) (h : ℕ → ℕ → ℤ) (v : ℕ) → v < k → sum_to k (λ w. if v == w + 1 then h v w else pos 0) ≡ at_edge h v
one-edge k h zero b = sum_to-zero k _ (λ w l. (let other : 0 ≢ w + 1 = (λ e. omega (arith, e)) in rw (ne_eqb 0 (w + 1) other) refl))
one-edge k h (suc i) b =
    sum_to-single k i (λ w. if suc i == w + 1 then h (suc i) w else pos 0) (omega (arith, b))
    (λ j l d. (let other : suc i ≢ j + 1 = (λ e. d (omega (arith, e))) in rw (ne_eqb (suc i) (j + 1) other) refl))
    ∙ (let same : suc i ≡ i + 1 = omega arith in rw (eq-eqb (suc i) (i + 1) same) refl)

pub sum-edges : (k : ℕ) (h : ℕ → ℕ → ℤ) → sum_to k (λ v. sum_to k (λ w. if v == w + 1 then h v w else pos 0)) ≡ sum_to k (at_edge h)
sum-edges k h = sum_to-same k _ (at_edge h) (λ v b. one-edge k h v b)

pub sum-edges-back : (k : ℕ) (h : ℕ → ℕ → ℤ) → sum_to k (λ v. sum_to k (λ w. if w == v + 1 then h w v else pos 0)) ≡ sum_to k (at_edge h)
sum-edges-back k h = sum_to-swap k k (λ v w. if w == v + 1 then h w v else pos 0) ∙ sum-edges k h

-- ---- sums over the values from one on

sum-head : (k v : ℕ) (c : ℕ → ℤ) → v < k → sum_to k (λ s. if nat_lt v s then pos 0 else c s) ≡ sum_to (suc v) c
sum-head zero v c b = absurd (omega (arith, b))
sum-head (suc m) v c b = elim (cases_lt v m) [
  | inl l ↦
      let last : (if nat_lt v m then pos 0 else c m) ≡ pos 0 = rw (lt-ltb v m l) refl in
      omega (arith, linear, sum-head m v c l, last)
  | inr g ↦
      let same : m ≡ v = omega (arith, b, g) in
      let all : sum_to (suc m) (λ s. if nat_lt v s then pos 0 else c s) ≡ sum_to (suc m) c =
      sum_to-same (suc m) _ c (λ s l. rw (le-ltb v s (omega (arith, l, g))) refl) in
      all ∙ ap (λ n. sum_to (suc n) c) same
]

chosen-out : (t : Bool) (c h : ℤ) → c *ℤ (if t then pos 0 else h) ≡ (if t then pos 0 else c *ℤ h)
chosen-out true c h = *ℤ-zero c
chosen-out false c h = refl

chosen-back : (t : Bool) (c h : ℤ) → (if t then pos 0 else c *ℤ h) ≡ h *ℤ (if t then pos 0 else c)
chosen-back true c h = sym (*ℤ-zero h)
chosen-back false c h = *ℤ_comm c h

-- a number for each value times a sum over the values from it on
pub sum-tails : (k : ℕ) (c h : ℕ → ℤ) → sum_to k (λ s. c s *ℤ sum_to k (λ v. if nat_lt v s then pos 0 else h v)) ≡ sum_to k (λ v. h v *ℤ sum_to (suc v) c)
sum-tails k c h =
    sum_to-same k _ (λ s. sum_to k (λ v. if nat_lt v s then pos 0 else c s *ℤ h v))
    (λ s b. sym (sum_to-*ℤ k (c s) (λ v. if nat_lt v s then pos 0 else h v)) ∙ sum_to-same k _ _ (λ v l. chosen-out (nat_lt v s) (c s) (h v)))
    ∙ sum_to-swap k k (λ s v. if nat_lt v s then pos 0 else c s *ℤ h v)
    ∙ sum_to-same k _ (λ v. h v *ℤ sum_to (suc v) c)
    (λ v b. sum_to-same k _ (λ s. h v *ℤ (if nat_lt v s then pos 0 else c s)) (λ s l. chosen-back (nat_lt v s) (c s) (h v))
    ∙ sum_to-*ℤ k (h v) (λ s. if nat_lt v s then pos 0 else c s)
    ∙ ap (λ z. h v *ℤ z) (sum-head k v c b))

-- ---- the truth rows between neighbours, with the multipliers `up` and `down`, and the rational row of the lowest value

abbrev pub edge_of : (ℕ → ℤ) → (ℕ → ℤ) → (ℕ → ℤ) → (ℕ → ℤ) → (ℕ → ℤ) → ℕ → ℤ
edge_of v x pay up down zero = down 0 *ℤ neg_ℤ (v 0 *ℤ x 0 -ℤ pay 0)
edge_of v x pay up down (suc i) =
    up (suc i) *ℤ ((v i *ℤ x (suc i) -ℤ pay (suc i)) -ℤ (v i *ℤ x i -ℤ pay i))
    +ℤ down (suc i) *ℤ ((v (suc i) *ℤ x i -ℤ pay i) -ℤ (v (suc i) *ℤ x (suc i) -ℤ pay (suc i)))

-- The multipliers over k times a scale: upwards the gap, for each unit by which the values differ; downwards as much, and what
-- the payments of all higher values are worth.
pub record AreEdges (k : ℕ) (v worth gap : ℕ → ℤ) (times : ℤ) (up down : ℕ → ℤ) : Type 0 where
  pub up_is : (j : ℕ) → suc j < k → (v (suc j) -ℤ v j) *ℤ up (suc j) ≡ times *ℤ gap (suc j)
  pub down_is : (j : ℕ) → j < k → down j ≡ worth j +ℤ up j
  pub none_up : up 0 ≡ pos 0
  pub none_first : gap 0 ≡ pos 0
  pub none_last : gap k ≡ pos 0
  pub none_worth : worth k ≡ pos 0

abbrev pub pull_of : (ℕ → ℤ) → (ℕ → ℤ) → (ℕ → ℤ) → ℤ → ℕ → ℤ
pull_of v worth gap times j = neg_ℤ (times *ℤ gap j +ℤ worth j *ℤ v j)

edge-at : (u w v kg rt x0 x1 p0 p1 d : ℤ) → (v -ℤ w) *ℤ u ≡ kg → d ≡ rt +ℤ u
    → u *ℤ ((w *ℤ x1 -ℤ p1) -ℤ (w *ℤ x0 -ℤ p0)) +ℤ d *ℤ ((v *ℤ x0 -ℤ p0) -ℤ (v *ℤ x1 -ℤ p1)) ≡ neg_ℤ (kg +ℤ rt *ℤ v) *ℤ (x1 -ℤ x0) +ℤ rt *ℤ (p1 -ℤ p0)
edge-at u w v kg rt x0 x1 p0 p1 d e f =
    let known : ((v -ℤ w) *ℤ u) *ℤ (x1 -ℤ x0) ≡ kg *ℤ (x1 -ℤ x0) = ap (λ z. z *ℤ (x1 -ℤ x0)) e in
    rw f (let h = simp ring at known in simp ring (omega (arith, linear, h)))

edge-first : (rt v x p kg d : ℤ) → kg ≡ pos 0 → d ≡ rt → d *ℤ neg_ℤ (v *ℤ x -ℤ p) ≡ neg_ℤ (kg +ℤ rt *ℤ v) *ℤ x +ℤ rt *ℤ p
edge-first rt v x p kg d e f = rw (e, f) (simp ring (omega (arith, linear)))

edge-is : (k : ℕ) (v worth gap : ℕ → ℤ) (times : ℤ) (up down x pay : ℕ → ℤ) → AreEdges k v worth gap times up down → (j : ℕ) → j < k
    → edge_of v x pay up down j ≡ pull_of v worth gap times j *ℤ step_of x j +ℤ worth j *ℤ step_of pay j
edge-is k v worth gap times up down x pay are zero b =
    let none : times *ℤ gap 0 ≡ pos 0 = ap (λ z. times *ℤ z) are.none_first ∙ *ℤ-zero times in
    let only : down 0 ≡ worth 0 = omega (arith, linear, are.down_is 0 b, are.none_up) in
    edge-first (worth 0) (v 0) (x 0) (pay 0) (times *ℤ gap 0) (down 0) none only
edge-is k v worth gap times up down x pay are (suc i) b =
    edge-at (up (suc i)) (v i) (v (suc i)) (times *ℤ gap (suc i)) (worth (suc i)) (x i) (x (suc i)) (pay i) (pay (suc i)) (down (suc i)) (are.up_is i b) (are.down_is (suc i) b)

-- all of them together, by odds and by payments
pub edges-sum : (k : ℕ) (v worth gap : ℕ → ℤ) (times : ℤ) (up down x pay : ℕ → ℤ) → AreEdges k v worth gap times up down
    → sum_to k (edge_of v x pay up down)
    ≡ sum_to k (λ j. (pull_of v worth gap times j -ℤ pull_of v worth gap times (suc j)) *ℤ x j) +ℤ sum_to k (λ j. (worth j -ℤ worth (suc j)) *ℤ pay j)
edges-sum k v worth gap times up down x pay are =
    let each : sum_to k (edge_of v x pay up down) ≡ sum_to k (λ j. pull_of v worth gap times j *ℤ step_of x j +ℤ worth j *ℤ step_of pay j) =
    sum_to-same k _ _ (edge-is k v worth gap times up down x pay are) in
    let split : sum_to k (λ j. pull_of v worth gap times j *ℤ step_of x j +ℤ worth j *ℤ step_of pay j) ≡ sum_to k (λ j. pull_of v worth gap times j *ℤ step_of x j) +ℤ sum_to k (λ j. worth j *ℤ step_of pay j) =
    sum_to-+ℤ k (λ j. pull_of v worth gap times j *ℤ step_of x j) (λ j. worth j *ℤ step_of pay j) in
    let none : pull_of v worth gap times k *ℤ before_of x k ≡ pos 0 = nothing times (gap k) (worth k) (v k) (before_of x k) are.none_last are.none_worth in
    let no_worth : worth k *ℤ before_of pay k ≡ pos 0 = ap (λ z. z *ℤ before_of pay k) are.none_worth ∙ zero-*ℤ (before_of pay k) in
    omega (arith, linear, each, split, none, no_worth, by-parts k (pull_of v worth gap times) x, by-parts k worth pay)
  where
    nothing : (t g w v x : ℤ) → g ≡ pos 0 → w ≡ pos 0 → neg_ℤ (t *ℤ g +ℤ w *ℤ v) *ℤ x ≡ pos 0
    nothing t g w v x e f = rw (e, f) (simp ring (omega (arith, linear)))

-- ---- the two sides of optimality

-- what the truth rows and the cuts give a value is what it costs, and what is left of it
pub value-at : (kg0 kg1 a0 a1 bc br kp left x p : ℤ) → left ≡ (kg1 -ℤ kg0) -ℤ ((bc +ℤ a0) -ℤ a1) +ℤ kp
    → ((neg_ℤ (kg0 +ℤ a0) -ℤ neg_ℤ (kg1 +ℤ a1)) *ℤ x +ℤ br *ℤ p) +ℤ kp *ℤ x ≡ (bc *ℤ x +ℤ br *ℤ p) +ℤ left *ℤ x
value-at kg0 kg1 a0 a1 bc br kp left x p e = rw e (simp ring (omega (arith, linear)))
