-- The left sides of conditions as sums of terms.
use Rattle.std.proofs.Common.{◌≡◌, ℕ, ◌+◌, ◌*◌, ◌<◌, ◌≤◌, ℤ, pos, ◌+ℤ◌, ◌-ℤ◌, ◌*ℤ◌, ◌≤ℤ◌, neg_ℤ, List, arith}
use Rattle.md_lp.specs.declared.term.Term.{Term}
use Rattle.md_forms.specs.Terms.{AddsTerms}
use Rattle.md_forms.proofs.TermLaws.{adds-both, adds-as}
use Rattle.md_math.proofs.Ring.{linear, *ℤ-+ℤ, *ℤ-neg_ℤ, neg_ℤ-*ℤ, one-*ℤ}

-- a multiple of a difference by two terms, in either order
pub times-less : (v p m : ℤ) → v *ℤ p +ℤ (pos 0 -ℤ v) *ℤ m ≡ v *ℤ (p -ℤ m)
times-less v p m = rw (less v) (omega (arith, linear, neg_ℤ-*ℤ v m, *ℤ-+ℤ v p (neg_ℤ m), *ℤ-neg_ℤ v m))
  where
    less : (v : ℤ) → pos 0 -ℤ v ≡ neg_ℤ v
    less v = omega (arith, linear)

pub less-times : (v p m : ℤ) → (pos 0 -ℤ v) *ℤ m +ℤ v *ℤ p ≡ v *ℤ (p -ℤ m)
less-times v p m = omega (arith, linear, times-less v p m)

-- the odds, and then the plus and the minus parts, of the value that is told and of the true one
pub truth-form : (v odds true_odds plus true_plus minus true_minus : ℤ)
    → (v *ℤ (odds -ℤ true_odds) +ℤ pos 1 *ℤ (true_plus -ℤ plus)) +ℤ pos 1 *ℤ (minus -ℤ true_minus)
    ≡ (v *ℤ odds -ℤ (plus -ℤ minus)) -ℤ (v *ℤ true_odds -ℤ (true_plus -ℤ true_minus))
truth-form v odds true_odds plus true_plus minus true_minus =
    rw (one-*ℤ (true_plus -ℤ plus), one-*ℤ (minus -ℤ true_minus)) (omega (arith, linear, *ℤ-+ℤ v odds (neg_ℤ true_odds), *ℤ-neg_ℤ v true_odds))

pub rational-form : (v odds plus minus : ℤ) → ((pos 0 -ℤ v) *ℤ odds +ℤ pos 1 *ℤ plus) +ℤ neg_ℤ (pos 1) *ℤ minus ≡ neg_ℤ (v *ℤ odds -ℤ (plus -ℤ minus))
rational-form v odds plus minus =
    rw (less v, one-*ℤ plus) (omega (arith, linear, neg_ℤ-*ℤ v odds, neg_ℤ-*ℤ (pos 1) minus, one-*ℤ minus))
  where
    less : (v : ℤ) → pos 0 -ℤ v ≡ neg_ℤ v
    less v = omega (arith, linear)

-- ---- added terms

pub difference-up : (limit first next more less : ℕ) (v : ℤ) (old mid new : List Term) → AddsTerms limit more (more + 1) (λ x. v *ℤ x more) old mid
    → AddsTerms limit less (less + 1) (λ x. (pos 0 -ℤ v) *ℤ x less) mid new → more < less → first ≤ more → less < next → AddsTerms limit first next (λ x. v *ℤ (x more -ℤ x less)) old new
difference-up limit first next more less v old mid new p q order low high =
    adds-as limit more (less + 1) first next (λ x. v *ℤ x more +ℤ (pos 0 -ℤ v) *ℤ x less) (λ x. v *ℤ (x more -ℤ x less)) old new
    (adds-both limit more (more + 1) less (less + 1) (λ x. v *ℤ x more) (λ x. (pos 0 -ℤ v) *ℤ x less) old mid new p q (omega (arith, order))) low (omega (arith, high)) (λ x. times-less v (x more) (x less))

pub difference-down : (limit first next more less : ℕ) (v : ℤ) (old mid new : List Term) → AddsTerms limit less (less + 1) (λ x. (pos 0 -ℤ v) *ℤ x less) old mid
    → AddsTerms limit more (more + 1) (λ x. v *ℤ x more) mid new → less < more → first ≤ less → more < next → AddsTerms limit first next (λ x. v *ℤ (x more -ℤ x less)) old new
difference-down limit first next more less v old mid new p q order low high =
    adds-as limit less (more + 1) first next (λ x. (pos 0 -ℤ v) *ℤ x less +ℤ v *ℤ x more) (λ x. v *ℤ (x more -ℤ x less)) old new
    (adds-both limit less (less + 1) more (more + 1) (λ x. (pos 0 -ℤ v) *ℤ x less) (λ x. v *ℤ x more) old mid new p q (omega (arith, order))) low (omega (arith, high)) (λ x. less-times v (x more) (x less))

pub adds-truth : (limit k kind other : ℕ) (v : ℤ) (start first second terms : List Term) → AddsTerms limit 0 k (λ x. v *ℤ (x other -ℤ x kind)) start first
    → AddsTerms limit k (2 * k) (λ x. pos 1 *ℤ (x (k + kind) -ℤ x (k + other))) first second
    → AddsTerms limit (2 * k) (3 * k) (λ x. pos 1 *ℤ (x (2 * k + other) -ℤ x (2 * k + kind))) second terms
    → AddsTerms limit 0 (3 * k) (λ x. (v *ℤ x other -ℤ (x (k + other) -ℤ x (2 * k + other))) -ℤ (v *ℤ x kind -ℤ (x (k + kind) -ℤ x (2 * k + kind)))) start terms
adds-truth limit k kind other v start first second terms p q r =
    let odds = λ (x : ℕ → ℤ). v *ℤ (x other -ℤ x kind) in
    let plus = λ (x : ℕ → ℤ). pos 1 *ℤ (x (k + kind) -ℤ x (k + other)) in
    let minus = λ (x : ℕ → ℤ). pos 1 *ℤ (x (2 * k + other) -ℤ x (2 * k + kind)) in
    adds-as limit 0 (3 * k) 0 (3 * k) (λ x. (odds x +ℤ plus x) +ℤ minus x)
    (λ x. (v *ℤ x other -ℤ (x (k + other) -ℤ x (2 * k + other))) -ℤ (v *ℤ x kind -ℤ (x (k + kind) -ℤ x (2 * k + kind)))) start terms
    (adds-both limit 0 (2 * k) (2 * k) (3 * k) (λ x. odds x +ℤ plus x) minus start second terms (adds-both limit 0 k k (2 * k) odds plus start first second p q (omega arith)) r (omega arith))
    (omega arith) (omega arith) (λ x. truth-form v (x other) (x kind) (x (k + other)) (x (k + kind)) (x (2 * k + other)) (x (2 * k + kind)))

pub adds-rational : (limit k kind : ℕ) (v : ℤ) (start first second terms : List Term) → AddsTerms limit kind (kind + 1) (λ x. (pos 0 -ℤ v) *ℤ x kind) start first
    → AddsTerms limit (k + kind) (k + kind + 1) (λ x. pos 1 *ℤ x (k + kind)) first second
    → AddsTerms limit (2 * k + kind) (2 * k + kind + 1) (λ x. neg_ℤ (pos 1) *ℤ x (2 * k + kind)) second terms → kind < k
    → AddsTerms limit 0 (3 * k) (λ x. neg_ℤ (v *ℤ x kind -ℤ (x (k + kind) -ℤ x (2 * k + kind)))) start terms
adds-rational limit k kind v start first second terms p q r h =
    let odds = λ (x : ℕ → ℤ). (pos 0 -ℤ v) *ℤ x kind in
    let plus = λ (x : ℕ → ℤ). pos 1 *ℤ x (k + kind) in
    let minus = λ (x : ℕ → ℤ). neg_ℤ (pos 1) *ℤ x (2 * k + kind) in
    adds-as limit kind (2 * k + kind + 1) 0 (3 * k) (λ x. (odds x +ℤ plus x) +ℤ minus x) (λ x. neg_ℤ (v *ℤ x kind -ℤ (x (k + kind) -ℤ x (2 * k + kind)))) start terms
    (adds-both limit kind (k + kind + 1) (2 * k + kind) (2 * k + kind + 1) (λ x. odds x +ℤ plus x) minus start second terms
    (adds-both limit kind (kind + 1) (k + kind) (k + kind + 1) odds plus start first second p q (omega (arith, h))) r (omega (arith, h)))
    (omega arith) (omega (arith, h)) (λ x. rational-form v (x kind) (x (k + kind)) (x (2 * k + kind)))
