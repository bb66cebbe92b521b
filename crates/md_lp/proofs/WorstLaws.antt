-- Worst sets by two excesses that are the same, and that a worst set is over.
use Rattle.std.proofs.Common.{◌≡◌, ℕ, ◌^◌, ◌<◌, ℤ, pos, ◌≤ℤ◌, ◌<ℤ◌, sym, ◌∙◌, subst, arith}
use Rattle.std.proofs.lemmas.Int.{ints}
use Rattle.md_lp.specs.Worst.{IsWorstBy, NoneOverBy}

pub worst-same : (n k : ℕ) (f g : ℕ → ℤ) (set : ℕ) → n ≡ k → ((other : ℕ) → f other ≡ g other) → IsWorstBy n f set → IsWorstBy k g set
worst-same n k f g set places same worst = record {
  inside = subst (λ m. set < 2 ^ m) places worst.inside;
  positive = subst (λ z. pos 0 <ℤ z) (same set) worst.positive;
  greatest = λ other b. subst (λ z. z ≤ℤ g set) (same other) (subst (λ z. f other ≤ℤ z) (same set) (worst.greatest other (subst (λ m. other < 2 ^ m) (sym places) b)));
  largest = λ other b e place l in_other. worst.largest other (subst (λ m. other < 2 ^ m) (sym places) b) (same other ∙ e ∙ sym (same set)) place (omega (arith, places, l)) in_other;
}

pub none_over-same : (n k : ℕ) (f g : ℕ → ℤ) → n ≡ k → ((set : ℕ) → f set ≡ g set) → NoneOverBy n f → NoneOverBy k g
none_over-same n k f g places same none = record {
  none_over = λ set b. subst (λ z. z ≤ℤ pos 0) (same set) (none.none_over set (subst (λ m. set < 2 ^ m) (sym places) b));
}

-- the worst set is over
pub worst-over : (n : ℕ) (f : ℕ → ℤ) (set : ℕ) → IsWorstBy n f set → f set ≤ℤ pos 0 → ⊥
worst-over n f set worst none = never (f set) worst.positive none
  where
    never : (z : ℤ) → pos 0 <ℤ z → z ≤ℤ pos 0 → ⊥
    never z p q = omega (arith, ints)
