-- A list of amounts that is made row by row.
use Rattle.std.proofs.Common.{◌≡◌, ℕ, ◌+◌, ◌*◌, ◌<◌, ℤ, List, length, ◌∙◌, subst, inl, inr, arith}
use Rattle.std.proofs.lemmas.Bool.{cases_lt}
use Rattle.md_math.specs.Lists.{number_at}
use Rattle.md_flow.proofs.Cells.{in_list}

pub rows_more : (m i : ℕ) (x : ℕ → ℕ → ℤ) (old new : List ℤ) → length old ≡ i * m → ((u d : ℕ) → u < i → d < m → number_at old (u * m + d) ≡ x u d) → ((k : ℕ) → k < length old → number_at new k ≡ number_at old k) → ((d : ℕ) → d < m → number_at new (i * m + d) ≡ x i d) → (u d : ℕ) → u < i + 1 → d < m → number_at new (u * m + d) ≡ x u d
rows_more m i x old new l h kept row u d b c =
    elim (cases_lt u i) [
      | inl k ↦ kept (u * m + d) (omega (arith, in_list i m u d k c, l)) ∙ h u d k c
      | inr k ↦ (let same : i ≡ u = omega arith in subst (λ v. number_at new (v * m + d) ≡ x v d) same (row d c))
    ]
