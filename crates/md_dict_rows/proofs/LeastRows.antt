-- What divides a multiple of a row in least terms.
use Rattle.std.proofs.Common.{◌≡◌, ℕ, ◌<◌, ℤ, pos, ◌*ℤ◌, ◌≤ℤ◌, unsigned_abs, ap, ◌∙◌, subst, arith}
use Rattle.std.proofs.lemmas.Int.{ints}
use Rattle.md_math.specs.Divisors.{Divides}
use Rattle.md_math.proofs.Division.{Divides_trans}
use Rattle.md_math.proofs.Gcds.{gcd_of_two, family_gcd}
use Rattle.md_math.proofs.Ring.{*ℤ-one}
use Rattle.md_dict_rows.specs.LeastRows.{IsLeastRow}

-- what divides a number times each number of a row in least terms divides that number
pub divides_row_factor : (width : ℕ) (den : ℤ) (f : ℕ → ℤ) (x e : ℤ) → IsLeastRow width den f → Divides x (e *ℤ den) → ((s : ℕ) → s < width → Divides x (e *ℤ f s)) → Divides x e
divides_row_factor width den f x e least h k =
    let (g, p) = family_gcd width f in
    let (u, q) = gcd_of_two den g in
    let unit : unsigned_abs u ≡ 1 = least.only_one u q.is_gcd.left (record { at = λ s b. Divides_trans u g (f s) q.is_gcd.right (p.is_gcd.common.at s b) }) in
    subst (Divides x) (ap (λ y. e *ℤ y) (is_one u unit q.is_gcd.nonneg) ∙ *ℤ-one e) (q.factor x e h (p.factor x e k))
  where
    is_one : (u : ℤ) → unsigned_abs u ≡ 1 → pos 0 ≤ℤ u → u ≡ pos 1
    is_one u a b = omega (arith, ints)
