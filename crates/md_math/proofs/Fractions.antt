-- Fractions, lists and tables in least terms are equal exactly where the cross products are.
use Rattle.std.proofs.Common.{◌≡◌, ℕ, ◌<◌, ◌↔◌, ℤ, pos, ◌*ℤ◌, ◌<ℤ◌, unsigned_abs, sym, ap, ap₂, ◌∙◌, subst, arith}
use lib.IntN.{*ℤ_comm}
use Rattle.md_math.specs.Divisors.{Divides, IsCommonDivisor, IsLeastTerms, DividesTable}
use Rattle.md_math.proofs.Division.{Divides-*ℤ, same_from_Divides}
use Rattle.md_math.proofs.Gcds.{Divides-from_coprime, Divides-from_coprime_table}
use Rattle.md_math.proofs.Order.{*ℤ_cancel, le_from_lt}

-- ---- lists

-- d divides e, where d and f are coprime and e times f is d times g
den_divides : (n : ℕ) (f g : ℕ → ℤ) (d e : ℤ) → ((c : ℤ) → Divides c d → IsCommonDivisor n f c → unsigned_abs c ≡ 1) → ((k : ℕ) → k < n → e *ℤ f k ≡ d *ℤ g k) → Divides d e
den_divides n f g d e only h = Divides-from_coprime n f d e only (λ k b. subst (Divides d) (sym (h k b)) (Divides-*ℤ d (g k)))

-- the denominators of two equal lists in least terms are equal
pub same_denominators : (n : ℕ) (f g : ℕ → ℤ) (d e : ℤ) → pos 0 <ℤ d → pos 0 <ℤ e → ((c : ℤ) → Divides c d → IsCommonDivisor n f c → unsigned_abs c ≡ 1) → ((c : ℤ) → Divides c e → IsCommonDivisor n g c → unsigned_abs c ≡ 1) → ((k : ℕ) → k < n → e *ℤ f k ≡ d *ℤ g k) → d ≡ e
same_denominators n f g d e p q only_d only_e h =
    same_from_Divides d e (le_from_lt (pos 0) d p) (le_from_lt (pos 0) e q)
    (den_divides n f g d e only_d h) (den_divides n g f e d only_e (λ k b. sym (h k b)))

-- and so are the numerators
pub same_numerators : (n : ℕ) (f g : ℕ → ℤ) (d e : ℤ) → pos 0 <ℤ d → d ≡ e → ((k : ℕ) → k < n → e *ℤ f k ≡ d *ℤ g k) → (k : ℕ) → k < n → f k ≡ g k
same_numerators n f g d e p s h k b = *ℤ_cancel d (f k) (g k) p (ap (λ x. x *ℤ f k) s ∙ h k b)

-- ---- tables

table_den_divides : (rows columns : ℕ) (f g : ℕ → ℕ → ℤ) (d e : ℤ) → ((c : ℤ) → Divides c d → DividesTable rows columns f c → unsigned_abs c ≡ 1) → ((r j : ℕ) → r < rows → j < columns → e *ℤ f r j ≡ d *ℤ g r j) → Divides d e
table_den_divides rows columns f g d e only h =
    Divides-from_coprime_table rows columns f d e only (λ r j a b. subst (Divides d) (sym (h r j a b)) (Divides-*ℤ d (g r j)))

-- the denominators of two equal tables in least terms are equal
pub same_table_denominators : (rows columns : ℕ) (f g : ℕ → ℕ → ℤ) (d e : ℤ) → pos 0 <ℤ d → pos 0 <ℤ e → ((c : ℤ) → Divides c d → DividesTable rows columns f c → unsigned_abs c ≡ 1) → ((c : ℤ) → Divides c e → DividesTable rows columns g c → unsigned_abs c ≡ 1) → ((r j : ℕ) → r < rows → j < columns → e *ℤ f r j ≡ d *ℤ g r j) → d ≡ e
same_table_denominators rows columns f g d e p q only_d only_e h =
    same_from_Divides d e (le_from_lt (pos 0) d p) (le_from_lt (pos 0) e q)
    (table_den_divides rows columns f g d e only_d h) (table_den_divides rows columns g f e d only_e (λ r j a b. sym (h r j a b)))

-- ---- fractions

pub same_from_IsLeastTerms : (a b c d : ℤ) → IsLeastTerms a b → IsLeastTerms c d → a *ℤ d ≡ c *ℤ b → (a ≡ c) × (b ≡ d)
same_from_IsLeastTerms a b c d h k e =
    let cross : (i : ℕ) → i < 1 → d *ℤ a ≡ b *ℤ c = λ i l. *ℤ_comm d a ∙ e ∙ *ℤ_comm c b in
    let dens : b ≡ d =
    same_denominators 1 (λ _. a) (λ _. c) b d h.positive k.positive
    (λ x p q. h.only_one x (q.at 0 (omega arith)) p) (λ x p q. k.only_one x (q.at 0 (omega arith)) p) cross in
    (same_numerators 1 (λ _. a) (λ _. c) b d h.positive dens cross 0 (omega arith), dens)

-- fractions in least terms are equal exactly where the cross products are
pub same_fractions : (a b c d : ℤ) → IsLeastTerms a b → IsLeastTerms c d → ((a ≡ c) × (b ≡ d)) ↔ (a *ℤ d ≡ c *ℤ b)
same_fractions a b c d h k = ((λ e. ap₂ (λ x y. x *ℤ y) e.0 (sym e.1)), same_from_IsLeastTerms a b c d h k)
