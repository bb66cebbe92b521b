-- Draws that are cut down to a few numbers.
use Rattle.std.proofs.Common.{◌≡◌, ℕ, zero, suc, ◌+◌, ◌*◌, ◌%◌, ◌≤◌, arith, ap, add-one}
use Rattle.std.proofs.lemmas.Nat.{mod_below}
use Rattle.md_gen.specs.Draws.{draw_at}
use Rattle.md_gen.specs.GeneratedAuction.{step_at, value_at, weight_at}
use Rattle.md_gen.specs.GeneratedSetting.{utility_at, worth_at}

pub draw-more : (number place : ℕ) → draw_at number (place + 1) ≡ (75 * draw_at number place + 74) % 65537
draw-more number place = ap (draw_at number) (add-one place)

pub value-more : (number k : ℕ) → value_at number (k + 1) ≡ value_at number k + step_at number (k + 1)
value-more number k = ap (value_at number) (add-one k)

pub step-small : (number k : ℕ) → (1 ≤ step_at number k) × (step_at number k ≤ 5)
step-small number k = let b = mod_below (draw_at number (k + 1)) 5 (omega arith) in (omega (arith, b), omega (arith, b))

pub weight-small : (number k : ℕ) → (1 ≤ weight_at number k) × (weight_at number k ≤ 3)
weight-small number k = let b = mod_below (draw_at number (k + 7)) 3 (omega arith) in (omega (arith, b), omega (arith, b))

pub utility-small : (number i a o : ℕ) → utility_at number i a o ≤ 20
utility-small number i a o = let b = mod_below (draw_at number (12 * i + 3 * a + o + 1)) 21 (omega arith) in omega (arith, b)

pub worth-small : (number o : ℕ) → worth_at number o ≤ 10
worth-small number o = let b = mod_below (draw_at number (o + 25)) 11 (omega arith) in omega (arith, b)

pub value-small : (number k : ℕ) → value_at number k ≤ 5 * k + 5
value-small number zero = omega (arith, (step-small number 0).1)
value-small number (suc k) = omega (arith, value-small number k, (step-small number (k + 1)).1)
