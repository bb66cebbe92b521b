-- Sizes of signed numbers.
use Rattle.std.proofs.Common.{◌≡◌, ◌+◌, ◌*◌, ◌%◌, ◌<◌, ◌∙◌, ℕ, ℤ, pos, zero, suc, neg_ℤ, Bool, true, false, unsigned_abs, refl, sym, ap}
use Rattle.std.proofs.lemmas.Nat.{mod-mul-add}
use Rattle.md_find_numbers.specs.Signed.{signed}

abs-neg : (n : ℕ) → unsigned_abs (neg_ℤ (pos n)) ≡ n
abs-neg zero = refl
abs-neg (suc n) = refl

-- the size of a number by its sign
pub abs-signed : (negative : Bool) (n : ℕ) → unsigned_abs (signed negative n) ≡ n
abs-signed true n = abs-neg n
abs-signed false n = refl

-- what is left of the size of a number
pub rest_of : (negative : Bool) (size q by r : ℕ) (z : ℤ) → signed negative size ≡ z → q * by + r ≡ size → r < by → r ≡ unsigned_abs z % by
rest_of negative size q by r z is e h =
    let same : size ≡ unsigned_abs z = sym (abs-signed negative size) ∙ ap unsigned_abs is in
    sym (mod-mul-add q by r h) ∙ ap (λ n. n % by) (e ∙ same)
