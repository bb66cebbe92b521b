-- The raw numbers of a row from which the pivot row is not taken.
use Rattle.std.proofs.Common.{◌≡◌, ℕ, List, ℤ, pos, ◌*ℤ◌, refl, ne_eqb, arith}
use Rattle.std.proofs.lemmas.Int.{ints}
use Rattle.md_dict.specs.declared.step.Step.{Step}
use Rattle.md_dict.specs.Step.{raw_number, old_number, multiplier_of, factor_of, IsApart}

-- a row from which the pivot row is not taken is multiplied by the pivot
pub raw_apart : (step : Step) (kept : List ℤ) (i s : ℕ) → IsApart step kept i → raw_number step kept i s ≡ step.pivot *ℤ old_number step kept i s
raw_apart step kept i s h =
    let own : multiplier_of step i ≡ step.pivot = rw (ne_eqb i step.row h.other) refl in
    let none : factor_of step kept i ≡ pos 0 = rw (ne_eqb i step.row h.other) h.zero in
    rw (own, none) (omega (arith, ints))
