use Rattle.std.proofs.Common.{◌≡◌, sym, length, pos, ◌-◌, ◌+◌, ℤ, arith, slice_index_or, true, false, FitsSigned, get_or, rules}
use Rattle.std.specs.Prelude.{int_le}
use Rattle.std.proofs.lemmas.Int.{ints, to_z-of_z}
use lib.Signed.{lt_z}
use mir.Syntax.{w64}
use Rattle.md_setting.proofs.TestLaws.{all_below-fails}
use Rattle.md_setting.proofs.grouped_weights.are_falling.Goals as goal

not_at_most : (a b : ℤ) → lt_z b a ≡ true → int_le a b ≡ false
not_at_most a b h = grind (arith, ints)

pub returns-then-slots-place : goal.returns-then-slots-place
returns-then-slots-place c =
    let here : FitsSigned w64 (get_or c.args.slots.now c.loop-place.place (pos 0)) = search rules in
    let next : FitsSigned w64 (get_or c.args.slots.now (c.loop-place.place + 1) (pos 0)) = search rules in
    sym (all_below-fails (length c.args.slots.now - 1) c.loop-place.place (λ h. int_le (slice_index_or c.args.slots.now (h + 1) (pos 0)) (slice_index_or c.args.slots.now h (pos 0))) (omega arith)
    (not_at_most (get_or c.args.slots.now (c.loop-place.place + 1) (pos 0)) (get_or c.args.slots.now c.loop-place.place (pos 0)) (rw (to_z-of_z w64 _ here, to_z-of_z w64 _ next) at c.if-slots-place.true)))
