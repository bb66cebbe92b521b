use Rattle.std.proofs.Common.{◌≡◌, sym, length, pos, ◌-◌, ◌+◌, ℤ, arith, slice_index_or, true, false, FitsSigned, get_or, rules}
use Rattle.std.specs.Prelude.{int_lt}
use Rattle.std.proofs.lemmas.Int.{ints, to_z-of_z}
use lib.Signed.{le_z}
use mir.Syntax.{w64}
use Rattle.md_setting.proofs.TestLaws.{all_below-fails}
use Rattle.md_setting.proofs.auction_limits.is_ascending.Goals as goal

not_below : (a b : ℤ) → le_z b a ≡ true → int_lt a b ≡ false
not_below a b h = grind (arith, ints)

pub returns-then-values-place : goal.returns-then-values-place
returns-then-values-place c =
    let here : FitsSigned w64 (get_or c.args.values.now c.loop-place.place (pos 0)) = search rules in
    let next : FitsSigned w64 (get_or c.args.values.now (c.loop-place.place + 1) (pos 0)) = search rules in
    sym (all_below-fails (length c.args.values.now - 1) c.loop-place.place (λ k. int_lt (slice_index_or c.args.values.now k (pos 0)) (slice_index_or c.args.values.now (k + 1) (pos 0))) (omega arith)
    (not_below (get_or c.args.values.now c.loop-place.place (pos 0)) (get_or c.args.values.now (c.loop-place.place + 1) (pos 0)) (rw (to_z-of_z w64 _ here, to_z-of_z w64 _ next) at c.if-values-place.true)))
