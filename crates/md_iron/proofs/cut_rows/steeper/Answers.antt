use Rattle.std.proofs.Common.{◌≡◌, ◌+◌, ◌*◌, ◌^◌, ◌-ℤ◌, ◌*ℤ◌, to_z, of_z, sym, ap₂, subst, ◌∙◌, arith, lit<}
use mir.Syntax.{w128}
use Rattle.md_math.specs.Sizes.{IsWithin}
use Rattle.md_math.proofs.Bits.{read_result, read_within}
use Rattle.md_math.proofs.SizeLaws.{IsWithin-wider, IsWithin-sub, IsWithin-*ℤ}
use Rattle.md_iron.proofs.cut_rows.steeper.Goals as goal

pub returns-clause-size : goal.returns-clause-size
returns-clause-size c =
    let chord = c.args.chord.now in
    let before = c.args.before.now in
    let value : to_z w128 (of_z w128 c.cross_difference.result) ≡ c.args.chord.now.rise *ℤ c.args.before.now.weight -ℤ c.args.before.now.rise *ℤ c.args.chord.now.weight =
    read_result c.cross_difference.result c.cross_difference.type_inv
    ∙ c.cross_difference.ensures.value
    ∙ ap₂ (λ x y. x -ℤ y)
    (ap₂ (λ x y. x *ℤ y) (read_within (2 ^ 55) chord.rise c.requires.rise (lit< tt)) (read_within 1000000 before.weight c.requires.weight_before (lit< tt)))
    (ap₂ (λ x y. x *ℤ y) (read_within (2 ^ 55) before.rise c.requires.rise_before (lit< tt)) (read_within 1000000 chord.weight c.requires.weight (lit< tt))) in
    subst (IsWithin (2 ^ 76)) (sym value)
    (IsWithin-wider (2 ^ 55 * 1000000 + 2 ^ 55 * 1000000) (2 ^ 76) _ (omega arith)
    (IsWithin-sub (2 ^ 55 * 1000000) (2 ^ 55 * 1000000) _ _ (IsWithin-*ℤ (2 ^ 55) 1000000 chord.rise before.weight c.requires.rise c.requires.weight_before)
    (IsWithin-*ℤ (2 ^ 55) 1000000 before.rise chord.weight c.requires.rise_before c.requires.weight)))
