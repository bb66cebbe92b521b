-- Differences of sums by place, at 64 bits.
use Rattle.std.proofs.Common.{◌^◌, ℤ, ◌-ℤ◌, to_z, of_z, refl, sym, subst, lit<}
use mir.Syntax.{w64}
use Rattle.md_math.specs.Sizes.{IsWithin}
use Rattle.md_math.proofs.SizeLaws.{IsWithin-sub}
use Rattle.md_list_gains.proofs.Shorts.{read-short, short-within, short-both}

pub difference-within : (x y : ℤ) → IsWithin (2 ^ 58) x → IsWithin (2 ^ 58) y → IsWithin (2 ^ 59) (to_z w64 (of_z w64 (to_z w64 (of_z w64 x) -ℤ to_z w64 (of_z w64 y))))
difference-within x y h k =
    let size : IsWithin (2 ^ 59) (x -ℤ y) = IsWithin-sub (2 ^ 58) (2 ^ 58) x y h k in
    subst (IsWithin (2 ^ 59))
    (sym (read-short _ _ (short-both (λ u v. u -ℤ v) (2 ^ 59) x y x y (short-within (2 ^ 58) x x refl h (lit< tt)) (short-within (2 ^ 58) y y refl k (lit< tt)) size (lit< tt))))
    size
