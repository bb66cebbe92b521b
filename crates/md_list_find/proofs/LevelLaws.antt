-- Virtual values in least terms.
use Rattle.std.proofs.Common.{◌≡◌, ℕ, ◌+◌, ◌^◌, ◌≤◌, ℤ, pos, ◌*ℤ◌, List, [], ◌∷◌, ◌++◌, length, unsigned_abs, inl, inr, sym, ap, ◌∙◌, subst, arith, lit≤}
use Rattle.std.proofs.lemmas.Bool.{cases_lt}
use lib.IntN.{*ℤ_comm}
use Rattle.std.proofs.lemmas.List.{get_or_push, get_or_append_left, length_push}
use Rattle.md_math.specs.Divisors.{IsLeastTerms}
use Rattle.md_math.specs.Sizes.{IsWithin}
use Rattle.md_math.proofs.SizeLaws.{IsWithin-wider}
use Rattle.md_num.specs.Limits.{limit_of}
use Rattle.md_num.specs.declared.frac.Frac.{Frac}
use Rattle.md_list.specs.Valid.{level_at}
use Rattle.md_list_gains.specs.declared.sums.Sums.{Sums}
use Rattle.md_list_gains.specs.Places.{AreWithin}
use Rattle.md_list_find.specs.declared.order.Pool.{Pool}
use Rattle.md_list_find.specs.Levels.{IsLevelOf, AreLevelsOf}
use Rattle.md_list_find.specs.Places.{pool_at}

small : (x n z : ℤ) → n ≡ z → unsigned_abs x ≤ unsigned_abs n → IsWithin (2 ^ 59) z → IsWithin (limit_of 62) x
small x n z e l h =
    let h' : unsigned_abs n ≤ 2 ^ 59 = subst (λ y. unsigned_abs y ≤ 2 ^ 59) (sym e) h.within in
    IsWithin-wider (2 ^ 59) (limit_of 62) x (lit≤ tt) (record { within = omega (arith, l, h') })

-- what is reduced
pub level-is : (sums : Sums) (level : Frac) (n d : ℤ) → AreWithin (2 ^ 59) sums → n ≡ sums.gain → d ≡ sums.weight → level.num *ℤ d ≡ n *ℤ level.den → IsLeastTerms level.num level.den
    → unsigned_abs level.num ≤ unsigned_abs n → unsigned_abs level.den ≤ unsigned_abs d → IsLevelOf sums level
level-is sums level n d size gain weight same least num den = record {
  whole = *ℤ_comm level.den sums.gain ∙ ap (λ z. z *ℤ level.den) (sym gain) ∙ sym same ∙ ap (λ z. level.num *ℤ z) weight;
  short = record { least = least; num_size = small level.num n sums.gain gain num size.gain; den_size = small level.den d sums.weight weight den size.weight };
}

-- one more
pub levels-more : (pools : List Pool) (n : ℕ) (levels new : List Frac) (level : Frac) → AreLevelsOf pools n levels → IsLevelOf (pool_at pools n).sums level → new ≡ levels ++ level ∷ []
    → AreLevelsOf pools (n + 1) new
levels-more pools n levels new level h more e = record {
  one_each = ap length e ∙ length_push levels level ∙ ap (λ k. k + 1) h.one_each;
  each = λ p b. elim (cases_lt p n) [
    | inl l ↦ subst (IsLevelOf (pool_at pools p).sums) (sym (ap (λ ls. level_at ls p) e ∙ get_or_append_left levels (level ∷ []) (record { num = pos 0; den = pos 1 }) p (omega (arith, l, h.one_each)))) (h.each p l)
    | inr l ↦
        (let here : n ≡ p = omega (arith, l, b) in
        subst (IsLevelOf (pool_at pools p).sums) (sym (ap (λ ls. level_at ls p) e ∙ get_or_push levels level (record { num = pos 0; den = pos 1 }) p (h.one_each ∙ here)))
        (subst (λ q. IsLevelOf (pool_at pools q).sums level) here more))
  ];
}
