use Rattle.std.proofs.Common.{ℕ, ℤ, ◌∙◌, ◌+◌, ◌*ℤ◌, ◌++◌, ◌∷◌, [], ap₂, sym}
use Rattle.md_math.proofs.Builders.{list_to-more}
use Rattle.md_math.proofs.SizeLaws.{AllWithin-push}
use Rattle.md_math.proofs.Bits.{read_result}
use Rattle.md_dict.specs.Condensed.{entry_at}
use Rattle.md_dict.specs.FirstTable.{sign_at}
use Rattle.md_simplex.proofs.reading.multipliers.Goals as goal

pub loop-of-preserved : goal.loop-of-preserved
loop-of-preserved c =
    let f : ℕ → ℤ = λ k. sign_at c.args.lp.now k *ℤ entry_at c.args.dict.now c.args.row (c.args.dict.now.columns + k) in
    rw (c.in_ok-push.ensures.items, read_result c.multiplier-number.result c.multiplier-number.type_inv) (record {
      value = ap₂ (λ xs x. xs ++ x ∷ []) c.loop-of.invariant.value c.multiplier-number.ensures.value ∙ sym (list_to-more c.loop-of.of f);
      small = AllWithin-push _ c.loop-of.numbers.items c.multiplier-number.result c.loop-of.invariant.small c.multiplier-number.ensures.size;
    })
