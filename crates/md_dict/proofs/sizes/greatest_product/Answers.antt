use Rattle.std.proofs.Common.{◌≡◌, ◌<◌, ◌^◌, ◌⊎◌, ℤ, pos, ◌*ℤ◌, ◌≤ℤ◌, unsigned_abs, to_z, of_z, inl, inr, sym, ap, ap₂, ◌∙◌, subst, below_more}
use Rattle.std.proofs.lemmas.Bool.{cases_cond}
use mir.Syntax.{w128}
use Rattle.md_math.specs.Lists.{number_at}
use Rattle.md_math.specs.Sizes.{IsWithin}
use Rattle.md_math.proofs.Order.{≤ℤ_trans}
use Rattle.md_math.proofs.SizeLaws.{AllWithin-number_at}
use Rattle.md_math.proofs.Bits.{read_result}
use Rattle.md_dict_division.proofs.Reading.{read_short, read_product, product_small}
use Rattle.md_dict.proofs.sizes.greatest_product.Goals as goal

pub loop-row-preserved : goal.loop-row-preserved
loop-row-preserved c =
    let row = c.loop-row.row in
    let share : ℤ = number_at c.args.shares.now row in
    let size : ℤ = pos (unsigned_abs (number_at c.args.sizes.now row)) in
    let before : ℤ = to_z w128 c.loop-row.greatest-bits in
    let p : IsWithin (2 ^ 62) share = AllWithin-number_at (2 ^ 62) c.args.shares.now row c.requires.shares in
    let r : IsWithin (2 ^ 62) (number_at c.args.sizes.now row) = AllWithin-number_at (2 ^ 62) c.args.sizes.now row c.requires.sizes in
    let q : IsWithin (2 ^ 62) size = record { within = r.within } in
    let product : to_z w128 (of_z w128 (to_z w128 (of_z w128 c.from.result) *ℤ to_z w128 (of_z w128 c.from-in-loop-row.result))) ≡ share *ℤ size =
    ap₂ (λ x y. to_z w128 (of_z w128 (to_z w128 (of_z w128 x) *ℤ to_z w128 (of_z w128 y)))) (c.from.ensures ∙ read_short share p) (c.from-in-loop-row.ensures ∙ ap pos (c.unsigned_abs.ensures.value ∙ ap unsigned_abs (read_short (number_at c.args.sizes.now row) r))) ∙ read_product share size p q in
    let which : (c.max-greatest.result ≡ before) ⊎ (c.max-greatest.result ≡ to_z w128 (of_z w128 (to_z w128 (of_z w128 c.from.result) *ℤ to_z w128 (of_z w128 c.from-in-loop-row.result)))) = cases_cond _ _ _ _ c.max-greatest.ensures.value in
    let last : (share *ℤ size) ≤ℤ c.max-greatest.result = subst (λ z. z ≤ℤ c.max-greatest.result) product c.max-greatest.ensures.other_bound in
    rw (read_result c.max-greatest.result c.max-greatest.type_inv) (
      elim which [
        | inl e ↦ subst (λ z. unsigned_abs z < 2 ^ 126) (sym e) c.loop-row.invariant.0
        | inr e ↦ subst (λ z. unsigned_abs z < 2 ^ 126) (sym (e ∙ product)) (product_small share size p q)
      ],
      ≤ℤ_trans _ _ _ c.loop-row.invariant.1 c.max-greatest.ensures.self_bound,
      below_more (λ k. (number_at c.args.shares.now k *ℤ pos (unsigned_abs (number_at c.args.sizes.now k))) ≤ℤ c.max-greatest.result) row (λ k b. ≤ℤ_trans _ _ _ (c.loop-row.invariant.2 k b) c.max-greatest.ensures.self_bound) last,
      elim which [
        | inl e ↦ elim c.loop-row.invariant.3 [ inl a ↦ inl (e ∙ a) | inr (k, b, a) ↦ inr (k, b, a ∙ sym e) ]
        | inr e ↦ inr (row, c.loop-row-test.true, sym (e ∙ product))
      ],
    )
