use Rattle.std.proofs.Common.{◌==◌, if◌then◌else◌, pos, unsigned_abs, refl, ◌∙◌, ap, subst}
use Rattle.md_math.proofs.Order.{≤ℤ_trans}
use Rattle.md_math.proofs.Bits.{read_result}
use Rattle.md_dict.specs.contracts.dict.Dict.{the_view}
use Rattle.md_dict.specs.Condensed.{IsGreatestSize}
use Rattle.md_dict.proofs.Values.{read_den}
use Rattle.md_dict.proofs.Tables.{IsGreatestProduct, IsGreatestSize-product, IsLeastSize, IsLeastSize-of}
use Rattle.md_dict.proofs.dict.Dict.greatest.Goals as goal

pub greatest_product-requires-clause-least : goal.greatest_product-requires-clause-least
greatest_product-requires-clause-least c =
    let least : IsLeastSize (the_view c.self.inside) c.least_size.result = IsLeastSize-of (the_view c.self.inside) c.least_size.result c.self.invariant.0
    (c.least_size.ensures ∙ ap (λ z. if c.self.inside.rows == 0 then pos 0 else z) (read_den (the_view c.self.inside) c.self.invariant.0)) in
    rw (read_result c.least_size.result c.least_size.type_inv) least.small

pub returns-clause-nonneg : goal.returns-clause-nonneg
returns-clause-nonneg c =
    let least : IsLeastSize (the_view c.self.inside) c.least_size.result = IsLeastSize-of (the_view c.self.inside) c.least_size.result c.self.invariant.0
    (c.least_size.ensures ∙ ap (λ z. if c.self.inside.rows == 0 then pos 0 else z) (read_den (the_view c.self.inside) c.self.invariant.0)) in
    rw (read_result c.greatest_product.result c.greatest_product.type_inv)
    (≤ℤ_trans _ _ _ least.nonneg (rw (read_result c.least_size.result c.least_size.type_inv) at c.greatest_product.ensures.least))

pub returns-clause-greatest : goal.returns-clause-greatest
returns-clause-greatest c =
    let least : IsLeastSize (the_view c.self.inside) c.least_size.result = IsLeastSize-of (the_view c.self.inside) c.least_size.result c.self.invariant.0
    (c.least_size.ensures ∙ ap (λ z. if c.self.inside.rows == 0 then pos 0 else z) (read_den (the_view c.self.inside) c.self.invariant.0)) in
    let product : IsGreatestProduct c.self.inside.table c.least_size.result c.greatest_product.result = record {
      least_in = rw (read_result c.least_size.result c.least_size.type_inv) at c.greatest_product.ensures.least;
      bound = rw (c.as_slice.ensures.value, c.as_slice-2.ensures.value) at c.greatest_product.ensures.bound;
      reached = rw (c.as_slice.ensures.value, c.as_slice-2.ensures.value, read_result c.least_size.result c.least_size.type_inv) at c.greatest_product.ensures.reached;
    } in
    rw (read_result c.greatest_product.result c.greatest_product.type_inv)
    (subst (λ d. IsGreatestSize d (unsigned_abs c.greatest_product.result)) c.self.view_is (IsGreatestSize-product (the_view c.self.inside) c.self.inside.table c.least_size.result c.greatest_product.result c.self.invariant.0 refl c.self.invariant.1 least product))
