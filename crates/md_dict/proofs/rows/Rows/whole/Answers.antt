use Rattle.std.proofs.Common.{ℕ, ◌+◌, ◌*◌, ◌<◌, pos, ap, ◌∙◌}
use Rattle.std.proofs.lemmas.List.{get_or-replicate}
use Rattle.md_math.specs.Lists.{number_at}
use Rattle.md_dict_rows.specs.LeastRows.{IsRowSize}
use Rattle.md_dict.proofs.RowLaws.{AreRows-whole, kept_of_whole}
use Rattle.md_dict.proofs.rows.Rows.whole.Goals as goal

pub returns-clause-rows : goal.returns-clause-rows
returns-clause-rows c =
    let sizes : (i : ℕ) → i < c.args.count → IsRowSize c.args.width (λ s. number_at c.args.numbers.items (i * c.args.width + s)) (number_at c.in_ok-sizes.sizes.items i) = rw (c.as_slice.ensures.value) at c.in_ok-sizes.ensures.sizes in
    AreRows-whole c.args.count _ c.requires.length c.requires.size c.in_ok-dens.ensures c.in_ok-shares.ensures c.in_ok-sizes.ensures.length sizes

pub returns-clause-kept : goal.returns-clause-kept
returns-clause-kept c =
    kept_of_whole c.args.count (record { width = c.args.width; numbers = c.args.numbers; dens = c.in_ok-dens.dens; shares = c.in_ok-shares.shares; sizes = c.in_ok-sizes.sizes }) c.requires.length
    (λ i a. ap (λ xs. number_at xs i) c.in_ok-shares.ensures ∙ get_or-replicate c.args.count i (pos 1) (pos 0) a)
