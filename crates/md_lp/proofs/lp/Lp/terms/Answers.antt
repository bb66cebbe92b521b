use Rattle.std.proofs.Common.{◌≡◌, ◌^◌, arith}
use Rattle.std.proofs.lemmas.Grind.{common_steps}
use Rattle.md_lp.specs.Program.{row_at}
use Rattle.md_lp.specs.Shape.{IsShaped, IsShapedRow}
use Rattle.md_lp.specs.Stored.{shown_terms}
use Rattle.md_lp.proofs.ShapeLaws.{row-shaped, value_sizes}
use Rattle.md_lp.proofs.lp.Lp.terms.Goals as goal

shaped_row : (c : goal.After-as_slice) → IsShapedRow c.args.self.now.columns (row_at c.args.self.now c.args.row)
shaped_row c =
    let shaped : IsShaped c.args.self.now = rw (← c.self.view_is) c.self.invariant in
    row-shaped c.args.self.now c.args.row shaped c.requires

terms_are : (c : goal.After-as_slice) → shown_terms c.as_slice.result.now ≡ (row_at c.args.self.now c.args.row).terms
terms_are c = grind (arith, common_steps)

pub returns-clause-places : goal.returns-clause-places
returns-clause-places c = rw (terms_are c) (shaped_row c).places

pub returns-clause-sizes : goal.returns-clause-sizes
returns-clause-sizes c = rw (terms_are c) (value_sizes (2 ^ 44) (row_at c.args.self.now c.args.row) (shaped_row c).sizes)
