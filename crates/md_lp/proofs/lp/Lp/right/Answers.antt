use Rattle.std.proofs.Common.{arith, ◌≡◌, ◌^◌, subst, sym, to_z, of_z}
use Rattle.std.proofs.lemmas.Grind.{common_steps}
use mir.Syntax.{w128}
use Rattle.md_math.specs.Sizes.{IsWithin}
use Rattle.md_lp.specs.Program.{right_at}
use Rattle.md_lp.proofs.ShapeLaws.{right-within}
use Rattle.md_lp.proofs.lp.Lp.right.Goals as goal

pub returns-clause-size : goal.returns-clause-size
returns-clause-size c =
    let value : to_z w128 (of_z w128 c.index.result.now.right) ≡ right_at c.args.self.now c.args.row = grind (arith, common_steps) in
    subst (IsWithin (2 ^ 44)) (sym value) (right-within c.args.self.now c.args.row (rw (← c.self.view_is) c.self.invariant) c.requires)
