use Rattle.std.proofs.Common.{ℕ, sym, subst}
use Rattle.md_determ.specs.Way.{IsUnderWay}
use Rattle.md_determ.proofs.solving.search_from_root.Goals as goal

pub visit-requires-clause-way : goal.visit-requires-clause-way
visit-requires-clause-way c =
    subst (λ (width : ℕ). IsUnderWay c.args.setting.now width c.loop-alloc.search) (sym c.loop-alloc.invariant.same_width) c.loop-alloc.invariant
