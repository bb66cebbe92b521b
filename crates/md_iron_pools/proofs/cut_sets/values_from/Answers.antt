use Rattle.std.proofs.Common.{◌≤◌, ◌^◌, arith}
use Rattle.std.proofs.Math.Nat.{pow-le-pow_right}
use Rattle.md_iron_pools.proofs.cut_sets.values_from.Goals as goal

pub overflow_sub-result : goal.overflow_sub-result
overflow_sub-result c =
    let more : 2 ^ c.args.kind ≤ 2 ^ c.kinds.result = pow-le-pow_right {n = 2} (omega arith) {i = c.args.kind} {j = c.kinds.result} (omega (arith, c.requires, c.kinds.ensures.count)) in
    omega (arith, more, c.power.ensures, c.power-2.ensures)
