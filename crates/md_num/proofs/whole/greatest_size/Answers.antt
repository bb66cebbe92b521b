use Rattle.std.proofs.Common.{◌≤◌, ◌^◌, arith, pow_mono}
use Rattle.md_num.proofs.whole.greatest_size.Goals as goal

pub returns-clause-size : goal.returns-clause-size
returns-clause-size c = let p : 2 ^ c.args.bits ≤ 2 ^ 126 = pow_mono c.requires in omega arith
