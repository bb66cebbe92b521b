use Rattle.std.proofs.Common.{arith}
use Rattle.md_mech.proofs.CountLaws.{conditions-length}
use Rattle.md_tree.proofs.walking.row_count_at.Goals as goal

pub returns : goal.returns
returns c = omega (arith, c.rows.ensures.count, c.fixed_count.ensures.count, conditions-length c.args.setting.now)
