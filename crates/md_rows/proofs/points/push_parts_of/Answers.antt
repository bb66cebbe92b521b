use Rattle.std.proofs.Common.{◌∙◌, ap}
use Rattle.md_math.proofs.Bits.{read_result}
use Rattle.md_math.proofs.Builders.{push-list}
use Rattle.md_space.specs.Profiles.{profile_at}
use Rattle.md_setting.specs.Meaning.{sizes_of}
use Rattle.md_mech.specs.Mechanism.{pay_of}
use Rattle.md_rows.specs.Parts.{of_part}
use Rattle.md_rows.proofs.points.push_parts_of.Goals as goal

pub loop-rank-preserved : goal.loop-rank-preserved
loop-rank-preserved c =
    let s = c.args.setting.now in
    push-list c.args.point.now c.loop-rank.point c.push.new.self c.loop-rank.rank (λ r. of_part c.args.part (pay_of s c.args.mechanism.now c.args.agent (profile_at (sizes_of s) r)))
    c.part_of.result c.loop-rank.invariant (rw (read_result c.part_of.result c.part_of.type_inv) at c.in_ok-push.ensures.ok)
    ((rw (read_result c.pay.result c.pay.type_inv) at c.part_of.ensures) ∙ ap (of_part c.args.part) c.pay.ensures.value)
