use Rattle.std.proofs.Common.{◌≡◌, lit<}
use Rattle.md_math.proofs.Bits.{read_result, read_within}
use Rattle.md_mech.specs.Accepted.{number_limit}
use Rattle.md_require.specs.Named.{named}
use Rattle.md_require.specs.RequireProgram.{at_most_by}
use Rattle.md_require.proofs.ConditionRows.{narrow-side, side-within}
use Rattle.md_require.proofs.program.scaled.Goals as goal

pub returns-clause-scaled : goal.returns-clause-scaled
returns-clause-scaled c =
    let s = c.args.setting.now in
    let k = c.args.condition.now in
    let scale : c.at_most.result ≡ at_most_by k.side k.den = rw (read_within number_limit k.den c.requires.condition.den_size (lit< tt)) at c.at_most.ensures.value in
    rw (read_result c.at_most.result c.at_most.type_inv, scale) (record {
      inside = c.requires.inside;
      size = side-within k.side number_limit k.den c.requires.condition.den_size;
      narrow = narrow-side s k.side k.den (named s c.args.amount) c.requires.narrow.parts;
    })
