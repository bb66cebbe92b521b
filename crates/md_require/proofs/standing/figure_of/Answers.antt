use Rattle.std.proofs.Common.{arith}
use Rattle.md_require.specs.Named.{named}
use Rattle.md_require.proofs.PartSizes.{narrow-one}
use Rattle.md_require.proofs.standing.figure_of.Goals as goal

pub told-requires-clause-scaled : goal.told-requires-clause-scaled
told-requires-clause-scaled c =
    let s = c.args.setting.now in
    let k = c.args.condition.now in
    record {
      inside = c.requires.inside;
      size = record { within = omega arith };
      narrow = narrow-one s k.den (named s c.args.amount) c.requires.condition.positive c.requires.narrow.parts;
    }
