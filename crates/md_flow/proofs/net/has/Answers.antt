use Rattle.std.proofs.Common.{refl}
use Rattle.md_math.specs.Sets.{member}
use Rattle.md_flow.proofs.net.has.Goals as goal

pub returns : goal.returns
unfolding member
returns c = refl
