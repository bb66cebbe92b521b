use mir.Syntax.{w128}
use Rattle.std.proofs.lemmas.Int.{to_z-of_z}
use Rattle.md_require.proofs.terms.push_part.Goals as goal

pub returns : goal.returns
returns c = rw (to_z-of_z w128 c.args.value c.ranges.value) at c.push_term.ensures.ok
