use Rattle.md_iron.proofs.ShareLaws.{zero-least}
use Rattle.md_iron.proofs.truth_rows.rational_multiplier.Goals as goal

pub returns-then-kind-ne0-clause-least : goal.returns-then-kind-ne0-clause-least
returns-then-kind-ne0-clause-least c = zero-least
