use Rattle.std.proofs.Common.{◌*◌, ap₂}
use Rattle.md_dict_rows.proofs.CommonDivisors.{IsAttempt-product}
use Rattle.md_dict_rows.proofs.candidates.candidate.Goals as goal

pub returns : goal.returns
returns c = λ own taken h rows. IsAttempt-product c.args.combination.now own taken c.common_factor.result c.common_den.result _ h rows c.common_factor.ensures c.common_den.ensures (ap₂ (λ a b. a * b) c.from.ensures c.from-2.ensures)
