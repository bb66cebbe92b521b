use Rattle.std.proofs.Common.{◌∙◌, sym, ap}
use Rattle.md_dict.specs.contracts.dict.Dict.{the_view}
use Rattle.md_dict.proofs.Values.{read_den}
use Rattle.md_dict.proofs.Readers.{only_den}
use Rattle.md_dict.proofs.Uniqueness.{same_dens}
use Rattle.md_dict.proofs.dict.Dict.den.Goals as goal

pub returns-clause-only : goal.returns-clause-only
returns-clause-only c = λ p den e h q. only_den p c.args.self.now h den e q ∙ sym (read_den (the_view c.self.inside) c.self.invariant.0 ∙ ap (λ d. d.den) c.self.view_is)

pub returns-clause-unique : goal.returns-clause-unique
returns-clause-unique c = λ m n t basis den other e f p q. same_dens m n t basis den other e f p q
