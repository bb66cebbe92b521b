use Rattle.std.proofs.Common.{subst}
use Rattle.md_dict.specs.contracts.dict.Dict.{the_view}
use Rattle.md_dict.specs.Condensed.{KeepsEachOnce}
use Rattle.md_dict.proofs.Readers.{KeepsEachOnce-shaped}
use Rattle.md_dict.proofs.dict.Dict.kept_column.Goals as goal

pub returns-clause-each_once : goal.returns-clause-each_once
returns-clause-each_once c = subst KeepsEachOnce c.self.view_is (KeepsEachOnce-shaped (the_view c.self.inside) c.self.invariant.0)
