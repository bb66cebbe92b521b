use Rattle.std.proofs.Common.{sym, ◌∙◌}
use Rattle.md_setting.specs.Meaning.{sizes_of}
use Rattle.md_mech.proofs.CountLaws.{agents-length}
use Rattle.md_asym_sale.proofs.PairLaws.{before-all}
use Rattle.md_asym_sale.proofs.pairs.pair_count.Goals as goal

pub returns-clause-value : goal.returns-clause-value
returns-clause-value c =
    c.pairs_before.ensures.value ∙ before-all (sizes_of c.args.setting.now) c.agents.result (c.agents.ensures.count ∙ sym (agents-length c.args.setting.now))
