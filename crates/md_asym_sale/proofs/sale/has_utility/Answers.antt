use Rattle.std.proofs.Common.{sym, ◌∙◌}
use Rattle.md_math.proofs.Bits.{read_result}
use Rattle.md_space.specs.Profiles.{profile_at}
use Rattle.md_setting.specs.Meaning.{sizes_of}
use Rattle.md_asym_sale.proofs.SaleLaws.{own-where, none-where}
use Rattle.md_asym_sale.proofs.sale.has_utility.Goals as goal

pub returns-then-has_item : goal.returns-then-has_item
returns-then-has_item c =
    let s = c.args.setting.now in
    own-where s c.args.agent (profile_at (sizes_of s) c.args.rank) c.args.outcome c.has_own_value.result (sym c.has_item.ensures ∙ c.if-has_item.true) c.has_own_value.ensures

pub returns-else-has_item : goal.returns-else-has_item
returns-else-has_item c =
    let s = c.args.setting.now in
    none-where s c.args.agent (profile_at (sizes_of s) c.args.rank) c.args.outcome c.is_zero.result (sym c.has_item.ensures ∙ c.if-has_item.false)
    (rw (read_result c.utility.result c.utility.type_inv, c.utility.ensures.value) at c.is_zero.ensures)
