use Rattle.std.proofs.Common.{take}
use Rattle.md_forms.specs.Built.{Extends}
use Rattle.md_asym_sale.specs.Conditions.{conditions_of}
use Rattle.md_asym_sale.specs.ProgramOf.{forms_of}
use Rattle.md_asym_sale.proofs.sale_program.push_rows.Given as goal

abbrev pub invariant-loop-row : goal.invariant-loop-row
invariant-loop-row l = Extends (forms_of l.setting (take l.row (conditions_of l.setting l.cuts))) l.fn.lp l.lp
