use Rattle.md_setting.specs.Meaning.{sizes_of}
use Rattle.md_parts.specs.Table.{payments_of}
use Rattle.md_parts.proofs.EachProfile.{IsRead}
use Rattle.md_parts.proofs.mechanism.read_all_payments.Given as goal

abbrev pub invariant-loop-rank : goal.invariant-loop-rank
invariant-loop-rank l = IsRead (sizes_of l.setting) (payments_of l.word l.setting) l.rank l.fn.reader l.reader l.pays
