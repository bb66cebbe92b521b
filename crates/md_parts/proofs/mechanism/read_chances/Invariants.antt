use Rattle.md_setting.specs.Meaning.{sizes_of}
use Rattle.md_parts.specs.Table.{lottery_of}
use Rattle.md_parts.proofs.EachProfile.{IsRead}
use Rattle.md_parts.proofs.mechanism.read_chances.Given as goal

abbrev pub invariant-loop-rank : goal.invariant-loop-rank
invariant-loop-rank l = IsRead (sizes_of l.setting) (lottery_of l.setting l.den) l.rank l.fn.reader l.reader l.chances
