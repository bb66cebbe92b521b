use Rattle.md_math.specs.FirstFailure.{HoldsBelow}
use Rattle.md_setting.specs.Meaning.{sizes_of}
use Rattle.md_space.specs.Profiles.{profile_at}
use Rattle.md_determ_node.specs.Deterministic.{HasNoLottery}
use Rattle.md_determ_node.proofs.lottery.first_lottery.Given as goal

abbrev pub invariant-loop-rank : goal.invariant-loop-rank
invariant-loop-rank l = HoldsBelow l.rank (λ r. HasNoLottery l.setting l.mechanism (profile_at (sizes_of l.setting) r))
