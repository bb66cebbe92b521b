use Rattle.md_math.specs.FirstFailure.{HoldsBelow}
use Rattle.md_setting.specs.Meaning.{sizes_of}
use Rattle.md_space.specs.Profiles.{profile_at}
use Rattle.md_mech.specs.Mechanism.{chance_of}
use Rattle.md_determ_node.specs.Deterministic.{IsAllOrNone}
use Rattle.md_determ_node.proofs.lottery.has_no_lottery.Given as goal

abbrev pub invariant-loop-outcome : goal.invariant-loop-outcome
invariant-loop-outcome l =
    HoldsBelow l.outcome (λ o. IsAllOrNone l.mechanism.den (chance_of l.setting l.mechanism (profile_at (sizes_of l.setting) l.rank) o))
