use Rattle.md_space.proofs.Ranks.{report-at_rank, profile_at-IsProfile, rank_of-profile_at}
use Rattle.md_space.proofs.space.Space.report.Goals as goal

pub returns-clause-value : goal.returns-clause-value
returns-clause-value c =
    rw (c.from.ensures, c.types.ensures.count, c.stride.ensures.value) (report-at_rank _ _ _ c.requires.rank_in c.requires.agent_in)

pub returns-clause-profile : goal.returns-clause-profile
returns-clause-profile c = profile_at-IsProfile _ _ c.requires.rank_in

pub returns-clause-inverse : goal.returns-clause-inverse
returns-clause-inverse c = rank_of-profile_at _ _ c.requires.rank_in
