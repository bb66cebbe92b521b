use Rattle.std.proofs.Common.{arith, ◌∙◌, ap}
use Rattle.md_space.specs.Profiles.{profile_at}
use Rattle.md_space.proofs.Ranks.{Replaces, replaces}
use Rattle.md_space.proofs.space.Space.replace.Goals as goal

pub overflow_sub-result : goal.overflow_sub-result
overflow_sub-result c =
    let r : Replaces c.args.self.now c.args.rank c.args.agent c.args.b = replaces _ _ _ _ c.requires.rank_in c.requires.agent_in c.requires.report_in in
    rw (c.from.ensures, c.report.ensures.value, c.stride-stride.ensures.value) r.taken

pub overflow_mul-result : goal.overflow_mul-result
overflow_mul-result c =
    let r : Replaces c.args.self.now c.args.rank c.args.agent c.args.b = replaces _ _ _ _ c.requires.rank_in c.requires.agent_in c.requires.report_in in
    rw (c.from.ensures, c.report.ensures.value, c.stride-stride.ensures.value) (omega (arith, r.taken, r.below, c.requires.rank_in, c.stride-stride.ensures.space.few_profiles))

pub overflow_mul-result-2 : goal.overflow_mul-result-2
overflow_mul-result-2 c =
    let r : Replaces c.args.self.now c.args.rank c.args.agent c.args.b = replaces _ _ _ _ c.requires.rank_in c.requires.agent_in c.requires.report_in in
    rw (c.from-2.ensures, c.stride-stride.ensures.value) (omega (arith, r.added, r.below, c.stride-stride.ensures.space.few_profiles))

pub overflow_add-result : goal.overflow_add-result
overflow_add-result c =
    let r : Replaces c.args.self.now c.args.rank c.args.agent c.args.b = replaces _ _ _ _ c.requires.rank_in c.requires.agent_in c.requires.report_in in
    rw (c.from-2.ensures, c.from.ensures, c.report.ensures.value, c.stride-stride.ensures.value)
    (omega (arith, r.value, r.taken, r.below, c.stride-stride.ensures.space.few_profiles))

pub returns-clause-value : goal.returns-clause-value
returns-clause-value c =
    let r : Replaces c.args.self.now c.args.rank c.args.agent c.args.b = replaces _ _ _ _ c.requires.rank_in c.requires.agent_in c.requires.report_in in
    rw (c.from-2.ensures, c.from.ensures, c.report.ensures.value, c.stride-stride.ensures.value) (omega (arith, r.value, r.taken))

pub returns-clause-below : goal.returns-clause-below
returns-clause-below c =
    let r : Replaces c.args.self.now c.args.rank c.args.agent c.args.b = replaces _ _ _ _ c.requires.rank_in c.requires.agent_in c.requires.report_in in
    rw (returns-clause-value c) r.below

pub returns-clause-profile : goal.returns-clause-profile
returns-clause-profile c =
    let r : Replaces c.args.self.now c.args.rank c.args.agent c.args.b = replaces _ _ _ _ c.requires.rank_in c.requires.agent_in c.requires.report_in in
    ap (profile_at c.args.self.now) (returns-clause-value c) ∙ r.profile
