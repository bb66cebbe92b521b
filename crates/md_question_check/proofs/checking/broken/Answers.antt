use Rattle.md_question_check.proofs.checking.broken.Goals as goal

pub audit-requires : goal.audit-requires
audit-requires g c = rw c.setting.ensures.about c.requires

pub returns-clause-admissible : goal.returns-clause-admissible
returns-clause-admissible g c = rw c.setting.ensures.about at c.audit.ensures.admissible

pub returns-clause-broken : goal.returns-clause-broken
returns-clause-broken g c = rw c.setting.ensures.about at c.audit.ensures.broken
