use Rattle.md_list_check.proofs.told.averages_verdict.Goals as goal

pub returns-in-Some-right : goal.returns-in-Some-right
returns-in-Some-right c = λ a ranks told right. rw c.in-Some.is (c.told_verdict.ensures a ranks (rw c.in-Some-right.is at right))
