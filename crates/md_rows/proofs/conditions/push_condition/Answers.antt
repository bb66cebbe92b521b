use Rattle.md_rows.proofs.conditions.push_condition.Goals as goal

pub returns-in-Dominant : goal.returns-in-Dominant
returns-in-Dominant c = rw c.in-Dominant.is c.push_dominant.ensures

pub returns-in-Bayes : goal.returns-in-Bayes
returns-in-Bayes c = rw c.in-Bayes.is c.push_bayes.ensures

pub returns-in-ExPost : goal.returns-in-ExPost
returns-in-ExPost c = rw c.in-ExPost.is c.push_ex_post.ensures

pub returns-in-Interim : goal.returns-in-Interim
returns-in-Interim c = rw c.in-Interim.is c.push_interim.ensures

pub returns-in-Deficit : goal.returns-in-Deficit
returns-in-Deficit c = rw c.in-Deficit.is c.push_deficit.ensures

pub returns-in-Profile : goal.returns-in-Profile
returns-in-Profile c = rw c.in-Profile.is c.push_profile.ensures
