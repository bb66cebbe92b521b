use Rattle.md_cli_tell.proofs.award_text.push_share.Goals as goal

pub returns-in-Chance : goal.returns-in-Chance
returns-in-Chance c = rw c.in-Chance.is c.push_frac.ensures

pub returns-in-Price : goal.returns-in-Price
returns-in-Price c = rw c.in-Price.is c.push_price.ensures

pub returns-in-Win : goal.returns-in-Win
returns-in-Win c = rw c.in-Win.is c.push_win.ensures
