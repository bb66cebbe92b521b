use Rattle.md_require.proofs.amount.amount_at.Goals as goal

pub returns-in-Revenue-clause-amounts : goal.returns-in-Revenue-clause-amounts
returns-in-Revenue-clause-amounts c = rw c.in-Revenue.is (c.at_first.ensures.amount c.args.setting.now)

pub returns-in-Revenue-clause-inside : goal.returns-in-Revenue-clause-inside
returns-in-Revenue-clause-inside c = c.at_first.ensures.inside c.args.setting.now tt

pub returns-in-Welfare-clause-amounts : goal.returns-in-Welfare-clause-amounts
returns-in-Welfare-clause-amounts c = rw c.in-Welfare.is (c.at_first-in-Welfare.ensures.amount c.args.setting.now)

pub returns-in-Welfare-clause-inside : goal.returns-in-Welfare-clause-inside
returns-in-Welfare-clause-inside c = c.at_first-in-Welfare.ensures.inside c.args.setting.now tt

pub returns-in-Utility-clause-amounts : goal.returns-in-Utility-clause-amounts
returns-in-Utility-clause-amounts c = rw c.in-Utility.is (c.at_first-in-Utility.ensures.amount c.args.setting.now)

pub returns-in-Chance-clause-amounts : goal.returns-in-Chance-clause-amounts
returns-in-Chance-clause-amounts c = rw c.in-Chance.is (c.at_first-in-Chance.ensures.amount c.args.setting.now)
