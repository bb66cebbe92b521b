use Rattle.md_asym_sale.proofs.rows.push_condition.Goals as goal

pub returns-in-Truth : goal.returns-in-Truth
returns-in-Truth c = rw c.in-Truth.is c.push_truth.ensures

pub returns-in-Rational : goal.returns-in-Rational
returns-in-Rational c = rw c.in-Rational.is c.push_rational.ensures

pub returns-in-Cut : goal.returns-in-Cut
returns-in-Cut c = rw c.in-Cut.is c.push_cut.ensures
