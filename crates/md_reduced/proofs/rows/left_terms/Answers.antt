use Rattle.md_reduced.proofs.rows.left_terms.Goals as goal

pub returns-in-Truth : goal.returns-in-Truth
returns-in-Truth c = rw c.in-Truth.is c.truth_terms.ensures

pub returns-in-Rational : goal.returns-in-Rational
returns-in-Rational c = rw c.in-Rational.is c.rational_terms.ensures

pub returns-in-Cut : goal.returns-in-Cut
returns-in-Cut c = rw c.in-Cut.is c.cut_terms.ensures
