use Rattle.md_rows.proofs.PointLaws.{mechanism-of_point, point-length, point-nonneg, point-within}
use Rattle.md_rows.proofs.points.point_of.Goals as goal

pub returns-in_err-point-clause-returns : goal.returns-in_err-point-clause-returns
returns-in_err-point-clause-returns c = mechanism-of_point c.args.setting.now

pub returns-in_err-push_payments-clause-returns : goal.returns-in_err-push_payments-clause-returns
returns-in_err-push_payments-clause-returns c = mechanism-of_point c.args.setting.now

pub returns-clause-one_each : goal.returns-clause-one_each
returns-clause-one_each c = rw (c.in_ok-push_payments.ensures, c.in_ok-point.ensures) (point-length c.args.setting.now c.args.mechanism.now c.requires.mechanism)

pub returns-clause-nonneg : goal.returns-clause-nonneg
returns-clause-nonneg c = rw (c.in_ok-push_payments.ensures, c.in_ok-point.ensures) (point-nonneg c.args.setting.now c.args.mechanism.now c.requires.mechanism)

pub returns-clause-sizes : goal.returns-clause-sizes
returns-clause-sizes c = rw (c.in_ok-push_payments.ensures, c.in_ok-point.ensures) (point-within c.args.setting.now c.args.mechanism.now c.requires)

pub returns-clause-returns : goal.returns-clause-returns
returns-clause-returns c = mechanism-of_point c.args.setting.now
