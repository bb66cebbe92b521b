use Rattle.std.proofs.Common.{rules}
use Rattle.md_parts.specs.Fitting.{IsRayFor}
use Rattle.md_parts.proofs.PartsRead.{known-of, paid-known}
use Rattle.md_parts.proofs.mechanism.read_pays.Goals as goal

pub returns-then-payments-clause-read : goal.returns-then-payments-clause-read
returns-then-payments-clause-read c = search rules

pub returns-then-payments-clause-sizes : goal.returns-then-payments-clause-sizes
returns-then-payments-clause-sizes c =
    known-of c.read_all_payments.result _ _ (IsRayFor c.args.setting.now) (returns-then-payments-clause-read c) (λ pays reads. paid-known c.args.word.now c.args.setting.now c.args.reader.now c.read_all_payments.new.reader pays reads)

pub returns-clause-read : goal.returns-clause-read
returns-clause-read c = search rules

pub returns-clause-sizes : goal.returns-clause-sizes
returns-clause-sizes c = known-of c.zeros.result _ _ (IsRayFor c.args.setting.now) (returns-clause-read c) (λ pays reads. paid-known c.args.word.now c.args.setting.now c.args.reader.now c.args.reader.now pays reads)
