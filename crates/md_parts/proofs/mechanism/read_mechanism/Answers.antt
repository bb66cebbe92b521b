use Rattle.std.proofs.Common.{rules}
use Rattle.md_parts.proofs.MechanismRead.{mechanism-accepted}
use Rattle.md_parts.proofs.mechanism.read_mechanism.Goals as goal

pub returns-clause-read : goal.returns-clause-read
returns-clause-read c = search rules

pub returns-clause-accepted : goal.returns-clause-accepted
returns-clause-accepted c = mechanism-accepted c.args.setting.now _ c.args.reader.now c.read_pays.new.reader (returns-clause-read c)
