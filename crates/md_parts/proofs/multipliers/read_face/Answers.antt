use Rattle.std.proofs.Common.{rules}
use Rattle.md_parts.proofs.PartsRead.{face-known}
use Rattle.md_parts.proofs.multipliers.read_face.Goals as goal

pub returns-clause-read : goal.returns-clause-read
returns-clause-read c = search rules

pub returns-clause-sizes : goal.returns-clause-sizes
returns-clause-sizes c = face-known c.args.rows c.args.reader.now _ _ (returns-clause-read c)
