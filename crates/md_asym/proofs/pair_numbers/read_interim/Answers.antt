use Rattle.std.proofs.Common.{rules}
use Rattle.md_asym.proofs.SaleRead.{interim-known}
use Rattle.md_asym.proofs.pair_numbers.read_interim.Goals as goal

pub returns-clause-reads : goal.returns-clause-reads
returns-clause-reads c = search rules

pub returns-clause-known : goal.returns-clause-known
returns-clause-known c = interim-known c.args.setting.now c.args.reader.now c.read_pairs-2.new.reader _ (returns-clause-reads c)
