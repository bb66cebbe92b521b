use Rattle.std.proofs.Common.{rules}
use Rattle.md_answer.proofs.OddsRead.{interim-read}
use Rattle.md_answer.proofs.interim_records.read_interim.Goals as goal

pub returns-clause-reads : goal.returns-clause-reads
returns-clause-reads c = search rules

pub returns-clause-known : goal.returns-clause-known
returns-clause-known c = interim-read c.args.auction.now c.args.reader.now c.read_pays.new.reader _ (returns-clause-reads c)
