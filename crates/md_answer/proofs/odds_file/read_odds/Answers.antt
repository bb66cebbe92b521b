use Rattle.std.proofs.Common.{pos, replicate, ap, ◌∙◌}
use Rattle.md_math.proofs.Bits.{read_result}
use Rattle.md_answer.proofs.OddsRead.{interim-known}
use Rattle.md_answer.proofs.odds_file.read_odds.Goals as goal

pub returns-clause-accepted : goal.returns-clause-accepted
returns-clause-accepted c =
    rw (read_result c.from.result c.from.type_inv, c.from.ensures) (interim-known c.args.auction.now (pos c.in_ok-den.den) c.in_ok-odds.odds c.in_ok-pays.pays c.in_ok-reader.reader c.read_denominator.new.reader c.read_list.new.reader
    c.in_ok-den.ensures.read c.in_ok-odds.ensures (c.in_ok-pays.ensures.ok ∙ ap (λ n. replicate n (pos 0)) c.kinds.ensures.count))
