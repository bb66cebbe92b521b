use Rattle.std.proofs.Common.{◌≡◌, ◌++◌, map, take}
use Rattle.md_reduced.specs.Averages.{plus_part}
use Rattle.md_claims.proofs.auction_certificates.push_plus_parts.Given as goal

abbrev pub invariant-loop-pay : goal.invariant-loop-pay
invariant-loop-pay l = l.point ≡ l.initial.point ++ map plus_part (take l.pay-index l.pays)
