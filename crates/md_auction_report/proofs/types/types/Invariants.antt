use Rattle.md_auction_report.specs.Types.{AreTold}
use Rattle.md_auction_report.proofs.types.types.Given as goal

abbrev pub invariant-loop-kind : goal.invariant-loop-kind
invariant-loop-kind l = AreTold l.auction l.interim l.kind l.told.items
