use Rattle.md_border.proofs.sides.+served.Given as goal

abbrev pub decreases-served : goal.decreases-served
decreases-served l = l.bidders
