use Rattle.md_dict.proofs.FirstRows.{HasTerms}
use Rattle.md_dict.proofs.first.push_terms.Given as goal

abbrev pub invariant-loop-k : goal.invariant-loop-k
invariant-loop-k l = HasTerms l.lp l.row l.k l.kept.items
