use Rattle.std.proofs.Common.{take}
use Rattle.md_lp.specs.Divided.{IsDividedTerms}
use Rattle.md_lp.specs.Stored.{shown_terms}
use Rattle.md_lp.proofs.divide.divided_terms.Given as goal

abbrev pub invariant-loop-term : goal.invariant-loop-term
invariant-loop-term l = IsDividedTerms l.by (take l.term-index l.terms) (shown_terms l.divided.items)
