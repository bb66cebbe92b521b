use Rattle.std.proofs.Common.{inl, inr}
use Rattle.md_lp.proofs.StoredTerms.{StartsFrom-first, StartsFrom-found, StartsFrom-gap}
use Rattle.md_lp.proofs.places.from_column.Goals as goal

pub returns-then-first-eq0 : goal.returns-then-first-eq0
returns-then-first-eq0 c = StartsFrom-first c.args.terms.now c.args.first c.if-first-eq0.true

pub returns : goal.returns
returns c = elim c.in-Ok.is [
  | inl e ↦ StartsFrom-found c.args.terms.now c.args.first c.in-Ok.at c.requires (rw e at c.place_of.ensures.found)
  | inr e ↦ StartsFrom-gap c.args.terms.now c.args.first c.in-Ok.at (rw e at c.place_of.ensures.absent)
]
