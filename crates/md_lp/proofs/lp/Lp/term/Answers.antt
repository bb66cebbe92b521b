use Rattle.std.proofs.Common.{◌^◌, ◌<◌, length, sym, subst, ◌∙◌}
use Rattle.md_math.specs.Sizes.{IsWithin}
use Rattle.md_lp.specs.declared.term.Term.{Term}
use Rattle.md_lp.specs.Stored.{shown_terms}
use Rattle.md_lp.proofs.SparseRows.{no_term}
use Rattle.md_lp.proofs.StoredTerms.{at_shown}
use Rattle.md_lp.proofs.lp.Lp.term.Goals as goal

inside : (c : goal.After-term_of) → c.args.place < length (shown_terms c.terms.result.now)
inside c = rw c.terms.ensures.value c.requires.place

pub returns-clause-column : goal.returns-clause-column
returns-clause-column c = subst (λ (t : Term). t.column < c.args.self.now.columns) (at_shown c.terms.result.now c.args.place ∙ sym c.term_of.ensures) (c.terms.ensures.places.below c.args.place (inside c))

pub returns-clause-size : goal.returns-clause-size
returns-clause-size c = subst (λ (t : Term). IsWithin (2 ^ 44) t.value) (at_shown c.terms.result.now c.args.place ∙ sym c.term_of.ensures) (c.terms.ensures.sizes c.args.place no_term (inside c))
