use Rattle.std.proofs.Common.{subst, sym, arith}
use Rattle.std.proofs.lemmas.List.Elements.{All-nil}
use Rattle.md_require.specs.Limits.{IsConditionFor}
use Rattle.md_mechanism_text.specs.Proposals.{AreAsked}
use Rattle.md_mechanism_text.proofs.reading.under_none.Goals as goal

pub returns-clause-fits : goal.returns-clause-fits
returns-clause-fits c = λ s accepted.
    c.proposed_under.ensures.fits s (subst (AreAsked s) (sym c.new.ensures.items) (record { each = All-nil (IsConditionFor s); few = omega arith })) accepted
