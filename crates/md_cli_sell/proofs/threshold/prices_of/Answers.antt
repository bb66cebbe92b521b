use Rattle.std.proofs.Common.{refl, ne_eqb, eq-eqb, arith}
use Rattle.md_cli_sell.proofs.threshold.prices_of.Goals as goal

pub returns-then-units-ne1-clause-cases : goal.returns-then-units-ne1-clause-cases
returns-then-units-ne1-clause-cases c = rw (ne_eqb c.args.units 1 (λ e. omega (arith, c.if-units-ne1.true, e)), c.new.ensures.items) refl

pub returns-clause-cases : goal.returns-clause-cases
returns-clause-cases c = rw (eq-eqb c.args.units 1 (omega (arith, c.if-units-ne1.false))) c.one_unit_prices.ensures.cases
