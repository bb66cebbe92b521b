use Rattle.std.proofs.Common.{◌≡◌, to_z, of_z, ap, sym, ◌∙◌, arith}
use mir.Syntax.{w128}
use Rattle.md_math.proofs.Bits.{read_result}
use Rattle.md_math.proofs.FirstFailures.{HoldsBelow-more}
use Rattle.md_cut_check.specs.CutClaims.{HasMass}
use Rattle.md_asym.specs.SaleVerdicts.{sale_claim}
use Rattle.md_asym.proofs.TableSizes.{table-sizes}
use Rattle.md_asym.proofs.checking.other_mass.Goals as goal

pub mass_sum-sum-requires-clause-sizes : goal.mass_sum-sum-requires-clause-sizes
mass_sum-sum-requires-clause-sizes c =
    let answer = c.args.answer.now in
    table-sizes c.args.setting.now answer.interim.den answer.masses c.pair_count-pair-end.ensures.shaped c.requires.odds.fits.den_positive c.requires.odds.fits.den_size c.requires.table

pub returns-then-sum-demand-clause-some : goal.returns-then-sum-demand-clause-some
returns-then-sum-demand-clause-some c =
    let sum = c.mass_sum-sum.result in
    let demand = c.demand-demand.result in
    record {
      first = record {
        below = omega (arith, c.loop-pair-test.true, c.pair_count-pair-end.ensures.value);
        fails = λ (same : HasMass (sale_claim c.args.setting.now c.args.answer.now) c.loop-pair.pair). c.if-sum-demand.true (ap (of_z w128) (c.mass_sum-sum.ensures ∙ same ∙ sym c.demand-demand.ensures));
        before = c.loop-pair.invariant;
      };
      sum_is = read_result sum c.mass_sum-sum.type_inv ∙ c.mass_sum-sum.ensures;
      demand_is = read_result demand c.demand-demand.type_inv ∙ c.demand-demand.ensures;
    }

pub loop-pair-preserved : goal.loop-pair-preserved
loop-pair-preserved c =
    let sum = c.mass_sum-sum.result in
    let demand = c.demand-demand.result in
    let same : sum ≡ demand = sym (read_result sum c.mass_sum-sum.type_inv) ∙ ap (to_z w128) c.if-sum-demand.false ∙ read_result demand c.demand-demand.type_inv in
    HoldsBelow-more (HasMass (sale_claim c.args.setting.now c.args.answer.now)) c.loop-pair.pair c.loop-pair.invariant (sym c.mass_sum-sum.ensures ∙ same ∙ c.demand-demand.ensures)
