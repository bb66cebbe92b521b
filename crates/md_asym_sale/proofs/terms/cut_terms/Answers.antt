use Rattle.std.proofs.Common.{◌≡◌, ◌+◌, ◌^◌, pos, [], if◌then◌else◌, ap, ◌∙◌, arith, le_refl}
use Rattle.md_math.specs.Sets.{member}
use Rattle.md_math.specs.Sums.{sum_to}
use Rattle.md_forms.proofs.TermLaws.{adds-next, adds-all, adds-sum, below-wider}
use Rattle.md_asym_sale.specs.ProgramOf.{column_count}
use Rattle.md_asym_sale.specs.Sides.{demand_at}
use Rattle.md_asym_sale.specs.Values.{pairs_of}
use Rattle.md_asym_sale.proofs.terms.cut_terms.Goals as goal

pub loop-pair-preserved : goal.loop-pair-preserved
loop-pair-preserved c =
    let k = c.loop-pair.pair in
    adds-next (2 ^ 44) 0 k k (k + 1) k (λ x p. if member c.args.set p then demand_at c.args.setting.now x p else pos 0)
    [] c.loop-pair.terms.items c.push_demand.new.terms.items c.loop-pair.invariant c.in_ok-push_demand.ensures (le_refl k)

pub returns-clause-placed : goal.returns-clause-placed
returns-clause-placed c =
    let s = c.args.setting.now in
    let k = c.loop-pair.pair in
    let end : k ≡ pairs_of s = omega (arith, c.loop-pair-test.false, c.loop-pair.auto.pair-end, c.pair_count-pair-end.ensures.value) in
    below-wider (2 ^ 44) k (column_count s) c.loop-pair.terms.items (omega (arith, end))
    (adds-all (2 ^ 44) 0 k (λ x. sum_to k (λ p. if member c.args.set p then demand_at s x p else pos 0)) c.loop-pair.terms.items c.loop-pair.invariant)

pub returns-clause-sum : goal.returns-clause-sum
returns-clause-sum c = λ x.
    let s = c.args.setting.now in
    let k = c.loop-pair.pair in
    let end : k ≡ pairs_of s = omega (arith, c.loop-pair-test.false, c.loop-pair.auto.pair-end, c.pair_count-pair-end.ensures.value) in
    adds-sum (2 ^ 44) 0 k (λ x. sum_to k (λ p. if member c.args.set p then demand_at s x p else pos 0)) c.loop-pair.terms.items c.loop-pair.invariant x
    ∙ ap (λ n. sum_to n (λ p. if member c.args.set p then demand_at s x p else pos 0)) end
