use Rattle.std.proofs.Common.{ℕ, ◌+◌, ◌-◌, ◌*◌, ◌^◌, ◌≤◌, sym, ap, ◌∙◌, arith, mul-le-mul}
use Rattle.md_border.specs.Sides.{right_by_counts}
use Rattle.md_border.proofs.Served.{base-small, fewer-small, right-next, right-no_bidders, right-no_units, taken-few, taken-first}
use Rattle.md_border.proofs.sides.+served.Goals.{then-bidders-eq0-via-then-bidders-eq0, then-bidders-eq0-via-else-bidders-eq0+then-units-eq0}
use Rattle.md_border.proofs.sides.+served.Goals as goal

pub returns-then-bidders-eq0-clause-value : goal.returns-then-bidders-eq0-clause-value
returns-then-bidders-eq0-clause-value t c = λ a set one_each inside total.
    elim c.then-bidders-eq0.branch [
      | then-bidders-eq0-via-then-bidders-eq0 w ↦ sym (ap (λ n. right_by_counts (record a { bidders = n }) c.args.units set) w.if-bidders-eq0.true ∙ right-no_bidders a c.args.units set)
      | then-bidders-eq0-via-else-bidders-eq0+then-units-eq0 w ↦ sym (ap (λ n. right_by_counts (record a { bidders = c.args.bidders }) n set) w.if-units-eq0.true ∙ right-no_units a c.args.bidders set)
    ]

pub overflow_add-inside : goal.overflow_add-inside
overflow_add-inside t c = omega (arith, base-small (c.args.inside + c.args.outside) c.args.bidders (omega (arith, c.if-bidders-eq0.false)) c.requires.few_profiles)

pub pow-all-requires : goal.pow-all-requires
pow-all-requires t c = omega (arith, fewer-small (c.args.inside + c.args.outside) c.args.bidders c.requires.few_profiles)

pub served-requires : goal.served-requires
served-requires t c = (omega (arith, c.decreases, c.if-bidders-eq0.false), (omega (arith, c.requires.few_units), fewer-small (c.args.inside + c.args.outside) c.args.bidders c.requires.few_profiles))

pub served-requires-2 : goal.served-requires-2
served-requires-2 t c = (omega (arith, c.decreases, c.if-bidders-eq0.false), (c.requires.few_units, fewer-small (c.args.inside + c.args.outside) c.args.bidders c.requires.few_profiles))

pub overflow_add-result : goal.overflow_add-result
overflow_add-result t c =
    omega (
      arith,
      taken-first c.args.units ((c.args.inside + c.args.outside) ^ (c.args.bidders - 1)) c.pow-all.result c.served.result (omega (arith, c.if-units-eq0.false)) c.pow-all.ensures c.served.ensures.size,
      mul-le-mul c.requires.few_units (fewer-small (c.args.inside + c.args.outside) c.args.bidders c.requires.few_profiles),
    )

-- what is taken with the second sum
few : (t : ℕ) (c : goal.After-served t) (second : ℕ) → second ≤ c.args.units * (c.args.inside + c.args.outside) ^ (c.args.bidders - 1)
    → c.args.inside * (c.pow-all.result + c.served.result) + c.args.outside * second ≤ c.args.units * (c.args.inside + c.args.outside) ^ c.args.bidders
few t c second size =
    taken-few c.args.inside c.args.outside c.args.bidders c.args.units c.pow-all.result c.served.result second
    (omega (arith, c.if-bidders-eq0.false)) (omega (arith, c.if-units-eq0.false)) c.pow-all.ensures c.served.ensures.size size

small : (t : ℕ) (c : goal.After-served t) (second : ℕ) → second ≤ c.args.units * (c.args.inside + c.args.outside) ^ (c.args.bidders - 1)
    → c.args.inside * (c.pow-all.result + c.served.result) + c.args.outside * second ≤ 12 * 10 ^ 12
small t c second size = omega (arith, few t c second size, mul-le-mul c.requires.few_units c.requires.few_profiles)

pub overflow_mul-result : goal.overflow_mul-result
overflow_mul-result t c = omega (arith, small t c 0 (omega arith))

pub overflow_mul-result-2 : goal.overflow_mul-result-2
overflow_mul-result-2 t c = omega (arith, small t c.before c.served-2.result c.served-2.ensures.size)

pub overflow_add-result-2 : goal.overflow_add-result-2
overflow_add-result-2 t c = omega (arith, small t c.before c.served-2.result c.served-2.ensures.size)

pub returns-clause-value : goal.returns-clause-value
returns-clause-value t c = λ a set one_each inside total.
    right-next a c.args.bidders c.args.units set c.args.inside c.args.outside c.pow-all.result c.served.result c.served-2.result
    (omega (arith, c.if-bidders-eq0.false)) (omega (arith, c.if-units-eq0.false)) one_each inside total c.pow-all.ensures
    (c.served.ensures.value a set one_each inside total) (c.served-2.ensures.value a set one_each inside total)

pub returns-clause-size : goal.returns-clause-size
returns-clause-size t c = few t c.before c.served-2.result c.served-2.ensures.size
