use Rattle.std.proofs.Common.{◌≡◌, ◌*◌, ◌+◌, ◌/◌, ◌^◌, ◌≤◌, pos, ◌≤ℤ◌, sym, ap, ap₂, ◌∙◌, subst, arith, lit<}
use Rattle.std.proofs.Math.Nat as NatL
use Rattle.md_math.specs.Lists.{number_at}
use Rattle.md_math.proofs.Readings.{read, read_of, product_is, product_fits}
use Rattle.md_setting.specs.Auction.{value_count}
use Rattle.md_mech.specs.Accepted.{number_limit}
use Rattle.md_counts.specs.Weights.{count_in}
use Rattle.md_expost.specs.Masses.{mass_at}
use Rattle.md_unit_tables.proofs.MassLaws.{mass-within}
use Rattle.md_run.specs.OfMasses.{mass_for}
use Rattle.md_run.specs.OfUnits.{draws_each}
use Rattle.md_run.proofs.MassLaws.{mass-at_rank}
use Rattle.md_run.proofs.ReportLaws.{reports-length}
use Rattle.md_run.proofs.UnitLaws.{times-size}
use Rattle.md_run.proofs.units.stretch.Goals as goal

pub count_of-requires : goal.count_of-requires
count_of-requires c =
    let a = c.args.auction.now in
    record { few = omega (arith, reports-length a.bidders (value_count a) c.args.profile.now c.requires.reports, c.kinds.ensures.shaped.few_bidders) }

pub product-requires : goal.product-requires
product-requires c =
    let a = c.args.auction.now in
    let y = c.args.masses.now in
    let v = c.args.report in
    let mass : c.get-mass.result ≡ mass_at a y c.args.rank v = c.get-mass.ensures ∙ ap₂ (λ n k. number_at y.rows (c.args.rank * n + k)) c.kinds.ensures.count c.from-kind.ensures in
    let part : c.draws_each.result / c.count_of.result ≤ 27720 = omega (arith, NatL.div-le_self c.draws_each.result c.count_of.result, c.draws_each.ensures.number) in
    product_fits _ _ _ _ (number_limit * 10 ^ 12 * 12) 27720
    (read_of _ _ c.get-mass.type_inv mass) (read_of _ _ c.from.type_inv c.from.ensures)
    (mass-within a c.requires.masses.0 y c.args.rank v c.kinds.ensures.shaped c.requires.masses.1 c.requires.den_small c.requires.rank_in c.requires.report_in)
    (record { within = part }) (lit< tt)

pub returns-clause-value : goal.returns-clause-value
returns-clause-value c =
    let a = c.args.auction.now in
    let y = c.args.masses.now in
    let t = c.args.profile.now in
    let v = c.args.report in
    let same = mass-at_rank a y t c.args.rank v c.requires.reports c.requires.rank_in c.requires.counts in
    let mass : c.get-mass.result ≡ mass_for a y t v = c.get-mass.ensures ∙ ap₂ (λ n k. number_at y.rows (c.args.rank * n + k)) c.kinds.ensures.count c.from-kind.ensures ∙ sym same in
    let count : c.count_of.result ≡ count_in v t = c.count_of.ensures ∙ ap (λ k. count_in k t) c.from-kind.ensures in
    let part : c.draws_each.result / c.count_of.result ≡ draws_each / count_in v t = ap₂ (λ e n. e / n) c.draws_each.ensures.value count in
    read _ _ (product_is _ _ _ _ _ c.product.type_inv (read_of _ _ c.get-mass.type_inv mass) (read_of _ _ c.from.type_inv (c.from.ensures ∙ ap pos part)) c.product.ensures.value)
    ∙ times-size (mass_for a y t v) (draws_each / count_in v t) (subst (λ z. pos 0 ≤ℤ z) (sym same) (c.requires.masses.1.nonneg c.args.rank v c.requires.rank_in c.requires.report_in))
