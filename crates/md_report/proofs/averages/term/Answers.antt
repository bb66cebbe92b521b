use Rattle.std.proofs.Common.{◌≡◌, ◌≤◌, ◌*◌, ◌^◌, ◌*ℤ◌, ◌∙◌, true, arith, ap, sym, slice_index, unsigned_abs, mul-le-mul, eq-eqb, refl}
use Rattle.std.specs.Prelude.{◌==◌}
use Rattle.md_math.proofs.Bits.{read_result}
use Rattle.md_space.specs.Profiles.{profile_at}
use Rattle.md_setting.specs.Meaning.{sizes_of}
use Rattle.md_report.proofs.averages.term.Goals as goal

pub returns-clause-size : goal.returns-clause-size
returns-clause-size c =
    let sizes : unsigned_abs c.weight.result * unsigned_abs c.amount.result ≤ 1000000 * 2 ^ 91 = mul-le-mul c.weight.ensures.size.within c.amount.ensures.size.within in
    let product = rw (read_result c.weight.result c.weight.type_inv, read_result c.amount.result c.amount.type_inv) at c.product.ensures.size in
    rw (read_result c.product.result c.product.type_inv) (record { within = omega (arith, product, sizes) })

pub returns-clause-value : goal.returns-clause-value
returns-clause-value c =
    let s = c.args.setting.now in
    let t = profile_at (sizes_of s) c.args.rank in
    let report : c.report.result ≡ slice_index t c.args.agent = c.report.ensures.value ∙ ap (λ sizes. slice_index (profile_at sizes c.args.rank) c.args.agent) c.space.ensures.sizes in
    let kind : c.args.kind ≡ slice_index t c.args.agent = omega (arith, c.if-report-kind.false, report) in
    let here : (slice_index t c.args.agent == c.args.kind) ≡ true = eq-eqb (slice_index t c.args.agent) c.args.kind (sym kind) in
    let product : c.product.result ≡ c.weight.result *ℤ c.amount.result =
    rw (read_result c.weight.result c.weight.type_inv, read_result c.amount.result c.amount.type_inv) at c.product.ensures.value in
    rw (read_result c.product.result c.product.type_inv, here) (rw (product, c.weight.ensures.value, c.amount.ensures.value) refl)
