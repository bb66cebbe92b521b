use Rattle.std.proofs.Common.{◌≡◌, ◌≤◌, ◌*◌, ◌^◌, ◌*ℤ◌, ◌∙◌, true, arith, ap, sym, slice_index, unsigned_abs, mul-le-mul, eq-eqb, refl}
use Rattle.std.specs.Prelude.{◌==◌}
use Rattle.md_math.proofs.Bits.{read_result}
use Rattle.md_space.specs.Profiles.{profile_at, replaced}
use Rattle.md_setting.specs.Meaning.{sizes_of}
use Rattle.md_mech.specs.Utility.{expected_utility}
use Rattle.md_mech.proofs.averages.term_at.Goals as goal

pub product-requires : goal.product-requires
product-requires c =
    let sizes : unsigned_abs c.weight.result * unsigned_abs c.utility-told.result ≤ 1000000 * 2 ^ 90 = mul-le-mul c.weight.ensures.size.within c.utility-told.ensures.size.within in
    rw (read_result c.weight.result c.weight.type_inv, read_result c.utility-told.result c.utility-told.type_inv) (omega arith)

pub returns-clause-size : goal.returns-clause-size
returns-clause-size c =
    let sizes : unsigned_abs c.weight.result * unsigned_abs c.utility-told.result ≤ 1000000 * 2 ^ 90 = mul-le-mul c.weight.ensures.size.within c.utility-told.ensures.size.within in
    let product = rw (read_result c.weight.result c.weight.type_inv, read_result c.utility-told.result c.utility-told.type_inv) at c.product.ensures.size in
    rw (read_result c.product.result c.product.type_inv) (record { within = omega (arith, product, sizes) })

pub returns-clause-value : goal.returns-clause-value
returns-clause-value c =
    let s = c.args.setting.now in
    let m = c.args.mechanism.now in
    let i = c.args.agent in
    let t = profile_at (sizes_of s) c.args.rank in
    let report : c.report.result ≡ slice_index t i = c.report.ensures.value ∙ ap (λ sizes. slice_index (profile_at sizes c.args.rank) i) c.space.ensures.sizes in
    let kind : c.args.kind ≡ slice_index t i = omega (arith, c.if-report-kind.false, report) in
    let here : (slice_index t i == c.args.kind) ≡ true = eq-eqb (slice_index t i) c.args.kind (sym kind) in
    let lie : profile_at (sizes_of s) c.replace.result ≡ replaced t i c.args.report =
    ap (λ sizes. profile_at sizes c.replace.result) (sym c.space-2.ensures.sizes) ∙ c.replace.ensures.profile ∙ ap (λ sizes. replaced (profile_at sizes c.args.rank) i c.args.report) c.space-2.ensures.sizes in
    let told : c.utility-told.result ≡ expected_utility s m i t (replaced t i c.args.report) =
    c.utility-told.ensures.value ∙ ap (expected_utility s m i t) lie in
    let product : c.product.result ≡ c.weight.result *ℤ c.utility-told.result =
    rw (read_result c.weight.result c.weight.type_inv, read_result c.utility-told.result c.utility-told.type_inv) at c.product.ensures.value in
    rw (read_result c.product.result c.product.type_inv, here) (rw (product, c.weight.ensures.value, told) refl)
