use Rattle.std.proofs.Common.{◌≡◌, ℤ, ◌*ℤ◌, ap, ◌∙◌, lit<}
use Rattle.md_math.proofs.Bits.{read_result, read_within}
use Rattle.md_math.proofs.Ring.{ring}
use Rattle.md_mech.specs.Accepted.{number_limit}
use Rattle.md_require.specs.Amounts.{whole_of}
use Rattle.md_require.specs.Conditions.{bound_of, told_of}
use Rattle.md_require.specs.Named.{named}
use Rattle.md_require.proofs.FirstUnmet.{missed-least, missed-most}
use Rattle.md_require.proofs.unmet.missed_by.Goals as goal

-- the bound times the denominator
bound-is : (num whole den part told : ℤ) → told ≡ part *ℤ den → part ≡ num *ℤ whole → told ≡ num *ℤ (den *ℤ whole)
bound-is num whole den part told is part_is = is ∙ ap (λ z. z *ℤ den) part_is ∙ turn num whole den
  where
    turn : (a b d : ℤ) → (a *ℤ b) *ℤ d ≡ a *ℤ (d *ℤ b)
    turn a b d = simp ring

pub returns-in-Least : goal.returns-in-Least
returns-in-Least c =
    let s = c.args.setting.now in
    let k = c.args.condition.now in
    let m = c.args.mechanism.now in
    let amount = named s c.args.amount in
    let told = c.told-amount_told in
    let bound = c.product-bound_told in
    let told_is : told.result ≡ told_of s m k amount = rw (read_within number_limit k.den c.requires.condition.den_size (lit< tt)) at told.ensures.value in
    let bound_is : bound.result ≡ bound_of s m k amount =
    bound-is k.num (whole_of s amount) m.den c.bound.result bound.result
    (rw (read_result c.bound.result c.bound.type_inv, read_within number_limit m.den c.requires.accepted.den_size (lit< tt)) at bound.ensures.value) c.bound.ensures.value in
    missed-least s m k amount c.args.number told.result bound.result c.below.result c.in-Least.is told_is bound_is
    (rw (read_result told.result told.type_inv, read_result bound.result bound.type_inv) at c.below.ensures)

pub returns-in-Most : goal.returns-in-Most
returns-in-Most c =
    let s = c.args.setting.now in
    let k = c.args.condition.now in
    let m = c.args.mechanism.now in
    let amount = named s c.args.amount in
    let told = c.told-amount_told in
    let bound = c.product-bound_told in
    let below = c.below-in-Most in
    let told_is : told.result ≡ told_of s m k amount = rw (read_within number_limit k.den c.requires.condition.den_size (lit< tt)) at told.ensures.value in
    let bound_is : bound.result ≡ bound_of s m k amount =
    bound-is k.num (whole_of s amount) m.den c.bound.result bound.result
    (rw (read_result c.bound.result c.bound.type_inv, read_within number_limit m.den c.requires.accepted.den_size (lit< tt)) at bound.ensures.value) c.bound.ensures.value in
    missed-most s m k amount c.args.number told.result bound.result below.result c.in-Most.is told_is bound_is
    (rw (read_result told.result told.type_inv, read_result bound.result bound.type_inv) at below.ensures)
