use Rattle.std.proofs.Common.{◌≡◌, ℤ, pos, ◌≤ℤ◌, to_z, of_z, ap, sym, subst, ◌∙◌, arith, lit<}
use Rattle.std.proofs.lemmas.Int.{ints}
use Rattle.std.specs.Prelude.{unsigned_abs}
use mir.Syntax.{w128}
use Rattle.md_math.proofs.Bits.{read_within}
use Rattle.md_space.specs.Profiles.{profile_at}
use Rattle.md_space.proofs.Ranks.{profile_at-IsProfile}
use Rattle.md_setting.specs.Meaning.{sizes_of}
use Rattle.md_asym.proofs.mass_records.weight.Goals as goal

size-of : (z : ℤ) → pos 0 ≤ℤ z → pos (unsigned_abs z) ≡ z
size-of z l = omega (arith, ints, l)

pub returns-clause-value : goal.returns-clause-value
returns-clause-value c =
    let s = c.args.setting.now in
    let w = c.weight.result in
    let back : to_z w128 (of_z w128 w) ≡ w = read_within 1000000 w c.weight.ensures.size (lit< tt) in
    let above : pos 0 ≤ℤ w =
    subst (λ z. pos 0 ≤ℤ z) (sym c.weight.ensures.value) (c.weight.ensures.shaped.weight (profile_at (sizes_of s) c.args.rank) (profile_at-IsProfile (sizes_of s) c.args.rank c.requires)).nonneg in
    ap pos c.unsigned_abs.ensures.value ∙ ap (λ z. pos (unsigned_abs z)) back ∙ size-of w above ∙ c.weight.ensures.value
