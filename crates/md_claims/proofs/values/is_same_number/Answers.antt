use Rattle.std.proofs.Common.{◌≡◌, ◌-◌, ◌^◌, ◌*ℤ◌, ◌∙◌, sym, to_z, of_z, lit<}
use mir.Syntax.{w128}
use Rattle.md_math.proofs.Bits.{read_within}
use Rattle.md_cert.proofs.Fractions.{same-numbers, numbers-same}
use Rattle.md_claims.proofs.ValueLaws.{same_parts}
use Rattle.md_claims.proofs.values.is_same_number.Goals as goal

pub returns : goal.returns
returns c =
    let f = c.args.fraction.now in
    let least = c.args.least.now in
    let num : to_z w128 (of_z w128 f.num) ≡ f.num = read_within (2 ^ 126 - 1) f.num c.requires.fraction.num_size (lit< tt) in
    let den : to_z w128 (of_z w128 f.den) ≡ f.den = read_within (2 ^ 126 - 1) f.den c.requires.fraction.den_size (lit< tt) in
    let value : c.reduced.result.num *ℤ f.den ≡ f.num *ℤ c.reduced.result.den = rw (num, den) at c.reduced.ensures.value in (
      λ same. same_parts c.reduced.result.num c.reduced.result.den least.num least.den f.num f.den value (same-numbers c.reduced.result least (sym c.eq.ensures ∙ same)),
      λ same.
          let only = (rw (num, den) at c.reduced.ensures.only) least.num least.den c.requires.least same in
          c.eq.ensures ∙ numbers-same c.reduced.result least (sym only.0, sym only.1),
    )
