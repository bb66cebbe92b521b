use Rattle.std.proofs.Common.{◌∙◌, ◌≡◌, subst, lit<, sym, pos}
use Rattle.std.specs.Prelude.{◌<ℤ◌}
use Rattle.md_math.specs.Sizes.{IsWithin}
use Rattle.md_math.proofs.Bits.{read_result, read_short_within}
use Rattle.md_setting.specs.Setting.{written}
use Rattle.md_setting.specs.Meaning.{total_of}
use Rattle.md_setting.proofs.MarginalLaws.{total-positive}
use Rattle.md_setting.proofs.setting.Setting.total.Goals as goal

pub returns-clause-positive : goal.returns-clause-positive
returns-clause-positive c =
    let s = written c.self.inside.raw in
    let small : IsWithin 1000000 c.self.inside.total = subst (IsWithin 1000000) (sym c.self.invariant.total_is) c.self.invariant.shaped.total.within in
    let value : c.from.result ≡ total_of s = c.from.ensures ∙ read_short_within 1000000 c.self.inside.total small (lit< tt) ∙ c.self.invariant.total_is in
    rw (read_result c.from.result c.from.type_inv) (subst (λ z. pos 0 <ℤ z) (sym value) (total-positive s c.self.invariant.shaped))
