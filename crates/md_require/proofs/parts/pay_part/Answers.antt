use Rattle.std.proofs.Common.{refl, ◌∙◌}
use Rattle.md_math.proofs.Bits.{read_result}
use Rattle.md_space.proofs.Ranks.{rank_of-profile_at}
use Rattle.md_setting.specs.Meaning.{sizes_of}
use Rattle.md_require.proofs.parts.pay_part.Goals as goal

pub returns-in-PaymentAt-clause-value : goal.returns-in-PaymentAt-clause-value
returns-in-PaymentAt-clause-value c =
    let inside = rw c.in-PaymentAt.is at c.requires.inside in
    let inner = c.value_where-in-PaymentAt in
    let outer = c.value_where-in-PaymentAt-2 in
    read_result outer.result outer.type_inv
    ∙ (rw (read_result inner.result inner.type_inv, inner.ensures) at outer.ensures)
    ∙ rw (c.in-PaymentAt.is, rank_of-profile_at (sizes_of c.args.setting.now) c.in-PaymentAt.at inside.0) refl
