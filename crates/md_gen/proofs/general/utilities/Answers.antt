use Rattle.std.proofs.Common.{◌≡◌, pos, ap, ◌∙◌, arith}
use Rattle.md_math.specs.Lists.{list_to}
use Rattle.md_gen.specs.GeneratedSetting.{utility_at, utilities_of}
use Rattle.md_gen.proofs.general.utilities.Goals as goal

pub returns : goal.returns
unfolding utilities_of
returns c =
    let end : c.loop-kind.kind ≡ 4 = omega (arith, c.loop-kind-test.false, c.loop-kind.auto.kind-end) in
    c.loop-kind.invariant ∙ ap (λ n. list_to n (λ a. list_to 3 (λ o. pos (utility_at c.args.number c.args.agent a o)))) end
