use Rattle.std.proofs.Common.{◌≡◌, pos, ap, ◌∙◌, arith}
use Rattle.md_math.specs.Lists.{list_to}
use Rattle.md_gen.specs.GeneratedSetting.{worth_at, worths_of}
use Rattle.md_gen.proofs.general.worths.Goals as goal

pub returns : goal.returns
unfolding worths_of
returns c =
    let end : c.loop-outcome.outcome ≡ 3 = omega (arith, c.loop-outcome-test.false, c.loop-outcome.auto.outcome-end) in
    c.loop-outcome.invariant ∙ ap (λ n. list_to n (λ o. pos (worth_at c.args.number o))) end
