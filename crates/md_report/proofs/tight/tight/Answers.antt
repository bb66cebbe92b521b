use Rattle.std.proofs.Common.{◌≡◌, ◌++◌, length, ap, ◌∙◌, sym, arith}
use Rattle.md_math.specs.Lists.{up_to}
use Rattle.md_math.proofs.Builders.{up_to-more}
use Rattle.md_space.specs.Profiles.{profile_count}
use Rattle.md_mech.specs.Rows.{demand_rows}
use Rattle.md_report.specs.Tight.{tight_at}
use Rattle.md_report.proofs.BlockLaws.{demands-length}
use Rattle.md_report.proofs.tight.tight.Goals as goal

pub push_if_tight-requires-clause-inside : goal.push_if_tight-requires-clause-inside
push_if_tight-requires-clause-inside c =
    omega (arith, c.loop-row-test.true, c.rows.ensures.count, c.profiles.ensures.count, ap profile_count c.space.ensures.sizes, demands-length c.args.setting.now)

pub loop-row-preserved : goal.loop-row-preserved
loop-row-preserved c =
    let at = tight_at c.args.setting.now c.args.mechanism.now in
    c.in_ok-push_if_tight.ensures ∙ ap (λ xs. xs ++ at c.loop-row.row) c.loop-row.invariant ∙ sym (up_to-more c.loop-row.row at)

pub returns : goal.returns
returns c =
    let s = c.args.setting.now in
    let end : c.loop-row.row ≡ length (demand_rows s) =
    omega (arith, c.loop-row-test.false, c.loop-row.auto.row-end, c.rows.ensures.count, c.profiles.ensures.count, ap profile_count c.space.ensures.sizes, demands-length s) in
    c.loop-row.invariant ∙ ap (λ n. up_to n (tight_at s c.args.mechanism.now)) end
