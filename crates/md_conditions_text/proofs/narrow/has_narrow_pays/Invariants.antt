use Rattle.std.proofs.Common.{◌≡◌, ◌*ℤ◌, true}
use Rattle.md_setting.specs.Refusals.{all_below}
use Rattle.md_require.specs.Named.{named}
use Rattle.md_require.specs.Parts.{pay_part}
use Rattle.md_conditions_text.specs.Narrow.{is_narrow}
use Rattle.md_conditions_text.proofs.narrow.has_narrow_pays.Given as goal

abbrev pub invariant-loop-agent : goal.invariant-loop-agent
invariant-loop-agent l = all_below l.agent (λ i. is_narrow (l.den *ℤ pay_part l.setting (named l.setting l.amount) l.rank i)) ≡ true
