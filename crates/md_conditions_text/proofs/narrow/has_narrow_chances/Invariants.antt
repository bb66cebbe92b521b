use Rattle.std.proofs.Common.{◌≡◌, ◌*ℤ◌, true}
use Rattle.md_setting.specs.Refusals.{all_below}
use Rattle.md_require.specs.Named.{named}
use Rattle.md_require.specs.Parts.{chance_part}
use Rattle.md_conditions_text.specs.Narrow.{is_narrow}
use Rattle.md_conditions_text.proofs.narrow.has_narrow_chances.Given as goal

abbrev pub invariant-loop-outcome : goal.invariant-loop-outcome
invariant-loop-outcome l = all_below l.outcome (λ o. is_narrow (l.den *ℤ chance_part l.setting (named l.setting l.amount) l.rank o)) ≡ true
