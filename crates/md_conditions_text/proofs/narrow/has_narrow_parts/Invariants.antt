use Rattle.std.proofs.Common.{◌≡◌, ◌&&◌, true}
use Rattle.md_setting.specs.Refusals.{all_below}
use Rattle.md_require.specs.Named.{named}
use Rattle.md_conditions_text.specs.Narrow.{has_narrow_chances, has_narrow_pays}
use Rattle.md_conditions_text.proofs.narrow.has_narrow_parts.Given as goal

abbrev pub invariant-loop-rank : goal.invariant-loop-rank
invariant-loop-rank l = all_below l.rank (λ r. has_narrow_chances l.setting l.den (named l.setting l.amount) r && has_narrow_pays l.setting l.den (named l.setting l.amount) r) ≡ true
