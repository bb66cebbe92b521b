use Rattle.std.proofs.Common.{◌*◌, ◌^◌}
use Rattle.md_math.specs.Sums.{sum_to}
use Rattle.md_setting.specs.Meaning.{outcome_count}
use Rattle.md_forms.specs.Terms.{AddsTerms}
use Rattle.md_require.specs.Named.{named}
use Rattle.md_require.specs.Parts.{lottery_in}
use Rattle.md_require.proofs.terms.push_lotteries.Given as goal

abbrev pub invariant-loop-rank : goal.invariant-loop-rank
invariant-loop-rank l = AddsTerms (2 ^ 44) 0 (l.rank * outcome_count l.setting) (λ x. sum_to l.rank (lottery_in l.setting l.scaled.scale (named l.setting l.scaled.amount) x)) l.fn.terms.items l.terms.items
