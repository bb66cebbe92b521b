use Rattle.std.proofs.Common.{◌*ℤ◌, []}
use Rattle.md_math.specs.Sums.{sum_to}
use Rattle.md_space.specs.Profiles.{profile_at}
use Rattle.md_setting.specs.Meaning.{sizes_of}
use Rattle.md_forms.specs.Terms.{AddsTerms}
use Rattle.md_rows.specs.Shares.{bayes_share}
use Rattle.md_rows.proofs.shares.bayes_shares.Given as goal

abbrev pub invariant-loop-rank : goal.invariant-loop-rank
invariant-loop-rank l = AddsTerms 1000000 0 l.rank (λ y. sum_to l.rank (λ r. bayes_share l.setting l.agent l.kind l.report (profile_at (sizes_of l.setting) r) *ℤ y r)) [] l.shares.items
