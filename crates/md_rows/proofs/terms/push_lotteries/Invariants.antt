use Rattle.std.proofs.Common.{◌^◌, take}
use Rattle.md_setting.specs.Meaning.{outcome_count}
use Rattle.md_forms.proofs.TermLaws.{AddsShares}
use Rattle.md_rows.specs.Terms.{chances_at}
use Rattle.md_rows.proofs.terms.push_lotteries.Given as goal

abbrev pub invariant-loop-share : goal.invariant-loop-share
invariant-loop-share l = AddsShares 1000000 (2 ^ 44) 0 (outcome_count l.setting) (chances_at l.setting l.agent l.kind) (take l.share-index l.shares) l.fn.terms.items l.terms.items
