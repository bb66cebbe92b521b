use Rattle.std.proofs.Common.{◌≡◌, ◌+◌, ◌*ℤ◌, [], arith, ap, ◌∙◌, subst, le_refl}
use Rattle.md_math.specs.Sums.{sum_to}
use Rattle.md_space.specs.Profiles.{profile_count, profile_at}
use Rattle.md_setting.specs.Meaning.{sizes_of}
use Rattle.md_forms.specs.Terms.{AddsTerms}
use Rattle.md_forms.proofs.TermLaws.{adds-next, adds-all, adds-sum}
use Rattle.md_rows.specs.Shares.{interim_share}
use Rattle.md_rows.proofs.shares.interim_shares.Goals as goal

pub loop-rank-preserved : goal.loop-rank-preserved
loop-rank-preserved c =
    let s = c.args.setting.now in
    adds-next 1000000 0 c.loop-rank.rank c.loop-rank.rank (c.loop-rank.rank + 1) c.loop-rank.rank (λ y r. interim_share s c.args.agent c.args.kind (profile_at (sizes_of s) r) *ℤ y r) [] c.loop-rank.shares.items c.push_interim_share.new.shares.items
    c.loop-rank.invariant c.in_ok-push_interim_share.ensures (le_refl c.loop-rank.rank)

pub returns : goal.returns
returns c =
    let s = c.args.setting.now in
    let count : c.profiles-rank-end.result ≡ profile_count (sizes_of s) = c.profiles-rank-end.ensures.count ∙ ap profile_count c.space.ensures.sizes in
    let end : c.loop-rank.rank ≡ profile_count (sizes_of s) = omega (arith, count) in
    let all = subst (λ n. AddsTerms 1000000 0 n (λ y. sum_to n (λ r. interim_share s c.args.agent c.args.kind (profile_at (sizes_of s) r) *ℤ y r)) [] c.loop-rank.shares.items) end c.loop-rank.invariant in
    record {
      placed = adds-all 1000000 0 (profile_count (sizes_of s)) (λ y. sum_to (profile_count (sizes_of s)) (λ r. interim_share s c.args.agent c.args.kind (profile_at (sizes_of s) r) *ℤ y r)) c.loop-rank.shares.items all;
      sum = adds-sum 1000000 0 (profile_count (sizes_of s)) (λ y. sum_to (profile_count (sizes_of s)) (λ r. interim_share s c.args.agent c.args.kind (profile_at (sizes_of s) r) *ℤ y r)) c.loop-rank.shares.items all;
    }
