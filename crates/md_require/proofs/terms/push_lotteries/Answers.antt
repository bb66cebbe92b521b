use Rattle.std.proofs.Common.{◌≡◌, ◌+◌, ◌*◌, ◌^◌, ℕ, ℤ, arith, ap, ◌∙◌, subst, refl, le_refl}
use Rattle.md_math.specs.Sums.{sum_to}
use Rattle.md_space.specs.Profiles.{profile_count}
use Rattle.md_setting.specs.Meaning.{outcome_count, sizes_of}
use Rattle.md_forms.specs.Terms.{AddsTerms}
use Rattle.md_forms.proofs.TermLaws.{adds-as, adds-next, block-fits}
use Rattle.md_require.specs.Named.{named}
use Rattle.md_require.specs.Parts.{lottery_in}
use Rattle.md_require.proofs.terms.push_lotteries.Goals as goal

pub loop-rank-preserved : goal.loop-rank-preserved
loop-rank-preserved c =
    let s = c.args.setting.now in
    let r = c.loop-rank.rank in
    let m = outcome_count s in
    let f : (ℕ → ℤ) → ℕ → ℤ = lottery_in s c.args.scaled.now.scale (named s c.args.scaled.now.amount) in
    let next = adds-next (2 ^ 44) 0 (r * m) (r * m) (r * m + m) r f c.args.terms.now.items c.loop-rank.terms.items c.push_lottery.new.terms.items
    c.loop-rank.invariant c.in_ok-push_lottery.ensures (le_refl (r * m)) in
    adds-as (2 ^ 44) 0 (r * m + m) 0 ((r + 1) * m) (λ x. sum_to (r + 1) (f x)) (λ x. sum_to (r + 1) (f x)) c.args.terms.now.items c.push_lottery.new.terms.items
    next (le_refl 0) (block-fits r (r + 1) m (omega arith)) (λ x. refl)

pub returns : goal.returns
returns c =
    let s = c.args.setting.now in
    let count : c.profiles-rank-end.result ≡ profile_count (sizes_of s) = c.profiles-rank-end.ensures.count ∙ ap profile_count c.space.ensures.sizes in
    let end : c.loop-rank.rank ≡ profile_count (sizes_of s) = omega (arith, count) in
    subst (λ n. AddsTerms (2 ^ 44) 0 (n * outcome_count s) (λ x. sum_to n (lottery_in s c.args.scaled.now.scale (named s c.args.scaled.now.amount) x)) c.args.terms.now.items c.loop-rank.terms.items) end c.loop-rank.invariant
