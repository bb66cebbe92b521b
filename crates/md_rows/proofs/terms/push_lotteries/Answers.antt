use Rattle.std.proofs.Common.{◌≡◌, ◌+◌, ◌*◌, ◌^◌, take, get_or, sym, subst, arith, refl, le_refl}
use Rattle.md_setting.specs.Meaning.{outcome_count, sizes_of}
use Rattle.md_space.specs.Profiles.{profile_count}
use Rattle.md_math.specs.Sums.{total_by}
use Rattle.md_lp.specs.declared.term.Term.{Term}
use Rattle.md_lp.proofs.SparseRows.{no_term}
use Rattle.md_forms.proofs.TermLaws.{adds-as, AddsShares, shares-more}
use Rattle.md_rows.specs.Terms.{chances_at}
use Rattle.std.proofs.lemmas.List.{take_more, take_all}
use Rattle.md_rows.specs.Columns.{first_plus}
use Rattle.md_rows.proofs.terms.push_lotteries.Goals as goal

pub loop-share-preserved : goal.loop-share-preserved
loop-share-preserved c =
    let s = c.args.setting.now in
    let k = c.loop-share.share-index in
    let share : Term = get_or c.args.shares.now k no_term in
    subst (λ shares. AddsShares 1000000 (2 ^ 44) 0 (outcome_count s) (chances_at s c.args.agent c.args.kind) shares c.args.terms.now.items c.push_lottery.new.terms.items) (sym (take_more c.args.shares.now k no_term c.loop-share-test.true))
    (shares-more 1000000 (2 ^ 44) 0 (outcome_count s) (chances_at s c.args.agent c.args.kind) (take k c.args.shares.now) c.args.terms.now.items c.loop-share.terms.items c.push_lottery.new.terms.items share c.loop-share.invariant
    (adds-as (2 ^ 44) (share.column * outcome_count s) (share.column * outcome_count s + outcome_count s) (0 + share.column * outcome_count s) (0 + share.column * outcome_count s + outcome_count s)
    (λ x. chances_at s c.args.agent c.args.kind x share) (λ x. chances_at s c.args.agent c.args.kind x share) c.loop-share.terms.items c.push_lottery.new.terms.items c.in_ok-push_lottery.ensures (omega arith) (omega arith) (λ x. refl)))

pub returns : goal.returns
returns c =
    let s = c.args.setting.now in
    let whole : take c.loop-share.share-index c.args.shares.now ≡ c.args.shares.now = take_all c.loop-share.share-index c.args.shares.now (omega (arith, c.loop-share-test.false)) in
    let all = subst (λ shares. AddsShares 1000000 (2 ^ 44) 0 (outcome_count s) (chances_at s c.args.agent c.args.kind) shares c.args.terms.now.items c.loop-share.terms.items) whole c.loop-share.invariant in
    adds-as (2 ^ 44) 0 (0 + profile_count (sizes_of s) * outcome_count s) 0 (first_plus s) (λ x. total_by (chances_at s c.args.agent c.args.kind x) c.args.shares.now) (λ x. total_by (chances_at s c.args.agent c.args.kind x) c.args.shares.now)
    c.args.terms.now.items c.loop-share.terms.items (all.at (profile_count (sizes_of s)) c.requires.shares) (le_refl 0) (omega arith) (λ x. refl)
