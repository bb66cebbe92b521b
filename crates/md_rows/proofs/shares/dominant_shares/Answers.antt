use Rattle.std.proofs.Common.{◌≡◌, ◌<◌, ℤ, pos, ◌+ℤ◌, ◌-ℤ◌, ◌*ℤ◌, neg_ℤ, length, ap, sym, ◌∙◌, arith}
use Rattle.md_setting.specs.Meaning.{sizes_of}
use Rattle.md_space.specs.Profiles.{profile_at, rank_of, replaced}
use Rattle.md_math.proofs.Ring.{linear}
use Rattle.md_rows.proofs.RowForms.{if_ok, told-apart}
use Rattle.md_math.proofs.Ring.{one-*ℤ, neg_ℤ-*ℤ}
use Rattle.std.proofs.lemmas.List.{length-map}
use Rattle.md_rows.proofs.shares.dominant_shares.Goals as goal

minus_one : (u v : ℤ) → (pos 1 *ℤ u) +ℤ (neg_ℤ (pos 1) *ℤ v) ≡ u -ℤ v
minus_one u v = rw (one-*ℤ u, neg_ℤ-*ℤ (pos 1) v, one-*ℤ v) (omega (arith, linear))

one_minus : (u v : ℤ) → (neg_ℤ (pos 1) *ℤ v) +ℤ (pos 1 *ℤ u) ≡ u -ℤ v
one_minus u v = rw (one-*ℤ u, neg_ℤ-*ℤ (pos 1) v, one-*ℤ v) (omega (arith, linear))

pub pair-requires-else-told-rank-clause-order : goal.pair-requires-else-told-rank-clause-order
pair-requires-else-told-rank-clause-order c =
    let s = c.args.setting.now in
    let told : c.replace-told.result ≡ rank_of (sizes_of s) (replaced (profile_at (sizes_of s) c.args.rank) c.args.agent c.args.report) =
    c.replace-told.ensures.value ∙ ap (λ sizes. rank_of sizes (replaced (profile_at sizes c.args.rank) c.args.agent c.args.report)) c.space.ensures.sizes in
    let apart = told-apart (sizes_of s) c.args.rank c.args.agent c.args.report c.requires.rank_in (let inside : c.args.agent < length (sizes_of s) = omega (arith, c.requires.agent_in, length-map s.agents (λ agent. length agent.types)) in inside) c.requires.report_in c.requires.false_report in
    omega (arith, c.if-told-rank.false, λ (e : c.replace-told.result ≡ c.args.rank). apart (sym told ∙ e))

pub returns-then-told-rank-clause-sum : goal.returns-then-told-rank-clause-sum
returns-then-told-rank-clause-sum c =
    let s = c.args.setting.now in
    let told : c.replace-told.result ≡ rank_of (sizes_of s) (replaced (profile_at (sizes_of s) c.args.rank) c.args.agent c.args.report) =
    c.replace-told.ensures.value ∙ ap (λ sizes. rank_of sizes (replaced (profile_at sizes c.args.rank) c.args.agent c.args.report)) c.space.ensures.sizes in
    if_ok c.pair.result _ _ (λ shares f y. f y ∙ minus_one (y c.replace-told.result) (y c.args.rank) ∙ ap (λ r. y r -ℤ y c.args.rank) told) c.pair.ensures.sum

pub returns-else-told-rank-clause-sum : goal.returns-else-told-rank-clause-sum
returns-else-told-rank-clause-sum c =
    let s = c.args.setting.now in
    let told : c.replace-told.result ≡ rank_of (sizes_of s) (replaced (profile_at (sizes_of s) c.args.rank) c.args.agent c.args.report) =
    c.replace-told.ensures.value ∙ ap (λ sizes. rank_of sizes (replaced (profile_at sizes c.args.rank) c.args.agent c.args.report)) c.space.ensures.sizes in
    if_ok c.pair-else-told-rank.result _ _ (λ shares f y. f y ∙ one_minus (y c.replace-told.result) (y c.args.rank) ∙ ap (λ r. y r -ℤ y c.args.rank) told) c.pair-else-told-rank.ensures.sum
