use Rattle.std.proofs.Common.{◌^◌, ◌+ℤ◌, ◌*ℤ◌, [], subst, le_refl}
use Rattle.md_math.specs.Sums.{sum_to}
use Rattle.md_space.specs.Profiles.{profile_count}
use Rattle.md_setting.specs.Meaning.{sizes_of}
use Rattle.md_setting.specs.Rows.{column_count}
use Rattle.md_forms.specs.Terms.{AddsTerms}
use Rattle.md_forms.proofs.TermLaws.{adds-both, adds-as, adds-all, adds-sum}
use Rattle.md_rows.specs.Columns.{first_plus}
use Rattle.md_require.specs.Named.{named}
use Rattle.md_require.specs.Parts.{lottery_in, paid_in}
use Rattle.md_require.specs.RequireProgram.{amount_in}
use Rattle.md_require.proofs.AmountLaws.{inside-placed}
use Rattle.md_require.proofs.PartLaws.{row-form}
use Rattle.md_require.proofs.terms.amount_terms.Goals as goal

pub returns : goal.returns
returns c =
    let s = c.args.setting.now in
    let scale = c.args.scaled.now.scale in
    let amount = named s c.args.scaled.now.amount in
    let k = column_count s in
    let first : AddsTerms (2 ^ 44) 0 (first_plus s) (λ x. sum_to (profile_count (sizes_of s)) (lottery_in s scale amount x)) [] c.push_lotteries.new.terms.items =
    subst (λ old. AddsTerms (2 ^ 44) 0 (first_plus s) (λ x. sum_to (profile_count (sizes_of s)) (lottery_in s scale amount x)) old c.push_lotteries.new.terms.items) c.new-terms.ensures.items c.in_ok-push_lotteries.ensures in
    let both = adds-both (2 ^ 44) 0 (first_plus s) (first_plus s) k (λ x. sum_to (profile_count (sizes_of s)) (lottery_in s scale amount x)) (paid_in s scale amount)
    [] c.push_lotteries.new.terms.items c.push_payments.new.terms.items first c.in_ok-push_payments.ensures (le_refl (first_plus s)) in
    let all = adds-as (2 ^ 44) 0 k 0 k (λ x. sum_to (profile_count (sizes_of s)) (lottery_in s scale amount x) +ℤ paid_in s scale amount x) (λ x. scale *ℤ amount_in s x amount)
    [] c.push_payments.new.terms.items both (le_refl 0) (le_refl k) (λ x. row-form s scale amount x (inside-placed s c.args.scaled.now.amount c.requires.inside)) in
    record {
      placed = adds-all (2 ^ 44) 0 k (λ x. scale *ℤ amount_in s x amount) c.push_payments.new.terms.items all;
      sum = λ x. adds-sum (2 ^ 44) 0 k (λ x. scale *ℤ amount_in s x amount) c.push_payments.new.terms.items all x;
    }
