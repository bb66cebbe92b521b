use Rattle.std.proofs.Common.{◌≡◌, ◌+◌, ◌*◌, ◌^◌, true, false, pos, ◌+ℤ◌, neg_ℤ, sym, ◌∙◌, arith, le_refl}
use Rattle.md_setting.specs.Meaning.{agent_count, sizes_of}
use Rattle.md_space.specs.Profiles.{profile_count, profile_at}
use Rattle.md_math.specs.Sums.{sum_to}
use Rattle.md_forms.proofs.TermLaws.{adds-none, adds-both, adds-as}
use Rattle.md_rows.specs.Terms.{part_of_all}
use Rattle.md_rows.proofs.FormLaws.{deficit-form, no-deficit-form}
use Rattle.md_rows.specs.Columns.{first_plus, first_minus}
use Rattle.md_setting.specs.Rows.{column_count}
use Rattle.md_rows.proofs.PointLaws.{columns-on}
use Rattle.md_mech.specs.Rows.{deficit_row}
use Rattle.md_rows.specs.Sides.{left_side}
use Rattle.md_rows.proofs.terms.push_all_payments.Goals as goal

pub returns-then-not-payments : goal.returns-then-not-payments
returns-then-not-payments c =
    let s = c.args.setting.now in
    let off : s.payments ≡ false = sym c.payments.ensures ∙ c.if-not-payments.true in
    adds-none (2 ^ 44) (first_plus s) (column_count s) (left_side s (deficit_row (profile_at (sizes_of s) c.args.rank))) c.args.terms.now.items (omega arith) (λ x. no-deficit-form s (profile_at (sizes_of s) c.args.rank) x off)

pub returns : goal.returns
returns c =
    let s = c.args.setting.now in
    let n = profile_count (sizes_of s) in
    let on : s.payments ≡ true = sym c.payments.ensures ∙ c.if-not-payments.false in
    let p = rw c.first_plus.ensures.value at c.in_ok-push_part_of_all.ensures in
    let q = rw c.first_minus.ensures.value at c.in_ok-push_part_of_all-2.ensures in
    let both = adds-both (2 ^ 44) (first_plus s) (first_plus s + agent_count s * n) (first_minus s) (first_minus s + agent_count s * n) (λ x. sum_to (agent_count s) (part_of_all s (first_plus s) c.args.rank (neg_ℤ (pos 1)) x)) (λ x. sum_to (agent_count s) (part_of_all s (first_minus s) c.args.rank (pos 1) x))
    c.args.terms.now.items c.push_part_of_all.new.terms.items c.push_part_of_all-2.new.terms.items p q (le_refl (first_minus s)) in
    adds-as (2 ^ 44) (first_plus s) (first_minus s + agent_count s * n) (first_plus s) (column_count s) (λ x. sum_to (agent_count s) (part_of_all s (first_plus s) c.args.rank (neg_ℤ (pos 1)) x) +ℤ sum_to (agent_count s) (part_of_all s (first_minus s) c.args.rank (pos 1) x)) (left_side s (deficit_row (profile_at (sizes_of s) c.args.rank)))
    c.args.terms.now.items c.push_part_of_all-2.new.terms.items both (le_refl (first_plus s)) (omega (arith, columns-on s on)) (λ x. deficit-form s c.args.rank x c.requires.rank_in on)
