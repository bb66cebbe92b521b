use Rattle.std.proofs.Common.{◌^◌, subst}
use Rattle.md_setting.specs.Meaning.{sizes_of}
use Rattle.md_space.specs.Profiles.{profile_at}
use Rattle.md_forms.specs.Terms.{AddsTerms}
use Rattle.md_forms.proofs.TermLaws.{adds-all, adds-sum}
use Rattle.md_rows.specs.Columns.{first_plus}
use Rattle.md_setting.specs.Rows.{column_count}
use Rattle.md_rows.specs.Sides.{left_side}
use Rattle.md_mech.specs.Rows.{deficit_row}
use Rattle.md_rows.proofs.terms.deficit_terms.Goals as goal

pub returns : goal.returns
returns c =
    let s = c.args.setting.now in
    let form = left_side s (deficit_row (profile_at (sizes_of s) c.args.rank)) in
    let all = subst (λ old. AddsTerms (2 ^ 44) (first_plus s) (column_count s) form old c.push_all_payments.new.terms.items) c.new-terms.ensures.items c.in_ok-push_all_payments.ensures in
    record {
      placed = adds-all (2 ^ 44) (first_plus s) (column_count s) form c.push_all_payments.new.terms.items all;
      sum = adds-sum (2 ^ 44) (first_plus s) (column_count s) form c.push_all_payments.new.terms.items all;
    }
