use Rattle.std.proofs.Common.{◌≡◌, ◌+◌, pos, ◌-ℤ◌, neg_ℤ, [], ◌∷◌, ap, ◌∙◌, arith, refl, slice_index, lit<}
use Rattle.md_math.specs.Sizes.{IsWithin}
use Rattle.md_math.proofs.Ring.{linear}
use Rattle.md_math.proofs.SizeLaws.{IsWithin-sub, IsWithin-zero}
use Rattle.md_math.proofs.Bits.{read_result, read_within}
use Rattle.md_setting.specs.Meaning.{sizes_of, outside_of}
use Rattle.md_space.specs.Profiles.{profile_at}
use Rattle.md_forms.specs.Terms.{sum_at}
use Rattle.md_rows.proofs.RowForms.{on_ok, ex_post-left}
use Rattle.md_rows.specs.ProgramOf.{form_of}
use Rattle.md_rows.specs.Built.{Extends}
use Rattle.md_mech.specs.Rows.{ex_post_row}
use Rattle.md_rows.proofs.conditions.push_ex_post.Goals as goal

pub returns-clause-ok : goal.returns-clause-ok
returns-clause-ok c =
    let s = c.args.setting.now in
    let t = profile_at (sizes_of s) c.args.rank in
    let kind : c.report-kind.result ≡ slice_index t c.args.agent = c.report-kind.ensures.value ∙ ap (λ sizes. slice_index (profile_at sizes c.args.rank) c.args.agent) c.space.ensures.sizes in
    let less : IsWithin (0 + 1000000) (pos 0 -ℤ c.outside.result) = IsWithin-sub 0 1000000 (pos 0) c.outside.result (IsWithin-zero 0) c.outside.ensures.size in
    let e = rw (read_result c.outside.result c.outside.type_inv, read_within (0 + 1000000) (pos 0 -ℤ c.outside.result) less (lit< tt)) at c.push_form.ensures.ok in
    on_ok c.push_form.result _ (Extends s (ex_post_row c.args.agent t ∷ []) c.args.lp.now c.push_form.new.lp)
    (λ f. f (form_of s (ex_post_row c.args.agent t)) (record {
      kind_is = refl;
      left_is = λ x.
          ap (sum_at x) c.deref.ensures.value
          ∙ c.in_ok-terms.ensures.sum x
          ∙ ex_post-left s x c.args.agent c.args.rank c.report-kind.result kind;
      right_is = omega (arith, linear, ap neg_ℤ (c.outside.ensures.value ∙ ap (outside_of s c.args.agent) kind));
    })) e
