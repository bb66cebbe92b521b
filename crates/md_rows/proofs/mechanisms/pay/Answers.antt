use Rattle.std.proofs.Common.{◌≡◌, ◌+◌, true, ◌-ℤ◌, ap, sym, ◌∙◌, subst, lit<}
use Rattle.md_math.specs.Sizes.{IsWithin}
use Rattle.md_math.proofs.SizeLaws.{IsWithin-sub, AllWithin-number_at}
use Rattle.md_math.proofs.Bits.{read_result, read_within}
use Rattle.md_setting.specs.Meaning.{sizes_of}
use Rattle.md_space.specs.Profiles.{profile_count, profile_at}
use Rattle.md_rows.specs.Columns.{plus_column, minus_column}
use Rattle.md_rows.proofs.FormLaws.{plus-at_rank, minus-at_rank, payment-on}
use Rattle.md_math.specs.Lists.{number_at}
use Rattle.md_mech.specs.Accepted.{number_limit}
use Rattle.md_rows.proofs.mechanisms.pay.Goals as goal

pub returns : goal.returns
returns c =
    let s = c.args.setting.now in
    let x = number_at c.args.point.now in
    let t = profile_at (sizes_of s) c.args.rank in
    let count : c.profiles.result ≡ profile_count (sizes_of s) = c.profiles.ensures.count ∙ ap profile_count c.space.ensures.sizes in
    let plus : c.get-plus.result ≡ x (plus_column s c.args.agent t) = (rw (c.from.ensures, count, c.first_plus.ensures.value) at c.get-plus.ensures) ∙ ap x (sym (plus-at_rank s c.args.agent c.args.rank c.requires.rank_in)) in
    let minus : c.get-minus.result ≡ x (minus_column s c.args.agent t) = (rw (c.from.ensures, count, c.first_minus.ensures.value) at c.get-minus.ensures) ∙ ap x (sym (minus-at_rank s c.args.agent c.args.rank c.requires.rank_in)) in
    let small : IsWithin (number_limit + number_limit) (c.get-plus.result -ℤ c.get-minus.result) = IsWithin-sub number_limit number_limit c.get-plus.result c.get-minus.result
    (subst (IsWithin number_limit) (sym plus) (AllWithin-number_at number_limit c.args.point.now _ c.requires.sizes)) (subst (IsWithin number_limit) (sym minus) (AllWithin-number_at number_limit c.args.point.now _ c.requires.sizes)) in
    let on : s.payments ≡ true = sym c.payments.ensures ∙ c.if-not-payments.false in
    rw (read_result c.get-plus.result c.get-plus.type_inv, read_result c.get-minus.result c.get-minus.type_inv, read_within (number_limit + number_limit) (c.get-plus.result -ℤ c.get-minus.result) small (lit< tt), plus, minus)
    (sym (payment-on s x c.args.agent t on))
