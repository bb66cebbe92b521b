use Rattle.std.proofs.Common.{◌≡◌, ◌-◌, ◌^◌, pos, [], ◌∷◌, ◌++◌, length, replicate, ◌∙◌, sym, subst, arith, to_z, of_z}
use Rattle.std.proofs.lemmas.Result.{on_ok_weaker}
use mir.Syntax.{w128}
use Rattle.md_math.proofs.Ring.{*ℤ-one}
use Rattle.md_math.proofs.SizeLaws.{IsWithin-wider}
use Rattle.md_lp.specs.Program.{kind_at}
use Rattle.md_lp.specs.declared.row_kind.RowKind.TheVariants.{AtMost}
use Rattle.md_dict.specs.FirstTable.{column_count, sign_at}
use Rattle.md_dict.specs.FirstRows.{IsBuiltBefore}
use Rattle.md_dict_division.proofs.Reading.{read_small}
use Rattle.md_dict.proofs.FirstRows.{with_slack}
use Rattle.md_dict.proofs.first.push_slack.Goals as goal

pub returns-in-AtMost : goal.returns-in-AtMost
returns-in-AtMost c =
    let kind : kind_at c.args.lp.now c.args.row ≡ AtMost = sym c.kind.ensures ∙ c.in-AtMost.is in
    let whole : to_z w128 (of_z w128 c.signed.result) ≡ c.signed.result = read_small c.signed.result (IsWithin-wider (2 ^ 44) (2 ^ 62) c.signed.result (omega arith) c.signed.ensures.size) in
    let sign : c.signed.result ≡ sign_at c.args.lp.now c.args.row = (rw (c.requires.negative) at c.signed.ensures.value) ∙ *ℤ-one (sign_at c.args.lp.now c.args.row) in
    let row : IsBuiltBefore c.args.lp.now c.args.row (column_count c.args.lp.now) (c.args.kept.now.items ++ (replicate (c.args.at - length c.args.kept.now.items) (pos 0) ++ to_z w128 (of_z w128 c.signed.result) ∷ [])) =
    rw (c.requires.at, whole) (with_slack c.args.lp.now c.args.row c.requires.row c.args.kept.now.items c.signed.result kind c.requires.built sign c.signed.ensures.size) in
    on_ok_weaker c.push_at.result (λ e. subst (IsBuiltBefore c.args.lp.now c.args.row (column_count c.args.lp.now)) (sym e) row) c.push_at.ensures.items
