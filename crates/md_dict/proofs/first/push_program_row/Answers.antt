use Rattle.std.proofs.Common.{◌≡◌, ◌+◌, ◌-◌, ◌*◌, ◌^◌, pos, ◌*ℤ◌, [], ◌∷◌, ◌++◌, length, replicate, ◌∙◌, sym, subst, arith, to_z, of_z}
use Rattle.std.proofs.lemmas.Result.{on_ok_weaker}
use mir.Syntax.{w128}
use Rattle.md_math.proofs.SizeLaws.{IsWithin-wider}
use Rattle.md_lp.specs.Program.{right_at}
use Rattle.md_dict.specs.FirstTable.{column_count, sign_at}
use Rattle.md_dict.specs.Start.{IsBuilt}
use Rattle.md_dict_division.proofs.Reading.{read_small}
use Rattle.md_dict.proofs.FirstRows.{with_right}
use Rattle.md_dict.proofs.first.push_program_row.Goals as goal

pub returns-clause-built : goal.returns-clause-built
returns-clause-built c =
    let whole : to_z w128 (of_z w128 c.signed.result) ≡ c.signed.result = read_small c.signed.result (IsWithin-wider (2 ^ 44) (2 ^ 62) c.signed.result (omega arith) c.signed.ensures.size) in
    let right : to_z w128 (of_z w128 c.right-right.result) ≡ right_at c.args.lp.now c.args.row = read_small c.right-right.result (IsWithin-wider (2 ^ 44) (2 ^ 62) c.right-right.result (omega arith) c.right-right.ensures.size) ∙ c.right-right.ensures.value in
    let number : c.signed.result ≡ sign_at c.args.lp.now c.args.row *ℤ right_at c.args.lp.now c.args.row = rw right at c.signed.ensures.value in
    let at : c.len-start.result + c.args.columns ≡ c.args.row * (column_count c.args.lp.now + 1) + column_count c.args.lp.now = rw (← c.requires.columns) (omega (arith, c.len-start.ensures, c.requires.length)) in
    let row : IsBuilt c.args.lp.now (c.push_slack.new.kept.items ++ (replicate (c.len-start.result + c.args.columns - length c.push_slack.new.kept.items) (pos 0) ++ to_z w128 (of_z w128 c.signed.result) ∷ [])) =
    rw (at, whole) (with_right c.args.lp.now c.args.row c.requires.row c.push_slack.new.kept.items c.signed.result c.in_ok-push_slack.ensures number c.signed.ensures.size) in
    on_ok_weaker c.push_at.result (λ e. subst (IsBuilt c.args.lp.now) (sym e) row) c.push_at.ensures.items
