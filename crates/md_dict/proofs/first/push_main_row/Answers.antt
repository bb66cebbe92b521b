use Rattle.std.proofs.Common.{◌≡◌, ◌+◌, ◌-◌, ◌*◌, ◌^◌, ◌<◌, ◌≤◌, pos, neg_ℤ, ◌-ℤ◌, [], ◌∷◌, ◌++◌, length, replicate, ◌∙◌, ap, sym, subst, arith, to_z, of_z}
use Rattle.std.proofs.lemmas.Result.{on_ok_weaker}
use Rattle.std.proofs.lemmas.List.{length_push}
use Rattle.std.proofs.lemmas.Int.{ints}
use mir.Syntax.{w128}
use Rattle.md_math.specs.Sizes.{IsWithin}
use Rattle.md_math.proofs.SizeLaws.{IsWithin-wider, IsWithin-neg_ℤ}
use Rattle.md_lp.specs.Program.{row_count}
use Rattle.md_dict.specs.FirstTable.{column_count, first_number}
use Rattle.md_dict.specs.Start.{IsBuilt}
use Rattle.md_dict_division.proofs.Reading.{read_small, read_short}
use Rattle.md_dict.proofs.Building.{IsBuilt-push}
use Rattle.md_dict.proofs.FirstRows.{length-filled, main_number, with_main_zeros}
use Rattle.md_dict.proofs.first.push_main_row.Goals as goal

pub loop-place-preserved : goal.loop-place-preserved
loop-place-preserved c =
    let p = c.args.lp.now in
    let inside : c.loop-place.place < p.columns = omega (arith, c.loop-place-test.true, c.columns-place-end.ensures.value) in
    let cost : to_z w128 (of_z w128 c.cost-number.result) ≡ c.cost-number.result = read_small c.cost-number.result (IsWithin-wider (2 ^ 44) (2 ^ 62) _ (omega arith) c.cost-number.ensures.size) in
    let minus : pos 0 -ℤ c.cost-number.result ≡ neg_ℤ c.cost-number.result = omega (arith, ints) in
    let small : IsWithin (2 ^ 62) (neg_ℤ c.cost-number.result) = IsWithin-wider (2 ^ 44) (2 ^ 62) _ (omega arith) (IsWithin-neg_ℤ (2 ^ 44) _ c.cost-number.ensures.size) in
    let items : c.push.new.self.items ≡ c.loop-place.kept.items ++ neg_ℤ c.cost-number.result ∷ [] = rw (cost, minus, read_small (neg_ℤ c.cost-number.result) small, read_short (neg_ℤ c.cost-number.result) small) at c.in_ok-push.ensures.items in
    let long : length c.loop-place.kept.items ≡ (row_count p + 1) * (column_count p + 1) + c.loop-place.place = c.loop-place.invariant.1 ∙ ap (λ m. (row_count p + 1) * (m + 1) + c.loop-place.place) c.requires.columns in
    let number : neg_ℤ c.cost-number.result ≡ first_number p (row_count p + 1) c.loop-place.place = ap neg_ℤ c.cost-number.ensures.value ∙ sym (main_number p c.loop-place.place inside) in
    rw items (
      IsBuilt-push p c.loop-place.kept.items (row_count p + 1) c.loop-place.place (neg_ℤ c.cost-number.result) c.loop-place.invariant.0 long (omega (arith, inside)) number (λ b. absurd (omega arith)),
      omega (arith, length_push c.loop-place.kept.items (neg_ℤ c.cost-number.result), c.loop-place.invariant.1),
    )

pub returns-clause-built : goal.returns-clause-built
returns-clause-built c =
    let p = c.args.lp.now in
    let long : length c.loop-place.kept.items ≡ (row_count p + 1) * (column_count p + 1) + p.columns =
    c.loop-place.invariant.1 ∙ (rw (c.requires.columns) (omega (arith, c.loop-place-test.false, c.loop-place.auto, c.columns-place-end.ensures.value))) in
    let at : c.len-start.result + c.args.columns ≡ (row_count p + 1) * (column_count p + 1) + column_count p = rw (← c.requires.columns) (omega (arith, c.len-start.ensures, c.requires.length)) in
    let row : IsBuilt p (c.loop-place.kept.items ++ (replicate (c.len-start.result + c.args.columns - length c.loop-place.kept.items) (pos 0) ++ pos 0 ∷ [])) = rw at ((with_main_zeros p c.loop-place.kept.items c.loop-place.invariant.0 long).built) in
    on_ok_weaker c.push_at.result (λ e. subst (IsBuilt p) (sym e) row) c.push_at.ensures.items

pub returns-clause-length : goal.returns-clause-length
returns-clause-length c =
    let reached : length c.loop-place.kept.items ≤ c.len-start.result + c.args.columns = omega (arith, c.loop-place.invariant.1, c.len-start.ensures, c.requires.length, c.requires.columns, c.loop-place.auto, c.columns-place-end.ensures.value) in
    let long = length-filled (c.len-start.result + c.args.columns) c.loop-place.kept.items (pos 0) reached in
    let whole : c.len-start.result + c.args.columns + 1 ≡ (row_count c.args.lp.now + 2) * (c.args.columns + 1) = omega (arith, c.len-start.ensures, c.requires.length) in
    on_ok_weaker c.push_at.result (λ e. ap length e ∙ long ∙ whole) c.push_at.ensures.items
