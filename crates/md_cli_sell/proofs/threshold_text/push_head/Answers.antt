use Rattle.std.proofs.Common.{◌≡◌, List, [], ◌∷◌, ◌++◌, ℕ, codes, pos, to_z, of_z, ◌∙◌, ap}
use Rattle.std.proofs.lemmas.Int.{to_z-of_z}
use mir.Syntax.{w128}
use Rattle.md_parts.specs.Rows.{number_row, value_row}
use Rattle.md_iron_pools.specs.Pooling.{pools_of}
use Rattle.md_cli_sell.specs.ThresholdTexts.{frac_row, reserve_row}
use Rattle.md_cli_sell.proofs.Joined.{then}
use Rattle.md_cli_sell.proofs.threshold_text.push_head.Goals as goal

pub returns : goal.returns
returns c =
    let a = c.args.auction.now in
    let threshold = c.args.threshold.now in
    let version : List (List (List ℕ)) = number_row (codes "threshold") (pos 1 ∷ []) ∷ [] in
    let units : List (List (List ℕ)) = number_row (codes "units") (pos c.args.units ∷ []) ∷ [] in
    let value : List (List (List ℕ)) = value_row threshold.value ∷ [] in
    let revenue : List (List (List ℕ)) = frac_row (codes "revenue") threshold.revenue ∷ [] in
    let welfare : List (List (List ℕ)) = frac_row (codes "welfare") threshold.welfare ∷ [] in
    let reserve : List (List (List ℕ)) = reserve_row a (pools_of threshold.pools) ∷ [] in
    let t0 = c.args.rows.now.items in
    let t1 = c.push_numbers.new.to.items in
    let t2 = c.push_numbers-2.new.to.items in
    let t3 = c.push_value.new.to.items in
    let t4 = c.push_frac.new.rows.items in
    let t5 = c.push_frac-2.new.rows.items in
    let t6 = c.push.new.self.items in
    let last = c.in_ok-push.ensures.items ∙ ap (λ row. t5 ++ row ∷ []) c.in_ok-reserve_record.ensures in
    let h5 = then t4 t5 t6 welfare reserve c.in_ok-push_frac-2.ensures last in
    let h4 = then t3 t4 t6 revenue (welfare ++ reserve) c.in_ok-push_frac.ensures h5 in
    let h3 = then t2 t3 t6 value (revenue ++ (welfare ++ reserve)) c.in_ok-push_value.ensures.rows h4 in
    let units_back : to_z w128 (of_z w128 c.from.result) ≡ pos c.args.units = to_z-of_z w128 c.from.result (record { sfits = c.from.type_inv }) ∙ c.from.ensures in
    let h2 = then t1 t2 t6 units (value ++ (revenue ++ (welfare ++ reserve))) (rw units_back at c.in_ok-push_numbers-2.ensures.rows) h3 in
    then t0 t1 t6 version (units ++ (value ++ (revenue ++ (welfare ++ reserve)))) c.in_ok-push_numbers.ensures.rows h2
