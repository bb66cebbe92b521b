-- A condition holds with equality exactly where what is missed of it is 0.
use Rattle.std.proofs.Common.{◌≡◌, ◌↔◌, ℕ, ◌<◌, ℤ, pos, ◌-ℤ◌, ◌*ℤ◌, Bool, List, ◌++◌, All, get_or, length, map, Some, sym, ◌∙◌}
use Rattle.std.specs.Prelude.{IsTrue, slice_get}
use Rattle.std.proofs.lemmas.List.Elements.{All-append, All-map}
use Rattle.std.proofs.lemmas.Option.{slice_get-get_or}
use Rattle.md_setting.specs.Auction.{SymmetricAuction, value_count}
use Rattle.md_border.specs.declared.interim.Interim.{Interim}
use Rattle.md_border.specs.Odds.{IsInterim}
use Rattle.md_reduced.specs.declared.condition.ReducedCondition.TheVariants.{Cut}
use Rattle.md_reduced.specs.Conditions.{conditions_of, truths, rationals}
use Rattle.md_reduced.specs.Sides.{left_side, right_side}
use Rattle.md_report.proofs.TightLaws.{tests_zero}
use Rattle.md_report.proofs.ToldLaws.{both}
use Rattle.md_auction_report.specs.Shortfalls.{missed, missed_at}
use Rattle.md_auction_report.specs.Tight.{columns_of, is_tight}
use Rattle.md_auction_report.proofs.AdmissibleLaws.{truths-there, rationals-there}
use Rattle.md_auction_report.proofs.ColumnLaws.{IsThere, tight-missed}

cuts-there : (kinds : ℕ) (cuts : List ℕ) → All (IsThere kinds) (map Cut cuts)
cuts-there kinds cuts = All-map (IsThere kinds) Cut cuts (λ k d h. tt)

conditions-there : (kinds : ℕ) (cuts : List ℕ) → All (IsThere kinds) (conditions_of kinds cuts)
conditions-there kinds cuts =
    All-append (IsThere kinds) (truths kinds) (rationals kinds ++ map Cut cuts) (truths-there kinds).each
    (All-append (IsThere kinds) (rationals kinds) (map Cut cuts) (rationals-there kinds).each (cuts-there kinds cuts))

zero-same : (x y : ℤ) → x ≡ y → (x ≡ pos 0) ↔ (y ≡ pos 0)
zero-same x y e = ((λ h. sym e ∙ h), (λ h. e ∙ h))

pub tight-told : (a : SymmetricAuction) (units : ℕ) (interim : Interim) (cuts : List ℕ) (row : ℕ) (b : Bool) (x : ℤ) → IsInterim a interim → row < length (conditions_of (value_count a) cuts)
    → x ≡ missed_at a units interim cuts row → IsTrue b ↔ (x ≡ pos 0) → b ≡ is_tight a units interim (slice_get (conditions_of (value_count a) cuts) row)
tight-told a units interim cuts row b x fits inside same zero =
    let rows = conditions_of (value_count a) cuts in
    let c = get_or rows row (Cut 0) in
    let e : slice_get rows row ≡ Some c = slice_get-get_or rows row (Cut 0) inside in
    let here : x ≡ missed a units interim c = (rw e at same) in
    rw e
    (tests_zero b (left_side a c (columns_of interim) -ℤ interim.den *ℤ right_side a units c)
    (both zero (both (zero-same x (missed a units interim c) here) (tight-missed a units interim c fits (conditions-there (value_count a) cuts row (Cut 0) inside)))))
