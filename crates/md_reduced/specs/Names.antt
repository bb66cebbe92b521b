-- The name of a condition: which it is, and at which values, or at which set.
use Rattle.std.specs.Prelude.{ℕ, List, [], ◌∷◌, codes, pos}
use Rattle.md_math.specs.Lists.{number_at}
use Rattle.md_num.specs.WholeText.{text_of}
use Rattle.md_mech.specs.RowName.{path}
use Rattle.md_setting.specs.Auction.{SymmetricAuction}
use Rattle.md_reduced.specs.declared.condition.ReducedCondition.{ReducedCondition}
use Rattle.md_reduced.specs.declared.condition.ReducedCondition.TheVariants.{Truth, Rational, Cut}

-- the number that a value is
abbrev pub value_text : SymmetricAuction → ℕ → List ℕ
value_text a v = text_of (number_at a.values v)

abbrev pub name_of : SymmetricAuction → ReducedCondition → List ℕ
name_of a (Truth v w) = path (codes "truth" ∷ value_text a v ∷ value_text a w ∷ [])
name_of a (Rational v) = path (codes "rational" ∷ value_text a v ∷ [])
name_of a (Cut set) = path (codes "cut" ∷ text_of (pos set) ∷ [])
