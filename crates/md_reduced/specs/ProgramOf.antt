-- The reduced program of an auction: a row for each condition, in their order, and what a bidder adds to the designer's
-- objective as its cost, each divided by the greatest common divisor of its numbers.
use Rattle.std.specs.Prelude.{ℕ, ◌+◌, ◌*◌, ℤ, ◌≡◌, ◌*ℤ◌, ◌↔◌, List, All, map, take, slice_get, Some}
use Rattle.md_setting.specs.Auction.{SymmetricAuction, value_count}
use Rattle.md_lp.specs.declared.row_kind.RowKind.TheVariants.{AtMost}
use Rattle.md_lp.specs.Program.{Program, row_at, row_count}
use Rattle.md_lp.specs.Point.{IsPoint, Meets, cost_sum}
use Rattle.md_forms.specs.Forms.{Form, Holds}
use Rattle.md_forms.specs.Built.{Extends}
use Rattle.md_forms.specs.ProgramOf.{IsRowOf, IsProgramOf}
use Rattle.md_reduced.specs.declared.condition.ReducedCondition.{ReducedCondition}
use Rattle.md_reduced.specs.Conditions.{conditions_of}
use Rattle.md_reduced.specs.Sides.{left_side, right_side, cost_of}

-- the columns: for each value its odds and the two parts of its payment
abbrev pub column_count : SymmetricAuction → ℕ
column_count a = 3 * value_count a

-- a condition by numbers for the columns, with this right side
abbrev pub form_with : SymmetricAuction → ℤ → ReducedCondition → Form
form_with a right condition = record { kind = AtMost; left = left_side a condition; right = right }

-- a condition, and some of them, with so many units of an item
abbrev pub form_of : SymmetricAuction → ℕ → ReducedCondition → Form
form_of a units condition = form_with a (right_side a units condition) condition

abbrev pub forms_of : SymmetricAuction → ℕ → List ReducedCondition → List Form
forms_of a units conditions = map (form_of a units) conditions

-- the program of the auction, with so many units and these cuts
abbrev pub IsReducedProgram : SymmetricAuction → ℕ → List ℕ → Program → Type 0
IsReducedProgram a units cuts p =
    IsProgramOf (column_count a) (forms_of a units (conditions_of (value_count a) cuts)) (cost_of a) p

-- the first so many conditions were added at the end of a program
pub record GrowsByRows (a : SymmetricAuction) (units : ℕ) (cuts : List ℕ) (count : ℕ) (old new : Program) : Type 0 where
  pub columns : new.columns ≡ old.columns
  pub more : row_count new ≡ row_count old + count
  pub extends : Extends (forms_of a units (take count (conditions_of (value_count a) cuts))) old new

-- the row of each number is the condition of this number
abbrev pub HasEachRow : SymmetricAuction → ℕ → List ℕ → Program → Type 0
HasEachRow a units cuts p =
    (number : ℕ) (condition : ReducedCondition) → slice_get (conditions_of (value_count a) cuts) number ≡ Some condition
    → IsRowOf (column_count a) (form_of a units condition) (row_at p number)

-- a point meets the program exactly where its odds and payments keep each condition
abbrev pub MeetsByConditions : SymmetricAuction → ℕ → List ℕ → Program → Type 0
MeetsByConditions a units cuts p =
    (den : ℤ) (x : ℕ → ℤ) → IsPoint p den x
    → Meets p den x ↔ All (λ condition. Holds den x (form_of a units condition)) (conditions_of (value_count a) cuts)

-- the cost of a point, times the cost factor, is what a bidder adds to the objective
abbrev pub CostsPoints : SymmetricAuction → Program → Type 0
CostsPoints a p = (x : ℕ → ℤ) → cost_of a x ≡ p.factor *ℤ cost_sum p x
