-- By what the row of a cut was divided.
use Rattle.std.proofs.Common.{◌≡◌, ℕ, zero, suc, ◌<◌, ℤ, pos, ◌*ℤ◌, ◌<ℤ◌, List, [], ◌∷◌, length, map, Some, sym, ap, subst, ◌∙◌, arith}
use Rattle.std.specs.Prelude.{slice_get, option_map}
use Rattle.std.proofs.lemmas.Int.{ints}
use Rattle.std.proofs.lemmas.Option.{slice_get-map, get_or_from_slice_get}
use Rattle.md_math.specs.Divisors.{Divides}
use Rattle.md_math.proofs.Gcds.{family_gcd}
use Rattle.md_setting.specs.Auction.{SymmetricAuction, value_count}
use Rattle.md_setting.specs.AuctionShaped.{IsAuction}
use Rattle.md_lp.specs.Divided.{IsDivisorFor}
use Rattle.md_lp.specs.Program.{Program, row_at, right_at}
use Rattle.md_lp.proofs.Dividing.{IsDivisorFor-gcd, IsDivisorFor-same, zero-Divides}
use Rattle.md_forms.specs.Forms.{number_of}
use Rattle.md_forms.specs.ProgramOf.{IsRowOf}
use Rattle.md_forms.proofs.BuiltLaws as forms
use Rattle.md_reduced.specs.ProgramOf.{column_count, IsReducedProgram}
use Rattle.md_reduced.specs.Sides.{cost_of}
use Rattle.md_iron_values.specs.Pools.{Pools}
use Rattle.md_iron_values.specs.Cuts.{cuts_of}
use Rattle.md_iron_values.proofs.SideLaws.{units-positive}
use Rattle.md_iron_laws.specs.Rows.{ProgramRow, cut_row, rows_of, row_right, row_form}
use Rattle.md_iron_laws.specs.RowsIn.{IsRowIn}
use Rattle.md_iron_laws.proofs.Certificates.{row-by}
use Rattle.md_iron_laws.proofs.ProgramForms.{is-program, rows-in}

-- ---- a row by its number

pub row-below : (rows : List ProgramRow) (number : ℕ) (row : ProgramRow) → slice_get rows number ≡ Some row → number < length rows
row-below [] number row e = cc
row-below (x ∷ xs) zero row e = omega arith
row-below (x ∷ xs) (suc number) row e = (let rest : number < length xs = row-below xs number row e in omega (arith, rest))

pub row-in : (kinds : ℕ) (pools : Pools) (number : ℕ) (row : ProgramRow) → slice_get (rows_of kinds pools) number ≡ Some row → IsRowIn kinds pools row
row-in kinds pools number row e =
    subst (IsRowIn kinds pools) (get_or_from_slice_get (rows_of kinds pools) number row row e) (rows-in kinds pools number row (row-below (rows_of kinds pools) number row e))

pub line-of : (a : SymmetricAuction) (units : ℕ) (pools : Pools) (p : Program) → IsReducedProgram a units (cuts_of (value_count a) pools) p → (number : ℕ) (row : ProgramRow) → slice_get (rows_of (value_count a) pools) number ≡ Some row
    → IsRowOf (column_count a) (row_form a units row) (row_at p number)
line-of a units pools p is number row e =
    forms.each-row (column_count a) (map (row_form a units) (rows_of (value_count a) pools)) (cost_of a) p (is-program a units pools p is) number (row_form a units row)
    (slice_get-map (row_form a units) (rows_of (value_count a) pools) number ∙ ap (option_map (row_form a units)) e)

-- ---- right sides of cuts

pub cut-right-positive : (a : SymmetricAuction) (units s : ℕ) → IsAuction a → 0 < units → s < value_count a → pos 0 <ℤ row_right a units (cut_row s)
cut-right-positive a units s shaped some b = units-positive a units s shaped some b

-- ---- the divisor

-- the greatest common divisor of the numbers of a cut's row
pub divisor_of : SymmetricAuction → ℕ → ℕ → ℤ
divisor_of a units s = (family_gcd (suc (column_count a)) (number_of (row_form a units (cut_row s)))).0

pub divisor_of-is : (a : SymmetricAuction) (units s : ℕ) → IsAuction a → 0 < units → s < value_count a → IsDivisorFor (suc (column_count a)) (number_of (row_form a units (cut_row s))) (divisor_of a units s)
unfolding divisor_of
divisor_of-is a units s shaped some b =
    let (g, q) = family_gcd (suc (column_count a)) (number_of (row_form a units (cut_row s))) in
    IsDivisorFor-gcd (suc (column_count a)) (number_of (row_form a units (cut_row s))) g q.is_gcd
    (λ e. not_none (row_right a units (cut_row s)) (cut-right-positive a units s shaped some b) (zero-Divides (row_right a units (cut_row s)) (subst (λ d. Divides d (row_right a units (cut_row s))) e (q.is_gcd.common.at 0 (omega arith)))))
  where
    not_none : (z : ℤ) → pos 0 <ℤ z → z ≡ pos 0 → ⊥
    not_none z h e = omega (arith, ints, h, e)

-- the right side of the row of a number is divided by it
pub divisor_of-divides : (a : SymmetricAuction) (units : ℕ) (pools : Pools) (p : Program) → IsAuction a → 0 < units → IsReducedProgram a units (cuts_of (value_count a) pools) p → (number s : ℕ) → slice_get (rows_of (value_count a) pools) number ≡ Some (cut_row s)
    → row_right a units (cut_row s) ≡ divisor_of a units s *ℤ right_at p number
divisor_of-divides a units pools p shaped some is number s e =
    let line = line-of a units pools p is number (cut_row s) e in
    let inside = row-in (value_count a) pools number (cut_row s) e in
    let same : line.by ≡ divisor_of a units s = IsDivisorFor-same (suc (column_count a)) (number_of (row_form a units (cut_row s))) line.by (divisor_of a units s) line.divisor (divisor_of-is a units s shaped some inside.0) in
    line.right ∙ ap (λ z. z *ℤ right_at p number) same

-- and by no other number
pub divisor-same : (a : SymmetricAuction) (units : ℕ) (pools : Pools) (p : Program) (d : ℕ → ℤ) → IsAuction a → 0 < units → IsReducedProgram a units (cuts_of (value_count a) pools) p → (number s : ℕ) → slice_get (rows_of (value_count a) pools) number ≡ Some (cut_row s)
    → row_right a units (cut_row s) ≡ d s *ℤ right_at p number → d s ≡ divisor_of a units s
divisor-same a units pools p d shaped some is number s e h =
    let line = line-of a units pools p is number (cut_row s) e in
    let inside = row-in (value_count a) pools number (cut_row s) e in
    let mine : line.by ≡ d s = row-by a units pools d (cut_row s) (row_at p number) line shaped some inside (λ t f. turn t f) in
    let its : line.by ≡ divisor_of a units s = IsDivisorFor-same (suc (column_count a)) (number_of (row_form a units (cut_row s))) line.by (divisor_of a units s) line.divisor (divisor_of-is a units s shaped some inside.0) in
    sym mine ∙ its
  where
    place : ProgramRow → ℕ
    place (cut_row t) = t
    place other = 0

    turn : (t : ℕ) → cut_row s ≡ cut_row t → row_right a units (cut_row s) ≡ d t *ℤ right_at p number
    turn t f = h ∙ ap (λ i. d i *ℤ right_at p number) (ap place f)
