-- The table after a pivot: its rows are made, and over their least common multiple they are the numbers after the pivot.
use Rattle.std.proofs.Common.{◌≡◌, ℕ, ◌+◌, ◌*◌, ◌^◌, ◌<◌, ◌≤◌, List, length, ℤ, pos, ◌*ℤ◌, ◌<ℤ◌, int_div, unsigned_abs, Result, Ok, Err, IfOk, refl, sym, ap, ap₂, ◌∙◌, subst, arith}
use Rattle.md_num.specs.Limits.{limit_of}
use Rattle.md_math.specs.Lists.{list_to, number_at}
use Rattle.md_math.specs.Sizes.{AllWithin, IsWithin}
use Rattle.md_math.specs.Divisors.{Divides}
use lib.IntN.{*ℤ_comm}
use Rattle.md_math.proofs.Builders.{list_to-same, up_to-same}
use Rattle.md_math.proofs.Division.{Divides-from_product}
use Rattle.md_math.proofs.SizeLaws.{AllWithin-wider}
use Rattle.md_dict.specs.declared.step.Step.{Step}
use Rattle.md_dict.specs.declared.rows.Rows.{Rows}
use Rattle.md_dict.specs.declared.draft.Draft.{Draft}
use Rattle.md_lp.specs.Program.{Program}
use Rattle.md_dict.specs.FirstTable.{first_entry}
use Rattle.md_dict.specs.Pivot.{with_column}
use Rattle.md_dict.specs.Condensed.{Condensed, basic_at, entry_at, Holds, TakesColumn}
use Rattle.md_lp.specs.declared.entry.Entry.{Entry}
use Rattle.md_dict.specs.Wide.{IsFirstWide, IsNarrow, IsWideBasis}
use Rattle.md_dict.specs.Step.{new_entry, number_in, raw_number, IsSeated, IsStep, IsStepDivisor, IsTable}
use Rattle.md_dict.specs.Exchange.{exchanged, step_of, AreWritten, IsExchange, IsWideStep}
use Rattle.md_dict.specs.Fill.{AreSameRows, IsFilledBy, IsNewTable, IsRowsMultiple, IsWideFor}
use Rattle.md_dict.specs.Multiples.{HaveDivisor}
use Rattle.md_dict.specs.Rows.{kept_of, own_den, own_number, share_of, size_of, AreRows, HasRows}
use Rattle.md_dict_rows.specs.LeastRows.{IsLeastRow, IsRowSize}
use Rattle.md_dict.specs.RowStep.{kept_in, IsDraft, IsRowStep}
use Rattle.md_dict.proofs.Exchange.{leaving_in, IsSeated-step_of, IsStep-step_of}
use Rattle.md_dict.proofs.Exchanged.{den_within, Holds-exchanged, IsNarrow-exchanged, IsReady-of, IsWideBasis-of, TakesColumn-exchanged}
use Rattle.md_dict.proofs.Divided.{den_over, divided_numbers, IsStepDivisor-over}
use Rattle.md_dict_rows.proofs.Quotients.{quotient_is, factor_size}
use Rattle.md_dict.proofs.NewNumbers.{IsNarrow-from}
use Rattle.md_dict.proofs.NewRows.{IsStepDivisor-rows}
use Rattle.md_dict_division.proofs.Reading.{product_small}
use Rattle.md_dict.proofs.RowLaws.{kept_at, length-kept_of, size_reached, within_by_size, AllWithin-kept_of}
use Rattle.md_dict.proofs.Filling.{IsLeastRow-same, IsRowSize-same}
use Rattle.md_dict.proofs.Values.{not_narrow, IsStepDivisor-same, IsTable-with}

-- the step of a pivot is one of the dictionary's rows
pub IsRowStep-of : (d : Condensed) (row column : ℕ) (g : ℤ) (table : Rows) → IsExchange d row column → d.kept ≡ kept_of (d.rows + 2) table → HasRows d.rows d.columns d.den table → IsRowStep (step_of d row column g) table
IsRowStep-of d row column g table h e r = record {
  width = r.width;
  table = r.table;
  pivot = subst (IsStep (step_of d row column g)) e (IsStep-step_of d row column g h);
  den_within = h.shape.den_size;
}

-- what divides all, by the rows' denominators
pub divided_of : (step : Step) (table : Rows) (numbers dens sizes : List ℤ) (den : ℤ) → IsRowStep step table → IsFilledBy step table numbers dens sizes den → HaveDivisor step (kept_in step table) den (number_at dens) (number_in step numbers)
divided_of step table numbers dens sizes den h f =
    IsStepDivisor-rows step (kept_in step table) den (number_at dens) (number_in step numbers) h.pivot.table.den_positive h.pivot.table.pivot_positive (λ i b. (f.made i b).new) f.multiple

own_is : (step : Step) (new : Rows) (i s : ℕ) → new.width ≡ step.columns + 1 → own_number new i s ≡ number_in step new.numbers.items i s
own_is step new i s e = ap (λ w. number_at new.numbers.items (i * w + s)) e

-- a number of the new table over its denominator
new_number : (step : Step) (table new : Rows) (numbers dens sizes : List ℤ) (den : ℤ) (i s : ℕ) → IsNewTable step new numbers dens sizes den → i < step.rows + 2 → s < step.columns + 1 → number_in step (kept_of (step.rows + 2) new) i s ≡ share_of new i *ℤ number_in step numbers i s
new_number step table new numbers dens sizes den i s n a b =
    ap (λ w. number_at (kept_of (step.rows + 2) new) (i * w + s)) (sym n.width)
    ∙ kept_at (step.rows + 2) i s new a (omega (arith, b, n.width))
    ∙ ap (λ z. share_of new i *ℤ z) (own_is step new i s n.width ∙ n.made i s a b)

-- and is within the limit
new_within : (step : Step) (table new : Rows) (numbers dens sizes : List ℤ) (den : ℤ) (i s : ℕ) → IsFilledBy step table numbers dens sizes den → IsNewTable step new numbers dens sizes den → i < step.rows + 2 → s < step.columns + 1 → IsWithin step.limit (share_of new i *ℤ number_in step numbers i s)
new_within step table new numbers dens sizes den i s f n a b =
    within_by_size step.limit (step.columns + 1) (number_in step numbers i) (number_at sizes i) (share_of new i) (f.made i a).size (n.shared i a).1 s b

-- the numbers over the new denominator are a table
IsTable-new : (step : Step) (table new : Rows) (numbers dens sizes : List ℤ) (den : ℤ) → IsFilledBy step table numbers dens sizes den → IsNewTable step new numbers dens sizes den → IsTable step (kept_of (step.rows + 2) new)
IsTable-new step table new numbers dens sizes den f n =
    let t = n.own in
    let within : AllWithin step.limit (kept_of (step.rows + 2) new) =
    AllWithin-kept_of step.limit (step.rows + 2) new (λ i s a b. let inside : s < step.columns + 1 = omega (arith, b, n.width) in subst (λ z. IsWithin step.limit (share_of new i *ℤ z)) (sym (own_is step new i s n.width ∙ n.made i s a inside)) (new_within step table new numbers dens sizes den i s f n a inside)) in
    record {
      row_limit = t.row_limit;
      column_limit = t.column_limit;
      row_in = t.row_in;
      place_in = t.place_in;
      limit_size = t.limit_size;
      kept_length = length-kept_of (step.rows + 2) new ∙ ap (λ w. (step.rows + 2) * w) n.width;
      kept_size = AllWithin-wider step.limit (2 ^ 62) _ t.limit_size within;
      kept_limit = within;
      den_size = t.den_size;
      pivot_size = t.pivot_size;
      den_positive = t.den_positive;
      pivot_positive = t.pivot_positive;
    }

-- the rows of the new table stand over its denominator
pub HasRows-new : (step : Step) (table new : Rows) (numbers dens sizes : List ℤ) (den : ℤ) → IsFilledBy step table numbers dens sizes den → IsNewTable step new numbers dens sizes den → HasRows step.rows step.columns den new
HasRows-new step table new numbers dens sizes den f n = record {
  width = n.width;
  table = record {
    numbers_length = n.own.kept_length ∙ ap (λ w. (step.rows + 2) * w) (sym n.width);
    dens_length = ap length n.dens_are ∙ n.dens_length;
    shares_length = n.shares_length;
    sizes_length = ap length n.sizes_are ∙ n.sizes_length;
    numbers_size = n.own.kept_size;
    dens_size = subst (AllWithin (2 ^ 62)) (sym n.dens_are) n.dens_size;
    shares_size = n.shares_size;
    sizes = λ i b.
        subst (λ w. IsRowSize w (own_number new i) (size_of new i)) (sym n.width)
        (IsRowSize-same (step.columns + 1) (number_in step numbers i) (own_number new i) (size_of new i) (λ s a. own_is step new i s n.width ∙ n.made i s b a)
        (subst (λ xs. IsRowSize (step.columns + 1) (number_in step numbers i) (number_at xs i)) (sym n.sizes_are) (f.made i b).size));
    least = λ i b.
        subst (λ w. IsLeastRow w (own_den new i) (own_number new i)) (sym n.width)
        (IsLeastRow-same (step.columns + 1) (own_den new i) (number_in step numbers i) (own_number new i) (λ s a. own_is step new i s n.width ∙ n.made i s b a)
        (subst (λ xs. IsLeastRow (step.columns + 1) (number_at xs i) (number_in step numbers i)) (sym n.dens_are) (f.made i b).new.least));
    shared = λ i b. subst (λ xs. share_of new i *ℤ number_at xs i ≡ den) (sym n.dens_are) (n.shared i b).0;
  };
}

-- what is written is the dictionary after the pivot
pub AreWritten-new : (d : Condensed) (row column : ℕ) (table new : Rows) (numbers dens sizes : List ℤ) (den g : ℤ) → IsExchange d row column → d.kept ≡ kept_of (d.rows + 2) table → HasRows d.rows d.columns d.den table → IsFilledBy (step_of d row column (pos 1)) table numbers dens sizes den → IsNewTable (step_of d row column (pos 1)) new numbers dens sizes den → g *ℤ den ≡ d.den *ℤ (step_of d row column (pos 1)).pivot → AreWritten d row column g (kept_of (d.rows + 2) new)
AreWritten-new d row column table new numbers dens sizes den g h e r f n q = record {
  exchange = h;
  divisor = divisor;
  narrow = IsNarrow-from (step_of d row column g) d.kept d.seat h.place_in divisor (subst (IsWithin (limit_of d.bits)) (sym den_is) n.den_within) (record { at = λ i s a b. subst (IsWithin (limit_of d.bits)) (quotient_is g (raw_number step d.kept i s) _ plain.positive (plain.of_rows.at i s a b) (raw_is i s a b)) (new_within step table new numbers dens sizes den i s f n a b) });
  written = record {
    length_is = (IsTable-new step table new numbers dens sizes den f n).kept_length ∙ sym h.shape.kept_length;
    numbers = λ i s a b. ap (λ z. g *ℤ z) (new_number step table new numbers dens sizes den i s n a b) ∙ raw_is i s a b;
  };
  table = IsTable-with d row column (pos 1) g (kept_of (d.rows + 2) new) (IsTable-new step table new numbers dens sizes den f n);
}
  where
    step : Step
    step = step_of d row column (pos 1)

    rows_are : IsRowStep step table
    rows_are = IsRowStep-of d row column (pos 1) table h e r

    divided : HaveDivisor step d.kept den (number_at dens) (number_in step numbers)
    divided = subst (λ k. HaveDivisor step k den (number_at dens) (number_in step numbers)) (sym e) (divided_of step table numbers dens sizes den rows_are f)

    plain : IsStepDivisor step d.kept (d.rows + 2) g
    plain = IsStepDivisor-over step d.kept den g (number_at dens) (number_in step numbers) divided f.multiple.positive q

    divisor : IsStepDivisor (step_of d row column g) d.kept (d.rows + 2) g
    divisor = IsStepDivisor-same d row column (pos 1) g g (d.rows + 2) plain

    den_is : int_div (step.den *ℤ step.pivot) g ≡ den
    den_is = den_over step d.kept den g (number_at dens) (number_in step numbers) divided f.multiple.positive q

    raw_is : (i s : ℕ) → i < d.rows + 2 → s < d.columns + 1 → g *ℤ (share_of new i *ℤ number_in step numbers i s) ≡ raw_number step d.kept i s
    raw_is i s a b = divided_numbers step d.kept den g (number_at dens) (number_in step numbers) divided f.multiple.positive q i s (share_of new i) a b (n.shared i a).0

-- ---- a table that is too wide

-- where the denominator or a number over it is above the limit, so is an entry
pub IsWideStep-den : (d : Condensed) (row column : ℕ) (table : Rows) (numbers dens sizes : List ℤ) (den : ℤ) (divided : Step) → IsExchange d row column → d.kept ≡ kept_of (d.rows + 2) table → HasRows d.rows d.columns d.den table → IsFilledBy (step_of d row column (pos 1)) table numbers dens sizes den → divided ≡ step_of d row column divided.divisor → unsigned_abs divided.divisor < 2 ^ 126 → divided.divisor *ℤ den ≡ d.den *ℤ (step_of d row column (pos 1)).pivot → (IsWithin (limit_of d.bits) den × ((k : ℕ) → (share : ℤ) → k < d.rows + 2 → share *ℤ number_at dens k ≡ den → IsWithin (limit_of d.bits) (share *ℤ number_at sizes k)) → ⊥) → IsWideStep d row column divided
IsWideStep-den d row column table numbers dens sizes den divided h e r f is size q wide = record {
  step = is;
  size = size;
  divisor = subst (λ s. IsStepDivisor s d.kept (d.rows + 2) g) (sym is) divisor;
  wide = λ n.
      let narrow : IsNarrow d.rows d.columns (limit_of d.bits) (new_entry (step_of d row column g) d.kept d.seat g) = subst (λ s. IsNarrow d.rows d.columns (limit_of d.bits) (new_entry s d.kept d.seat g)) is n in
      wide (
        subst (IsWithin (limit_of d.bits)) den_is (den_within d row column g h narrow),
        λ k share b c.
            size_reached (limit_of d.bits) (d.columns + 1) (number_in step numbers k) (number_at sizes k) share (f.made k b).size
            (λ s a.
            subst (IsWithin (limit_of d.bits)) (sym (quotient_is g (raw_number step d.kept k s) (share *ℤ number_in step numbers k s) plain.positive (plain.of_rows.at k s b a) (divided_numbers step d.kept den g (number_at dens) (number_in step numbers) over f.multiple.positive q k s share b a c)))
            ((IsReady-of d row column g h divisor narrow k b).narrow s a)),
      );
}
  where
    g : ℤ
    g = divided.divisor

    step : Step
    step = step_of d row column (pos 1)

    over : HaveDivisor step d.kept den (number_at dens) (number_in step numbers)
    over = subst (λ k. HaveDivisor step k den (number_at dens) (number_in step numbers)) (sym e) (divided_of step table numbers dens sizes den (IsRowStep-of d row column (pos 1) table h e r) f)

    plain : IsStepDivisor step d.kept (d.rows + 2) g
    plain = IsStepDivisor-over step d.kept den g (number_at dens) (number_in step numbers) over f.multiple.positive q

    divisor : IsStepDivisor (step_of d row column g) d.kept (d.rows + 2) g
    divisor = IsStepDivisor-same d row column (pos 1) g g (d.rows + 2) plain

    den_is : int_div (step.den *ℤ step.pivot) g ≡ den
    den_is = den_over step d.kept den g (number_at dens) (number_in step numbers) over f.multiple.positive q

-- so it is where a row is too wide by itself
pub IsWideStep-row : (d : Condensed) (row column : ℕ) (divided : Step) → IsExchange d row column → IsWideFor (step_of d row column (pos 1)) d.kept → divided ≡ step_of d row column divided.divisor → unsigned_abs divided.divisor < 2 ^ 126 → IsStepDivisor (step_of d row column (pos 1)) d.kept (d.rows + 2) divided.divisor → IsWideStep d row column divided
IsWideStep-row d row column divided h w is size q = record {
  step = is;
  size = size;
  divisor = subst (λ s. IsStepDivisor s d.kept (d.rows + 2) divided.divisor) (sym is) (IsStepDivisor-same d row column (pos 1) divided.divisor divided.divisor (d.rows + 2) q);
  wide = λ n. not_narrow d row column (step_of d row column (pos 1)) divided.divisor refl h w q (subst (λ s. IsNarrow d.rows d.columns (limit_of d.bits) (new_entry s d.kept d.seat divided.divisor)) is n);
}

-- ---- what the code has

-- the list of numbers and the rows of an equal value
pub kept_for : (v d : Condensed) (table : Rows) → v ≡ d → v.kept ≡ kept_of (v.rows + 2) table → d.kept ≡ kept_of (d.rows + 2) table
kept_for v d table e h = subst (λ u. u.kept ≡ kept_of (u.rows + 2) table) e h

pub rows_for : (v d : Condensed) (table : Rows) → v ≡ d → HasRows v.rows v.columns v.den table → HasRows d.rows d.columns d.den table
rows_for v d table e h = subst (λ u. HasRows u.rows u.columns u.den table) e h

pub IsRowStep-for : (d : Condensed) (s : Step) (table : Rows) → s ≡ step_of d s.row s.entering (pos 1) → IsExchange d s.row s.entering → d.kept ≡ kept_of (d.rows + 2) table → HasRows d.rows d.columns d.den table → IsRowStep s table
IsRowStep-for d s table e h k r = subst (λ u. IsRowStep u table) (sym e) (IsRowStep-of d s.row s.entering (pos 1) table h k r)

pub IsDraft-for : (v d : Condensed) (s : Step) (draft : Draft) → v ≡ d → s ≡ step_of d s.row s.entering (pos 1) → IsDraft (v.rows + 2) (v.columns + 1) draft → IsDraft (s.rows + 2) (s.columns + 1) draft
IsDraft-for v d s draft p e h = subst (λ u. IsDraft (u.rows + 2) (u.columns + 1) draft) (sym e) (subst (λ u. IsDraft (u.rows + 2) (u.columns + 1) draft) p h)

pub IsDraft-from : (v d : Condensed) (s : Step) (draft : Draft) → v ≡ d → s ≡ step_of d s.row s.entering (pos 1) → IsDraft (s.rows + 2) (s.columns + 1) draft → IsDraft (v.rows + 2) (v.columns + 1) draft
IsDraft-from v d s draft p e h = subst (λ u. IsDraft (u.rows + 2) (u.columns + 1) draft) (sym p) (subst (λ u. IsDraft (u.rows + 2) (u.columns + 1) draft) e h)

with_divisor : (d : Condensed) (s divided : Step) → s ≡ step_of d s.row s.entering (pos 1) → divided ≡ record s { divisor = divided.divisor } → divided ≡ step_of d s.row s.entering divided.divisor
with_divisor d s divided e is = is ∙ ap {A = Step} (λ u. record u { divisor = divided.divisor }) e

pub wide_table : (d : Condensed) (s divided : Step) (table : Rows) (numbers dens sizes : List ℤ) (den : ℤ) → s ≡ step_of d s.row s.entering (pos 1) → IsExchange d s.row s.entering → d.kept ≡ kept_of (d.rows + 2) table → HasRows d.rows d.columns d.den table → IsFilledBy s table numbers dens sizes den → divided ≡ record s { divisor = divided.divisor } → unsigned_abs divided.divisor < 2 ^ 126 → divided.divisor *ℤ den ≡ s.den *ℤ s.pivot → (IsWithin s.limit den × ((k : ℕ) → (share : ℤ) → k < s.rows + 2 → share *ℤ number_at dens k ≡ den → IsWithin s.limit (share *ℤ number_at sizes k)) → ⊥) → IsWideStep d s.row s.entering divided
wide_table d s divided table numbers dens sizes den e h k r f is size q wide =
    IsWideStep-den d s.row s.entering table numbers dens sizes den divided h k r (subst (λ u. IsFilledBy u table numbers dens sizes den) e f) (with_divisor d s divided e is) size
    (subst (λ u. divided.divisor *ℤ den ≡ u.den *ℤ u.pivot) e q)
    (subst (λ u. IsWithin u.limit den × ((k : ℕ) → (share : ℤ) → k < u.rows + 2 → share *ℤ number_at dens k ≡ den → IsWithin u.limit (share *ℤ number_at sizes k)) → ⊥) e wide)

pub written_for : (d : Condensed) (s : Step) (table new : Rows) (numbers dens sizes : List ℤ) (den g : ℤ) → s ≡ step_of d s.row s.entering (pos 1) → IsExchange d s.row s.entering → d.kept ≡ kept_of (d.rows + 2) table → HasRows d.rows d.columns d.den table → IsFilledBy s table numbers dens sizes den → IsNewTable s new numbers dens sizes den → g *ℤ den ≡ s.den *ℤ s.pivot → AreWritten d s.row s.entering g (kept_of (d.rows + 2) new)
written_for d s table new numbers dens sizes den g e h k r f n q =
    AreWritten-new d s.row s.entering table new numbers dens sizes den g h k r (subst (λ u. IsFilledBy u table numbers dens sizes den) e f) (subst (λ u. IsNewTable u new numbers dens sizes den) e n) (subst (λ u. g *ℤ den ≡ u.den *ℤ u.pivot) e q)

-- what divides all, by the denominators of rows that may be too wide
divided_by : (step : Step) (table : Rows) (den : ℤ) → IsRowStep step table → (m : IsRowsMultiple step table (step.rows + 2) den) → HaveDivisor step (kept_in step table) den m.dens m.table
divided_by step table den h m = IsStepDivisor-rows step (kept_in step table) den m.dens m.table h.pivot.table.den_positive h.pivot.table.pivot_positive m.new m.multiple

-- the new denominator divides the old one times the pivot
pub den_divides : (step : Step) (table : Rows) (den : ℤ) → IsRowStep step table → IsRowsMultiple step table (step.rows + 2) den → Divides den (step.den *ℤ step.pivot)
den_divides step table den h m =
    let a = divided_by step table den h m in
    Divides-from_product den a.divisor (step.den *ℤ step.pivot) (sym (*ℤ_comm den a.divisor ∙ a.den_is))

-- and its quotient divides all
pub divisor_is : (step : Step) (table : Rows) (den g : ℤ) → IsRowStep step table → IsRowsMultiple step table (step.rows + 2) den → g *ℤ den ≡ step.den *ℤ step.pivot → IsStepDivisor step (kept_in step table) (step.rows + 2) g
divisor_is step table den g h m e = IsStepDivisor-over step (kept_in step table) den g m.dens m.table (divided_by step table den h m) m.multiple.positive e

-- the divisor over the new denominator is small
pub divisor_small : (step : Step) (table : Rows) (g den : ℤ) → IsRowStep step table → pos 0 <ℤ den → g *ℤ den ≡ step.den *ℤ step.pivot → unsigned_abs g < 2 ^ 126
divisor_small step table g den h p e =
    let t = h.pivot.table in
    let whole = product_small step.den step.pivot t.den_size t.pivot_size in
    let le : unsigned_abs g ≤ unsigned_abs (step.den *ℤ step.pivot) = factor_size den g (step.den *ℤ step.pivot) p (*ℤ_comm den g ∙ e) in
    omega (arith, whole, le)

-- where a row is too wide by itself
pub wide_row : (d : Condensed) (s divided : Step) (table : Rows) (den : ℤ) → s ≡ step_of d s.row s.entering (pos 1) → IsExchange d s.row s.entering → d.kept ≡ kept_of (d.rows + 2) table → IsWideFor s (kept_in s table) → divided ≡ record s { divisor = divided.divisor } → IsRowStep s table → IsRowsMultiple s table (s.rows + 2) den → divided.divisor *ℤ den ≡ s.den *ℤ s.pivot → IsWideStep d s.row s.entering divided
wide_row d s divided table den e h k w is rows m q =
    let wide : IsWideFor (step_of d s.row s.entering (pos 1)) d.kept = subst (IsWideFor (step_of d s.row s.entering (pos 1))) (sym k) (subst (λ u. IsWideFor u (kept_in u table)) e w) in
    let divisor : IsStepDivisor (step_of d s.row s.entering (pos 1)) d.kept (d.rows + 2) divided.divisor = subst (λ xs. IsStepDivisor (step_of d s.row s.entering (pos 1)) xs (d.rows + 2) divided.divisor) (sym k) (subst (λ u. IsStepDivisor u (kept_in u table) (u.rows + 2) divided.divisor) e (divisor_is s table den divided.divisor rows m q)) in
    IsWideStep-row d s.row s.entering divided h wide (with_divisor d s divided e is) (divisor_small s table divided.divisor den rows m.multiple.positive q) divisor

-- the table that the code makes
pub new_table : (step : Step) (table filled new : Rows) (draft shared : Draft) (den : ℤ) → IsRowStep step table → IsDraft (step.rows + 2) (step.columns + 1) draft → shared ≡ record draft { shares = shared.shares } → length shared.shares.items ≡ length draft.shares.items → AllWithin (2 ^ 62) shared.shares.items → IsWithin step.limit den → ((k : ℕ) → k < length draft.dens.items → (number_at shared.shares.items k *ℤ number_at draft.dens.items k ≡ den) × IsWithin step.limit (number_at shared.shares.items k *ℤ number_at draft.sizes.items k)) → filled ≡ record table { numbers = filled.numbers } → IsTable step filled.numbers.items → new ≡ record filled { dens = shared.dens; shares = shared.shares; sizes = shared.sizes } → IsNewTable step new filled.numbers.items draft.dens.items draft.sizes.items den
new_table step table filled new draft shared den h room rest long size within each written own given = record {
  width = ap (λ r. r.width) given ∙ ap (λ r. r.width) written ∙ h.width;
  made = λ i s a b. ap (λ r. number_in step r.numbers.items i s) given;
  own = subst (λ r. IsTable step r.numbers.items) (sym given) own;
  dens_are = ap (λ r. r.dens.items) given ∙ ap (λ r. r.dens.items) rest;
  sizes_are = ap (λ r. r.sizes.items) given ∙ ap (λ r. r.sizes.items) rest;
  dens_length = room.dens_length;
  sizes_length = room.sizes_length;
  shares_length = ap (λ r. length r.shares.items) given ∙ long ∙ room.shares_length;
  dens_size = room.dens_size;
  shares_size = subst (λ r. AllWithin (2 ^ 62) r.shares.items) (sym given) size;
  den_within = within;
  shared = λ k b.
      let told = each k (omega (arith, b, room.dens_length)) in (
        subst (λ r. share_of r k *ℤ number_at draft.dens.items k ≡ den) (sym given) told.0,
        subst (λ r. IsWithin step.limit (share_of r k *ℤ number_at draft.sizes.items k)) (sym given) told.1,
      );
}

-- a draft that was only shared out anew is room as before
pub shared_draft : (n width : ℕ) (draft shared : Draft) → IsDraft n width draft → shared ≡ record draft { shares = shared.shares } → length shared.shares.items ≡ length draft.shares.items → AllWithin (2 ^ 62) shared.shares.items → IsDraft n width shared
shared_draft n width draft shared r rest long size = record {
  own_length = ap (λ u. length u.own.items) rest ∙ r.own_length;
  pivot_row_length = ap (λ u. length u.pivot_row.items) rest ∙ r.pivot_row_length;
  zeros = ap (λ u. u.zeros.items) rest ∙ r.zeros;
  factors_length = ap (λ u. length u.factors.items) rest ∙ r.factors_length;
  dens_length = ap (λ u. length u.dens.items) rest ∙ r.dens_length;
  shares_length = long ∙ r.shares_length;
  sizes_length = ap (λ u. length u.sizes.items) rest ∙ r.sizes_length;
  dens_size = subst (λ u. AllWithin (2 ^ 62) u.dens.items) (sym rest) r.dens_size;
  shares_size = size;
  sizes_size = subst (λ u. AllWithin (2 ^ 62) u.sizes.items) (sym rest) r.sizes_size;
}

-- the old denominators, shares and sizes are room for the next pivot
pub next_draft : (step : Step) (table filled : Rows) (shared new : Draft) → IsRowStep step table → IsDraft (step.rows + 2) (step.columns + 1) shared → filled ≡ record table { numbers = filled.numbers } → new ≡ record shared { dens = filled.dens; shares = filled.shares; sizes = filled.sizes } → IsDraft (step.rows + 2) (step.columns + 1) new
next_draft step table filled shared new h r written given =
    let dens : new.dens ≡ table.dens = ap (λ u. u.dens) given ∙ ap (λ u. u.dens) written in
    let shares : new.shares ≡ table.shares = ap (λ u. u.shares) given ∙ ap (λ u. u.shares) written in
    let sizes : new.sizes ≡ table.sizes = ap (λ u. u.sizes) given ∙ ap (λ u. u.sizes) written in
    record {
      own_length = ap (λ u. length u.own.items) given ∙ r.own_length;
      pivot_row_length = ap (λ u. length u.pivot_row.items) given ∙ r.pivot_row_length;
      zeros = ap (λ u. u.zeros.items) given ∙ r.zeros;
      factors_length = ap (λ u. length u.factors.items) given ∙ r.factors_length;
      dens_length = ap (λ u. length u.items) dens ∙ h.table.dens_length;
      shares_length = ap (λ u. length u.items) shares ∙ h.table.shares_length;
      sizes_length = ap (λ u. length u.items) sizes ∙ h.table.sizes_length;
      dens_size = subst (λ u. AllWithin (2 ^ 62) u.items) (sym dens) h.table.dens_size;
      shares_size = subst (λ u. AllWithin (2 ^ 62) u.items) (sym shares) h.table.shares_size;
      sizes_size = subst (λ u. AllWithin (2 ^ 62) u.items) (sym sizes) (record { at = λ k b. (h.table.sizes k (omega (arith, b, h.table.sizes_length))).small });
    }

-- ---- rows that have their old numbers back

same_number : (step : Step) (table new : Rows) (i s : ℕ) → IsRowStep step table → AreSameRows step table new → i < step.rows + 2 → s < table.width → own_number new i s ≡ own_number table i s
same_number step table new i s h e a b =
    ap (λ w. number_at new.numbers.items (i * w + s)) (ap (λ r. r.width) e.rest ∙ h.width)
    ∙ e.numbers.at i s (omega arith) a (omega (arith, b, h.width))

-- the same numbers over the denominator of all
pub same_kept : (step : Step) (table new : Rows) → IsRowStep step table → AreSameRows step table new → kept_of (step.rows + 2) new ≡ kept_of (step.rows + 2) table
same_kept step table new h e =
    let width : new.width ≡ table.width = ap (λ u. u.width) e.rest in
    up_to-same (step.rows + 2) (λ i. list_to new.width (λ s. share_of new i *ℤ own_number new i s)) (λ i. list_to table.width (λ s. share_of table i *ℤ own_number table i s))
    (λ i b.
    ap (λ w. list_to w (λ s. share_of new i *ℤ own_number new i s)) width
    ∙ list_to-same table.width (λ s. share_of new i *ℤ own_number new i s) (λ s. share_of table i *ℤ own_number table i s) (λ s c. ap₂ (λ x y. x *ℤ y) (ap (λ u. number_at u.shares.items i) e.rest) (same_number step table new i s h e b c)))

pub same_rows : (step : Step) (table new : Rows) (den : ℤ) → IsRowStep step table → AreSameRows step table new → AreRows (step.rows + 2) den table → AreRows (step.rows + 2) den new
same_rows step table new den h e r =
    let width : new.width ≡ table.width = ap (λ u. u.width) e.rest in
    let dens : new.dens ≡ table.dens = ap (λ u. u.dens) e.rest in
    let shares : new.shares ≡ table.shares = ap (λ u. u.shares) e.rest in
    let sizes : new.sizes ≡ table.sizes = ap (λ u. u.sizes) e.rest in
    record {
      numbers_length = e.own.kept_length ∙ ap (λ w. (step.rows + 2) * w) (sym (width ∙ h.width));
      dens_length = ap (λ u. length u.items) dens ∙ r.dens_length;
      shares_length = ap (λ u. length u.items) shares ∙ r.shares_length;
      sizes_length = ap (λ u. length u.items) sizes ∙ r.sizes_length;
      numbers_size = e.own.kept_size;
      dens_size = subst (λ u. AllWithin (2 ^ 62) u.items) (sym dens) r.dens_size;
      shares_size = subst (λ u. AllWithin (2 ^ 62) u.items) (sym shares) r.shares_size;
      sizes = λ i b.
          subst (λ w. IsRowSize w (own_number new i) (size_of new i)) (sym width)
          (subst (λ u. IsRowSize table.width (own_number new i) (number_at u.items i)) (sym sizes)
          (IsRowSize-same table.width (own_number table i) (own_number new i) (size_of table i) (λ s c. same_number step table new i s h e b c) (r.sizes i b)));
      least = λ i b.
          subst (λ w. IsLeastRow w (own_den new i) (own_number new i)) (sym width)
          (subst (λ u. IsLeastRow table.width (number_at u.items i) (own_number new i)) (sym dens)
          (IsLeastRow-same table.width (own_den table i) (own_number table i) (own_number new i) (λ s c. same_number step table new i s h e b c) (r.least i b)));
      shared = λ i b.
          subst (λ u. number_at u.items i *ℤ own_den new i ≡ den) (sym shares)
          (subst (λ u. share_of table i *ℤ number_at u.items i ≡ den) (sym dens) (r.shared i b));
    }

pub row_step : (v d : Condensed) (s : Step) (table : Rows) → v ≡ d → v.kept ≡ kept_of (v.rows + 2) table → HasRows v.rows v.columns v.den table → s ≡ step_of d s.row s.entering (pos 1) → IsExchange d s.row s.entering → IsRowStep s table
row_step v d s table p k r e h = IsRowStep-for d s table e h (kept_for v d table p k) (rows_for v d table p r)

-- the places of a step are those of the dictionary
pub leaving_small : (d : Condensed) (s : Step) → s ≡ step_of d s.row s.entering (pos 1) → IsExchange d s.row s.entering → s.leaving < d.columns + d.rows
leaving_small d s e h = subst (λ u. u.leaving < d.columns + d.rows) (sym e) (leaving_in d s.row h.shape.places h.row_in)

pub rows_from : (v d : Condensed) (s : Step) (den : ℤ) (new : Rows) → v ≡ d → s ≡ step_of d s.row s.entering (pos 1) → HasRows s.rows s.columns den new → HasRows v.rows v.columns den new
rows_from v d s den new p e h = subst (λ u. HasRows u.rows u.columns den new) (sym p) (subst (λ u. HasRows u.rows u.columns den new) e h)

pub written_from : (v d : Condensed) (s : Step) (g : ℤ) (new : Rows) → v ≡ d → AreWritten d s.row s.entering g (kept_of (d.rows + 2) new) → AreWritten d s.row s.entering g (kept_of (v.rows + 2) new)
written_from v d s g new p h = subst (λ u. AreWritten d s.row s.entering g (kept_of (u.rows + 2) new)) (sym p) h

-- the new denominator is the quotient that the value after the pivot has
pub den_quotient : (d : Condensed) (s : Step) (g den : ℤ) (kept : List ℤ) → s ≡ step_of d s.row s.entering (pos 1) → AreWritten d s.row s.entering g kept → g *ℤ den ≡ s.den *ℤ s.pivot → den ≡ int_div (s.den *ℤ s.pivot) g
den_quotient d s g den kept e h q = quotient_is g (s.den *ℤ s.pivot) den h.divisor.positive (subst (λ u. Divides g (u.den *ℤ u.pivot)) (sym e) h.divisor.of_den) q

-- ---- the first wide entry

-- the rows of a step that has its divisor
pub step_for_wide : (d : Condensed) (divided : Step) (table : Rows) → IsExchange d divided.row divided.entering → IsWideStep d divided.row divided.entering divided → d.kept ≡ kept_of (d.rows + 2) table → HasRows d.rows d.columns d.den table → IsRowStep divided table
step_for_wide d divided table h w k r = subst (λ u. IsRowStep u table) (sym w.step) (IsRowStep-of d divided.row divided.entering divided.divisor table h k r)

pub seated_for : (d : Condensed) (divided : Step) → IsExchange d divided.row divided.entering → IsWideStep d divided.row divided.entering divided → IsSeated divided d.seat
seated_for d divided h w = subst (λ u. IsSeated u d.seat) (sym w.step) (IsSeated-step_of d divided.row divided.entering divided.divisor h.shape)

-- the numbers over the denominator of all rows are those of the dictionary
kept_is : (d : Condensed) (divided : Step) (table : Rows) → IsWideStep d divided.row divided.entering divided → d.kept ≡ kept_of (d.rows + 2) table → d.kept ≡ kept_in divided table
kept_is d divided table w k = k ∙ ap (λ (u : Step). kept_of (u.rows + 2) table) (sym w.step)

pub wide_divisor : (d : Condensed) (divided : Step) (table : Rows) → IsWideStep d divided.row divided.entering divided → d.kept ≡ kept_of (d.rows + 2) table → IsStepDivisor divided (kept_in divided table) (divided.rows + 2) divided.divisor
wide_divisor d divided table w k =
    subst (λ xs. IsStepDivisor divided xs (divided.rows + 2) divided.divisor) (kept_is d divided table w k)
    (subst (λ n. IsStepDivisor divided d.kept (n + 2) divided.divisor) (ap (λ (u : Step). u.rows) (sym w.step)) w.divisor)

-- what is wide for the dictionary is wide for the step
pub wide_entries : (d : Condensed) (divided : Step) (table : Rows) → IsWideStep d divided.row divided.entering divided → d.kept ≡ kept_of (d.rows + 2) table → ¬ IsNarrow divided.rows divided.columns divided.limit (new_entry divided (kept_in divided table) d.seat divided.divisor)
wide_entries d divided table w k = λ n.
    let same : IsNarrow divided.rows divided.columns divided.limit (new_entry divided d.kept d.seat divided.divisor) = subst (λ xs. IsNarrow divided.rows divided.columns divided.limit (new_entry divided xs d.seat divided.divisor)) (sym (kept_is d divided table w k)) n in
    w.wide (subst (λ (u : Step). IsNarrow u.rows u.columns u.limit (new_entry divided d.kept d.seat divided.divisor)) w.step same)

pub first_for : (d : Condensed) (divided : Step) (table : Rows) (entry : Entry) → IsWideStep d divided.row divided.entering divided → d.kept ≡ kept_of (d.rows + 2) table → IsFirstWide divided.rows divided.columns divided.limit (int_div (divided.den *ℤ divided.pivot) divided.divisor) (new_entry divided (kept_in divided table) d.seat divided.divisor) entry → IsFirstWide d.rows d.columns (limit_of d.bits) (int_div (divided.den *ℤ divided.pivot) divided.divisor) (new_entry divided d.kept d.seat divided.divisor) entry
first_for d divided table entry w k h =
    subst (λ (u : Step). IsFirstWide u.rows u.columns u.limit (int_div (divided.den *ℤ divided.pivot) divided.divisor) (new_entry divided d.kept d.seat divided.divisor) entry) w.step
    (subst (λ xs. IsFirstWide divided.rows divided.columns divided.limit (int_div (divided.den *ℤ divided.pivot) divided.divisor) (new_entry divided xs d.seat divided.divisor) entry) (sym (kept_is d divided table w k)) h)

-- ---- what a pivot answers

-- the step of a pivot is that of its row and column
pub wide_of : (d : Condensed) (row column : ℕ) (s divided : Step) → s ≡ step_of d row column (pos 1) → IsWideStep d s.row s.entering divided → IsWideStep d row column divided
wide_of d row column s divided e w = subst (λ (u : Step). IsWideStep d u.row u.entering divided) e w

pub wide_itself : (d : Condensed) (row column : ℕ) (divided : Step) → IsWideStep d row column divided → IsWideStep d divided.row divided.entering divided
wide_itself d row column divided w = subst (λ (u : Step). IsWideStep d u.row u.entering divided) (sym w.step) w

pub wide_exchange : (d : Condensed) (row column : ℕ) (divided : Step) → IsWideStep d row column divided → IsExchange d row column → IsExchange d divided.row divided.entering
wide_exchange d row column divided w h = subst (λ (u : Step). IsExchange d u.row u.entering) (sym w.step) h

pub wide_basis : (p : Program) (d : Condensed) (row column : ℕ) (divided : Step) (entry : Entry) → Holds p d → IsExchange d row column → IsWideStep d row column divided → IsFirstWide d.rows d.columns (limit_of d.bits) (int_div (divided.den *ℤ divided.pivot) divided.divisor) (new_entry divided d.kept d.seat divided.divisor) entry → IsWideBasis d.rows d.columns (first_entry p) (with_column (basic_at d) row column) (limit_of d.bits) entry
wide_basis p d row column divided entry k h w first =
    IsWideBasis-of p d row column divided.divisor entry k h
    (subst (λ u. IsStepDivisor u d.kept (d.rows + 2) divided.divisor) w.step w.divisor)
    (subst (λ (u : Step). IsFirstWide d.rows d.columns (limit_of d.bits) (int_div (u.den *ℤ u.pivot) divided.divisor) (new_entry u d.kept d.seat divided.divisor) entry) w.step first)

-- the exchange was carried out
record IsDone (d new : Condensed) (s : Step) : Type 0 where
  divisor : ℤ
  is : new ≡ exchanged d s.row s.entering divisor new.kept
  written : AreWritten d s.row s.entering divisor new.kept

is_done : (d new : Condensed) (s : Step) (result : Result ℤ Step) → ((e : Step) → result ≡ Err e → ⊥) → IfOk result (λ divisor. new ≡ exchanged d s.row s.entering divisor new.kept) → IfOk result (λ divisor. AreWritten d s.row s.entering divisor new.kept) → IsDone d new s
is_done d new s (Ok divisor) o a b = record { divisor = divisor; is = a; written = b }
is_done d new s (Err e) o a b = absurd (o e refl)

pub new_holds : (p : Program) (d new : Condensed) (s : Step) (result : Result ℤ Step) → ((e : Step) → result ≡ Err e → ⊥) → IfOk result (λ divisor. new ≡ exchanged d s.row s.entering divisor new.kept) → IfOk result (λ divisor. AreWritten d s.row s.entering divisor new.kept) → Holds p d → Holds p new
new_holds p d new s result o a b k =
    let h = is_done d new s result o a b in
    subst (Holds p) (sym h.is) (Holds-exchanged p d s.row s.entering h.divisor new.kept h.written k)

pub new_basis : (d new : Condensed) (s : Step) (result : Result ℤ Step) → ((e : Step) → result ≡ Err e → ⊥) → IfOk result (λ divisor. new ≡ exchanged d s.row s.entering divisor new.kept) → IfOk result (λ divisor. AreWritten d s.row s.entering divisor new.kept) → TakesColumn d new s.row s.entering
new_basis d new s result o a b =
    let h = is_done d new s result o a b in
    subst (λ v. TakesColumn d v s.row s.entering) (sym h.is) (TakesColumn-exchanged d s.row s.entering h.divisor new.kept h.written.exchange)

pub new_narrow : (d new : Condensed) (s : Step) (result : Result ℤ Step) → ((e : Step) → result ≡ Err e → ⊥) → IfOk result (λ divisor. new ≡ exchanged d s.row s.entering divisor new.kept) → IfOk result (λ divisor. AreWritten d s.row s.entering divisor new.kept) → IsNarrow new.rows new.columns (limit_of new.bits) (entry_at new)
new_narrow d new s result o a b =
    let h = is_done d new s result o a b in
    subst (λ v. IsNarrow v.rows v.columns (limit_of v.bits) (entry_at v)) (sym h.is) (IsNarrow-exchanged d s.row s.entering h.divisor new.kept h.written)
