-- Multipliers in lists, part by part in the order of the rows.
use Rattle.std.proofs.Common.{◌≡◌, ℕ, zero, suc, ◌<◌, Bool, true, false, if◌then◌else◌, ℤ, pos, ◌*ℤ◌, ◌<ℤ◌, List, [], ◌∷◌, ◌++◌, length, map, get_or, Some, refl, sym, ap, ◌∙◌, arith}
use Rattle.std.specs.Prelude.{slice_get}
use Rattle.std.proofs.lemmas.List.{get_or-map}
use Rattle.std.proofs.lemmas.Option.{get_or_from_slice_get}
use Rattle.md_math.specs.Lists.{number_at, list_to, up_to}
use Rattle.md_math.proofs.Builders.{map-up_to, up_to-same}
use Rattle.md_setting.specs.Auction.{SymmetricAuction, value_count}
use Rattle.md_setting.specs.AuctionShaped.{IsAuction}
use Rattle.md_mech.specs.Rows.{by_report}
use Rattle.md_lp.specs.Program.{Program, row_count, right_at}
use Rattle.md_cert.specs.Certified.{Certified}
use Rattle.md_cert.specs.declared.bound.Bound.{Bound}
use Rattle.md_cert.specs.declared.certificate.Certificate.TheVariants.{Optimal}
use Rattle.md_reduced.specs.ProgramOf.{IsReducedProgram}
use Rattle.md_iron_values.specs.Pools.{Pools}
use Rattle.md_iron_values.specs.VirtualValues.{IsPooledAuction}
use Rattle.md_iron_values.specs.Cuts.{begins, cuts_of}
use Rattle.md_iron_laws.specs.Rows.{ProgramRow, truth_row, rational_row, cut_row, cut_rows, rows_of, row_right}
use Rattle.md_iron_laws.specs.PoolOdds.{ArePoolOdds}
use Rattle.md_iron_laws.specs.Closed.{closed_point}
use Rattle.md_iron_laws.specs.Multipliers.{multiplier_num, multiplier_den, AreMultipliers}
use Rattle.md_iron_laws.proofs.ProgramForms.{map-parts}
use Rattle.md_iron_laws.proofs.Certificates.{certified}
use Rattle.md_iron_laws.proofs.Optimal.{closed-point}

-- ---- a number for each row

pub map-cut_rows : {X : Type 0} → (f : ProgramRow → X) (kinds : ℕ) (pools : Pools) → map f (cut_rows kinds pools) ≡ up_to kinds (λ s. if begins pools s then f (cut_row s) ∷ [] else [])
map-cut_rows f kinds pools =
    map-up_to f kinds (λ s. if begins pools s then cut_row s ∷ [] else [])
    ∙ up_to-same kinds (λ s. map f (if begins pools s then cut_row s ∷ [] else [])) (λ s. if begins pools s then f (cut_row s) ∷ [] else []) (λ s b. one (begins pools s) (cut_row s))
  where
    one : (t : Bool) (row : ProgramRow) → map f (if t then row ∷ [] else []) ≡ (if t then f row ∷ [] else [])
    one true row = refl
    one false row = refl

-- those of the truth rows value by value, those of the rational rows, and those of the cuts
pub map-rows : {X : Type 0} → (f : ProgramRow → X) (kinds : ℕ) (pools : Pools)
    → map f (rows_of kinds pools)
    ≡ up_to kinds (λ v. by_report kinds v (λ w. f (truth_row v w))) ++ (list_to kinds (λ v. f (rational_row v)) ++ up_to kinds (λ s. if begins pools s then f (cut_row s) ∷ [] else []))
map-rows f kinds pools =
    map-parts f kinds truth_row rational_row (cut_rows kinds pools)
    ∙ ap (λ zs. up_to kinds (λ v. by_report kinds v (λ w. f (truth_row v w))) ++ (list_to kinds (λ v. f (rational_row v)) ++ zs)) (map-cut_rows f kinds pools)

-- ---- multipliers

-- numerators, denominators and numbers over one denominator, each in a list by row
pub from-lists : (a : SymmetricAuction) (units : ℕ) (pools : Pools) (p : Program) (divisor : ℕ → ℤ) (over : ℤ) (nums dens main : List ℤ) → pos 0 <ℤ over
    → ((number s : ℕ) → slice_get (rows_of (value_count a) pools) number ≡ Some (cut_row s) → row_right a units (cut_row s) ≡ divisor s *ℤ right_at p number)
    → nums ≡ map (multiplier_num a pools divisor) (rows_of (value_count a) pools) → dens ≡ map (multiplier_den a pools p.factor) (rows_of (value_count a) pools)
    → ((number : ℕ) → number < length (rows_of (value_count a) pools) → number_at main number *ℤ number_at dens number ≡ over *ℤ number_at nums number)
    → AreMultipliers a units pools p divisor over (number_at main)
from-lists a units pools p divisor over nums dens main above divided nums_are dens_are ratio = record {
  positive = above;
  divided = divided;
  at = λ number row stands.
      let rows = rows_of (value_count a) pools in
      let inside : number < length (rows_of (value_count a) pools) = below (rows_of (value_count a) pools) number row stands in
      let is : get_or (rows_of (value_count a) pools) number row ≡ row = get_or_from_slice_get (rows_of (value_count a) pools) number row row stands in
      let num : number_at nums number ≡ multiplier_num a pools divisor row =
      ap (λ xs. number_at xs number) nums_are ∙ get_or-map (multiplier_num a pools divisor) rows number row (pos 0) inside ∙ ap (multiplier_num a pools divisor) is in
      let den : number_at dens number ≡ multiplier_den a pools p.factor row =
      ap (λ xs. number_at xs number) dens_are ∙ get_or-map (multiplier_den a pools p.factor) rows number row (pos 0) inside ∙ ap (multiplier_den a pools p.factor) is in
      ap (λ z. number_at main number *ℤ z) (sym den) ∙ ratio number inside ∙ ap (λ z. over *ℤ z) num;
}
  where
    below : (rows : List ProgramRow) (number : ℕ) (row : ProgramRow) → slice_get rows number ≡ Some row → number < length rows
    below [] number row e = cc
    below (x ∷ xs) zero row e = omega arith
    below (x ∷ xs) (suc number) row e = (let rest : number < length xs = below xs number row e in omega (arith, rest))

-- ---- the certificate that a checker is asked for

pub closed-certified : (a : SymmetricAuction) (units : ℕ) (pools : Pools) (p : Program) (den : ℤ) (q divisor : ℕ → ℤ) (bound : Bound) → IsAuction a → 0 < units → IsPooledAuction a pools → ArePoolOdds a units pools den q
    → IsReducedProgram a units (cuts_of (value_count a) pools) p
    → AreMultipliers a units pools p divisor bound.den (number_at bound.main) → ((r : ℕ) → r < row_count p → number_at bound.face r ≡ pos 0) → Certified p (Optimal den (closed_point a q) bound)
closed-certified a units pools p den q divisor bound shaped some pooled odds is are none =
    certified a units pools p den q (number_at (closed_point a q)) divisor bound.den (number_at bound.main) (number_at bound.face) shaped some pooled odds is (closed-point a q) are none
