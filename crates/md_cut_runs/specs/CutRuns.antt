-- Cut runs: lists of cuts, each of which is the worst set at the point of the program of the cuts before it.
use Rattle.std.specs.Prelude.{◌≡◌, ℕ, ◌-◌, ◌^◌, ◌<◌, ◌≤◌, pos, ◌≤ℤ◌, List, length, slice_index, take}
use Rattle.md_math.specs.Lists.{number_at}
use Rattle.md_math.specs.Sizes.{IsWithin}
use Rattle.md_lp.specs.Program.{Program}
use Rattle.md_lp.specs.declared.wide.Wide.{Wide}
use Rattle.md_cert.specs.Certified.{Certified}
use Rattle.md_cert.specs.Fitting.{Fits}
use Rattle.md_cert.specs.declared.certificate.Certificate.{Certificate}
use Rattle.md_cert.specs.declared.certificate.Certificate.TheVariants as certificates
use Rattle.md_simplex.specs.declared.end.End.{End}
use Rattle.md_simplex.specs.declared.order.Order.TheVariants.{Forward, Backward}
use Rattle.md_simplex.specs.Runs.{IsFirstWideOf, IsRun}
use Rattle.md_cut_runs.specs.declared.optimum.Optimum.{Optimum}
use Rattle.md_cut_runs.specs.declared.cuts_error.CutsError.{CutsError}
use Rattle.md_cut_runs.specs.declared.cuts_error.CutsError.TheVariants as errors
use Rattle.md_lp.specs.Cuts.{singles_of}
use Rattle.md_cut_runs.specs.Cutting.{Cutting}
use Rattle.md_cut_runs.specs.Worst.{IsWorst, NoneOver}

-- ---- one program

abbrev pub certificate_of : Optimum → Certificate
certificate_of optimum = certificates.Optimal optimum.den optimum.point optimum.bound

-- the program of the cuts has a taken path, and this is read off its last dictionary
pub record IsOptimumOf (m : Cutting) (width : ℕ) (cuts : List ℕ) (optimum : Optimum) : Type 0 where
  pub program : Program
  pub is_program : m.is_program cuts program
  pub end : End
  pub run : IsRun program width end
  pub reads : end.certificate ≡ certificate_of optimum

-- no set is over at the point
abbrev pub IsSettled : Cutting → Optimum → Type 0
IsSettled m optimum = NoneOver m optimum.den (number_at optimum.point)

-- in whatever terms the program of the cuts is written, the bound shows that no point exceeds the one that was read
pub record IsShownBy (m : Cutting) (cuts : List ℕ) (optimum : Optimum) : Type 0 where
  pub certified : (p : Program) → m.is_program cuts p → Certified p (certificate_of optimum)
  pub fits : (p : Program) → m.is_program cuts p → Fits p (certificate_of optimum)

-- each path of the program of the cuts has a wide basis, and these are the first ones
pub record AreWide (m : Cutting) (width : ℕ) (cuts : List ℕ) (first second : Wide) : Type 0 where
  pub program : Program
  pub is_program : m.is_program cuts program
  pub forward : IsFirstWideOf Forward program width first
  pub backward : IsFirstWideOf Backward program width second

-- ---- the run

-- the set is the worst one at the point that is read off the program of the cuts
pub record IsNextCut (m : Cutting) (width : ℕ) (cuts : List ℕ) (set : ℕ) : Type 0 where
  pub optimum : Optimum
  pub is_optimum : IsOptimumOf m width cuts optimum
  pub worst : IsWorst m optimum.den (number_at optimum.point) set

-- the cuts begin with the sets of one place each, and each further one is the worst set at the point of the program of the
-- cuts before it
pub record IsCutRun (m : Cutting) (width : ℕ) (cuts : List ℕ) : Type 0 where
  pub begins : take m.places cuts ≡ singles_of m.places
  pub adds : (k : ℕ) → m.places ≤ k → k < length cuts → IsNextCut m width (take k cuts) (slice_index cuts k)

-- ---- its end

-- the run ends with this optimum, at which no set is over
pub record EndsSettled (m : Cutting) (width : ℕ) (cuts : List ℕ) (optimum : Optimum) : Type 0 where
  pub run : IsCutRun m width cuts
  pub optimum_of : IsOptimumOf m width cuts optimum
  pub settled : IsSettled m optimum

-- the run ends with a program that has no taken path
pub record EndsWide (m : Cutting) (width : ℕ) (cuts : List ℕ) (first second : Wide) : Type 0 where
  pub run : IsCutRun m width cuts
  pub wide : AreWide m width cuts first second

-- the run ended with a program that has no taken path; memory may run out at any time
abbrev pub IsLeftAt : Cutting → ℕ → CutsError → Type 0
IsLeftAt m width (errors.TooWide cuts first second) = EndsWide m width cuts first second
IsLeftAt m width errors.Memory = Unit {0}

-- this is told of the run that ended so; memory may run out at any time
abbrev pub TellsWide : List ℕ → Wide → Wide → CutsError → Type 0
TellsWide cuts first second (errors.TooWide told forward backward) = (told ≡ cuts) × (forward ≡ first) × (backward ≡ second)
TellsWide cuts first second errors.Memory = Unit {0}

-- a fact of the cuts that are told
abbrev pub WhereWide : (List ℕ → Type 0) → CutsError → Type 0
WhereWide P (errors.TooWide cuts first second) = P cuts
WhereWide P errors.Memory = Unit {0}

-- the wide entry is a number over a denominator of at least 1, both of at most 126 bits
pub record HasSmallEntry (wide : Wide) : Type 0 where
  pub positive : pos 1 ≤ℤ wide.entry.den
  pub num_size : IsWithin (2 ^ 126 - 1) wide.entry.num
  pub den_size : IsWithin (2 ^ 126 - 1) wide.entry.den

-- so are both wide entries that are told
abbrev pub HasSmallEntries : CutsError → Type 0
HasSmallEntries (errors.TooWide cuts first second) = HasSmallEntry first × HasSmallEntry second
HasSmallEntries errors.Memory = Unit {0}
