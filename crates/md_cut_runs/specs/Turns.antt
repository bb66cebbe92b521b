-- One turn of a cut run.
use Rattle.std.specs.Prelude.{ℕ, ℤ, List, [], ◌∷◌, ◌++◌}
use Rattle.md_math.specs.Lists.{number_at}
use Rattle.md_simplex.specs.declared.simplex_error.SimplexError.{SimplexError}
use Rattle.md_simplex.specs.declared.simplex_error.SimplexError.TheVariants as simplex
use Rattle.md_lp.specs.Cuts.{AreCuts}
use Rattle.md_lp.specs.declared.wide.Wide.{Wide}
use Rattle.md_cut_runs.specs.declared.optimum.Optimum.{Optimum}
use Rattle.md_cut_runs.specs.declared.turn.Turn.{Turn}
use Rattle.md_cut_runs.specs.declared.turn.Turn.TheVariants.{Adds, Ends, TooWide}
use Rattle.md_cut_runs.specs.Cutting.{Cutting, IsCutPoint}
use Rattle.md_cut_runs.specs.CutRuns.{AreWide, HasSmallEntry, IsNextCut, IsOptimumOf, IsSettled, IsShownBy}

-- the point of the program of the cuts, and that it is shown to be greatest
pub record IsFound (m : Cutting) (width : ℕ) (cuts : List ℕ) (optimum : Optimum) : Type 0 where
  pub is_optimum : IsOptimumOf m width cuts optimum
  pub shown : IsShownBy m cuts optimum
  pub point : IsCutPoint m optimum.den optimum.point

-- the program of the cuts has no taken path, and the first wide entry of each of its two is small
pub record IsStopped (m : Cutting) (width : ℕ) (cuts : List ℕ) (first second : Wide) : Type 0 where
  pub wide : AreWide m width cuts first second
  pub first_small : HasSmallEntry first
  pub second_small : HasSmallEntry second

-- the program of the cuts has no taken path; memory may run out at any time
abbrev pub IsNotFound : Cutting → ℕ → List ℕ → SimplexError → Type 0
IsNotFound m width cuts (simplex.TooWide first second) = IsStopped m width cuts first second
IsNotFound m width cuts simplex.Memory = Unit {0}

-- the cuts with one more at their end, which is none of them
pub record IsAdded (m : Cutting) (width : ℕ) (cuts : List ℕ) (set : ℕ) : Type 0 where
  pub next : IsNextCut m width cuts set
  pub cuts_of : AreCuts m.places (cuts ++ set ∷ [])

-- no set is over at the point, as the table shows
pub record IsEnded {T : Type 0} (m : Cutting) (shows : ℤ → (ℕ → ℤ) → T → Type 0) (width : ℕ) (cuts : List ℕ) (optimum : Optimum) (table : T) : Type 0 where
  pub found : IsFound m width cuts optimum
  pub settled : IsSettled m optimum
  pub shown : shows optimum.den (number_at optimum.point) table

-- what comes after the cuts
abbrev pub IsTurn : {T : Type 0} → Cutting → (ℤ → (ℕ → ℤ) → T → Type 0) → ℕ → List ℕ → Turn T → Type 0
IsTurn m shows width cuts (Adds set) = IsAdded m width cuts set
IsTurn m shows width cuts (Ends optimum table) = IsEnded m shows width cuts optimum table
IsTurn m shows width cuts (TooWide first second) = IsStopped m width cuts first second
