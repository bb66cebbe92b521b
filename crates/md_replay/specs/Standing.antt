-- Where listed pivots stand after some of them: the dictionary of the basis, and what was told so far.
use Rattle.std.specs.Prelude.{◌≡◌, ◌++◌, ◌∷◌, ℕ, ◌<◌, ℤ, pos, ◌<ℤ◌, ◌≤ℤ◌, unsigned_abs, List, [], length, None}
use Rattle.md_lp.specs.Program.{Program}
use Rattle.md_lp.specs.declared.pivot.Pivot.{Pivot}
use Rattle.md_dict.specs.Condensed.{Condensed, Holds, IsGreatestSize, basic_at, entry_at}
use Rattle.md_dict.specs.FirstTable.{first_basis}
use Rattle.md_simplex.specs.Path.{AllBefore}
use Rattle.md_simplex.specs.Runs.{IsWithinWidth, basis_of}
use Rattle.md_replay.specs.declared.outcome.Replay.{Replay}
use Rattle.md_replay.specs.Replay.{AllLawful, AreBasesTold, AreFollowed}

-- the pivot can be carried out on the dictionary
pub record CanPivot (d : Condensed) (pivot : Pivot) : Type 0 where
  pub row_in : pivot.row < d.rows
  pub column_in : pivot.column < d.columns
  pub positive : pos 0 <ℤ entry_at d pivot.row pivot.column

-- the pivots that were carried out have led from the first basis to this dictionary, and no basis on the way is wide
pub record IsAt (p : Program) (width : ℕ) (carried : List Pivot) (d : Condensed) : Type 0 where
  pub bits : d.bits ≡ width
  pub holds : Holds p d
  pub basis : (i : ℕ) → i < d.rows → basic_at d i ≡ basis_of p carried i
  pub lawful : AllLawful p (first_basis p) carried
  pub before : AllBefore (IsWithinWidth p width) (first_basis p) carried

-- nothing is told yet
pub record IsUntold (replay : Replay) : Type 0 where
  pub dens : replay.dens ≡ []
  pub greatest : replay.greatest ≡ []
  pub wide : replay.wide ≡ None
  pub forward : replay.followed.forward ≡ 0
  pub backward : replay.followed.backward ≡ 0

-- the basis of the dictionary is told too
pub record TellsMore (d : Condensed) (old new : Replay) : Type 0 where
  pub size : ℤ
  pub nonneg : pos 0 ≤ℤ size
  pub is_greatest : IsGreatestSize d (unsigned_abs size)
  pub dens : new.dens ≡ old.dens ++ d.den ∷ []
  pub greatest : new.greatest ≡ old.greatest ++ size ∷ []
  pub wide : new.wide ≡ old.wide
  pub followed : new.followed ≡ old.followed

-- so many bases are told, from the first on, and how many of the pivots are followed
pub record IsToldTo (p : Program) (carried : List Pivot) (count : ℕ) (replay : Replay) : Type 0 where
  pub bases : AreBasesTold p carried replay.dens replay.greatest
  pub count_is : length replay.dens ≡ count
  pub wide : replay.wide ≡ None
  pub followed : AreFollowed p carried replay.followed
