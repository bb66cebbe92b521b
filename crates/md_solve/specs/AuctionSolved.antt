-- The answer to an auction: what is read off the last program of its cut run, with any mass table that has the odds; or the
-- first wide basis of each path of that program.
use Rattle.std.specs.Prelude.{◌≡◌, ℕ, List, Some}
use Rattle.md_math.specs.Lists.{number_at}
use Rattle.md_num.specs.declared.frac.Frac.{Frac}
use Rattle.md_setting.specs.Auction.{SymmetricAuction}
use Rattle.md_setting.specs.General.{general_of}
use Rattle.md_mech.specs.Value.{IsValueOf}
use Rattle.md_lp.specs.Program.{Program}
use Rattle.md_border.specs.declared.interim.Interim.{Interim}
use Rattle.md_border.specs.Worth.{IsWorthOf}
use Rattle.md_expost.specs.declared.masses.Masses.{Masses}
use Rattle.md_expost.specs.Implementing.{Implements}
use Rattle.md_expost.specs.Masses.{AreMasses}
use Rattle.md_cert.specs.declared.bound.Bound.{Bound}
use Rattle.md_cert.specs.Certified.{Certified}
use Rattle.md_reduced.specs.Points.{interim_in}
use Rattle.md_reduced.specs.ProgramOf.{IsReducedProgram}
use Rattle.md_cut_runs.specs.declared.optimum.Optimum.{Optimum}
use Rattle.md_cuts.specs.AuctionCuts.{auction_cutting}
use Rattle.md_cut_runs.specs.CutRuns.{EndsSettled, EndsWide}
use Rattle.md_claims.specs.AuctionCertificates.{auction_certificate}
use Rattle.md_claims.specs.AuctionClaims.{IsOptimalRule, mechanism_in}
use Rattle.md_answer.specs.declared.answer.Answer.{Answer}
use Rattle.md_answer.specs.declared.answer.Answer.TheVariants.{AuctionOptimal, TooWide}

-- the cuts are those of the run, the odds, the payments and the bound are read off its last program, the value is theirs in
-- least terms, and the masses have the odds
pub record TellsAuction (a : SymmetricAuction) (width : ℕ) (value : Frac) (interim : Interim) (masses : Masses) (cuts : List ℕ) (bound : Bound) : Type 0 where
  pub optimum : Optimum
  pub ends : EndsSettled (auction_cutting a) width cuts optimum
  pub interim_is : interim ≡ interim_in a optimum.den (number_at optimum.point)
  pub bound_is : bound ≡ optimum.bound
  pub value_is : IsWorthOf a interim value
  pub table : AreMasses a masses
  pub implements : Implements a interim masses

abbrev pub IsAuctionSolved : SymmetricAuction → ℕ → Answer → Type 0
IsAuctionSolved a width (AuctionOptimal value interim masses cuts bound) = TellsAuction a width value interim masses cuts bound
IsAuctionSolved a width (TooWide cuts first (Some second)) = EndsWide (auction_cutting a) width cuts first second
IsAuctionSolved a width _ = ⊥

-- two answers differ in nothing but their masses
abbrev pub IsSameButMasses : Answer → Answer → Type 0
IsSameButMasses (AuctionOptimal value interim masses cuts bound) (AuctionOptimal other_value other_interim other_masses other_cuts other_bound) =
    (value ≡ other_value) × (interim ≡ other_interim) × (cuts ≡ other_cuts) × (bound ≡ other_bound)
IsSameButMasses answer other = answer ≡ other

-- ---- what is said of an answer by its kind

-- where a mechanism of the auction is claimed to be best, this holds of its value, its odds and payments and its masses
abbrev pub WhereAuctionOptimal : (Frac → Interim → Masses → Type 0) → Answer → Type 0
WhereAuctionOptimal P (AuctionOptimal value interim masses cuts bound) = P value interim masses
WhereAuctionOptimal P _ = Unit {0}

abbrev pub ClaimsAuctionOptimal : Answer → Type 0
ClaimsAuctionOptimal (AuctionOptimal value interim masses cuts bound) = Unit {0}
ClaimsAuctionOptimal _ = ⊥

-- the rule is optimal, with its value in least terms
pub record IsAuctionSo (a : SymmetricAuction) (value : Frac) (interim : Interim) (masses : Masses) : Type 0 where
  pub rule : IsOptimalRule a interim masses
  pub is_value : IsValueOf (general_of a) (mechanism_in a interim masses) value

-- the odds and payments with the multipliers are a certificate of the reduced program with the cuts
abbrev pub IsCertifiedAuction : SymmetricAuction → Program → Answer → Type 0
IsCertifiedAuction a p (AuctionOptimal value interim masses cuts bound) = IsReducedProgram a 1 cuts p → Certified p (auction_certificate interim bound)
IsCertifiedAuction a p _ = Unit {0}
