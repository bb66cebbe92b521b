-- What the end of an auction's cut run says of the auction.
use Rattle.std.proofs.Common.{◌≡◌, ℕ, List, refl, ap, ◌∙◌, subst}
use Rattle.md_math.specs.Lists.{number_at}
use Rattle.md_cert.specs.Claims.{IsOptimalPoint}
use Rattle.md_cert.proofs.Duality.{optimal-claim}
use Rattle.md_setting.specs.Auction.{SymmetricAuction}
use Rattle.md_setting.specs.AuctionShaped.{IsAuction}
use Rattle.md_setting.specs.General.{general_of}
use Rattle.md_mech.specs.Optimal.{IsOptimal}
use Rattle.md_border.specs.declared.interim.Interim.{Interim}
use Rattle.md_border.specs.Odds.{HasOdds, HasPays}
use Rattle.md_expost.proofs.MechanismLaws.{mechanism-of_masses, odds-of_masses, pays-of_masses}
use Rattle.md_reduced.specs.Points.{interim_in}
use Rattle.md_reduced.proofs.OptimalLaws.{makes-optimal}
use Rattle.md_cuts.specs.declared.auction_cuts.Realised.{Realised}
use Rattle.md_cuts.specs.declared.auction_end.AuctionEnd.{AuctionEnd}
use Rattle.md_cut_runs.specs.declared.optimum.Optimum.{Optimum}
use Rattle.md_cuts.specs.AuctionCuts.{IsRealised, IsSolvedAuction, TellsOptimum, auction_cutting, mechanism_in}
use Rattle.md_cut_runs.specs.CutRuns.{EndsSettled, IsShownBy}

-- the answer that an end gives
abbrev answer : List ℕ → Optimum → Realised → AuctionEnd
answer cuts optimum table = record { cuts = cuts; interim = table.interim; masses = table.masses; bound = optimum.bound }

module _ (a : SymmetricAuction) (width : ℕ) (cuts : List ℕ) (optimum : Optimum) (table : Realised) (realised : IsRealised a optimum.den (number_at optimum.point) table) where
  pub tells-with : (other : List ℕ) (best : Optimum) → (cuts ≡ other) × (optimum ≡ best) → TellsOptimum a other best (answer cuts optimum table)
  tells-with other best same = record {
    same_cuts = same.0;
    interim = realised.interim ∙ ap (λ (o : Optimum). interim_in a o.den (number_at o.point)) same.1;
    bound = ap (λ (o : Optimum). o.bound) same.1;
  }

  pub solved-with : EndsSettled (auction_cutting a) width cuts optimum → IsShownBy (auction_cutting a) cuts optimum → IsSolvedAuction a width (answer cuts optimum table)
  solved-with ends shown = record { optimum = optimum; ends = ends; shown = shown; tells = tells-with cuts optimum (refl, refl) }

  module _ (shaped : IsAuction a) where
    pub odds-with : HasOdds a (mechanism_in a (answer cuts optimum table)) table.interim.den table.interim.odds
    odds-with = odds-of_masses a table.interim table.masses table.interim.pays shaped realised.masses realised.implements

    pub pays-with : HasPays a (mechanism_in a (answer cuts optimum table)) table.interim.den table.interim.pays
    pays-with = subst (λ d. HasPays a (mechanism_in a (answer cuts optimum table)) d table.interim.pays) realised.implements.same_den (pays-of_masses a table.masses table.interim.pays shaped)

    pub optimal-with : EndsSettled (auction_cutting a) width cuts optimum → IsShownBy (auction_cutting a) cuts optimum → IsOptimal (general_of a) (mechanism_in a (answer cuts optimum table))
    optimal-with ends shown =
        let p = ends.optimum_of.program in
        let x = number_at optimum.point in
        let greatest : IsOptimalPoint p optimum.den x =
        optimal-claim p optimum.den optimum.bound.den x (number_at optimum.bound.main) (number_at optimum.bound.face) (shown.certified p ends.optimum_of.is_program) in
        let m = mechanism_in a (answer cuts optimum table) in
        makes-optimal a cuts p shaped ends.optimum_of.is_program m optimum.den x greatest
        (mechanism-of_masses a table.masses table.interim.pays shaped realised.masses)
        (subst (λ (i : Interim). HasOdds a m i.den i.odds) realised.interim odds-with)
        (subst (λ (i : Interim). HasPays a m i.den i.pays) realised.interim pays-with)
