-- What is so of an auction where an answer tells the end of its cut run.
use Rattle.std.proofs.Common.{◌≡◌, ℕ, ◌*◌, ◌-◌, ◌^◌, ℤ, pos, ◌*ℤ◌, ◌<ℤ◌, List, None, Some, sym, ap, ap₂, ◌∙◌, subst, arith}
use Rattle.std.proofs.lemmas.Int.{ints}
use Rattle.md_math.specs.Lists.{number_at}
use Rattle.md_math.proofs.Order.{positive-*ℤ, positive_pos}
use Rattle.md_math.proofs.SizeLaws.{IsWithin-wider, IsWithin-*ℤ}
use Rattle.md_num.specs.declared.frac.Frac.{Frac}
use Rattle.md_setting.specs.Auction.{SymmetricAuction, total_weight, value_count}
use Rattle.md_setting.specs.AuctionShaped.{IsAuction}
use Rattle.md_setting.specs.General.{general_of}
use Rattle.md_mech.specs.Accepted.{number_limit}
use Rattle.md_mech.specs.Mechanism.{IsMechanism}
use Rattle.md_mech.specs.Optimal.{IsOptimal}
use Rattle.md_mech.specs.Value.{IsValueOf}
use Rattle.md_mech.specs.declared.mechanism.Mechanism.{Mechanism}
use Rattle.md_lp.specs.Cuts.{AreCuts}
use Rattle.md_lp.specs.Program.{Program}
use Rattle.md_lp.specs.declared.wide.Wide.{Wide}
use Rattle.md_border.specs.declared.interim.Interim.{Interim}
use Rattle.md_border.specs.Odds.{HasOdds, HasPays, IsInterim}
use Rattle.md_border.specs.Worth.{IsWorthOf, worth_of}
use Rattle.md_border.proofs.DemandLaws.{den-within, total-positive}
use Rattle.md_border.proofs.WorthLaws.{worth-within}
use Rattle.md_expost.specs.Implementing.{Implements}
use Rattle.md_expost.specs.Masses.{AreMasses}
use Rattle.md_expost.proofs.MechanismLaws.{mechanism-of_masses}
use Rattle.md_cert.specs.Certified.{Certified}
use Rattle.md_reduced.specs.Points.{interim_in}
use Rattle.md_cuts.specs.declared.auction_end.AuctionEnd.{AuctionEnd}
use Rattle.md_cut_runs.specs.declared.cuts_error.CutsError.{CutsError}
use Rattle.md_cut_runs.specs.declared.cuts_error.CutsError.TheVariants as errors
use Rattle.md_cut_runs.specs.declared.optimum.Optimum.{Optimum}
use Rattle.md_cuts.specs.AuctionCuts.{IsSolvedAuction, TellsOptimum, auction_cutting}
use Rattle.md_cut_runs.specs.CutRuns.{EndsSettled, EndsWide, HasSmallEntries, HasSmallEntry, TellsWide}
use Rattle.md_claims.specs.AuctionCertificates.{auction_certificate}
use Rattle.md_claims.specs.AuctionClaims.{mechanism_in}
use Rattle.md_claims.proofs.AuctionCertificates.{certified-at_interim}
use Rattle.md_parts.specs.Fitting.{HasFraction, IsBoundOver, IsFraction}
use Rattle.md_answer.specs.AuctionAnswerTo.{IsAuctionAnswer}
use Rattle.md_answer.specs.ReducedRows.{reduced_rows}
use Rattle.md_answer.proofs.ReducedRows.{bound-fits}
use Rattle.md_answer.specs.declared.answer.Answer.{Answer}
use Rattle.md_answer.specs.declared.answer.Answer.TheVariants.{Table, Optimal, Infeasible, Unbounded, AuctionOptimal, TooWide}
use Rattle.md_solve.specs.AuctionSolved.{IsAuctionSo, IsAuctionSolved, IsCertifiedAuction, IsSameButMasses}
use Rattle.md_question.proofs.OneFraction.{one_fraction, small_fraction}

-- what is told of an end with its value
abbrev pub told : AuctionEnd → Frac → Answer
told end value = AuctionOptimal value end.interim end.masses end.cuts end.bound

-- ---- the value

module _ (a : SymmetricAuction) (interim : Interim) (shaped : IsAuction a) (fits : IsInterim a interim) where
  abbrev whole : ℤ
  whole = pos (total_weight a.weights) *ℤ interim.den

  whole-positive : pos 0 <ℤ whole
  whole-positive = positive-*ℤ (pos (total_weight a.weights)) interim.den (positive_pos (total_weight a.weights) (total-positive a shaped)) (omega (arith, ints, fits.den_positive))

  pub one_worth : (v w : Frac) → IsWorthOf a interim v → IsWorthOf a interim w → v ≡ w
  one_worth v w h k =
      one_fraction (worth_of a interim) whole v w whole-positive (record { same = h.has_worth; least = h.least }) (record { same = k.has_worth; least = k.least })

  pub worth-fits : (v : Frac) → IsWorthOf a interim v → IsFraction v.num v.den
  worth-fits v h =
      small_fraction (worth_of a interim) whole v whole-positive (record { same = h.has_worth; least = h.least })
      (IsWithin-wider (2 ^ 114) (2 ^ 126 - 1) (worth_of a interim) (omega arith) (worth-within a interim shaped fits))
      (IsWithin-wider (1000000 * number_limit) (2 ^ 126 - 1) whole (omega arith)
      (IsWithin-*ℤ 1000000 number_limit (pos (total_weight a.weights)) interim.den (record { within = shaped.total }) (den-within a interim fits)))

-- ---- an end at a point at which no set is over

module _ (a : SymmetricAuction) (width : ℕ) (end : AuctionEnd) (value : Frac) (shaped : IsAuction a) (solved : IsSolvedAuction a width end) (fits : IsInterim a end.interim) (worth : IsWorthOf a end.interim value)
    (masses : AreMasses a end.masses) (implements : Implements a end.interim end.masses) where
  pub solved-with : IsAuctionSolved a width (told end value)
  solved-with = record {
    optimum = solved.optimum;
    ends = solved.ends;
    interim_is = solved.tells.interim;
    bound_is = solved.tells.bound;
    value_is = worth;
    table = masses;
    implements = implements;
  }

  pub certified-with : (p : Program) → IsCertifiedAuction a p (told end value)
  certified-with p is =
      let o = solved.optimum in
      let there : IsInterim a (interim_in a o.den (number_at o.point)) = subst (IsInterim a) solved.tells.interim fits in
      let certified : Certified p (auction_certificate (interim_in a o.den (number_at o.point)) o.bound) = certified-at_interim a o.den o.point there 1 end.cuts p o.bound is (solved.shown.certified p is) in
      subst (λ i. Certified p (auction_certificate i end.bound)) (sym solved.tells.interim)
      (subst (λ b. Certified p (auction_certificate (interim_in a o.den (number_at o.point)) b)) (sym solved.tells.bound) certified)

  pub fits-with : AreCuts (value_count a) end.cuts → IsAuctionAnswer a (told end value)
  fits-with cuts =
      let p = solved.ends.optimum_of.program in
      let is = solved.ends.optimum_of.is_program in
      let bound : IsBoundOver (reduced_rows a end.cuts) end.bound =
      subst (IsBoundOver (reduced_rows a end.cuts)) (sym solved.tells.bound) (bound-fits a 1 end.cuts p solved.optimum.bound is (solved.shown.fits p is).2) in
      (worth-fits a end.interim shaped fits value worth, fits, masses, implements.same_den, cuts, bound)

  -- its rule is optimal, and has the value
  pub so-with : IsOptimal (general_of a) (mechanism_in a end.interim end.masses)
      → HasOdds a (mechanism_in a end.interim end.masses) end.interim.den end.interim.odds
      → HasPays a (mechanism_in a end.interim end.masses) end.interim.den end.interim.pays
      → ((m : Mechanism) → IsMechanism (general_of a) m → HasOdds a m end.interim.den end.interim.odds → HasPays a m end.interim.den end.interim.pays → IsValueOf (general_of a) m value)
      → IsAuctionSo a value end.interim end.masses
  so-with optimal odds pays of_mechanisms = record {
    rule = record { optimal = optimal; odds = odds; pays = pays };
    is_value = of_mechanisms (mechanism_in a end.interim end.masses) (mechanism-of_masses a end.masses end.interim.pays shaped masses) odds pays;
  }

  -- another answer of the cut run differs in nothing but its masses
  pub only-with : ((cuts : List ℕ) (optimum : Optimum) → EndsSettled (auction_cutting a) width cuts optimum → TellsOptimum a cuts optimum end)
      → ((cuts : List ℕ) (first second : Wide) → EndsWide (auction_cutting a) width cuts first second → ⊥)
      → (other : Answer) → IsAuctionSolved a width other → IsSameButMasses (told end value) other
  only-with settled wide (Table m) h = absurd h
  only-with settled wide (Optimal v m b) h = absurd h
  only-with settled wide (Infeasible face) h = absurd h
  only-with settled wide (Unbounded m ray) h = absurd h
  only-with settled wide (AuctionOptimal v interim table cuts bound) h =
      let same = settled cuts h.optimum h.ends in
      let here : end.interim ≡ interim = same.interim ∙ sym h.interim_is in
      (one_worth a end.interim shaped fits value v worth (subst (λ i. IsWorthOf a i v) (sym here) h.value_is), here, same.same_cuts, same.bound ∙ sym h.bound_is)
  only-with settled wide (TooWide cuts first None) h = absurd h
  only-with settled wide (TooWide cuts first (Some second)) h = absurd (wide cuts first second h)

-- ---- an end at a program that has no taken path

-- what is too wide is not want of memory
abbrev IsMemory : CutsError → Type 0
IsMemory errors.Memory = Unit {0}
IsMemory (errors.TooWide cuts first second) = ⊥

pub not-memory : (cuts : List ℕ) (first second : Wide) → errors.TooWide cuts first second ≡ errors.Memory → ⊥
not-memory cuts first second same = subst IsMemory (sym same) tt

pub wide-told : (cuts other : List ℕ) (first second forward backward : Wide) → TellsWide cuts first second (errors.TooWide other forward backward)
    → TooWide other forward (Some backward) ≡ TooWide cuts first (Some second)
wide-told cuts other first second forward backward same =
    ap (λ c. TooWide c forward (Some backward)) same.0 ∙ ap₂ (λ f s. TooWide cuts f (Some s)) same.1 same.2

module _ (a : SymmetricAuction) (width : ℕ) (cuts : List ℕ) (first second : Wide) where
  pub only-wide : ((other : List ℕ) (optimum : Optimum) → EndsSettled (auction_cutting a) width other optimum → ⊥)
      → ((other : List ℕ) (forward backward : Wide) → EndsWide (auction_cutting a) width other forward backward → TellsWide other forward backward (errors.TooWide cuts first second))
      → (other : Answer) → IsAuctionSolved a width other → IsSameButMasses (TooWide cuts first (Some second)) other
  only-wide settled wide (Table m) h = absurd h
  only-wide settled wide (Optimal v m b) h = absurd h
  only-wide settled wide (Infeasible face) h = absurd h
  only-wide settled wide (Unbounded m ray) h = absurd h
  only-wide settled wide (AuctionOptimal v interim table other bound) h = absurd (settled other h.optimum h.ends)
  only-wide settled wide (TooWide other forward None) h = absurd h
  only-wide settled wide (TooWide other forward (Some backward)) h = wide-told other cuts forward backward first second (wide other forward backward h)

  -- its cuts and the entries of its first wide bases can be written
  pub wide-with : HasSmallEntries (errors.TooWide cuts first second) → AreCuts (value_count a) cuts → IsAuctionAnswer a (TooWide cuts first (Some second))
  wide-with small are = (are, fraction first small.0, fraction second small.1)
    where
      fraction : (wide : Wide) → HasSmallEntry wide → HasFraction wide
      fraction wide h = record { positive = h.positive; num_size = h.num_size; den_size = h.den_size }
