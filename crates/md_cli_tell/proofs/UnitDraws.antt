-- What is said of a draw of several units.
use Rattle.std.proofs.Common.{◌≡◌, ℕ, ℤ, true, List, length, refl, ap, ◌∙◌, inl, inr}
use Rattle.std.specs.Prelude.{◌⊎◌}
use mathlib.Core.Bool.{false≢true}
use Rattle.md_math.proofs.Builders.{length-list_to}
use Rattle.md_setting.specs.Auction.{SymmetricAuction}
use Rattle.md_setting.specs.declared.file.SettingFile.TheVariants.{Auction}
use Rattle.md_answer.specs.AuctionAnswerTo.{IsAnswerFor}
use Rattle.md_answer.specs.declared.answer.Answer.{Answer}
use Rattle.md_answer.specs.declared.answer.Answer.TheVariants.{Table, Optimal, Infeasible, Unbounded, AuctionOptimal, TooWide}
use Rattle.md_answer.specs.declared.supply.Supply.TheVariants.{Units}
use Rattle.md_run.specs.DrawnUnits.{AreUnitsDrawn, AreUnitsRefused}
use Rattle.md_run.specs.declared.refusal.DrawRefusal.{DrawRefusal}
use Rattle.md_run.specs.declared.refusal.DrawRefusal.TheVariants.{NoTable, Profile, Draw, Memory}
use Rattle.md_run.specs.declared.units_drawn.UnitsDrawn.{UnitsDrawn}
use Rattle.md_cli_driver.specs.declared.refusal.Refusal.TheVariants as refusal
use Rattle.md_cli_driver.specs.Refused.{refused, status_of}
use Rattle.md_cli_tell.specs.Drawing.{AreNamesOf, draw_refused, has_table, parts_of}
use Rattle.md_cli_tell.specs.UnitDrawing.{IsUnitDrawing}

-- it is told of each bidder
pub wins-count : (a : SymmetricAuction) (answer : Answer) (t : List ℕ) (d1 d2 : ℤ) (drawn : UnitsDrawn) → AreUnitsDrawn a answer t d1 d2 drawn → length drawn.wins.items ≡ a.bidders
wins-count a (AuctionOptimal value interim masses cuts bound) t d1 d2 drawn is = ap length is.wins ∙ length-list_to a.bidders _
wins-count a (Table mechanism) t d1 d2 drawn is = absurd is
wins-count a (Optimal value mechanism bound) t d1 d2 drawn is = absurd is
wins-count a (Infeasible face) t d1 d2 drawn is = absurd is
wins-count a (Unbounded mechanism ray) t d1 d2 drawn is = absurd is
wins-count a (TooWide cuts first second) t d1 d2 drawn is = absurd is

-- a refusal of an answer with masses belongs to what is said, where the reports are a profile, and want of memory does not
abbrev IsSaidOf : ℕ → List ℕ → ℤ → ℤ → SymmetricAuction → Answer → DrawRefusal → Type 0
IsSaidOf units profile first second a answer e =
    (draw_refused e ≡ refusal.Memory) ⊎ (IsUnitDrawing units profile first second a answer (refused (draw_refused e)) × (status_of (draw_refused e) ≡ 67))

module _ (units : ℕ) (profile : List ℕ) (first second : ℤ) (a : SymmetricAuction) (reports : List ℕ) (named : AreNamesOf (Auction a) (parts_of profile) reports) where
  pub refused-units : (answer : Answer) (e : DrawRefusal) → IsAnswerFor (Units units) a answer → has_table answer ≡ true → AreUnitsRefused a answer reports first second e
      → IsSaidOf units profile first second a answer e
  refused-units (AuctionOptimal value interim masses cuts bound) NoTable fits table out = absurd out
  refused-units (AuctionOptimal value interim masses cuts bound) Profile fits table out = absurd (out named.profile)
  refused-units (AuctionOptimal value interim masses cuts bound) Draw fits table out = inr (inr (inr (record { reports = reports; named = named; out = out; said = refl })), refl)
  refused-units (AuctionOptimal value interim masses cuts bound) Memory fits table out = inl refl
  refused-units (Table mechanism) e fits table out = absurd fits
  refused-units (Optimal value mechanism bound) e fits table out = absurd fits
  refused-units (Infeasible face) e fits table out = absurd fits
  refused-units (Unbounded mechanism ray) e fits table out = absurd fits
  refused-units (TooWide cuts first_path second_path) e fits table out = absurd (false≢true table)
