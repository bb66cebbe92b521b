-- An answer in closed form keeps all conditions of the checker.
use Rattle.std.proofs.Common.{ℕ, List, sym, subst, arith}
use Rattle.md_num.specs.declared.frac.Frac.{Frac}
use Rattle.md_setting.specs.Auction.{SymmetricAuction}
use Rattle.md_setting.specs.AuctionShaped.{IsAuction}
use Rattle.md_border.specs.declared.interim.Interim.{Interim}
use Rattle.md_lp.specs.Program.{Program}
use Rattle.md_expost.specs.declared.masses.Masses.{Masses}
use Rattle.md_cert.specs.declared.bound.Bound.{Bound}
use Rattle.md_reduced.specs.ProgramOf.{IsReducedProgram}
use Rattle.md_unit_tables.proofs.FurtherUnits.{one-of_worth}
use Rattle.md_check.specs.AuctionVerdicts.{IsSoundAuctionOptimal, IsSoundAuction}
use Rattle.md_answer.specs.declared.answer.Answer.{Answer}
use Rattle.md_answer.specs.declared.answer.Answer.TheVariants.{AuctionOptimal, Table, Optimal, Infeasible, Unbounded, TooWide}
use Rattle.md_iron.specs.ClosedForms.{IsClosedForm, IsClosedItem, IsClosedAnswer}
use Rattle.md_iron.proofs.FormLaws.{form-certified}

closed-optimal : (a : SymmetricAuction) (value : Frac) (interim : Interim) (masses : Masses) (cuts : List ℕ) (bound : Bound) → IsAuction a → (h : IsClosedItem a value interim masses cuts bound)
    → IsSoundAuctionOptimal a 1 h.form.bound_is.program value interim masses cuts bound
closed-optimal a value interim masses cuts bound shaped h = record {
  add_up = record { holds = λ v b. h.implements.exact v b };
  is_program = here a interim cuts bound h.form;
  worth = one-of_worth a interim value h.value_is.has_worth;
  certified = form-certified a 1 interim cuts bound shaped h.form (omega arith) h.form.bound_is.program (here a interim cuts bound h.form);
}
  where
    here : (a : SymmetricAuction) (interim : Interim) (cuts : List ℕ) (bound : Bound) (form : IsClosedForm a 1 interim cuts bound) → IsReducedProgram a 1 cuts form.bound_is.program
    here a interim cuts bound form = subst (λ xs. IsReducedProgram a 1 xs form.bound_is.program) (sym form.cuts_are) form.bound_is.is_program

-- the checker must find it valid
pub closed-sound : (a : SymmetricAuction) (answer : Answer) → IsAuction a → IsClosedAnswer a answer → (p : Program) × IsSoundAuction a p answer
closed-sound a (AuctionOptimal value interim masses cuts bound) shaped h = (h.form.bound_is.program, closed-optimal a value interim masses cuts bound shaped h)
closed-sound a (Table m) shaped h = absurd h
closed-sound a (Optimal value m bound) shaped h = absurd h
closed-sound a (Infeasible face) shaped h = absurd h
closed-sound a (Unbounded m ray) shaped h = absurd h
closed-sound a (TooWide cuts first second) shaped h = absurd h
