-- What is said of a sale, from how its cut run ends.
use Rattle.std.proofs.Common.{◌≡◌, ◌≢◌, ℕ, pos, ◌<ℤ◌, List, Ok, sym, ◌∙◌, inl, inr}
use Rattle.md_setting.specs.Setting.{GeneralSetting}
use Rattle.md_setting.specs.Meaning.{total_of}
use Rattle.md_lp.specs.Cuts.{AreCuts}
use Rattle.md_lp.specs.declared.wide.Wide.{Wide}
use Rattle.md_mech.specs.Optimal.{IsOptimal}
use Rattle.md_mech.specs.Value.{IsValueOf}
use Rattle.md_cut_runs.specs.CutRuns.{EndsSettled, EndsWide, HasSmallEntries, HasSmallEntry, TellsWide}
use Rattle.md_cut_runs.specs.declared.cuts_error.CutsError.TheVariants as errors
use Rattle.md_cut_runs.specs.declared.optimum.Optimum.{Optimum}
use Rattle.md_parts.specs.Fitting.{HasFraction}
use Rattle.md_question_check.specs.declared.verdict.Verdict.TheVariants.{Valid}
use Rattle.md_asym_sale.specs.Values.{pairs_of}
use Rattle.md_asym_tables.specs.Tables.{Implements}
use Rattle.md_asym.specs.AnswerTo.{IsAnswerTo, IsSaleAnswer, mechanism_in}
use Rattle.md_asym.specs.SaleRows.{text_of_sale}
use Rattle.md_asym.specs.SaleText.{sale_answer_of}
use Rattle.md_asym.specs.SaleVerdicts.{IsBestSale, IsSaleVerdict}
use Rattle.md_asym.specs.declared.asym_answer.AsymAnswer.{AsymAnswer}
use Rattle.md_asym.specs.declared.sale_answer.SaleAnswer.TheVariants.{Optimal, TooWide}
use Rattle.md_asym_solve.specs.SaleCuts.{sale_cutting}
use Rattle.md_asym_solve.specs.Solved.{IsSolvedSale, TellsSale}
use Rattle.md_cli_driver.specs.Saying.{Saying}
use Rattle.md_cli_sell.specs.Selling.{IsSameButMasses, IsSelling, IsSolvedBest}
use Rattle.md_check.proofs.OptimalValues.{one_value, value-of_each}

-- another answer with which the run ends is the same but for its masses
same-sale : (s : GeneralSetting) (width : ℕ) (answer other : AsymAnswer) → pos 0 <ℤ total_of s → IsOptimal s (mechanism_in s answer) → IsValueOf s (mechanism_in s answer) answer.value
    → (is : IsSolvedBest s width other) → TellsSale s other.cuts is.solved.optimum answer → IsSameButMasses answer other
same-sale s width answer other total optimal value is tells =
    let theirs = is.solved.tells in
    record {
      value = one_value s (mechanism_in s answer) (mechanism_in s other) answer.value other.value total optimal value is.optimal is.value;
      cuts = tells.same_cuts;
      den = tells.same_den ∙ sym theirs.same_den;
      odds = tells.odds ∙ sym theirs.odds;
      pays = tells.pays ∙ sym theirs.pays;
      bound = tells.bound ∙ sym theirs.bound;
    }

-- what is known of an answer
pub record IsShownSale (s : GeneralSetting) (width : ℕ) (answer : AsymAnswer) : Type 0 where
  pub solved : IsSolvedSale s width answer
  pub fits : IsAnswerTo s answer
  pub implements : Implements s answer.interim.odds answer.masses
  pub best : IsBestSale s answer
  pub value : IsValueOf s (mechanism_in s answer) answer.value
  pub valid : IsSaleVerdict s (Optimal answer) Valid
  pub settled : (cuts : List ℕ) (optimum : Optimum) → EndsSettled (sale_cutting s) width cuts optimum → TellsSale s cuts optimum answer
  pub none : (cuts : List ℕ) (first second : Wide) → EndsWide (sale_cutting s) width cuts first second → ⊥

-- the run ends at odds and payments
pub of_answer : (s : GeneralSetting) (width : ℕ) (saying : Saying) (answer : AsymAnswer) → pos 0 <ℤ total_of s → IsShownSale s width answer
    → saying.status ≡ 0 → saying.text ≡ text_of_sale s (Optimal answer) → sale_answer_of s saying.text ≡ Ok (Optimal answer) → IsSelling s width saying
of_answer s width saying answer total h status text reads = record {
  told = inl (record {
    answer = answer;
    solved = h.solved;
    only = λ other is. same-sale s width answer other total h.best.optimal h.value is (h.settled other.cuts is.solved.optimum is.solved.ends);
    fits = h.fits;
    implements = h.implements;
    best = h.best;
    value = h.value;
    same_value = λ m best. value-of_each s (mechanism_in s answer) m answer.value h.best.optimal h.value best;
    valid = h.valid;
    status = status;
    text = text;
    read_back = reads;
  });
  settled = λ cuts optimum ends. status;
  wide = λ cuts first second ends. absurd (h.none cuts first second ends);
}

-- no error but want of memory is that
pub not_memory : (cuts : List ℕ) (first second : Wide) → errors.TooWide cuts first second ≢ errors.Memory
not_memory cuts first second same = let e = same in cc

-- cuts and entries of wide bases can be written
pub wide-writable : (s : GeneralSetting) (cuts : List ℕ) (first second : Wide) → HasSmallEntries (errors.TooWide cuts first second) → AreCuts (pairs_of s) cuts → IsSaleAnswer s (TooWide cuts first second)
wide-writable s cuts first second small are = (are, fraction first small.0, fraction second small.1)
  where
    fraction : (wide : Wide) → HasSmallEntry wide → HasFraction wide
    fraction wide h = record { positive = h.positive; num_size = h.num_size; den_size = h.den_size }

-- it ends at a program each path of which has a wide basis
pub of_wide : (s : GeneralSetting) (width : ℕ) (saying : Saying) (cuts : List ℕ) (first second : Wide) → EndsWide (sale_cutting s) width cuts first second
    → ((others : List ℕ) (forward backward : Wide) → EndsWide (sale_cutting s) width others forward backward → TellsWide others forward backward (errors.TooWide cuts first second))
    → ((others : List ℕ) (optimum : Optimum) → EndsSettled (sale_cutting s) width others optimum → errors.TooWide cuts first second ≡ errors.Memory)
    → saying.status ≡ 12 → saying.text ≡ text_of_sale s (TooWide cuts first second) → sale_answer_of s saying.text ≡ Ok (TooWide cuts first second) → IsSelling s width saying
of_wide s width saying cuts first second wide only settled status text reads = record {
  told = inr (record {
    cuts = cuts;
    first = first;
    second = second;
    wide = wide;
    only = only;
    status = status;
    text = text;
    read_back = reads;
  });
  settled = λ others optimum ends. absurd (not_memory cuts first second (settled others optimum ends));
  wide = λ others one other ends. status;
}
