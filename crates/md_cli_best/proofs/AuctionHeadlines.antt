-- What the answer of the solver to an auction shows, by its kind.
use Rattle.std.proofs.Common.{◌≡◌, ℕ, List, Ok, None, Some, inl, inr, arith}
use Rattle.md_num.specs.declared.frac.Frac.{Frac}
use Rattle.md_setting.specs.Auction.{SymmetricAuction, value_count}
use Rattle.md_lp.specs.Program.{Program}
use Rattle.md_lp.specs.declared.wide.Wide.{Wide}
use Rattle.md_lp.proofs.CutLaws.{cuts-fewer}
use Rattle.md_border.specs.declared.interim.Interim.{Interim}
use Rattle.md_expost.specs.declared.masses.Masses.{Masses}
use Rattle.md_cert.specs.declared.bound.Bound.{Bound}
use Rattle.md_cuts.specs.AuctionCuts.{auction_cutting}
use Rattle.md_cut_runs.specs.CutRuns.{EndsSettled, EndsWide}
use Rattle.md_cut_runs.specs.declared.optimum.Optimum.{Optimum}
use Rattle.md_answer.specs.AuctionAnswers.{auction_answer_of}
use Rattle.md_answer.specs.AuctionAnswerTo.{IsAuctionAnswer}
use Rattle.md_answer.specs.declared.answer.Answer.{Answer}
use Rattle.md_answer.specs.declared.answer.Answer.TheVariants.{Table, Optimal, Infeasible, Unbounded, AuctionOptimal, TooWide}
use Rattle.md_unit_tables.proofs.FurtherUnits.{one-of_worth}
use Rattle.md_check.specs.AuctionVerdicts.{IsAuctionVerdict}
use Rattle.md_question_check.specs.declared.verdict.Verdict.TheVariants.{Valid}
use Rattle.md_solve.specs.AuctionSolved.{ClaimsAuctionOptimal, IsAuctionSo, IsAuctionSolved, IsCertifiedAuction, WhereAuctionOptimal}
use Rattle.md_cli_best.specs.AuctionHeadline.{IsAuctionHeadline}
use Rattle.md_cli_best.specs.Solving.{status_of_answer}

-- what is known of an answer: what it claims is so, and it tells what the cut run comes to
pub record IsFoundFor (a : SymmetricAuction) (width : ℕ) (answer : Answer) : Type 0 where
  pub solved : IsAuctionSolved a width answer
  pub optimal : WhereAuctionOptimal (IsAuctionSo a) answer
  pub certified : (p : Program) → IsCertifiedAuction a p answer
  pub settled : (cuts : List ℕ) (optimum : Optimum) → EndsSettled (auction_cutting a) width cuts optimum → ClaimsAuctionOptimal answer
  pub wide : (cuts : List ℕ) (first second : Wide) → EndsWide (auction_cutting a) width cuts first second → answer ≡ TooWide cuts first (Some second)
  pub fits : IsAuctionAnswer a answer

module _ (a : SymmetricAuction) (width : ℕ) where
  -- the checker finds an optimal answer valid
  valid : (value : Frac) (interim : Interim) (masses : Masses) (cuts : List ℕ) (bound : Bound) → IsFoundFor a width (AuctionOptimal value interim masses cuts bound)
      → IsAuctionVerdict a (AuctionOptimal value interim masses cuts bound) Valid
  valid value interim masses cuts bound h =
      let own = h.solved.ends.optimum_of in (
        record {
          add_up = record { holds = λ v b. h.solved.implements.exact v b };
          meets = record { program = own.program; is_program = own.is_program; holds = λ p is. (h.certified p is).meets };
          worth = one-of_worth a interim value h.solved.value_is.has_worth;
        },
        record { program = own.program; is_program = own.is_program; holds = λ p is. h.certified p is },
      )

  module _ (status : ℕ) (text : List ℕ) where
    of_optimal : (value : Frac) (interim : Interim) (masses : Masses) (cuts : List ℕ) (bound : Bound) → IsFoundFor a width (AuctionOptimal value interim masses cuts bound)
        → status ≡ 0 → auction_answer_of a text ≡ Ok (AuctionOptimal value interim masses cuts bound) → IsAuctionHeadline a width status text
    of_optimal value interim masses cuts bound h is reads =
        record {
          optimal = λ _. record {
            value = value;
            interim = interim;
            masses = masses;
            cuts = cuts;
            bound = bound;
            read_back = reads;
            one_item = h.solved.table;
            rule = h.optimal.rule;
            is_value = h.optimal.is_value;
            valid = valid value interim masses cuts bound h;
            distinct = h.fits.4;
            few = cuts-fewer (value_count a) cuts h.fits.4;
          };
          too_wide = λ other. absurd (omega (arith, is, other));
          one_of = inl is;
          settled = λ others optimum ends. is;
          wide = λ others first second ends. absurd (let e = h.wide others first second ends in cc);
        }

    of_too_wide : (cuts : List ℕ) (first second : Wide) → IsFoundFor a width (TooWide cuts first (Some second))
        → status ≡ 12 → auction_answer_of a text ≡ Ok (TooWide cuts first (Some second)) → IsAuctionHeadline a width status text
    of_too_wide cuts first second h is reads =
        record {
          optimal = λ other. absurd (omega (arith, is, other));
          too_wide = λ _. record {
            cuts = cuts;
            first = first;
            second = second;
            read_back = reads;
            ends = h.solved;
            distinct = h.fits.0;
            few = cuts-fewer (value_count a) cuts h.fits.0;
          };
          one_of = inr is;
          settled = λ others optimum ends. absurd (h.settled others optimum ends);
          wide = λ others first_other second_other ends. is;
        }

    -- whatever the answer is
    pub auction_headline : (answer : Answer) → IsFoundFor a width answer → status ≡ status_of_answer answer → auction_answer_of a text ≡ Ok answer → IsAuctionHeadline a width status text
    auction_headline (Table m) h is reads = absurd h.solved
    auction_headline (Optimal value m bound) h is reads = absurd h.solved
    auction_headline (Infeasible face) h is reads = absurd h.solved
    auction_headline (Unbounded m ray) h is reads = absurd h.solved
    auction_headline (AuctionOptimal value interim masses cuts bound) h is reads = of_optimal value interim masses cuts bound h is reads
    auction_headline (TooWide cuts first None) h is reads = absurd h.solved
    auction_headline (TooWide cuts first (Some second)) h is reads = of_too_wide cuts first second h is reads
