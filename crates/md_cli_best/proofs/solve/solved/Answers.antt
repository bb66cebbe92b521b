use Rattle.std.proofs.Common.{ap, ◌∙◌, inl, inr}
use Rattle.md_answer.specs.Rows.{text_of_answer}
use Rattle.md_cli_best.specs.Solving.{status_of_answer}
use Rattle.md_cli_best.proofs.AuctionHeadlines.{IsFoundFor, auction_headline}
use Rattle.md_cli_driver.proofs.Files.{by_kind}
use Rattle.md_cli_best.proofs.Headlines.{IsShownBy, headline}
use Rattle.md_cli_best.proofs.solve.solved.Goals as goal

pub returns-clause-solving : goal.returns-clause-solving
returns-clause-solving c =
    let answer = c.in_ok-answer.answer in
    let width = c.args.width in
    elim (by_kind c.args.file.now c.requires) [
      | inl kind ↦
          let s = kind.0 in
          let h = rw kind.1 at c.in_ok-answer.ensures in
          let written = rw kind.1 at c.in_ok-write_answer.ensures in
          let shown : IsShownBy s width answer = record {
            solved = h.solved;
            optimal = h.optimal;
            value = h.value;
            infeasible = h.infeasible;
            unbounded = h.unbounded;
            taken = h.taken;
            none = h.none;
            no_bound = h.no_bound;
            wide = h.wide;
            every_program = h.every_program;
            admissible = h.admissible;
            claims = h.claims;
            certified = h.certified;
          } in
          rw kind.1 (record {
            answer = answer;
            solved = h.solved;
            status = c.status.ensures.value;
            text = written.text;
            only = λ other is. (c.status.ensures.value ∙ ap status_of_answer (h.only other is), written.text ∙ ap (text_of_answer s) (h.only other is));
            headline = headline s width c.status.result c.in_ok-write_answer.field-0.items answer shown c.status.ensures.value written.reads_back;
          })
      | inr kind ↦
          let a = kind.0 in
          let h = rw kind.1 at c.in_ok-answer.ensures in
          let written = rw kind.1 at c.in_ok-write_answer.ensures in
          let found : IsFoundFor a width answer = record {
            solved = h.auction_solved;
            optimal = h.auction_optimal;
            certified = h.auction_certified;
            settled = h.auction_settled;
            wide = h.auction_wide;
            fits = h.auction_writable;
          } in
          rw kind.1 (record {
            answer = answer;
            solved = h.auction_solved;
            status = c.status.ensures.value;
            text = written.auction_text;
            only = h.auction_only;
            headline = auction_headline a width c.status.result c.in_ok-write_answer.field-0.items answer found c.status.ensures.value written.auction_reads_back;
          })
    ]
