use Rattle.std.proofs.Common.{sym}
use Rattle.md_cli_best.proofs.determ.determined.Goals as goal

pub returns-clause-determined : goal.returns-clause-determined
returns-clause-determined c =
    let h = c.in_ok-answer.ensures in
    record {
      answer = c.in_ok-answer.answer;
      searched = h.searched;
      only = λ other is. sym (h.only other is);
      claim = h.claim;
      valid = h.valid;
      status = c.status.ensures.value;
      text = c.in_ok-write_determ.ensures.text;
      read_back = c.in_ok-write_determ.ensures.reads_back;
    }
