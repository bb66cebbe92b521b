use Rattle.std.proofs.Common.{sym, ◌∙◌, arith}
use Rattle.md_replay.proofs.FollowedLaws.{followed_on, followed_same, off_of}
use Rattle.md_replay.proofs.standing.followed_by.Goals.{else-followed-number-via-then-followed-number+else-is_next, else-followed-number-via-else-followed-number}
use Rattle.md_replay.proofs.standing.followed_by.Goals as goal

pub returns-then-is_next : goal.returns-then-is_next
returns-then-is_next c =
    λ p width carried at e k. followed_on c.args.order p width carried c.args.dict.now at c.args.pivot c.args.followed c.args.number (omega arith) e (c.is_next.ensures.next c.if-is_next.true) k

pub returns-else-followed-number : goal.returns-else-followed-number
returns-else-followed-number c =
    elim c.else-followed-number.branch [
      | else-followed-number-via-then-followed-number+else-is_next w ↦
          λ p width carried at e k. followed_same c.args.order p width carried c.args.dict.now at c.args.pivot c.args.followed
          (λ _. off_of c.args.order p c.args.dict.now c.args.pivot w.is_next.result w.if-is_next.false (λ next. w.is_next.ensures.only p at.holds next)) k
      | else-followed-number-via-else-followed-number w ↦
          λ p width carried at e k. followed_same c.args.order p width carried c.args.dict.now at c.args.pivot c.args.followed
          (λ same. absurd (w.if-followed-number.false (same ∙ sym e))) k
    ]
