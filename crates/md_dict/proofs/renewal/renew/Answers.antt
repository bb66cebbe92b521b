use Rattle.std.proofs.Common.{◌+◌, ◌<◌, refl, sym, ap, ◌∙◌, subst, inr, arith}
use Rattle.md_dict.specs.declared.rows.Rows.{Rows}
use Rattle.md_dict.specs.RowStep.{AreRestorable, IsNoted}
use Rattle.md_dict_division.proofs.Reading.{read_wide}
use Rattle.md_dict.proofs.NewTable.{new_table, next_draft, shared_draft}
use Rattle.md_dict.proofs.renewal.renew.Goals as goal

pub returns-then-filled-step-clause-same : goal.returns-then-filled-step-clause-same
returns-then-filled-step-clause-same c = λ _ before u. record {
  rest = c.restore.ensures.rest ∙ ap {A = Rows} (λ r. record r { numbers = c.restore.new.rows.numbers }) u.rest;
  numbers = c.restore.ensures.back before u.step_is u.noted u.rest u.restorable;
  own = c.restore.ensures.table;
}

pub share_out-requires-clause-dens : goal.share_out-requires-clause-dens
share_out-requires-clause-dens c =
    let (before, u) = c.requires.before in
    let f = u.all (omega (arith, u.written, c.if-filled-step.false)) in
    rw (read_wide c.args.filled.now.den u.multiple.size) (λ k b. let inside : k < c.args.step.now.rows + 2 = omega (arith, b, u.room.dens_length) in ((f.made k inside).new.least.positive, f.multiple.multiple k inside))

pub restore-requires-then-not-share_out-clause-old : goal.restore-requires-then-not-share_out-clause-old
restore-requires-then-not-share_out-clause-old c =
    let (before, u) = c.requires.before in
    let noted = subst (IsNoted c.args.step.now before) (sym c.share_out.ensures.rest) (record { pivot_row = u.noted.pivot_row; factors = u.noted.factors }) in
    let restorable = subst (λ d. AreRestorable c.args.step.now before d.factors.items c.args.rows.now.numbers.items d.dens.items c.args.filled.now.written) (sym c.share_out.ensures.rest) u.restorable in
    (before, u.step_is, noted, u.rest, restorable)

pub restore-requires-then-not-share_out-clause-draft : goal.restore-requires-then-not-share_out-clause-draft
restore-requires-then-not-share_out-clause-draft c =
    let (before, u) = c.requires.before in
    shared_draft (c.args.step.now.rows + 2) (c.args.step.now.columns + 1) c.args.draft.now c.share_out.new.self u.room c.share_out.ensures.rest c.share_out.ensures.length c.share_out.ensures.size

pub returns-then-not-share_out-clause-wide : goal.returns-then-not-share_out-clause-wide
returns-then-not-share_out-clause-wide c = λ _ before u.
    let f = u.all (omega (arith, u.written, c.if-filled-step.false)) in
    let wide = rw (read_wide c.args.filled.now.den u.multiple.size) at c.if-not-share_out.ensures.wide in
    inr (f, λ n. wide refl (n.0, λ k share b e. n.1 k share (omega (arith, b, u.room.dens_length)) e))

pub returns-then-not-share_out-clause-same : goal.returns-then-not-share_out-clause-same
returns-then-not-share_out-clause-same c = λ _ before u.
    let noted = subst (IsNoted c.args.step.now before) (sym c.share_out.ensures.rest) (record { pivot_row = u.noted.pivot_row; factors = u.noted.factors }) in
    let restorable = subst (λ d. AreRestorable c.args.step.now before d.factors.items c.args.rows.now.numbers.items d.dens.items c.args.filled.now.written) (sym c.share_out.ensures.rest) u.restorable in
    record {
      rest = c.restore-then-not-share_out.ensures.rest ∙ ap {A = Rows} (λ r. record r { numbers = c.restore-then-not-share_out.new.rows.numbers }) u.rest;
      numbers = c.restore-then-not-share_out.ensures.back before u.step_is noted u.rest restorable;
      own = c.restore-then-not-share_out.ensures.table;
    }

pub returns-then-not-share_out-clause-draft : goal.returns-then-not-share_out-clause-draft
returns-then-not-share_out-clause-draft c =
    let (before, u) = c.requires.before in
    shared_draft (c.args.step.now.rows + 2) (c.args.step.now.columns + 1) c.args.draft.now c.share_out.new.self u.room c.share_out.ensures.rest c.share_out.ensures.length c.share_out.ensures.size

pub returns-clause-new : goal.returns-clause-new
returns-clause-new c = λ _ before u.
    let f = u.all (omega (arith, u.written, c.if-filled-step.false)) in
    let narrow = rw (read_wide c.args.filled.now.den u.multiple.size) at c.if-not-share_out.ensures.narrow in (
      f,
      new_table c.args.step.now before c.args.rows.now c.hand_over.new.rows c.args.draft.now c.share_out.new.self c.args.filled.now.den u.step_is u.room c.share_out.ensures.rest c.share_out.ensures.length c.share_out.ensures.size (narrow refl).0 (narrow refl).1 u.rest u.table c.hand_over.ensures.rows,
    )

pub returns-clause-draft : goal.returns-clause-draft
returns-clause-draft c =
    let (before, u) = c.requires.before in
    next_draft c.args.step.now before c.args.rows.now c.share_out.new.self c.hand_over.new.self u.step_is
    (shared_draft (c.args.step.now.rows + 2) (c.args.step.now.columns + 1) c.args.draft.now c.share_out.new.self u.room c.share_out.ensures.rest c.share_out.ensures.length c.share_out.ensures.size)
    u.rest c.hand_over.ensures.draft
