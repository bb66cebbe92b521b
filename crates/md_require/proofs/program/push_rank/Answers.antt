use Rattle.std.proofs.Common.{◌≡◌, [], ◌∷◌, sym, ap, subst, arith}
use Rattle.std.specs.Prelude.{map}
use Rattle.md_forms.specs.Built.{Extends, HasRoom}
use Rattle.md_forms.proofs.BuiltLaws.{extends-none}
use Rattle.md_rows.proofs.RowForms.{on_ok}
use Rattle.md_require.specs.Limits.{IsNarrowFor}
use Rattle.md_require.specs.Named.{amounts_at, named}
use Rattle.md_require.specs.RequireProgram.{amount_form}
use Rattle.md_require.proofs.ConditionRows.{at-rank}
use Rattle.md_require.proofs.program.push_rank.Goals as goal

pub push_amount-requires-clause-narrow : goal.push_amount-requires-clause-narrow
push_amount-requires-clause-narrow c =
    let s = c.args.setting.now in
    let k = c.args.condition.now in
    at-rank s (IsNarrowFor s k) k.measured c.args.rank (named s c.in-Some.amount) c.requires.rank_in (rw c.in-Some.is at c.amount_at.ensures.amounts) c.requires.condition.narrow

pub push_amount-requires-clause-room : goal.push_amount-requires-clause-room
push_amount-requires-clause-room c =
    let s = c.args.setting.now in
    let here : named s c.in-Some.amount ∷ [] ≡ amounts_at s c.args.condition.now.measured c.args.rank = rw c.in-Some.is at c.amount_at.ensures.amounts in
    let room : HasRoom (amount_form s c.args.condition.now (named s c.in-Some.amount) ∷ []) c.args.lp.now = subst (λ fs. HasRoom fs c.args.lp.now) (ap (map (amount_form s c.args.condition.now)) (sym here)) c.requires.room in
    omega (arith, room.room)

pub returns-in-Some : goal.returns-in-Some
returns-in-Some c =
    let s = c.args.setting.now in
    let here : named s c.in-Some.amount ∷ [] ≡ amounts_at s c.args.condition.now.measured c.args.rank = rw c.in-Some.is at c.amount_at.ensures.amounts in
    on_ok c.push_amount.result _ _ (λ e. subst (λ fs. Extends fs c.args.lp.now c.push_amount.new.lp) (ap (map (amount_form s c.args.condition.now)) here) e) c.push_amount.ensures

pub returns-in-None : goal.returns-in-None
returns-in-None c =
    let s = c.args.setting.now in
    let none : [] ≡ amounts_at s c.args.condition.now.measured c.args.rank = rw c.in-None.is at c.amount_at.ensures.amounts in
    subst (λ fs. Extends fs c.args.lp.now c.args.lp.now) (ap (map (amount_form s c.args.condition.now)) none) (extends-none c.args.lp.now)
