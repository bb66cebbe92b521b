use Rattle.std.proofs.Common.{◌≡◌, drop, ap, sym, subst, ◌∙◌}
use Rattle.std.specs.Prelude.{IfSome, Some}
use Rattle.std.proofs.lemmas.Result.{err_from_is_err_and}
use Rattle.md_conditions_text.specs.Kinds.{kind_ahead}
use Rattle.md_conditions_text.proofs.LoopLaws.{AreFound, found-next, found-none, found-wrong, left-after}
use Rattle.md_conditions_text.proofs.reading.read_all.Goals as goal

pub loop-conditions-init : goal.loop-conditions-init
loop-conditions-init c = record {
  same = c.requires;
  found = subst (λ cs. AreFound c.args.setting.now c.args.reader.now c.args.reader.now cs c.rows-rows.result) (sym c.new-conditions.ensures.items)
      (found-none c.args.setting.now c.args.reader.now c.rows-rows.result c.rows-rows.ensures.shaped c.rows-rows.ensures.count);
}

pub returns-in_err-rows-clause-read : goal.returns-in_err-rows-clause-read
returns-in_err-rows-clause-read c =
    let p = err_from_is_err_and c.from_residual-in_err-rows.result c.from_residual-in_err-rows.ensures.1 in
    let now = c.loop-conditions.reader in
    let comes : kind_ahead now.left ≡ Some c.in-Some.kind = ap kind_ahead (sym c.loop-conditions.invariant.same) ∙ sym c.in_ok-kind.ensures.kind ∙ c.in-Some.is in
    rw (p.1, p.2) (λ ne. found-wrong c.args.setting.now c.args.reader.now now c.loop-conditions.conditions.items c.loop-conditions.rows c.in-Some.kind _ c.loop-conditions.invariant.found comes (c.in_err-rows.ensures.read ne))

pub loop-conditions-preserved : goal.loop-conditions-preserved
loop-conditions-preserved c =
    let s = c.args.setting.now in
    let now = c.loop-conditions.reader in
    let after = c.read_next.new.reader in
    let found = c.loop-conditions.conditions.items in
    let (x, one, all) = c.in_ok-rows.ensures.read in
    let comes : kind_ahead now.left ≡ Some c.in-Some.kind = ap kind_ahead (sym c.loop-conditions.invariant.same) ∙ sym c.in_ok-kind.ensures.kind ∙ c.in-Some.is in
    let taken : c.next_kind.new.ahead ≡ drop 1 c.loop-conditions.ahead = subst (λ o. IfSome o (λ _. c.next_kind.new.ahead ≡ drop 1 c.loop-conditions.ahead)) c.in-Some.is c.in_ok-kind.ensures.taken in
    record {
      same = taken ∙ ap (drop 1) c.loop-conditions.invariant.same ∙ left-after s found c.in-Some.kind now after x one;
      found = found-next s c.args.reader.now now after found c.read_next.new.conditions.items c.loop-conditions.rows c.in_ok-rows.rows c.in-Some.kind x c.loop-conditions.invariant.found comes one all c.in_ok-rows.ensures.fits c.in_ok-rows.ensures.rows;
    }
