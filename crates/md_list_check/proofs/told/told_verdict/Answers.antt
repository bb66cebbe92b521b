use Rattle.std.proofs.Common.{sym, subst}
use Rattle.md_mech.specs.Value.{IsValueOf}
use Rattle.md_bidders.specs.Setting.{setting_of}
use Rattle.md_list.specs.Averages.{revenue_in}
use Rattle.md_list.specs.Best.{welfare_in}
use Rattle.md_list.specs.Mechanisms.{list_mechanism}
use Rattle.md_list.specs.Told.{IsAverage}
use Rattle.md_list_check.proofs.FractionTests.{told-same, told-other}
use Rattle.md_list_check.proofs.told.told_verdict.Goals as goal

pub returns-then-ne-2 : goal.returns-then-ne-2
returns-then-ne-2 c = λ a ranks right. record {
  value = subst (IsValueOf (setting_of a) (list_mechanism a ranks)) (sym (told-same _ _ _ c.ne.ensures c.if-ne.false)) right.value;
  is = right.revenue;
  other = told-other _ _ _ c.ne-2.ensures c.if-ne-2.true;
}

pub returns-then-ne-3 : goal.returns-then-ne-3
returns-then-ne-3 c = λ a ranks right. record {
  value = subst (IsValueOf (setting_of a) (list_mechanism a ranks)) (sym (told-same _ _ _ c.ne.ensures c.if-ne.false)) right.value;
  revenue = subst (IsAverage a (revenue_in (setting_of a) (list_mechanism a ranks))) (sym (told-same _ _ _ c.ne-2.ensures c.if-ne-2.false)) right.revenue;
  is = right.welfare;
  other = told-other _ _ _ c.ne-3.ensures c.if-ne-3.true;
}

pub returns : goal.returns
returns c = λ a ranks right. record {
  value = subst (IsValueOf (setting_of a) (list_mechanism a ranks)) (sym (told-same _ _ _ c.ne.ensures c.if-ne.false)) right.value;
  revenue = subst (IsAverage a (revenue_in (setting_of a) (list_mechanism a ranks))) (sym (told-same _ _ _ c.ne-2.ensures c.if-ne-2.false)) right.revenue;
  welfare = subst (IsAverage a (welfare_in (setting_of a) (list_mechanism a ranks))) (sym (told-same _ _ _ c.ne-3.ensures c.if-ne-3.false)) right.welfare;
}
