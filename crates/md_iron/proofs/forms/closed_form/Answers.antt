use Rattle.md_iron_pools.specs.Pooling.{pools_of}
use Rattle.md_iron.proofs.ShareLaws.{where-none, where-some}
use Rattle.md_iron.proofs.forms.closed_form.Goals as goal

pub returns-in_default-clause-closed : goal.returns-in_default-clause-closed
returns-in_default-clause-closed c = record {
  pools = pools_of c.in_ok-pools.pools;
  by_rule = c.in_ok-pools.ensures.named;
  long = where-none c.in_ok-bound.field-0 _ _ c.in_default.is c.in_ok-bound.ensures;
}

pub returns-clause-closed : goal.returns-clause-closed
returns-clause-closed c = record {
  pools = pools_of c.in_ok-pools.pools;
  by_rule = c.in_ok-pools.ensures.named;
  interim_is = c.in_ok-interim.ensures.closed;
  cuts_are = c.in_ok-cuts.ensures.value;
  bound_is = where-some c.in_ok-bound.field-0 c.in-Some.bound _ _ c.in-Some.is c.in_ok-bound.ensures;
}
