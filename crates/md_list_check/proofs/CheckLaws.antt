-- What the verdict on a list says of it.
use Rattle.std.proofs.Common.{◌≡◌, ◌↔◌, List, length, Option, None, Some, Vec, inl, inr, refl, subst}
use Rattle.std.specs.declared.alloc.Global.{Global}
use Rattle.md_math.specs.FirstFailure.{HoldsBelow}
use Rattle.md_num.specs.declared.frac.Frac.{Frac}
use Rattle.md_setting.specs.Grouped.{GroupedAuction}
use Rattle.md_setting.specs.GroupedShaped.{IsGroupedAuction}
use Rattle.md_list.specs.Best.{IsBest}
use Rattle.md_list.specs.Mechanisms.{list_mechanism}
use Rattle.md_list.specs.Ranks.{Rank, IsList}
use Rattle.md_list.specs.Valid.{IsValid}
use Rattle.md_list.specs.declared.ranked.ListAnswer.{ListAnswer}
use Rattle.md_list.proofs.PromiseLaws.{admissible}
use Rattle.md_list_laws.proofs.Best.{valid-best}
use Rattle.md_list_check.specs.declared.verdict.ListVerdict.{ListVerdict}
use Rattle.md_list_check.specs.declared.verdict.ListVerdict.TheVariants.{Valid, Undecided, Inside, Unlisted, Order, Value, Revenue, Welfare}
use Rattle.md_list_check.specs.Verdicts.{IsPoolAt, IsInsideVerdict, IsUnlistedVerdict, IsListFault, IsVerdictBy}

-- a valid list is best
pub best-valid : (a : GroupedAuction) (ranks : List Rank) (levels : List Frac) → IsGroupedAuction a → IsList a ranks → IsValid a ranks levels → IsBest a (list_mechanism a ranks)
best-valid a ranks levels shaped form valid = valid-best a ranks levels shaped.ordered valid (admissible a ranks shaped.ordered form)

-- ---- the first condition that fails

pub inside-fault : (a : GroupedAuction) (ranks : List Rank) (levels : List Frac) (verdict : ListVerdict) → IsInsideVerdict a ranks levels verdict → IsListFault a ranks levels verdict
inside-fault a ranks levels (Inside group value left right) h = h
inside-fault a ranks levels Valid h = absurd h
inside-fault a ranks levels Undecided h = absurd h
inside-fault a ranks levels (Unlisted group value gain benefit) h = absurd h
inside-fault a ranks levels (Order place) h = absurd h
inside-fault a ranks levels (Value right) h = absurd h
inside-fault a ranks levels (Revenue right) h = absurd h
inside-fault a ranks levels (Welfare right) h = absurd h

pub unlisted-fault : (a : GroupedAuction) (ranks : List Rank) (levels : List Frac) (verdict : ListVerdict) → HoldsBelow (length ranks) (IsPoolAt a ranks levels) → IsUnlistedVerdict a ranks verdict → IsListFault a ranks levels verdict
unlisted-fault a ranks levels (Unlisted group value gain benefit) pools h = (pools, h)
unlisted-fault a ranks levels Valid pools h = absurd h
unlisted-fault a ranks levels Undecided pools h = absurd h
unlisted-fault a ranks levels (Inside group value left right) pools h = absurd h
unlisted-fault a ranks levels (Order place) pools h = absurd h
unlisted-fault a ranks levels (Value right) pools h = absurd h
unlisted-fault a ranks levels (Revenue right) pools h = absurd h
unlisted-fault a ranks levels (Welfare right) pools h = absurd h

-- a list that is at fault is not valid
pub fault-not_valid : (a : GroupedAuction) (ranks : List Rank) (levels : List Frac) (verdict : ListVerdict) → IsListFault a ranks levels verdict → ¬ (verdict ≡ Valid)
fault-not_valid a ranks levels verdict h e = subst (IsListFault a ranks levels) e h

-- what claims nothing is undecided, and nothing else is
pub undecided-none : (a : GroupedAuction) (answer : ListAnswer) (levels : Option (Vec Frac Global)) (verdict : ListVerdict) → IsVerdictBy a answer levels verdict → (verdict ≡ Undecided) ↔ (levels ≡ None)
undecided-none a answer None verdict h = (λ _. refl, λ _. h)
undecided-none a answer (Some levels) verdict h = (λ e. absurd (never (subst (IsVerdictBy a answer (Some levels)) e h)), λ e. absurd (cc e))
  where
    never : IsVerdictBy a answer (Some levels) Undecided → ⊥
    never (inl fault) = fault
    never (inr both) = both.1
