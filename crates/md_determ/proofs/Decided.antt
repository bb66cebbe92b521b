-- Whether a mechanism is deterministic, and how values compare.
use Rattle.std.proofs.Common.{◌≡◌, ◌↔◌, ℕ, pos, ◌*ℤ◌, ◌≤ℤ◌, ◌<ℤ◌, Bool, true, false, not, is_some, Option, None, Some, refl, sym, arith}
use Rattle.std.specs.Prelude.{IsTrue, MatchOption}
use mathlib.Core.Bool.{false≢true}
use Rattle.std.proofs.lemmas.Int.{ints}
use Rattle.md_space.specs.Profiles.{profile_at}
use Rattle.md_space.proofs.Ranks.{profile_at-IsProfile}
use Rattle.md_num.specs.declared.frac.Frac.{Frac}
use Rattle.md_setting.specs.Setting.{GeneralSetting}
use Rattle.md_setting.specs.Meaning.{sizes_of, total_of}
use Rattle.md_mech.specs.declared.mechanism.Mechanism.{Mechanism}
use Rattle.md_mech.specs.Mechanism.{IsMechanism}
use Rattle.md_mech.specs.Optimal.{worth_of}
use Rattle.md_mech.specs.Value.{IsValueOf}
use Rattle.md_determ_node.specs.Deterministic.{IsDeterministic, IsFirstLottery}
use Rattle.md_tree.specs.Leaves.{IsWorthAtMost}
use Rattle.md_tree.proofs.WorthLaws.{same-order}

-- no first lottery is found exactly where there is none
pub decided : (s : GeneralSetting) (m : Mechanism) (first : Option ℕ) (none : Bool) → MatchOption first (IsDeterministic s m) (IsFirstLottery s m) → is_some first ≡ not none → IsTrue none ↔ IsDeterministic s m
decided s m None true h e = (λ _. h, λ _. refl)
decided s m None false h e = absurd (false≢true e)
decided s m (Some rank) true h e = absurd (false≢true (sym e))
decided s m (Some rank) false h e = (
  λ wrong. absurd (false≢true wrong),
  λ deterministic. absurd (h.fails (deterministic.at (profile_at (sizes_of s) rank) (profile_at-IsProfile (sizes_of s) rank h.below))),
)

-- values compare as what the mechanisms are worth
pub values-compare : (s : GeneralSetting) (m other : Mechanism) (v w : Frac) → pos 0 <ℤ total_of s → IsMechanism s m → IsMechanism s other → IsValueOf s m v → IsValueOf s other w
    → ((v.num *ℤ w.den) ≤ℤ (w.num *ℤ v.den)) ↔ IsWorthAtMost s m other
values-compare s m other v w total is is_other value other_value =
    let den : pos 0 <ℤ m.den = (let one = is.den in omega (arith, ints, one)) in
    let other_den : pos 0 <ℤ other.den = (let one = is_other.den in omega (arith, ints, one)) in
    same-order v.num v.den (worth_of s m) m.den w.num w.den (worth_of s other) other.den (total_of s) value.least.positive other_value.least.positive den other_den total value.is_value other_value.is_value
