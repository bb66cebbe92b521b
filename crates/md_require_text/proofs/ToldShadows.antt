-- Shadows that are read off multipliers can be written.
use Rattle.std.proofs.Common.{ℕ, suc, ℤ, pos, ◌≤ℤ◌, ◌<ℤ◌, List, [], ◌∷◌, length, Option, None, Some, refl, ap, arith}
use Rattle.std.proofs.lemmas.Int.{ints}
use Rattle.std.proofs.lemmas.List.Elements.{All-nil, All-cons}
use Rattle.md_math.specs.Lists.{number_at}
use Rattle.md_num.specs.declared.frac.Frac.{Frac}
use Rattle.md_setting.specs.Setting.{GeneralSetting}
use Rattle.md_mech.specs.Rows.{conditions_of}
use Rattle.md_cert.specs.declared.bound.Bound.{Bound}
use Rattle.md_rows.specs.ProgramOf.{forms_of}
use Rattle.md_require.specs.declared.condition.Condition.{Condition}
use Rattle.md_require.specs.Amounts.{amounts_of}
use Rattle.md_require.specs.Shadows.{AreShadowsBy, AreToldShadows, from, IsToldShadow}
use Rattle.md_require_text.specs.Told.{AreShadowsFor, IsFractionIfTold}

from-one : (z : ℤ) → pos 0 <ℤ z → pos 1 ≤ℤ z
from-one z h = grind (arith, ints)

one-fits : (s : GeneralSetting) (c : Condition) (over : ℤ) (main face : ℕ → ℤ) (shadow : Option Frac) → IsToldShadow s c over main face shadow → IsFractionIfTold shadow
one-fits s c over main face None h = tt
one-fits s c over main face (Some shadow) h = record { positive = from-one shadow.den h.0.least.positive; num_size = h.1.num_size; den_size = h.1.den_size }

all-fit : (s : GeneralSetting) (cs : List Condition) (over : ℤ) (main face : ℕ → ℤ) (shadows : List (Option Frac)) → AreToldShadows s cs over main face shadows → AreShadowsFor (length cs) shadows
all-fit s [] over main face [] h = record { one_each = refl; each = All-nil IsFractionIfTold }
all-fit s [] over main face (shadow ∷ shadows) h = absurd h
all-fit s (c ∷ cs) over main face [] h = absurd h
all-fit s (c ∷ cs) over main face (shadow ∷ shadows) h =
    let rows = length (amounts_of s c.measured) in
    let more = all-fit s cs over (from rows main) (from rows face) shadows h.1 in
    record {
      one_each = ap suc more.one_each;
      each = All-cons IsFractionIfTold shadow shadows (one-fits s c over main face shadow h.0) more.each;
    }

pub shadows-fit : (s : GeneralSetting) (cs : List Condition) (bound : Bound) (shadows : List (Option Frac)) → AreShadowsBy s cs bound shadows → AreShadowsFor (length cs) shadows
shadows-fit s cs bound shadows h =
    let own = length (forms_of s (conditions_of s)) in
    all-fit s cs bound.den (from own (number_at bound.main)) (from own (number_at bound.face)) shadows h
