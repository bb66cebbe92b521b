-- What a run over the programs of a sale by their cuts goes by: a list of cuts has one program, its points keep each cut, and no
-- point asks for anything with the empty set.
use Rattle.std.proofs.Common.{◌≡◌, ℕ, ◌<◌, false, ℤ, pos, ◌*ℤ◌, ◌≤ℤ◌, ◌<ℤ◌, if◌then◌else◌, List, length, refl, sym, subst}
use Rattle.std.specs.Prelude.{slice_index}
use Rattle.std.proofs.lemmas.Nat.Bits.{bit_at-zero}
use Rattle.md_math.specs.Sets.{member}
use Rattle.md_math.proofs.Order.{le_from_lt, nonneg-*ℤ}
use Rattle.md_math.proofs.SumLaws.{sum_to-zero}
use Rattle.md_setting.specs.Setting.{GeneralSetting}
use Rattle.md_setting.specs.Shaped.{IsShaped}
use Rattle.md_lp.specs.Program.{Program}
use Rattle.md_lp.specs.Point.{Meets}
use Rattle.md_lp.proofs.SamePrograms.{IsSameProgram}
use Rattle.md_cert.specs.Claims.{HasNoPoint}
use Rattle.md_forms.proofs.OneProgram.{same_program}
use Rattle.md_asym_sale.specs.Conditions.{conditions_of}
use Rattle.md_asym_sale.specs.Forms.{cost_of}
use Rattle.md_asym_sale.specs.ProgramOf.{column_count, forms_of, IsSaleProgram}
use Rattle.md_asym_sale.specs.Sides.{demand_at, demands_in, right_of}
use Rattle.md_asym_sale.specs.Values.{pairs_of}
use Rattle.md_asym_laws.proofs.BoundLaws.{right-nonneg, zero-meets}
use Rattle.md_asym_laws.proofs.RowLaws.{keeps-cuts}

-- two programs with the same cuts are the same
pub one-program : (s : GeneralSetting) (cuts : List ℕ) (p q : Program) → IsSaleProgram s cuts p → IsSaleProgram s cuts q → IsSameProgram p q
one-program s cuts p q h k = same_program (column_count s) (forms_of s (conditions_of s cuts)) (cost_of s) p q h k

-- a point keeps each cut
pub cut-kept : (s : GeneralSetting) (cuts : List ℕ) (p : Program) (den : ℤ) (x : ℕ → ℤ) (k : ℕ) → IsSaleProgram s cuts p → Meets p den x → k < length cuts
    → demands_in s x (slice_index cuts k) ≤ℤ (den *ℤ right_of s (slice_index cuts k))
cut-kept s cuts p den x k is meets b = keeps-cuts s cuts p den x is meets k 0 b

-- the empty set asks for nothing
member-empty : (p : ℕ) → member 0 p ≡ false
unfolding member
member-empty p = rw (bit_at-zero p) refl

demands-empty : (s : GeneralSetting) (x : ℕ → ℤ) → demands_in s x 0 ≡ pos 0
demands-empty s x = sum_to-zero (pairs_of s) (λ p. if member 0 p then demand_at s x p else pos 0) (λ p b. rw (member-empty p) refl)

pub empty-kept : (s : GeneralSetting) (den : ℤ) (x : ℕ → ℤ) → IsShaped s → pos 0 <ℤ den → demands_in s x 0 ≤ℤ (den *ℤ right_of s 0)
empty-kept s den x shaped positive =
    subst (λ z. z ≤ℤ (den *ℤ right_of s 0)) (sym (demands-empty s x)) (nonneg-*ℤ den (right_of s 0) (le_from_lt (pos 0) den positive) (right-nonneg s 0 shaped))

-- there is a point
pub has-point : (s : GeneralSetting) (cuts : List ℕ) (p : Program) → IsShaped s → IsSaleProgram s cuts p → ¬ HasNoPoint p
has-point s cuts p shaped is none = none.none (pos 1) (λ _. pos 0) (zero-meets s cuts p shaped is)
