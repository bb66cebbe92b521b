-- What points say of mechanisms depends on their numbers for the setting's columns alone.
use Rattle.std.proofs.Common.{◌≡◌, ℕ, ◌<◌, ℤ, pos, ◌*ℤ◌, ◌≤ℤ◌, refl, sym, ap, ◌∙◌, subst, arith, inl, inr}
use Rattle.std.proofs.lemmas.Bool.{cases_Bool}
use Rattle.md_math.specs.Lists.{list_to}
use Rattle.md_math.proofs.Builders.{list_to-same, up_to-same}
use Rattle.md_math.proofs.SumLaws.{dot-same}
use Rattle.md_space.specs.Profiles.{profile_count, profile_at}
use Rattle.md_space.proofs.Ranks.{profile_at-IsProfile}
use Rattle.md_setting.specs.Setting.{GeneralSetting}
use Rattle.md_setting.specs.Meaning.{agent_count, sizes_of}
use Rattle.md_setting.specs.Rows.{column_count}
use Rattle.md_lp.specs.Program.{Program, Keeps, kind_at, right_at, coefficient_at}
use Rattle.md_lp.specs.Point.{Meets, row_sum}
use Rattle.md_rows.specs.Columns.{chance_column, plus_column, minus_column, first_plus, payment_in}
use Rattle.md_rows.specs.Points.{mechanism_of, payments_in}
use Rattle.md_rows.proofs.FormLaws.{payment-on, payment-off}
use Rattle.md_question.proofs.RayFits.{parts-inside}
use Rattle.md_question.proofs.SameForms.{IsSameForm}
use Rattle.md_fair.proofs.OwnProgram.{chance-inside}

-- the numbers are the same at the places below n
abbrev pub SameBelow : ℕ → (ℕ → ℤ) → (ℕ → ℤ) → Type 0
SameBelow n x y = (j : ℕ) → j < n → x j ≡ y j

-- where they are so below the setting's columns, they say the same chances and payments
pub same-form : (s : GeneralSetting) (x y : ℕ → ℤ) → SameBelow (column_count s) x y → IsSameForm s x y
same-form s x y same = record {
  chance = λ t o p l. same (chance_column s t o) (chance-inside s t o p l);
  pay = λ i t l p. elim (cases_Bool s.payments) [
    | inl on ↦
        let inside = parts-inside s i t on l p in
        payment-on s x i t on ∙ rw (same (plus_column s i t) inside.0, same (minus_column s i t) inside.1) (sym (payment-on s y i t on))
    | inr off ↦ payment-off s x i t off ∙ sym (payment-off s y i t off)
  ];
}

pub payments-same : (s : GeneralSetting) (x y : ℕ → ℤ) → SameBelow (column_count s) x y → payments_in s x ≡ payments_in s y
payments-same s x y same =
    up_to-same (profile_count (sizes_of s)) (λ r. list_to (agent_count s) (λ i. payment_in s x i (profile_at (sizes_of s) r))) (λ r. list_to (agent_count s) (λ i. payment_in s y i (profile_at (sizes_of s) r)))
    (λ r b. list_to-same (agent_count s) (λ i. payment_in s x i (profile_at (sizes_of s) r)) (λ i. payment_in s y i (profile_at (sizes_of s) r))
    (λ i l. (same-form s x y same).pay i (profile_at (sizes_of s) r) l (profile_at-IsProfile (sizes_of s) r b)))

pub mechanism-same : (s : GeneralSetting) (den : ℤ) (x y : ℕ → ℤ) → SameBelow (column_count s) x y → mechanism_of s den x ≡ mechanism_of s den y
mechanism-same s den x y same =
    ap (λ chances. record { den = den; chances = chances; pays = payments_in s x }) (list_to-same (first_plus s) x y (λ j l. same j (omega (arith, l))))
    ∙ ap (λ pays. record { den = den; chances = list_to (first_plus s) y; pays = pays }) (payments-same s x y same)

-- a point is decided by its numbers for the columns
pub meets-same : (p : Program) (den : ℤ) (x y : ℕ → ℤ) → SameBelow p.columns x y → Meets p den x → Meets p den y
meets-same p den x y same meets = record {
  point = record {
    positive = meets.point.positive;
    nonneg = λ j l. subst (λ z. pos 0 ≤ℤ z) (same j l) (meets.point.nonneg j l);
  };
  rows = record {
    holds = λ r b. subst (λ z. Keeps (kind_at p r) z (den *ℤ right_at p r)) (sums r) (meets.rows.holds r b);
  };
}
  where
    sums : (r : ℕ) → row_sum p x r ≡ row_sum p y r
    sums r = dot-same p.columns (coefficient_at p r) (coefficient_at p r) x y (λ j l. refl) same
