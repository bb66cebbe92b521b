-- Rays of a setting's program, and payments that are added again and again.
use Rattle.std.specs.Prelude.{ℕ, ◌*◌, ℤ, pos, List, [], ◌++◌}
use Rattle.md_math.specs.Lists.{list_to}
use Rattle.md_space.specs.Profiles.{profile_count}
use Rattle.md_setting.specs.Setting.{GeneralSetting}
use Rattle.md_setting.specs.Meaning.{outcome_count, sizes_of}
use Rattle.md_mech.specs.declared.mechanism.Mechanism.{Mechanism}
use Rattle.md_rows.specs.Points.{payments_in, payment_parts}

-- the payments that a ray adds, by the rank of the profile, then by agent
abbrev pub pays_along : GeneralSetting → (ℕ → ℤ) → List ℤ
pays_along s ray = payments_in s ray

-- no chances, and these payments
abbrev pub paying : List ℤ → Mechanism
paying pays = record { den = pos 1; chances = []; pays = pays }

-- the ray that adds these payments, listed by the rank of the profile, then by agent: it is 0 at each chance, and has the
-- positive and the negative part of each payment where there are payments
abbrev pub ray_of : GeneralSetting → List ℤ → List ℤ
ray_of s pays = list_to (profile_count (sizes_of s) * outcome_count s) (λ _. pos 0) ++ payment_parts s.payments s (paying pays)
