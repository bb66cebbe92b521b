-- The records that parts of answers are written as.
use Rattle.std.specs.Prelude.{ℕ, ◌+◌, ◌*◌, ℤ, pos, Bool, true, false, List, [], ◌∷◌, ◌++◌, map, codes, Option, None, Some, if◌then◌else◌}
use Rattle.std.specs.List.{list_all}
use Rattle.std.specs.Ordering.{int_eq}
use Rattle.md_math.specs.Lists.{number_at, list_to, up_to}
use Rattle.md_num.specs.WholeText.{text_of}
use Rattle.md_num.specs.declared.frac.Frac.{Frac}
use Rattle.md_space.specs.Profiles.{rank_of}
use Rattle.md_space.specs.AllProfiles.{profiles_of}
use Rattle.md_setting.specs.Setting.{GeneralSetting}
use Rattle.md_setting.specs.Meaning.{agent_count, outcome_count, sizes_of}
use Rattle.md_mech.specs.declared.mechanism.Mechanism.{Mechanism}
use Rattle.md_mech.specs.RowName.{type_names}
use Rattle.md_lp.specs.declared.pivot.Pivot.{Pivot}
use Rattle.md_lp.specs.declared.entry.Entry.{Entry}
use Rattle.md_lp.specs.declared.wide.Wide.{Wide}
use Rattle.md_cert.specs.declared.bound.Bound.{Bound}
use Rattle.md_parts.specs.declared.version.Version.{Version}
use Rattle.md_parts.specs.Versions.{version_text}

-- a record of numbers after a word
abbrev pub number_row : List ℕ → List ℤ → List (List ℕ)
number_row word numbers = word ∷ map text_of numbers

-- the version of the format, the kind of what the file is about, and which answer it is
abbrev pub first_row : Version → List ℕ → List ℕ → List (List ℕ)
first_row version kind word = codes "answer" ∷ version_text version ∷ kind ∷ word ∷ []

abbrev pub end_row : List (List ℕ)
end_row = codes "end" ∷ []

-- ---- mechanisms

-- the record of a profile, where numbers are listed by the rank of the profile, so many for each
abbrev pub profile_row : List ℕ → GeneralSetting → List ℤ → ℕ → List ℕ → List (List ℕ)
profile_row word s numbers count t =
    word ∷ (type_names s.agents t ++ list_to count (λ k. text_of (number_at numbers (rank_of (sizes_of s) t * count + k))))

-- a record for each profile, in the order of ranks
abbrev pub profile_rows : List ℕ → GeneralSetting → List ℤ → ℕ → List (List (List ℕ))
profile_rows word s numbers count = map (profile_row word s numbers count) (profiles_of (sizes_of s))

-- numbers by agent are written exactly where payments are on
abbrev pub payment_rows : List ℕ → GeneralSetting → List ℤ → Bool → List (List (List ℕ))
payment_rows word s numbers true = profile_rows word s numbers (agent_count s)
payment_rows word s numbers false = []

abbrev pub mechanism_rows : GeneralSetting → Mechanism → List (List (List ℕ))
mechanism_rows s m =
    number_row (codes "table") (m.den ∷ []) ∷ (profile_rows (codes "lottery") s m.chances (outcome_count s) ++ payment_rows (codes "pay") s m.pays s.payments)

abbrev pub ray_rows : GeneralSetting → List ℤ → List (List (List ℕ))
ray_rows s ray = payment_rows (codes "ray") s ray s.payments

abbrev pub value_row : Frac → List (List ℕ)
value_row value = number_row (codes "value") (value.num ∷ value.den ∷ [])

-- ---- multipliers

-- the record of a row with its multipliers, which is left out where all of them are 0
abbrev pub row_unless_zero : ℕ → List ℤ → List (List (List ℕ))
row_unless_zero row multipliers =
    if list_all (int_eq (pos 0)) multipliers then [] else number_row (codes "row") (pos row ∷ multipliers) ∷ []

abbrev pub face_rows : ℕ → List ℤ → List (List (List ℕ))
face_rows rows face = up_to rows (λ r. row_unless_zero r (number_at face r ∷ []))

abbrev pub bound_rows : ℕ → Bound → List (List (List ℕ))
bound_rows rows bound =
    number_row (codes "bound") (bound.den ∷ []) ∷ up_to rows (λ r. row_unless_zero r (number_at bound.face r ∷ number_at bound.main r ∷ []))

-- ---- paths

abbrev pub pivot_row : Pivot → List (List ℕ)
pivot_row pivot = number_row (codes "pivot") (pos pivot.row ∷ pos pivot.column ∷ [])

abbrev pub entry_row : Entry → List (List ℕ)
entry_row entry = number_row (codes "wide") (pos entry.row ∷ pos entry.column ∷ entry.num ∷ entry.den ∷ [])

-- a path, and the entry at its end
abbrev pub wide_rows : Wide → List (List (List ℕ))
wide_rows wide = map pivot_row wide.path ++ entry_row wide.entry ∷ []

abbrev pub again_row : List (List ℕ)
again_row = codes "again" ∷ []

-- the part about the second path, where there is one
abbrev pub second_rows : Option Wide → List (List (List ℕ))
second_rows None = []
second_rows (Some second) = again_row ∷ wide_rows second

-- ---- cuts

abbrev pub cut_row : ℕ → List (List ℕ)
cut_row set = number_row (codes "cut") (pos set ∷ [])

abbrev pub cut_rows : List ℕ → List (List (List ℕ))
cut_rows sets = map cut_row sets
