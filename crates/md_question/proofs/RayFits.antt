-- The payments of a ray have the setting's sizes.
use Rattle.std.proofs.Common.{◌≡◌, ℕ, ◌+◌, ◌*◌, ◌<◌, true, false, ℤ, pos, ◌≤ℤ◌, List, [], ◌++◌, length, length-append, All, refl, sym, ap, ap₂, ◌∙◌, subst, arith, inl, inr}
use Rattle.std.proofs.lemmas.Bool.{cases_Bool, cases_lt}
use Rattle.std.proofs.lemmas.List.{get_or_past}
use Rattle.std.proofs.lemmas.List.Elements.{All-get_or}
use Rattle.md_math.specs.Lists.{number_at, list_to}
use Rattle.md_math.specs.Sizes.{IsWithin, AllWithin}
use Rattle.md_math.proofs.Builders.{length-list_to, list_to-get_or, same_list_to, All-list_to, length-up_to, All-up_to}
use Rattle.md_math.proofs.SizeLaws.{AllWithin-number_at, IsWithin-zero, IsWithin-difference}
use Rattle.md_space.specs.Profiles.{IsProfile, profile_count, profile_at, rank_of}
use Rattle.md_space.proofs.Ranks.{profile_at-IsProfile, rank_of-below}
use Rattle.md_setting.specs.Setting.{GeneralSetting}
use Rattle.md_setting.specs.Meaning.{agent_count, sizes_of}
use Rattle.md_setting.specs.Rows.{column_count}
use Rattle.md_mech.specs.Accepted.{number_limit}
use Rattle.md_mech.specs.declared.mechanism.Mechanism.{Mechanism}
use Rattle.md_parts.specs.Fitting.{IsRayFor}
use Rattle.md_rows.specs.Columns.{first_plus, plus_column, minus_column, payment_in}
use Rattle.md_rows.specs.Points.{payments_in, parts, plus_part, minus_part}
use Rattle.md_rows.proofs.FormLaws.{payment-on, payment-off}
use Rattle.md_rows.proofs.PointLaws.{columns-on, parts-length, place-below}
use Rattle.md_claims.specs.Rays.{paying, ray_of}
use Rattle.md_claims.proofs.RayLaws.{pays-along_ray}

-- where there are payments, both parts of each have a column
pub parts-inside : (s : GeneralSetting) (i : ℕ) (t : List ℕ) → s.payments ≡ true → i < agent_count s → IsProfile (sizes_of s) t → (plus_column s i t < column_count s) × (minus_column s i t < column_count s)
parts-inside s i t on l p =
    let inside : i * profile_count (sizes_of s) + rank_of (sizes_of s) t < agent_count s * profile_count (sizes_of s) = place-below i (agent_count s) (profile_count (sizes_of s)) (rank_of (sizes_of s) t) l (rank_of-below (sizes_of s) t p) in
    let columns = columns-on s on in
    (omega (arith, inside, columns), omega (arith, inside, columns))

all-payments : (P : ℤ → Type 0) (s : GeneralSetting) (x : ℕ → ℤ) → ((i r : ℕ) → i < agent_count s → r < profile_count (sizes_of s) → P (payment_in s x i (profile_at (sizes_of s) r))) → All P (payments_in s x)
all-payments P s x h =
    All-up_to P (profile_count (sizes_of s)) (λ r. list_to (agent_count s) (λ i. payment_in s x i (profile_at (sizes_of s) r)))
    (λ r b. All-list_to P (agent_count s) (λ i. payment_in s x i (profile_at (sizes_of s) r)) (λ i l. h i r l b))

payments-length : (s : GeneralSetting) (x : ℕ → ℤ) → length (payments_in s x) ≡ profile_count (sizes_of s) * agent_count s
payments-length s x =
    length-up_to (profile_count (sizes_of s)) (agent_count s) (λ r. list_to (agent_count s) (λ i. payment_in s x i (profile_at (sizes_of s) r)))
    (λ r h. length-list_to (agent_count s) (λ i. payment_in s x i (profile_at (sizes_of s) r)))

-- where there are no payments, each is 0
no-payment : (s : GeneralSetting) (x : ℕ → ℤ) → s.payments ≡ false → (k : ℕ) → number_at (payments_in s x) k ≡ pos 0
no-payment s x off k = elim (cases_lt k (length (payments_in s x))) [
  | inl l ↦ All-get_or (λ z. z ≡ pos 0) (payments_in s x) k (pos 0) l (all-payments (λ z. z ≡ pos 0) s x (λ i r _ _. payment-off s x i (profile_at (sizes_of s) r) off))
  | inr past ↦ get_or_past (payments_in s x) k (pos 0) (omega (arith, past))
]

pub ray-fits : (s : GeneralSetting) (ray : List ℤ) → ((j : ℕ) → j < column_count s → pos 0 ≤ℤ number_at ray j) → AllWithin number_limit ray → IsRayFor s (payments_in s (number_at ray))
ray-fits s ray above sizes = record {
  one_each = payments-length s x;
  sizes = record { at = λ k l. All-get_or (IsWithin number_limit) (payments_in s x) k (pos 0) l (all-payments (IsWithin number_limit) s x within) };
  off = λ off k. no-payment s x off k;
}
  where
    x : ℕ → ℤ
    x = number_at ray

    within : (i r : ℕ) → i < agent_count s → r < profile_count (sizes_of s) → IsWithin number_limit (payment_in s x i (profile_at (sizes_of s) r))
    within i r l b =
        let t = profile_at (sizes_of s) r in
        elim (cases_Bool s.payments) [
          | inl on ↦
              let inside = parts-inside s i t on l (profile_at-IsProfile (sizes_of s) r b) in
              rw (payment-on s x i t on)
              (IsWithin-difference number_limit (x (plus_column s i t)) (x (minus_column s i t)) (above (plus_column s i t) inside.0) (above (minus_column s i t) inside.1)
              (AllWithin-number_at number_limit ray (plus_column s i t) sizes) (AllWithin-number_at number_limit ray (minus_column s i t) sizes))
          | inr off ↦ rw (payment-off s x i t off) (IsWithin-zero number_limit)
        ]

-- the payments of the ray that adds some payments are these
pub same-pays : (s : GeneralSetting) (pays : List ℤ) → IsRayFor s pays → payments_in s (number_at (ray_of s pays)) ≡ pays
same-pays s pays h =
    same_list_to (payments_in s x) n (number_at pays) (pos 0) (payments-length s x) at
    ∙ ap (λ k. list_to k (number_at pays)) (sym h.one_each)
    ∙ list_to-get_or pays (pos 0)
  where
    n : ℕ
    n = profile_count (sizes_of s) * agent_count s

    x : ℕ → ℤ
    x = number_at (ray_of s pays)

    at : (j : ℕ) → j < n → number_at (payments_in s x) j ≡ number_at pays j
    at j l = elim (cases_Bool s.payments) [
      | inl on ↦ pays-along_ray s pays on j l
      | inr off ↦ no-payment s x off j ∙ sym (h.off off j)
    ]

-- the ray has a number for each of the setting's columns
pub ray-length : (s : GeneralSetting) (pays : List ℤ) → length (ray_of s pays) ≡ column_count s
ray-length s pays = elim (cases_Bool s.payments) [
  | inl on ↦ let there : length (ray_of s pays) ≡ first_plus s + (part + part) = rw on (size (plus ++ minus) ∙ ap (λ n. first_plus s + n) parted) in there ∙ sym (columns-on s on)
  | inr off ↦ rw off (size [])
]
  where
    m : Mechanism
    m = paying pays

    plus : List ℤ
    plus = parts plus_part s m

    minus : List ℤ
    minus = parts minus_part s m

    part : ℕ
    part = agent_count s * profile_count (sizes_of s)

    size : (rest : List ℤ) → length (list_to (first_plus s) (λ _. pos 0) ++ rest) ≡ first_plus s + length rest
    size rest = length-append (list_to (first_plus s) (λ _. pos 0)) rest ∙ ap (λ n. n + length rest) (length-list_to {X = ℤ} (first_plus s) (λ _. pos 0))

    parted : length (plus ++ minus) ≡ part + part
    parted = length-append plus minus ∙ ap₂ (λ k n. k + n) (parts-length plus_part s m) (parts-length minus_part s m)
