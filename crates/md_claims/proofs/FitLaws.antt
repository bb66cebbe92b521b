-- The lists of an answer to a setting fit programs over the setting's columns.
use Rattle.std.proofs.Common.{◌≡◌, Result, Ok, Err, IfOk, ℕ, ◌+◌, ◌-◌, ◌*◌, ◌<◌, ◌^◌, Bool, true, false, ℤ, pos, ◌≤ℤ◌, List, ◌++◌, length, drop, refl, sym, ap, ◌∙◌, subst, arith, inl, inr, length-append}
use Rattle.std.proofs.lemmas.Bool.{cases_lt}
use Rattle.std.proofs.lemmas.Int.{ints}
use Rattle.std.proofs.lemmas.List.{get_or_append_left, get_or-append_right}
use Rattle.std.proofs.lemmas.List.Elements.{All-get_or}
use Rattle.std.proofs.Math.Seq.{drop-append_seam}
use Rattle.md_math.specs.Lists.{number_at, list_to}
use Rattle.md_math.specs.Sizes.{IsWithin}
use Rattle.md_math.proofs.Builders.{length-list_to, get_or-list_to}
use Rattle.md_math.proofs.SizeLaws.{IsWithin-zero}
use Rattle.md_num.specs.declared.no_memory.NoMemory.{NoMemory}
use Rattle.md_space.specs.Profiles.{profile_count}
use Rattle.md_setting.specs.Setting.{GeneralSetting}
use Rattle.md_setting.specs.Meaning.{outcome_count, sizes_of}
use Rattle.md_setting.specs.Rows.{column_count, row_count as rows_in}
use Rattle.md_mech.specs.declared.mechanism.Mechanism.{Mechanism}
use Rattle.md_mech.specs.Accepted.{IsAccepted}
use Rattle.md_mech.specs.Rows.{conditions_of}
use Rattle.md_lp.specs.Program.{Program, row_count}
use Rattle.md_cert.specs.declared.bound.Bound.{Bound}
use Rattle.md_cert.specs.Fitting.{FitsColumns, FitsRows, IsDenominator, Fits}
use Rattle.md_rows.specs.ProgramOf.{IsProgramOf}
use Rattle.md_rows.specs.Points.{payment_parts, point_of}
use Rattle.md_rows.proofs.BuiltLaws.{rows-length}
use Rattle.md_mech.proofs.CountLaws.{conditions-length}
use Rattle.md_rows.proofs.PointLaws.{point-length, point-nonneg, point-within}
use Rattle.md_claims.specs.Rays.{paying, ray_of}
use Rattle.md_parts.specs.Fitting.{AreMultipliers, IsBoundOver, IsRayFor}
use Rattle.md_claims.specs.Certificates.{optimal_certificate, unbounded_certificate}

-- ---- multipliers

pub program-rows : (s : GeneralSetting) (p : Program) → IsProgramOf s p → row_count p ≡ rows_in s
program-rows s p is = rows-length s (conditions_of s) p.rows is.rows ∙ conditions-length s

pub fits-rows : (p : Program) (rows : ℕ) (numbers : List ℤ) → row_count p ≡ rows → AreMultipliers rows numbers → FitsRows p numbers
fits-rows p rows numbers count h = record { one_each = h.one_each ∙ sym count; sizes = h.sizes }

-- ---- points

fits-den : (s : GeneralSetting) (m : Mechanism) → IsAccepted s m → IsDenominator m.den
fits-den s m h = record { positive = (let one : pos 1 ≤ℤ m.den = h.mechanism.den in omega (arith, ints)); size = h.den_size }

fits-point : (s : GeneralSetting) (p : Program) (m : Mechanism) → p.columns ≡ column_count s → IsAccepted s m → FitsColumns p (point_of s m)
fits-point s p m columns h = record {
  one_each = point-length s m h.mechanism ∙ sym columns;
  sizes = point-within s m h;
  nonneg = λ j b. All-get_or (λ z. pos 0 ≤ℤ z) (point_of s m) j (pos 0) (omega (arith, b, point-length s m h.mechanism, columns)) (point-nonneg s m h.mechanism);
}

pub fits-optimal : (s : GeneralSetting) (p : Program) (rows : ℕ) (m : Mechanism) (bound : Bound) → p.columns ≡ column_count s → row_count p ≡ rows → IsAccepted s m → IsBoundOver rows bound
    → Fits p (optimal_certificate s m bound)
fits-optimal s p rows m bound columns count h b =
    (fits-den s m h, fits-point s p m columns h, record { den = b.den; main = fits-rows p rows bound.main count b.main; face = fits-rows p rows bound.face count b.face })

-- ---- rays

-- the mechanism with a ray as its payments
pub accepted-with_pays : (s : GeneralSetting) (m : Mechanism) (ray : List ℤ) → IsAccepted s m → IsRayFor s ray → IsAccepted s (record m { pays = ray })
accepted-with_pays s m ray h r = record {
  mechanism = record {
    den = h.mechanism.den;
    chance_count = h.mechanism.chance_count;
    pay_count = r.one_each;
    not_negative = h.mechanism.not_negative;
    whole = h.mechanism.whole;
    no_payment = λ off t i q l. r.off off _;
  };
  den_size = h.den_size;
  chance_size = h.chance_size;
  pay_size = r.sizes;
}

-- the parts of payments look at nothing but the payments
parts-of_pays : (on : Bool) (s : GeneralSetting) (m : Mechanism) → payment_parts on s m ≡ payment_parts on s (paying m.pays)
parts-of_pays true s m = refl
parts-of_pays false s m = refl

zeros : ℕ → List ℤ
zeros n = list_to n (λ _. pos 0)

-- what holds of the numbers of a list, and of 0, holds of the numbers of the list with 0 in place of the first ones
without_first : (P : ℤ → Type 0) (n : ℕ) (xs ys : List ℤ) → P (pos 0) → length xs ≡ n → ((j : ℕ) → j < length (xs ++ ys) → P (number_at (xs ++ ys) j))
    → (j : ℕ) → j < length (zeros n ++ ys) → P (number_at (zeros n ++ ys) j)
unfolding zeros
without_first P n xs ys none same h j below =
    let size : length (zeros n) ≡ n = length-list_to n (λ _. pos 0) in
    let inside : j < length (xs ++ ys) = omega (arith, below, same, size, length-append xs ys, length-append (zeros n) ys) in
    elim (cases_lt j n) [
      | inl l ↦
          let at : number_at (zeros n ++ ys) j ≡ pos 0 = get_or_append_left (zeros n) ys (pos 0) j (rw size l) ∙ get_or-list_to n (λ _. pos 0) j (pos 0) l in
          subst P (sym at) none
      | inr l ↦
          let at : number_at (zeros n ++ ys) j ≡ number_at (xs ++ ys) j = get_or-append_right (zeros n) ys n j (pos 0) size l ∙ sym (get_or-append_right xs ys n j (pos 0) same l) in
          subst P (sym at) (h j inside)
    ]

fits-ray : (s : GeneralSetting) (p : Program) (m : Mechanism) (ray : List ℤ) → p.columns ≡ column_count s → IsAccepted s m → IsRayFor s ray → FitsColumns p (ray_of s ray)
unfolding zeros
fits-ray s p m ray columns h r = record {
  one_each = size ∙ point.one_each;
  sizes = record { at = λ j b. without_first (IsWithin (2 ^ 62 - 1)) n m.chances rest (IsWithin-zero (2 ^ 62 - 1)) h.mechanism.chance_count (λ i l. subst (λ xs. IsWithin (2 ^ 62 - 1) (number_at xs i)) whole (point.sizes.at i (rw whole l))) j b };
  nonneg = λ j b. without_first (λ z. pos 0 ≤ℤ z) n m.chances rest (omega (arith, ints)) h.mechanism.chance_count (λ i l. subst (λ xs. pos 0 ≤ℤ number_at xs i) whole (point.nonneg i (omega (arith, point.one_each, ap length whole, l)))) j
      (omega (arith, size, point.one_each, b));
}
  where
    n : ℕ
    n = profile_count (sizes_of s) * outcome_count s

    rest : List ℤ
    rest = payment_parts s.payments s (paying ray)

    new : Mechanism
    new = record m { pays = ray }

    point : FitsColumns p (point_of s new)
    point = fits-point s p new columns (accepted-with_pays s m ray h r)

    whole : point_of s new ≡ m.chances ++ rest
    whole = ap (λ ys. m.chances ++ ys) (parts-of_pays s.payments s new)

    size : length (ray_of s ray) ≡ length (point_of s new)
    size = length-append (zeros n) rest ∙ ap (λ k. k + length rest) (length-list_to n (λ _. pos 0) ∙ sym h.mechanism.chance_count) ∙ sym (length-append m.chances rest) ∙ ap length (sym whole)

pub fits-unbounded : (s : GeneralSetting) (p : Program) (m : Mechanism) (ray : List ℤ) → p.columns ≡ column_count s → IsAccepted s m → IsRayFor s ray → Fits p (unbounded_certificate s m ray)
fits-unbounded s p m ray columns h r = (fits-den s m h, fits-point s p m columns h, fits-ray s p m ray columns h r)

-- the ray is what is left of the point of the mechanism that pays it
pub ray-left : (s : GeneralSetting) (m : Mechanism) (ray : List ℤ) (count : ℕ) → IsAccepted s m → count ≡ length m.chances
    → list_to count (λ _. pos 0) ++ drop count (point_of s (record m { pays = ray })) ≡ ray_of s ray
ray-left s m ray count h same =
    rw (same, drop-append_seam m.chances (payment_parts s.payments s (record m { pays = ray })), parts-of_pays s.payments s (record m { pays = ray }), h.mechanism.chance_count) refl

pub if_same : (r : Result (List ℤ) NoMemory) (xs ys : List ℤ) → xs ≡ ys → IfOk r (λ zs. zs ≡ xs) → IfOk r (λ zs. zs ≡ ys)
if_same (Ok zs) xs ys same h = h ∙ same
if_same (Err e) xs ys same h = tt
