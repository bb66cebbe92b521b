-- Conditions that are tried one after another: the first that is broken, or none.
use Rattle.std.proofs.Common.{◌≡◌, ℕ, zero, suc, ◌+◌, ◌<◌, ◌≤◌, ℤ, ◌≤ℤ◌, ◌<ℤ◌, inl, inr, List, [], ◌∷◌, ◌++◌, length, get_or, All, Option, None, Some, refl, sym, ap, ◌∙◌, subst, arith}
use Rattle.std.specs.Prelude.{slice_get}
use Rattle.std.proofs.lemmas.Bool.{cases_lt}
use Rattle.std.proofs.lemmas.Option.{none-some, slice_get-get_or}
use Rattle.std.proofs.lemmas.List.Elements.{All-append, All-nil}
use Rattle.md_setting.specs.Setting.{GeneralSetting}
use Rattle.md_mech.specs.declared.broken.Broken.{Broken}
use Rattle.md_mech.specs.declared.mechanism.Mechanism.{Mechanism}
use Rattle.md_mech.specs.Rows.{Condition, IsKept, IsFirstBroken, left_of, right_of}
use Rattle.md_mech.specs.Tried.{IsCompared, IsBrokenBy, IsTried}
use Rattle.md_mech.proofs.RowLaws.{all-one}

-- of some conditions, all that stand before a number are kept
pub record AreKeptBefore (s : GeneralSetting) (m : Mechanism) (rows : List Condition) (n : ℕ) : Type 0 where
  pub kept : (k : ℕ) (c : Condition) → k < n → slice_get rows k ≡ Some c → IsKept s m c

pub kept-none : (s : GeneralSetting) (m : Mechanism) (rows : List Condition) → AreKeptBefore s m rows 0
kept-none s m rows = record { kept = λ k c l. absurd (omega arith) }

pub kept-more : (s : GeneralSetting) (m : Mechanism) (rows : List Condition) (n : ℕ) (c : Condition) → AreKeptBefore s m rows n → slice_get rows n ≡ Some c → IsKept s m c → AreKeptBefore s m rows (n + 1)
kept-more s m rows n c h here kept = record { kept = each }
  where
    each : (k : ℕ) (d : Condition) → k < n + 1 → slice_get rows k ≡ Some d → IsKept s m d
    each k d l e = elim (cases_lt k n) [
      | inl below ↦ h.kept k d below e
      | inr at ↦ (let last : k ≡ n = omega arith in let there : slice_get rows n ≡ Some d = subst (λ j. slice_get rows j ≡ Some d) last e in let same : c ≡ d = cc in subst (IsKept s m) same kept)
    ]

pub kept-all : (s : GeneralSetting) (m : Mechanism) (rows : List Condition) (n : ℕ) → length rows ≤ n → AreKeptBefore s m rows n → All (IsKept s m) rows
kept-all s m rows n whole h = λ k d l. h.kept k (get_or rows k d) (omega arith) (slice_get-get_or rows k d l)

-- a list with an element at a number, and what stands before it
record Parts (P : Condition → Type 0) (rows : List Condition) (n : ℕ) (c : Condition) : Type 0 where
  pub before : List Condition
  pub after : List Condition
  pub parts : rows ≡ before ++ c ∷ after
  pub kept : All P before
  pub number : n ≡ length before

parts-at : (P : Condition → Type 0) (rows : List Condition) (n : ℕ) (c : Condition) → slice_get rows n ≡ Some c → ((k : ℕ) (d : Condition) → k < n → slice_get rows k ≡ Some d → P d) → Parts P rows n c
parts-at P [] n c here each = absurd (none-some c here)
parts-at P (a ∷ rows) zero c here each = record { before = []; after = rows; parts = (let same : a ≡ c = cc in ap (λ x. x ∷ rows) same); kept = All-nil P; number = refl }
parts-at P (a ∷ rows) (suc n) c here each =
    let rest : Parts P rows n c = parts-at P rows n c here (λ k d l e. each (suc k) d (omega arith) e) in
    record {
      before = a ∷ rest.before;
      after = rest.after;
      parts = ap (λ xs. a ∷ xs) rest.parts;
      kept = All-append P (a ∷ []) rest.before (all-one P a (each 0 a (omega arith) refl)) rest.kept;
      number = ap suc rest.number;
    }

-- a condition that is broken where all before it are kept
pub first-broken : (s : GeneralSetting) (m : Mechanism) (rows : List Condition) (n : ℕ) (c : Condition) (broken : Broken) → AreKeptBefore s m rows n → slice_get rows n ≡ Some c
    → IsBrokenBy s m c n broken → IsFirstBroken s m rows 0 broken
first-broken s m rows n c broken h here by =
    let at : Parts (IsKept s m) rows n c = parts-at (IsKept s m) rows n c here h.kept in
    record {
      before = at.before;
      row = c;
      after = at.after;
      parts = at.parts;
      kept = at.kept;
      number = by.number ∙ at.number ∙ omega arith;
      left = by.left;
      right = by.right;
      less = by.less;
    }

-- a condition that was tried by its two sides
pub tried : (s : GeneralSetting) (m : Mechanism) (c : Condition) (row : ℕ) (left right : ℤ) (result : Option Broken)
    → left ≡ left_of s m c → right ≡ right_of s m c → IsCompared row left right result → IsTried s m c row result
tried s m c row left right None l r compared = subst (λ z. z ≤ℤ left_of s m c) r (subst (λ z. right ≤ℤ z) l compared)
tried s m c row left right (Some broken) l r compared =
    let b : broken ≡ record { row = row; left = left; right = right } = compared.0 in
    record {
      number = ap (λ x. x.row) b;
      left = ap (λ x. x.left) b ∙ l;
      right = ap (λ x. x.right) b ∙ r;
      less = subst (λ x. x.left <ℤ x.right) (sym b) compared.1;
    }
