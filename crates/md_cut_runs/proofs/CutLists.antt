-- Lists of cuts with one more at their end.
use Rattle.std.proofs.Common.{◌≡◌, ◌≢◌, ℕ, ◌<◌, ◌≤◌, ◌^◌, ◌⊎◌, List, [], ◌∷◌, ◌++◌, length, sym, ◌∙◌, subst, arith, inl, inr}
use Rattle.std.specs.Prelude.{slice_index}
use Rattle.std.proofs.lemmas.Bool.Decides.{eqb_tells}
use Rattle.std.proofs.lemmas.List.{length_push}
use Rattle.std.proofs.Math.ListN.{get_or-append}
use Rattle.std.proofs.Math.Seq.{get_or-append_seam}
use Rattle.md_lp.specs.Cuts.{AreCuts}

-- ---- one more at the end

pub pushed-before : (cuts : List ℕ) (set k : ℕ) → k < length cuts → slice_index (cuts ++ set ∷ []) k ≡ slice_index cuts k
pushed-before cuts set k b = get_or-append cuts (set ∷ []) 0 k b

pub pushed-last : (cuts : List ℕ) (set k : ℕ) → k ≡ length cuts → slice_index (cuts ++ set ∷ []) k ≡ set
pushed-last cuts set k e = rw e (get_or-append_seam cuts set [] 0)

-- a place of the longer list is one before its end, or its end
pub before-or_last : (cuts : List ℕ) (set k : ℕ) → k < length (cuts ++ set ∷ []) → (k < length cuts) ⊎ (k ≡ length cuts)
before-or_last cuts set k b = elim (eqb_tells k (length cuts)) [
  | inl same ↦ inr same.1
  | inr apart ↦ (let below : k < length cuts = omega (arith, b, length_push cuts set, apart.1) in inl below)
]

module _ (kinds : ℕ) (cuts : List ℕ) (set : ℕ) (are : AreCuts kinds cuts) (some : 1 ≤ set) (inside : set < 2 ^ kinds) (apart : (k : ℕ) → k < length cuts → slice_index cuts k ≢ set) where
  more-some : (k : ℕ) → k < length (cuts ++ set ∷ []) → 1 ≤ slice_index (cuts ++ set ∷ []) k
  more-some k b = elim (before-or_last cuts set k b) [
    | inl before ↦ subst (λ x. 1 ≤ x) (sym (pushed-before cuts set k before)) (are.some k before)
    | inr last ↦ subst (λ x. 1 ≤ x) (sym (pushed-last cuts set k last)) some
  ]

  more-inside : (k : ℕ) → k < length (cuts ++ set ∷ []) → slice_index (cuts ++ set ∷ []) k < 2 ^ kinds
  more-inside k b = elim (before-or_last cuts set k b) [
    | inl before ↦ subst (λ x. x < 2 ^ kinds) (sym (pushed-before cuts set k before)) (are.inside k before)
    | inr last ↦ subst (λ x. x < 2 ^ kinds) (sym (pushed-last cuts set k last)) inside
  ]

  more-distinct : (j k : ℕ) → j < k → k < length (cuts ++ set ∷ []) → slice_index (cuts ++ set ∷ []) j ≢ slice_index (cuts ++ set ∷ []) k
  more-distinct j k l b same = elim (before-or_last cuts set k b) [
    | inl before ↦ are.distinct j k l before (sym (pushed-before cuts set j (omega (arith, l, before))) ∙ same ∙ pushed-before cuts set k before)
    | inr last ↦ (let first : j < length cuts = omega (arith, l, last) in apart j first (sym (pushed-before cuts set j first) ∙ same ∙ pushed-last cuts set k last))
  ]

  pub AreCuts-more : AreCuts kinds (cuts ++ set ∷ [])
  AreCuts-more = record { some = more-some; inside = more-inside; distinct = more-distinct }
