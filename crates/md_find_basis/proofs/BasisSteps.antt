-- Reading a basis record by record.
use Rattle.std.proofs.Common.{◌≡◌, ℕ, suc, List, [], ◌∷◌, ◌++◌, pos, true, false, codes, Ok, Err, refl, subst}
use Rattle.md_parts.specs.declared.refusal.AnswerRefusal.{AnswerRefusal}
use Rattle.md_parts.specs.Fields.{free_place_field}
use Rattle.md_parts.specs.FieldsRead.{FailsIn, Reads}
use Rattle.md_parts.specs.Left.{Left}
use Rattle.md_parts.specs.Reading.{Rest}
use Rattle.md_parts.specs.Records.{record_with}
use Rattle.md_parts.specs.Repeated.{comes_next}
use Rattle.md_parts.proofs.RecordSteps.{record-fails, record-missing, record-read}
use Rattle.md_find_basis.specs.Basis.{Listed, listed_as, one_more, with_more, with_next}

-- ---- a record

module _ (word : List ℕ) (below : ℕ) (before taken : List ℕ) (rest after : Rest) (left : Left) (same : taken ≡ before) where
  pub more-read : (end : Left) (number : ℕ) → record_with word 1 rest ≡ Ok (left, after) → Reads (free_place_field 0 below taken ∷ []) left end (pos number ∷ [])
      → one_more word below before rest ≡ Ok (before ++ number ∷ [], after)
  more-read end number h reads =
      let own = subst (λ (xs : List ℕ). Reads (free_place_field 0 below xs ∷ []) left end (pos number ∷ [])) same reads in
      rw (record-read word (free_place_field 0 below before ∷ []) 1 rest after left end (pos number ∷ []) refl h own) refl

  pub more-fails : (refusal : AnswerRefusal) → record_with word 1 rest ≡ Ok (left, after) → FailsIn (free_place_field 0 below taken ∷ []) left refusal → one_more word below before rest ≡ Err refusal
  more-fails refusal h fails =
      let own = subst (λ (xs : List ℕ). FailsIn (free_place_field 0 below xs ∷ []) left refusal) same fails in
      rw (record-fails word (free_place_field 0 below before ∷ []) 1 rest after left refusal refl h own) refl

pub more-missing : (word : List ℕ) (below : ℕ) (before : List ℕ) (rest : Rest) (refusal : AnswerRefusal) → record_with word 1 rest ≡ Err refusal → one_more word below before rest ≡ Err refusal
more-missing word below before rest refusal h = rw (record-missing word (free_place_field 0 below before ∷ []) 1 rest refusal refl h) refl

-- ---- a column or a slack

module _ (columns rows : ℕ) (listed : Listed) (rest : Rest) where
  pub column-next : (numbers : List ℕ) (after : Rest) → comes_next (codes "column") rest.left ≡ true → one_more (codes "column") columns listed.columns rest ≡ Ok (numbers, after)
      → with_next columns rows listed rest ≡ Ok (listed_as numbers listed.slacks, after)
  column-next numbers after comes one = rw (comes, one) refl

  pub column-wrong : (refusal : AnswerRefusal) → comes_next (codes "column") rest.left ≡ true → one_more (codes "column") columns listed.columns rest ≡ Err refusal → with_next columns rows listed rest ≡ Err refusal
  column-wrong refusal comes one = rw (comes, one) refl

  pub slack-next : (numbers : List ℕ) (after : Rest) → comes_next (codes "column") rest.left ≡ false → one_more (codes "slack") rows listed.slacks rest ≡ Ok (numbers, after)
      → with_next columns rows listed rest ≡ Ok (listed_as listed.columns numbers, after)
  slack-next numbers after comes one = rw (comes, one) refl

  pub slack-wrong : (refusal : AnswerRefusal) → comes_next (codes "column") rest.left ≡ false → one_more (codes "slack") rows listed.slacks rest ≡ Err refusal → with_next columns rows listed rest ≡ Err refusal
  slack-wrong refusal comes one = rw (comes, one) refl

-- ---- so many

pub next-more : (columns rows left fewer : ℕ) (listed next : Listed) (rest after : Rest) → left ≡ suc fewer → with_next columns rows listed rest ≡ Ok (next, after)
    → with_more columns rows left listed rest ≡ with_more columns rows fewer next after
next-more columns rows left fewer listed next rest after e one = rw (e, one) refl

pub next-wrong : (columns rows left fewer : ℕ) (listed : Listed) (rest : Rest) (refusal : AnswerRefusal) → left ≡ suc fewer → with_next columns rows listed rest ≡ Err refusal
    → with_more columns rows left listed rest ≡ Err refusal
next-wrong columns rows left fewer listed rest refusal e one = rw (e, one) refl

pub no-more : (columns rows left : ℕ) (listed : Listed) (rest : Rest) → left ≡ 0 → with_more columns rows left listed rest ≡ Ok (listed, rest)
no-more columns rows left listed rest e = rw e refl
