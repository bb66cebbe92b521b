-- The terms of a row so far, and what they give to a run of columns.
use Rattle.std.proofs.Common.{◌≡◌, ◌≢◌, ℕ, ◌+◌, ◌-◌, ◌*◌, ◌^◌, ◌<◌, ◌≤◌, inl, inr, ℤ, pos, ◌+ℤ◌, ◌*ℤ◌, to_z, of_z, lit<, unsigned_abs, List, [], ◌∷◌, length, get_or, set, take, drop, All, sym, ap, ◌∙◌, subst, arith, mul-le-mul, min}
use Rattle.std.proofs.lemmas.Bool.{cases_eq}
use Rattle.std.proofs.lemmas.List.{take-append-drop, get_or-take, get_or-drop, get_or-set_same, get_or-set_other, take_all, take_more, length-take, length-drop, length-set}
use Rattle.std.proofs.lemmas.List.Elements.{All-take, All-drop}
use Rattle.md_math.specs.Lists.{number_at}
use Rattle.md_math.specs.Sizes.{IsWithin, AllWithin}
use Rattle.md_math.proofs.Ring.{linear, +ℤ-*ℤ, zero-*ℤ, *ℤ-zero}
use Rattle.md_math.proofs.SizeLaws.{IsWithin-+ℤ, IsWithin-*ℤ, AllWithin-number_at}
use Rattle.md_lp.specs.declared.term.Term.{Term}
use Rattle.md_lp.specs.Program.{value_of}
use Rattle.md_lp.specs.Runs.{AddsRow}
use Rattle.md_lp.specs.Search.{StartsFrom}
use Rattle.md_lp.specs.Shape.{column_in, IsAscending}
use mir.Syntax.{w128}
use Rattle.md_math.proofs.Bits.{read_within}
use Rattle.md_lp.proofs.SparseRows.{no_term, value_of-absent, value_of-append, value_of-within, value_of-present}

-- ---- a part of the terms

pub IsAscending-take : (terms : List Term) (n : ℕ) → IsAscending terms → IsAscending (take n terms)
IsAscending-take terms n h = record {
  ascending = λ i k l b.
      let below : k < min n (length terms) = rw (← length-take n terms) b in
      let here : column_in (take n terms) k ≡ column_in terms k = ap (λ (t : Term). t.column) (get_or-take n terms k no_term (omega arith)) in
      let there : column_in (take n terms) i ≡ column_in terms i = ap (λ (t : Term). t.column) (get_or-take n terms i no_term (omega arith)) in
      let above : column_in terms i < column_in terms k = h.ascending i k l (omega arith) in
      omega arith;
}

column_in-drop : (terms : List Term) (n k : ℕ) → column_in (drop n terms) k ≡ column_in terms (n + k)
column_in-drop terms n k = ap (λ (t : Term). t.column) (get_or-drop n terms k no_term)

pub IsAscending-drop : (terms : List Term) (n : ℕ) → IsAscending terms → IsAscending (drop n terms)
IsAscending-drop terms n h = record {
  ascending = λ i k l b.
      let inside : k < length terms - n = rw (← length-drop n terms) b in
      let above : column_in terms (n + i) < column_in terms (n + k) = h.ascending (n + i) (n + k) (omega arith) (omega arith) in
      omega (arith, column_in-drop terms n i, column_in-drop terms n k);
}

-- the coefficient is what the terms so far and the others give
value_of-parts : (terms : List Term) (n j : ℕ) → value_of terms j ≡ value_of (take n terms) j +ℤ value_of (drop n terms) j
value_of-parts terms n j = ap (λ ts. value_of ts j) (sym (take-append-drop n terms)) ∙ value_of-append (take n terms) (drop n terms) j

-- no term of the first n stands at the column
pub value_of-drop : (terms : List Term) (n j : ℕ) → n ≤ length terms → ((k : ℕ) → k < n → column_in terms k ≢ j) → value_of (drop n terms) j ≡ value_of terms j
value_of-drop terms n j b h =
    let none : value_of (take n terms) j ≡ pos 0 = value_of-absent (take n terms) j (λ k c e.
    let below : k < min n (length terms) = rw (← length-take n terms) c in
    let here : column_in (take n terms) k ≡ column_in terms k = ap (λ (t : Term). t.column) (get_or-take n terms k no_term (omega arith)) in
    h k (omega arith) (sym here ∙ e)) in
    let parts : value_of terms j ≡ value_of (take n terms) j +ℤ value_of (drop n terms) j = value_of-parts terms n j in
    omega (arith, linear)

-- no term from place n on stands at the column
pub value_of-take : (terms : List Term) (n j : ℕ) → ((k : ℕ) → n ≤ k → k < length terms → column_in terms k ≢ j) → value_of (take n terms) j ≡ value_of terms j
value_of-take terms n j h =
    let none : value_of (drop n terms) j ≡ pos 0 = value_of-absent (drop n terms) j (λ k c e.
    let inside : k < length terms - n = rw (← length-drop n terms) c in
    h (n + k) (omega arith) (omega arith) (sym (column_in-drop terms n k) ∙ e)) in
    let parts : value_of terms j ≡ value_of (take n terms) j +ℤ value_of (drop n terms) j = value_of-parts terms n j in
    omega (arith, linear)

-- ---- one more term

module _ (terms : List Term) (i : ℕ) (b : i < length terms) where
  value_of-more : (j : ℕ) → value_of (take (i + 1) terms) j ≡ value_of (take i terms) j +ℤ value_of (get_or terms i no_term ∷ []) j
  value_of-more j = ap (λ ts. value_of ts j) (take_more terms i no_term b) ∙ value_of-append (take i terms) (get_or terms i no_term ∷ []) j

  pub value_of-more_here : value_of (take (i + 1) terms) (column_in terms i) ≡ value_of (take i terms) (column_in terms i) +ℤ (get_or terms i no_term).value
  value_of-more_here =
      let alone : value_of (get_or terms i no_term ∷ []) (column_in terms i) ≡ (get_or terms i no_term).value = value_of-alone (get_or terms i no_term) in
      let more = value_of-more (column_in terms i) in
      omega (arith, linear)
    where
      value_of-alone : (t : Term) → value_of (t ∷ []) t.column ≡ t.value
      value_of-alone t = value_of-present (t ∷ []) 0 (record { ascending = λ i k l b. absurd (omega arith) }) (omega arith)

  pub value_of-more_elsewhere : (j : ℕ) → column_in terms i ≢ j → value_of (take (i + 1) terms) j ≡ value_of (take i terms) j
  value_of-more_elsewhere j d =
      let none : value_of (get_or terms i no_term ∷ []) j ≡ pos 0 = value_of-absent (get_or terms i no_term ∷ []) j (λ k c e. d (ap (λ m. column_in (get_or terms i no_term ∷ []) m) {x = 0} (omega arith) ∙ e)) in
      let more = value_of-more j in
      omega (arith, linear)

-- ---- a run of sums

-- the sums after the first i terms
pub record AddsSoFar (terms : List Term) (i first : ℕ) (weight : ℤ) (old new : List ℤ) : Type 0 where
  pub sums : (k : ℕ) → k < length new → number_at new k ≡ number_at old k +ℤ value_of (take i terms) (first + k) *ℤ weight

pub AddsSoFar-none : (terms : List Term) (first : ℕ) (weight : ℤ) (old : List ℤ) → AddsSoFar terms 0 first weight old old
AddsSoFar-none terms first weight old = record { sums = λ k b. (let e : pos 0 *ℤ weight ≡ pos 0 = zero-*ℤ weight in omega (arith, linear)) }

pub AddsSoFar-more : (terms : List Term) (i first : ℕ) (weight sum : ℤ) (old new : List ℤ) → i < length terms → first ≤ column_in terms i → AddsSoFar terms i first weight old new → sum ≡ number_at new (column_in terms i - first) +ℤ (get_or terms i no_term).value *ℤ weight → AddsSoFar terms (i + 1) first weight old (set new (column_in terms i - first) sum)
AddsSoFar-more terms i first weight sum old new b from h e = record {
  sums = λ k c.
      let inside : k < length new = omega (arith, length-set new (column_in terms i - first) sum) in
      elim (cases_eq k (column_in terms i - first)) [
        | inl same ↦
            let column : first + k ≡ column_in terms i = omega arith in
            let at : number_at (set new (column_in terms i - first) sum) k ≡ sum = rw same (get_or-set_same new (column_in terms i - first) sum (pos 0) (omega arith)) in
            let before : number_at new k ≡ number_at old k +ℤ value_of (take i terms) (first + k) *ℤ weight = h.sums k inside in
            let now : sum ≡ number_at new k +ℤ (get_or terms i no_term).value *ℤ weight = rw same e in
            let more : value_of (take (i + 1) terms) (first + k) ≡ value_of (take i terms) (first + k) +ℤ (get_or terms i no_term).value = rw column (value_of-more_here terms i b) in
            let product : value_of (take (i + 1) terms) (first + k) *ℤ weight ≡ value_of (take i terms) (first + k) *ℤ weight +ℤ (get_or terms i no_term).value *ℤ weight =
            ap (λ z. z *ℤ weight) more ∙ +ℤ-*ℤ (value_of (take i terms) (first + k)) (get_or terms i no_term).value weight in
            omega (arith, linear)
        | inr other ↦
            let at : number_at (set new (column_in terms i - first) sum) k ≡ number_at new k = get_or-set_other new (column_in terms i - first) k sum (pos 0) other in
            let before : number_at new k ≡ number_at old k +ℤ value_of (take i terms) (first + k) *ℤ weight = h.sums k inside in
            let same : value_of (take (i + 1) terms) (first + k) ≡ value_of (take i terms) (first + k) = value_of-more_elsewhere terms i b (first + k) (λ f. omega arith) in
            let product : value_of (take (i + 1) terms) (first + k) *ℤ weight ≡ value_of (take i terms) (first + k) *ℤ weight = ap (λ z. z *ℤ weight) same in
            omega (arith, linear)
      ];
}

-- at the end of the terms
pub AddsRow-all : (terms : List Term) (i first : ℕ) (weight : ℤ) (old new : List ℤ) → length terms ≤ i → AddsSoFar terms i first weight old new → AddsRow terms first weight old new
AddsRow-all terms i first weight old new b h = record { sums = λ k c. rw (take_all i terms b) at (h.sums k c) }

-- at a term past the run
pub AddsRow-past : (terms : List Term) (i first : ℕ) (weight : ℤ) (old new : List ℤ) → IsAscending terms → i < length terms → first ≤ column_in terms i → length new ≤ column_in terms i - first → AddsSoFar terms i first weight old new → AddsRow terms first weight old new
AddsRow-past terms i first weight old new ascending b from past h = record {
  sums = λ k c.
      let same : value_of (take i terms) (first + k) ≡ value_of terms (first + k) = value_of-take terms i (first + k) (λ m l d e.
      elim (cases_eq i m) [
        | inl f ↦ (let g : column_in terms i ≡ column_in terms m = ap (column_in terms) f in omega arith)
        | inr f ↦ (let above : column_in terms i < column_in terms m = ascending.ascending i m (omega arith) d in omega arith)
      ]) in
      rw same at (h.sums k c);
}

-- the terms before the run give nothing to it
pub AddsRow-from : (terms rest : List Term) (first : ℕ) (weight : ℤ) (old new : List ℤ) → StartsFrom terms first rest → AddsRow rest first weight old new → AddsRow terms first weight old new
AddsRow-from terms rest first weight old new s h = record {
  sums = λ k c.
      let same : value_of rest (first + k) ≡ value_of terms (first + k) =
      ap (λ ts. value_of ts (first + k)) s.is ∙ value_of-drop terms s.place (first + k) s.in_range (λ m l e. (let below : column_in terms m < first = s.before m l in omega arith)) in
      rw same at (h.sums k c);
}

-- the next term of a run has room
pub run_room : (terms : List Term) (i first : ℕ) (weight : ℤ) (old new : List ℤ) (k : ℕ) → IsAscending terms → All (λ t. IsWithin (2 ^ 44) t.value) terms → IsWithin (2 ^ 62 - 1) weight → AllWithin (2 ^ 124) old → AddsSoFar terms i first weight old new → i < length terms → k < length new → unsigned_abs (number_at new k) + unsigned_abs (get_or terms i no_term).value * unsigned_abs weight < 2 ^ 126
run_room terms i first weight old new k ascending values small room h b c =
    let part : IsWithin (2 ^ 44) (value_of (take i terms) (first + k)) = value_of-within (2 ^ 44) (take i terms) (first + k) (IsAscending-take terms i ascending) (All-take (λ t. IsWithin (2 ^ 44) t.value) i terms values) in
    let product : IsWithin (2 ^ 44 * (2 ^ 62 - 1)) (value_of (take i terms) (first + k) *ℤ weight) = IsWithin-*ℤ (2 ^ 44) (2 ^ 62 - 1) _ weight part small in
    let before : IsWithin (2 ^ 124) (number_at old k) = AllWithin-number_at (2 ^ 124) old k room in
    let sum : IsWithin (2 ^ 124 + 2 ^ 44 * (2 ^ 62 - 1)) (number_at new k) = subst (IsWithin (2 ^ 124 + 2 ^ 44 * (2 ^ 62 - 1))) (sym (h.sums k c)) (IsWithin-+ℤ (2 ^ 124) (2 ^ 44 * (2 ^ 62 - 1)) (number_at old k) _ before product) in
    let value : IsWithin (2 ^ 44) (get_or terms i no_term).value = values i no_term b in
    let step : unsigned_abs (get_or terms i no_term).value * unsigned_abs weight ≤ 2 ^ 44 * (2 ^ 62 - 1) = mul-le-mul value.within small.within in
    omega (arith, sum.within)

-- a row whose number is 0 gives nothing
pub AddsRow-zero : (terms : List Term) (first : ℕ) (weight : ℤ) (sums : List ℤ) → weight ≡ pos 0 → AddsRow terms first weight sums sums
AddsRow-zero terms first weight sums e = record {
  sums = λ k b. (let z : value_of terms (first + k) *ℤ weight ≡ pos 0 = rw e (*ℤ-zero (value_of terms (first + k))) in omega (arith, linear));
}

pub AddsRow-no_weight : (terms : List Term) (first : ℕ) (weight : ℤ) (sums : List ℤ) → IsWithin (2 ^ 62 - 1) weight → of_z w128 weight ≡ 0 → AddsRow terms first weight sums sums
AddsRow-no_weight terms first weight sums h e = AddsRow-zero terms first weight sums (sym (read_within (2 ^ 62 - 1) weight h (lit< tt)) ∙ ap (to_z w128) e)

-- ---- what the terms from a column on keep

pub StartsFrom-ascending : (terms rest : List Term) (first : ℕ) → StartsFrom terms first rest → IsAscending terms → IsAscending rest
StartsFrom-ascending terms rest first s h = rw s.is (IsAscending-drop terms s.place h)

pub StartsFrom-above : (terms rest : List Term) (first : ℕ) → StartsFrom terms first rest → (k : ℕ) → k < length rest → first ≤ column_in rest k
StartsFrom-above terms rest first s k b =
    let short : length rest ≡ length terms - s.place = ap length s.is ∙ length-drop s.place terms in
    let after : first ≤ column_in terms (s.place + k) = s.after (s.place + k) (omega arith) (omega arith) in
    omega (arith, ap (λ ts. column_in ts k) s.is, column_in-drop terms s.place k)

pub StartsFrom-values : (terms rest : List Term) (first : ℕ) → StartsFrom terms first rest → All (λ t. IsWithin (2 ^ 44) t.value) terms → All (λ t. IsWithin (2 ^ 44) t.value) rest
StartsFrom-values terms rest first s h = rw s.is (All-drop (λ t. IsWithin (2 ^ 44) t.value) s.place terms h)
