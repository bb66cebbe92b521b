-- A row of the first dictionary, built from the numbers that are not 0.
use Rattle.std.proofs.Common.{◌≡◌, ◌≢◌, ℕ, zero, suc, ◌+◌, ◌-◌, ◌*◌, ◌^◌, ◌<◌, ◌≤◌, ◌&&◌, ◌==◌, Bool, true, false, if◌then◌else◌, List, [], ◌∷◌, ◌++◌, length, replicate, get_or, refl, sym, ap, ◌∙◌, subst, inl, inr, arith, ℤ, pos, ◌*ℤ◌, neg_ℤ, lt-ltb, le-ltb, eq-eqb, ne_eqb}
use Rattle.std.proofs.lemmas.Bool.{cases_lt, cases_eq}
use Rattle.std.proofs.lemmas.List.{append-nil, append_assoc, length-append, length-replicate, get_or-replicate, length_push}
use Rattle.md_math.specs.Lists.{number_at}
use Rattle.md_math.specs.Sizes.{IsWithin}
use Rattle.md_math.proofs.Ring.{*ℤ-zero}
use Rattle.md_math.proofs.SizeLaws.{IsWithin-zero}
use Rattle.md_lp.specs.declared.row_kind.RowKind.TheVariants.{AtMost}
use Rattle.md_lp.specs.Program.{Program, row_count, row_at, kind_at, right_at, coefficient_at, cost_at}
use Rattle.md_lp.specs.Shape.{column_in, HasPlaces}
use Rattle.md_lp.proofs.SparseRows.{no_term, value_of-absent, value_of-present}
use Rattle.md_dict.specs.FirstTable.{column_count, first_column, first_number, is_at_most, main_entry, row_entry, sign_at, slacks_before}
use Rattle.md_dict.specs.Start.{IsBuilt}
use Rattle.md_dict.specs.FirstRows.{IsBuiltBefore}
use Rattle.md_dict.proofs.Building.{IsBuilt-push, main_is}

-- numbers of one row that are appended
pub IsBuilt-append : (p : Program) (kept xs : List ℤ) (r s : ℕ) → IsBuilt p kept → length kept ≡ r * (column_count p + 1) + s → s + length xs ≤ column_count p + 1 → ((k : ℕ) → k < length xs → number_at xs k ≡ first_number p r (s + k)) → (r < row_count p → (k : ℕ) → k < length xs → IsWithin (2 ^ 44) (number_at xs k)) → IsBuilt p (kept ++ xs)
IsBuilt-append p kept [] r s h e a v w = subst (IsBuilt p) (sym (append-nil kept)) h
IsBuilt-append p kept (x ∷ xs) r s h e a v w =
    let here : x ≡ first_number p r s = v 0 (omega arith) ∙ ap (λ t. first_number p r t) {x = s + 0} (omega arith) in
    let one : IsBuilt p (kept ++ x ∷ []) = IsBuilt-push p kept r s x h e (omega arith) here (λ b. w b 0 (omega arith)) in
    let long : length (kept ++ x ∷ []) ≡ r * (column_count p + 1) + (s + 1) = omega (arith, length_push kept x) in
    subst (IsBuilt p) (append_assoc kept (x ∷ []) xs)
    (IsBuilt-append p (kept ++ x ∷ []) xs r (s + 1) one long (omega arith)
    (λ k b. v (suc k) (omega arith) ∙ ap (λ t. first_number p r t) {x = s + suc k} (omega arith))
    (λ b k c. w b (suc k) (omega arith)))

-- a list that is filled up with zeros, and then a number
pub length-filled : (n : ℕ) (kept : List ℤ) (x : ℤ) → length kept ≤ n → length (kept ++ (replicate (n - length kept) (pos 0) ++ x ∷ [])) ≡ n + 1
length-filled n kept x b = omega (arith, length-append kept (replicate (n - length kept) (pos 0) ++ x ∷ []), length_push (replicate (n - length kept) (pos 0)) x, length-replicate (n - length kept) (pos 0))

-- places whose numbers are 0
IsBuiltBefore-zeros : (p : Program) (kept : List ℤ) (r t u : ℕ) → IsBuiltBefore p r t kept → t ≤ u → ((s : ℕ) → t ≤ s → s < u → first_number p r s ≡ pos 0) → IsBuiltBefore p r u kept
IsBuiltBefore-zeros p kept r t u h a z = record {
  built = h.built;
  from = h.from;
  to = omega (arith, h.to);
  zeros = λ s b c.
      elim (cases_lt s t) [
        | inl l ↦ h.zeros s b l
        | inr l ↦ z s l c
      ];
}

-- the zeros before a place
module _ (p : Program) (kept : List ℤ) (r t : ℕ) (h : IsBuiltBefore p r t kept) (a : t < column_count p + 1) where
  abbrev zeros : List ℤ
  zeros = replicate (r * (column_count p + 1) + t - length kept) (pos 0)

  count : length zeros ≡ r * (column_count p + 1) + t - length kept
  count = length-replicate (r * (column_count p + 1) + t - length kept) (pos 0)

  start : length kept ≡ r * (column_count p + 1) + (length kept - r * (column_count p + 1))
  start = omega (arith, h.from)

  end : length (kept ++ zeros) ≡ r * (column_count p + 1) + t
  end = omega (arith, length-append kept zeros, count, h.to)

  filled : IsBuilt p (kept ++ zeros)
  filled =
      IsBuilt-append p kept zeros r (length kept - r * (column_count p + 1)) h.built start (omega (arith, count, h.from, h.to))
      (λ k b. zero k b ∙ sym (h.zeros (length kept - r * (column_count p + 1) + k) (omega (arith, h.from)) (omega (arith, count, b, h.from, h.to))))
      (λ _ k b. subst (IsWithin (2 ^ 44)) (sym (zero k b)) (IsWithin-zero (2 ^ 44)))
    where
      zero : (k : ℕ) → k < length zeros → number_at zeros k ≡ pos 0
      zero k b = get_or-replicate (r * (column_count p + 1) + t - length kept) k (pos 0) (pos 0) (omega (arith, count, b))

  -- a number behind them
  IsBuiltBefore-number : (x : ℤ) → x ≡ first_number p r t → (r < row_count p → IsWithin (2 ^ 44) x) → IsBuiltBefore p r (t + 1) (kept ++ (replicate (r * (column_count p + 1) + t - length kept) (pos 0) ++ x ∷ []))
  IsBuiltBefore-number x e w =
      let long : length ((kept ++ zeros) ++ x ∷ []) ≡ r * (column_count p + 1) + (t + 1) = omega (arith, length_push (kept ++ zeros) x, end) in
      let whole : IsBuilt p ((kept ++ zeros) ++ x ∷ []) = IsBuilt-push p (kept ++ zeros) r t x filled end a e w in
      subst (IsBuiltBefore p r (t + 1)) (append_assoc kept zeros (x ∷ [])) (record { built = whole; from = omega (arith, long); to = omega (arith, long); zeros = λ s b c. absurd (omega (arith, long)) })

-- ---- the numbers of a program row

-- an at-most row has a slack column before those of the later rows
slacks_more : (p : Program) (k n : ℕ) → k < n → kind_at p k ≡ AtMost → slacks_before p k < slacks_before p n
slacks_more p k zero a e = absurd (omega arith)
slacks_more p k (suc n) a e =
    elim (cases_eq k n) [
      | inl same ↦
          let one : slacks_before p (suc k) ≡ slacks_before p k + 1 = rw e refl in
          let here : slacks_before p (suc k) ≡ slacks_before p (suc n) = ap (λ m. slacks_before p (suc m)) same in
          omega arith
      | inr other ↦ (let h : slacks_before p k < slacks_before p n = slacks_more p k n (omega arith) e in omega arith)
    ]

module _ (p : Program) (r : ℕ) (b : r < row_count p) where
  of_row : (s : ℕ) → first_number p r s ≡ row_entry p r (first_column p s)
  of_row s = rw (lt-ltb r (row_count p) b) refl

  of_own_column : (s : ℕ) → s < column_count p → first_number p r s ≡ row_entry p r s
  of_own_column s a = of_row s ∙ ap (row_entry p r) (let e : first_column p s ≡ s = rw (lt-ltb s (column_count p) a) refl in e)

  number_of_column : (s : ℕ) → s < p.columns → first_number p r s ≡ sign_at p r *ℤ coefficient_at p r s
  number_of_column s a = of_own_column s (omega arith) ∙ (let e : row_entry p r s ≡ sign_at p r *ℤ coefficient_at p r s = rw (lt-ltb s p.columns a) refl in e)

  number_of_right : first_number p r (column_count p) ≡ sign_at p r *ℤ right_at p r
  number_of_right =
      let column : first_column p (column_count p) ≡ column_count p + row_count p = rw (le-ltb (column_count p) (column_count p) (omega arith)) refl in
      of_row (column_count p) ∙ ap (row_entry p r) column
      ∙ (let e : row_entry p r (column_count p + row_count p) ≡ sign_at p r *ℤ right_at p r =
      rw (le-ltb (column_count p + row_count p) p.columns (omega arith), le-ltb (column_count p + row_count p) (column_count p) (omega arith), le-ltb (column_count p + row_count p) (column_count p + row_count p) (omega arith)) refl in e)

  -- a slack column has the row's sign in its own row, and 0 in the others
  slack_column : (s : ℕ) → p.columns ≤ s → s < column_count p → row_entry p r s ≡ (if is_at_most (kind_at p r) && (s == p.columns + slacks_before p r) then sign_at p r else pos 0)
  slack_column s a c = rw (le-ltb s p.columns a, lt-ltb s (column_count p) c) refl

  number_of_slack : kind_at p r ≡ AtMost → first_number p r (p.columns + slacks_before p r) ≡ sign_at p r
  number_of_slack e =
      let inside : slacks_before p r < slacks_before p (row_count p) = slacks_more p r (row_count p) b e in
      let own : first_number p r (p.columns + slacks_before p r) ≡ row_entry p r (p.columns + slacks_before p r) = of_own_column (p.columns + slacks_before p r) (omega arith) in
      let slack : row_entry p r (p.columns + slacks_before p r) ≡ (if is_at_most (kind_at p r) && (p.columns + slacks_before p r == p.columns + slacks_before p r) then sign_at p r else pos 0) =
      slack_column (p.columns + slacks_before p r) (omega arith) (omega arith) in
      own ∙ slack ∙ (rw (e, eq-eqb (p.columns + slacks_before p r) (p.columns + slacks_before p r) refl) refl)

  number_of_other_slack : (s : ℕ) → p.columns ≤ s → s < column_count p → s ≢ p.columns + slacks_before p r → first_number p r s ≡ pos 0
  number_of_other_slack s a c d = of_own_column s c ∙ slack_column s a c ∙ (rw (ne_eqb s (p.columns + slacks_before p r) d) (no_other (is_at_most (kind_at p r))))
    where
      no_other : (x : Bool) → (if x && false then sign_at p r else pos 0) ≡ pos 0
      no_other true = refl
      no_other false = refl

  -- the slack column
  pub with_slack : (kept : List ℤ) (x : ℤ) → kind_at p r ≡ AtMost → IsBuiltBefore p r p.columns kept → x ≡ sign_at p r → IsWithin (2 ^ 44) x → IsBuiltBefore p r (column_count p) (kept ++ (replicate (r * (column_count p + 1) + (p.columns + slacks_before p r) - length kept) (pos 0) ++ x ∷ []))
  with_slack kept x e h v w =
      let inside : slacks_before p r < slacks_before p (row_count p) = slacks_more p r (row_count p) b e in
      let before : IsBuiltBefore p r (p.columns + slacks_before p r) kept =
      IsBuiltBefore-zeros p kept r p.columns (p.columns + slacks_before p r) h (omega arith) (λ s a c. number_of_other_slack s a (omega arith) (λ f. omega arith)) in
      IsBuiltBefore-zeros p (kept ++ (replicate (r * (column_count p + 1) + (p.columns + slacks_before p r) - length kept) (pos 0) ++ x ∷ [])) r (p.columns + slacks_before p r + 1) (column_count p)
      (IsBuiltBefore-number p kept r (p.columns + slacks_before p r) before (omega arith) x (v ∙ sym (number_of_slack e)) (λ _. w)) (omega arith) (λ s a c. number_of_other_slack s (omega arith) c (λ f. omega arith))

  -- the right side
  pub with_right : (kept : List ℤ) (x : ℤ) → IsBuiltBefore p r (column_count p) kept → x ≡ sign_at p r *ℤ right_at p r → IsWithin (2 ^ 44) x → IsBuilt p (kept ++ (replicate (r * (column_count p + 1) + column_count p - length kept) (pos 0) ++ x ∷ []))
  with_right kept x h v w = (IsBuiltBefore-number p kept r (column_count p) h (omega arith) x (v ∙ sym number_of_right) (λ _. w)).built

-- ---- the terms of a program row

-- the first k terms of the row are appended, each at its column
pub record HasTerms (p : Program) (r k : ℕ) (kept : List ℤ) : Type 0 where
  pub built : IsBuilt p kept
  pub from : r * (column_count p + 1) ≤ length kept
  pub to : length kept ≤ r * (column_count p + 1) + p.columns
  pub before : (i : ℕ) → i < k → r * (column_count p + 1) + column_in (row_at p r).terms i < length kept
  pub after : (i : ℕ) → k ≤ i → i < length (row_at p r).terms → length kept ≤ r * (column_count p + 1) + column_in (row_at p r).terms i

pub HasTerms-none : (p : Program) (r : ℕ) (kept : List ℤ) → IsBuilt p kept → length kept ≡ r * (column_count p + 1) → HasTerms p r 0 kept
HasTerms-none p r kept h e = record { built = h; from = omega arith; to = omega arith; before = λ i b. absurd (omega arith); after = λ i b c. omega arith }

module _ (p : Program) (r : ℕ) (b : r < row_count p) (places : HasPlaces p.columns (row_at p r).terms) (k : ℕ) (kept : List ℤ) (h : HasTerms p r k kept) where
  -- what stands between the last of these terms and a place that is not behind the next one
  up_to : (t : ℕ) → t ≤ p.columns → length kept ≤ r * (column_count p + 1) + t → ((i : ℕ) → k ≤ i → i < length (row_at p r).terms → t ≤ column_in (row_at p r).terms i) → IsBuiltBefore p r t kept
  up_to t a c d = record {
    built = h.built;
    from = h.from;
    to = c;
    zeros = λ s l m.
        let none : coefficient_at p r s ≡ pos 0 = value_of-absent (row_at p r).terms s (λ i n e.
        elim (cases_lt i k) [
          | inl f ↦ (let g : r * (column_count p + 1) + column_in (row_at p r).terms i < length kept = h.before i f in omega arith)
          | inr f ↦ (let g : t ≤ column_in (row_at p r).terms i = d i f n in omega arith)
        ]) in
        number_of_column p r b s (omega arith) ∙ ap (λ z. sign_at p r *ℤ z) none ∙ *ℤ-zero (sign_at p r);
  }

  pub HasTerms-all : length (row_at p r).terms ≤ k → IsBuiltBefore p r p.columns kept
  HasTerms-all a = up_to p.columns (omega arith) h.to (λ i c d. absurd (omega arith))

  module _ (inside : k < length (row_at p r).terms) where
    column_below : column_in (row_at p r).terms k < p.columns
    column_below = places.below k inside

    pub column_reached : length kept ≤ r * (column_count p + 1) + column_in (row_at p r).terms k
    column_reached = h.after k (omega arith) inside

    next_up_to : IsBuiltBefore p r (column_in (row_at p r).terms k) kept
    next_up_to =
        up_to (column_in (row_at p r).terms k) (omega (arith, column_below)) column_reached (λ i c d.
        elim (cases_eq k i) [
          | inl e ↦ (let f : column_in (row_at p r).terms k ≡ column_in (row_at p r).terms i = ap (column_in (row_at p r).terms) e in omega arith)
          | inr e ↦ (let f : column_in (row_at p r).terms k < column_in (row_at p r).terms i = places.order.ascending k i (omega arith) d in omega arith)
        ])

    pub HasTerms-next : (x : ℤ) → x ≡ sign_at p r *ℤ (get_or (row_at p r).terms k no_term).value → IsWithin (2 ^ 44) x → HasTerms p r (k + 1) (kept ++ (replicate (r * (column_count p + 1) + column_in (row_at p r).terms k - length kept) (pos 0) ++ x ∷ []))
    HasTerms-next x e w =
        let column : column_in (row_at p r).terms k < column_count p + 1 = omega (arith, column_below) in
        let value : x ≡ first_number p r (column_in (row_at p r).terms k) =
        e ∙ ap (λ z. sign_at p r *ℤ z) (sym (value_of-present (row_at p r).terms k places.order inside)) ∙ sym (number_of_column p r b (column_in (row_at p r).terms k) column_below) in
        let next = IsBuiltBefore-number p kept r (column_in (row_at p r).terms k) next_up_to column x value (λ _. w) in
        let long : length (kept ++ (replicate (r * (column_count p + 1) + column_in (row_at p r).terms k - length kept) (pos 0) ++ x ∷ [])) ≡ r * (column_count p + 1) + column_in (row_at p r).terms k + 1 = length-filled (r * (column_count p + 1) + column_in (row_at p r).terms k) kept x column_reached in
        record {
          built = next.built;
          from = next.from;
          to = omega (arith, long, column_below);
          before = λ i c.
              elim (cases_eq i k) [
                | inl e ↦ (let f : column_in (row_at p r).terms i ≡ column_in (row_at p r).terms k = ap (column_in (row_at p r).terms) e in omega (arith, long))
                | inr e ↦ (let f : column_in (row_at p r).terms i < column_in (row_at p r).terms k = places.order.ascending i k (omega arith) inside in omega (arith, long))
              ];
          after = λ i c d. (let f : column_in (row_at p r).terms k < column_in (row_at p r).terms i = places.order.ascending k i (omega arith) d in omega (arith, long));
        }

-- ---- the main row

-- minus the cost
pub main_number : (p : Program) (s : ℕ) → s < p.columns → first_number p (row_count p + 1) s ≡ neg_ℤ (cost_at p s)
main_number p s a = sym (main_is p (row_count p + 1) s (omega arith) (omega arith)) ∙ (let e : main_entry p s ≡ neg_ℤ (cost_at p s) = rw (lt-ltb s p.columns a) refl in e)

-- and then zeros
pub with_main_zeros : (p : Program) (kept : List ℤ) → IsBuilt p kept → length kept ≡ (row_count p + 1) * (column_count p + 1) + p.columns → IsBuiltBefore p (row_count p + 1) (column_count p + 1) (kept ++ (replicate ((row_count p + 1) * (column_count p + 1) + column_count p - length kept) (pos 0) ++ pos 0 ∷ []))
with_main_zeros p kept h e =
    let before : IsBuiltBefore p (row_count p + 1) p.columns kept = record { built = h; from = omega arith; to = omega arith; zeros = λ s a b. absurd (omega arith) } in
    let all : IsBuiltBefore p (row_count p + 1) (column_count p) kept = IsBuiltBefore-zeros p kept (row_count p + 1) p.columns (column_count p) before (omega arith) (λ s a b. zero s a (omega arith)) in
    IsBuiltBefore-number p kept (row_count p + 1) (column_count p) all (omega arith) (pos 0) (sym (zero (column_count p) (omega arith) (omega arith))) (λ _. IsWithin-zero (2 ^ 44))
  where
    zero : (s : ℕ) → p.columns ≤ s → s < column_count p + 1 → first_number p (row_count p + 1) s ≡ pos 0
    zero s a b = sym (main_is p (row_count p + 1) s (omega arith) b) ∙ (let e : main_entry p s ≡ pos 0 = rw (le-ltb s p.columns a) refl in e)
