-- Pivots one after the other: one more at the end, what holds at a place of them, and two beginnings of one list.
use Rattle.std.proofs.Common.{◌≡◌, ℕ, List, [], ◌∷◌, ◌++◌, ◌⊎◌, inl, inr, refl, sym, ap₂}
use Rattle.md_lp.specs.Program.{Program}
use Rattle.md_lp.specs.declared.pivot.Pivot.{Pivot}
use Rattle.md_simplex.specs.Path.{AllBefore, after, basis_after}
use Rattle.md_replay.specs.Replay.{AllLawful, IsLawful}

-- ---- one more

pub AllLawful-more : (p : Program) (basis : ℕ → ℕ) (pivots : List Pivot) (q : Pivot) → AllLawful p basis pivots → IsLawful p (basis_after basis pivots) q → AllLawful p basis (pivots ++ q ∷ [])
AllLawful-more p basis [] q h here = (here, tt)
AllLawful-more p basis (first ∷ pivots) q h here = (h.0, AllLawful-more p (after basis first) pivots q h.1 here)

-- ---- at a place

pub AllBefore-at : (P : (ℕ → ℕ) → Type 0) (basis : ℕ → ℕ) (front : List Pivot) (q : Pivot) (rest : List Pivot) → AllBefore P basis (front ++ (q ∷ rest)) → P (basis_after basis front)
AllBefore-at P basis [] q rest h = h.0
AllBefore-at P basis (first ∷ front) q rest h = AllBefore-at P (after basis first) front q rest h.1

pub AllLawful-at : (p : Program) (basis : ℕ → ℕ) (front : List Pivot) (q : Pivot) (rest : List Pivot) → AllLawful p basis (front ++ (q ∷ rest)) → IsLawful p (basis_after basis front) q
AllLawful-at p basis [] q rest h = h.0
AllLawful-at p basis (first ∷ front) q rest h = AllLawful-at p (after basis first) front q rest h.1

-- ---- two beginnings

-- one list goes on after the other, with the first pivot of the rest
pub record IsLonger (short long rest : List Pivot) : Type 0 where
  pub head : Pivot
  pub tail : List Pivot
  pub others : List Pivot
  pub long_is : long ≡ short ++ (head ∷ tail)
  pub rest_is : rest ≡ head ∷ others

pub same_head : (x y : Pivot) (xs ys : List Pivot) → x ∷ xs ≡ y ∷ ys → x ≡ y
same_head x y xs ys e = cc

same_tail : (x y : Pivot) (xs ys : List Pivot) → x ∷ xs ≡ y ∷ ys → xs ≡ ys
same_tail x y xs ys e = cc

IsLonger-more : (x y : Pivot) (short long rest : List Pivot) → x ≡ y → IsLonger short long rest → IsLonger (x ∷ short) (y ∷ long) rest
IsLonger-more x y short long rest same h = record {
  head = h.head;
  tail = h.tail;
  others = h.others;
  long_is = ap₂ (λ z zs. z ∷ zs) (sym same) h.long_is;
  rest_is = h.rest_is;
}

pub compared : (xs ys rest others : List Pivot) → xs ++ rest ≡ ys ++ others → (xs ≡ ys) ⊎ (IsLonger xs ys rest ⊎ IsLonger ys xs others)
compared [] [] rest others e = inl refl
compared [] (y ∷ ys) rest others e = inr (inl (record { head = y; tail = ys; others = ys ++ others; long_is = refl; rest_is = e }))
compared (x ∷ xs) [] rest others e = inr (inr (record { head = x; tail = xs; others = xs ++ rest; long_is = refl; rest_is = sym e }))
compared (x ∷ xs) (y ∷ ys) rest others e =
    let same : x ≡ y = same_head x y (xs ++ rest) (ys ++ others) e in
    elim (compared xs ys rest others (same_tail x y (xs ++ rest) (ys ++ others) e)) [
      | inl equal ↦ inl (ap₂ (λ z zs. z ∷ zs) same equal)
      | inr (inl h) ↦ inr (inl (IsLonger-more x y xs ys rest same h))
      | inr (inr h) ↦ inr (inr (IsLonger-more y x ys xs others (sym same) h))
    ]
