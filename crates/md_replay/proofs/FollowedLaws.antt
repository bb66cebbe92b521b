-- How many pivots are followed, after one more.
use Rattle.std.proofs.Common.{◌≡◌, Bool, false, IsTrue, ℕ, suc, ◌+◌, ◌<◌, ◌≤◌, List, [], ◌∷◌, ◌++◌, length, sym, subst, arith, inl, inr}
use Rattle.std.proofs.lemmas.Bool.{cases_lt}
use Rattle.std.proofs.lemmas.List.{length_push, take_all, take-append-le}
use Rattle.md_lp.specs.Program.{Program, row_count}
use Rattle.md_lp.specs.declared.pivot.Pivot.{Pivot}
use Rattle.md_dict.specs.Condensed.{Condensed, basic_at, entry_at}
use Rattle.md_dict.specs.Dictionary.{IsDictionary}
use Rattle.md_dict.specs.FirstTable.{column_count, first_basis, first_entry}
use Rattle.md_dict.proofs.Cancelling.{IsDictionary-same_basis}
use Rattle.md_simplex.specs.declared.order.Order.{Order}
use Rattle.md_simplex.specs.declared.step.Step.TheVariants as steps
use Rattle.md_simplex.specs.Rules.{HasNext, IsNext}
use Rattle.md_simplex.specs.Runs.{BeginsPath, basis_of}
use Rattle.md_simplex.proofs.PathLaws.{path_from, path_more}
use Rattle.md_simplex.proofs.WalkLaws.{sized}
use Rattle.md_replay.specs.Replay.{IsFollowed}
use Rattle.md_replay.specs.Standing.{IsAt}
use Rattle.md_replay.proofs.StandingLaws.{at_dictionary}

pub followed_first : (order : Order) (p : Program) → IsFollowed order p [] 0
followed_first order p = record { inside = omega arith; path = tt; leaves = λ b. absurd (omega arith) }

-- no next pivot here is one that the rules do not give
pub record IsOff (order : Order) (p : Program) (d : Condensed) (q : Pivot) : Type 0 where
  pub off : ¬ HasNext order d.rows d.columns (first_entry p) (basic_at d) (steps.Pivot q)

pub off_of : (order : Order) (p : Program) (d : Condensed) (q : Pivot) (b : Bool) → b ≡ false → (HasNext order d.rows d.columns (first_entry p) (basic_at d) (steps.Pivot q) → IsTrue b) → IsOff order p d q
off_of order p d q b e only = record { off = λ next. not_true b e (only next) }
  where
    not_true : (b : Bool) → b ≡ false → IsTrue b → ⊥
    not_true b e h = cc

module _ (order : Order) (p : Program) (width : ℕ) (carried : List Pivot) (d : Condensed) (h : IsAt p width carried d) (q : Pivot) where
  one_longer : length (carried ++ q ∷ []) ≡ length carried + 1
  one_longer = length_push carried q

  -- the pivot is the next one, and so were all before it
  pub followed_on : (n number : ℕ) → n + 1 ≡ number → number ≡ length carried + 1 → IsNext order d.rows d.columns (entry_at d) (steps.Pivot q) → IsFollowed order p carried n → IsFollowed order p (carried ++ q ∷ []) number
  followed_on n number e f next k =
      let so_far : BeginsPath order p carried = subst (λ (xs : List Pivot). BeginsPath order p xs) (take_all n carried (omega arith)) k.path in
      let here : HasNext order (row_count p) (column_count p) (first_entry p) (basis_of p carried) (steps.Pivot q) = record {
        den = d.den;
        table = entry_at d;
        dictionary = at_dictionary p width carried d h;
        next = sized p d (λ m n. IsNext order m n (entry_at d) (steps.Pivot q)) h.holds next;
      } in
      let longer : length (carried ++ q ∷ []) ≡ length carried + 1 = one_longer in
      record {
        inside = omega arith;
        path = subst (λ (xs : List Pivot). BeginsPath order p xs) (sym (take_all number (carried ++ q ∷ []) (omega arith)))
            (path_more order (row_count p) (column_count p) (first_entry p) (first_basis p) carried q so_far here);
        leaves = λ b. absurd (omega arith);
      }

  next_back : HasNext order (row_count p) (column_count p) (first_entry p) (basis_of p carried) (steps.Pivot q) → HasNext order d.rows d.columns (first_entry p) (basic_at d) (steps.Pivot q)
  next_back k = record {
    den = k.den;
    table = k.table;
    dictionary = IsDictionary-same_basis d.rows d.columns (first_entry p) (basis_of p carried) (basic_at d) k.den k.table (λ i a. sym (h.basis i a))
        (subst (λ n. IsDictionary d.rows n (first_entry p) (basis_of p carried) k.den k.table) (sym h.holds.columns)
        (subst (λ m. IsDictionary m (column_count p) (first_entry p) (basis_of p carried) k.den k.table) (sym h.holds.rows) k.dictionary));
    next = subst (λ n. IsNext order d.rows n k.table (steps.Pivot q)) (sym h.holds.columns)
        (subst (λ m. IsNext order m (column_count p) k.table (steps.Pivot q)) (sym h.holds.rows) k.next);
  }

  -- the pivot is not the next one, though all before it were
  pub followed_off : (n : ℕ) → n ≡ length carried → IsOff order p d q → IsFollowed order p carried n → IsFollowed order p (carried ++ q ∷ []) n
  followed_off n e off k =
      let longer : length (carried ++ q ∷ []) ≡ length carried + 1 = one_longer in
      record {
        inside = omega arith;
        path = subst (λ (xs : List Pivot). BeginsPath order p xs) (sym (take-append-le n carried (q ∷ []) (omega arith))) k.path;
        leaves = λ b path.
            let whole : BeginsPath order p (carried ++ q ∷ []) = subst (λ (xs : List Pivot). BeginsPath order p xs) (take_all (suc n) (carried ++ q ∷ []) (omega arith)) path in
            off.off (next_back (path_from order (row_count p) (column_count p) (first_entry p) (first_basis p) carried (q ∷ []) whole).0);
      }

  -- the path was left before
  pub followed_left : (n : ℕ) → n < length carried → IsFollowed order p carried n → IsFollowed order p (carried ++ q ∷ []) n
  followed_left n b k =
      let longer : length (carried ++ q ∷ []) ≡ length carried + 1 = one_longer in
      record {
        inside = omega arith;
        path = subst (λ (xs : List Pivot). BeginsPath order p xs) (sym (take-append-le n carried (q ∷ []) (omega arith))) k.path;
        leaves = λ _ path. k.leaves b (subst (λ (xs : List Pivot). BeginsPath order p xs) (take-append-le (suc n) carried (q ∷ []) (omega arith)) path);
      }

  -- the number stays where the pivot is not the next one, or the path was left before
  pub followed_same : (n : ℕ) → (n + 1 ≡ length carried + 1 → IsOff order p d q) → IsFollowed order p carried n → IsFollowed order p (carried ++ q ∷ []) n
  followed_same n off k = elim (cases_lt n (length carried)) [
    | inl b ↦ followed_left n b k
    | inr b ↦ (let inside : n ≤ length carried = k.inside in let e : n ≡ length carried = omega arith in followed_off n e (off (omega arith)) k)
  ]
