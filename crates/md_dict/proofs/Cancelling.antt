-- A common factor of all entries and the denominator may be taken away, and the greatest one leaves least terms.
use Rattle.std.proofs.Common.{◌≡◌, ℕ, ◌+◌, ◌<◌, ℤ, pos, ◌+ℤ◌, ◌*ℤ◌, ◌<ℤ◌, unsigned_abs, sym, ap, ap₂, ◌∙◌, subst, arith, ◌==◌, if◌then◌else◌}
use Rattle.std.proofs.Math.Nat as NatL
use Rattle.md_math.specs.Sums.{sum_to}
use Rattle.md_math.specs.Divisors.{Divides, DividesTable}
use Rattle.md_math.proofs.Ring.{linear, *ℤ_assoc, *ℤ_left_comm, *ℤ-+ℤ, *ℤ-one, one-*ℤ}
use Rattle.md_math.proofs.Order.{positive_from_*ℤ, *ℤ_cancel}
use Rattle.md_math.proofs.SumLaws.{sum_to-same, sum_to-*ℤ}
use Rattle.md_math.proofs.Division.{*ℤ-Divides, Divides_cancel}
use Rattle.md_lp.specs.declared.entry.Entry.{Entry}
use Rattle.md_dict.specs.Dictionary.{basic_value, IsScaledDictionary, IsReducedTable, IsDictionary}
use Rattle.md_dict.specs.Pivot.{with_column}
use Rattle.md_dict.specs.Wide.{IsWideBasis}
use Rattle.md_dict.proofs.RawPivot.{scaled_basic}

-- the entries f over d are g times the entries e over den
pub record IsMultiple (m n : ℕ) (g d den : ℤ) (f e : ℕ → ℕ → ℤ) : Type 0 where
  pub positive : pos 0 <ℤ g
  pub den_is : d ≡ g *ℤ den
  pub entries : (r j : ℕ) → r < m + 2 → j < n + m + 1 → f r j ≡ g *ℤ e r j

pub cancelled : (m n : ℕ) (t : ℕ → ℕ → ℤ) (basis : ℕ → ℕ) (g d den : ℤ) (f e : ℕ → ℕ → ℤ) → IsScaledDictionary m n t basis d f → IsMultiple m n g d den f e → IsScaledDictionary m n t basis den e
cancelled m n t basis g d den f e p h = record {
  positive = positive_from_*ℤ g den h.positive (subst (λ z. pos 0 <ℤ z) h.den_is p.positive);
  columns = p.columns;
  basic = λ i r a b.
      *ℤ_cancel g (e r (basis i)) (basic_value m n den i (basis i) r) h.positive
      (sym (h.entries r (basis i) b (let c : basis i < n + m = p.columns i a in omega arith))
      ∙ p.basic i r a b ∙ ap (λ z. basic_value m n z i (basis i) r) h.den_is ∙ scaled_basic m n i (basis i) r g den);
  rows = λ r j a b.
      *ℤ_cancel g (e r j) (sum_to m (λ k. e r (n + k) *ℤ t k j)) h.positive
      (sym (h.entries r j (omega arith) b) ∙ p.rows r j a b ∙ sums r j (omega arith));
  main = λ j b.
      *ℤ_cancel g (e (m + 1) j) (den *ℤ t (m + 1) j +ℤ sum_to m (λ k. e (m + 1) (n + k) *ℤ t k j)) h.positive
      (sym (h.entries (m + 1) j (omega arith) b) ∙ p.main j b
      ∙ ap₂ (λ x y. x +ℤ y) (ap (λ z. z *ℤ t (m + 1) j) h.den_is ∙ *ℤ_assoc g den (t (m + 1) j)) (sums (m + 1) j (omega arith))
      ∙ sym (*ℤ-+ℤ g (den *ℤ t (m + 1) j) (sum_to m (λ k. e (m + 1) (n + k) *ℤ t k j))));
  first = λ k j a b.
      *ℤ_cancel g (den *ℤ t k j) (sum_to m (λ r. t k (basis r) *ℤ e r j)) h.positive
      (sym (*ℤ_assoc g den (t k j)) ∙ ap (λ z. z *ℤ t k j) (sym h.den_is) ∙ p.first k j a b
      ∙ sum_to-same m _ (λ r. g *ℤ (t k (basis r) *ℤ e r j)) (λ r c. ap (λ z. t k (basis r) *ℤ z) (h.entries r j (omega arith) b) ∙ *ℤ_left_comm (t k (basis r)) g (e r j))
      ∙ sum_to-*ℤ m g (λ r. t k (basis r) *ℤ e r j));
}
  where
    sums : (r j : ℕ) → r < m + 2 → sum_to m (λ k. f r (n + k) *ℤ t k j) ≡ g *ℤ sum_to m (λ k. e r (n + k) *ℤ t k j)
    sums r j a =
        sum_to-same m _ (λ k. g *ℤ (e r (n + k) *ℤ t k j)) (λ k c. ap (λ z. z *ℤ t k j) (h.entries r (n + k) a (omega arith)) ∙ *ℤ_assoc g (e r (n + k)) (t k j))
        ∙ sum_to-*ℤ m g (λ k. e r (n + k) *ℤ t k j)

-- what divides the denominator and each entry divides g
pub record IsGreatest (m n : ℕ) (g d : ℤ) (f : ℕ → ℕ → ℤ) : Type 0 where
  pub greatest : (x : ℤ) → Divides x d → DividesTable (m + 2) (n + m + 1) f x → Divides x g

pub reduced_by_greatest : (m n : ℕ) (g d den : ℤ) (f e : ℕ → ℕ → ℤ) → IsMultiple m n g d den f e → IsGreatest m n g d f → IsReducedTable m n den e
reduced_by_greatest m n g d den f e h q = record { only_one = one }
  where
    one : (x : ℤ) → Divides x den → DividesTable (m + 2) (n + m + 1) e x → unsigned_abs x ≡ 1
    one x a b =
        let of_den : Divides (g *ℤ x) d = subst (Divides (g *ℤ x)) (sym h.den_is) (*ℤ-Divides g x den a) in
        let of_entries : DividesTable (m + 2) (n + m + 1) f (g *ℤ x) = record { at = λ r j k l. subst (Divides (g *ℤ x)) (sym (h.entries r j k l)) (*ℤ-Divides g x (e r j) (b.at r j k l)) } in
        let whole : Divides (g *ℤ x) (g *ℤ pos 1) = subst (Divides (g *ℤ x)) (sym (*ℤ-one g)) (q.greatest (g *ℤ x) of_den of_entries) in
        let unit : Divides x (pos 1) = Divides_cancel g x (pos 1) h.positive whole in
        NatL.eq-one_of_dvd-one unit.divides

-- a scaled dictionary divided by the greatest common divisor is the dictionary
pub divided_dictionary : (m n : ℕ) (t : ℕ → ℕ → ℤ) (basis : ℕ → ℕ) (g d den : ℤ) (f e : ℕ → ℕ → ℤ) → IsScaledDictionary m n t basis d f → IsMultiple m n g d den f e → IsGreatest m n g d f → IsDictionary m n t basis den e
divided_dictionary m n t basis g d den f e p h q = record {
  scaled = cancelled m n t basis g d den f e p h;
  reduced = reduced_by_greatest m n g d den f e h q;
}

-- a dictionary by equal entries, of an equal basis
pub record SameEntries (m n : ℕ) (f e : ℕ → ℕ → ℤ) : Type 0 where
  pub entries : (r j : ℕ) → r < m + 2 → j < n + m + 1 → f r j ≡ e r j

pub IsDictionary-same : (m n : ℕ) (t : ℕ → ℕ → ℤ) (basis : ℕ → ℕ) (den : ℤ) (f e : ℕ → ℕ → ℤ) → SameEntries m n f e → IsDictionary m n t basis den f → IsDictionary m n t basis den e
IsDictionary-same m n t basis den f e s p = record {
  scaled = cancelled m n t basis (pos 1) den den f e p.scaled (record {
    positive = omega (arith, linear);
    den_is = sym (one-*ℤ den);
    entries = λ r j a b. s.entries r j a b ∙ sym (one-*ℤ (e r j));
  });
  reduced = record {
    only_one = λ x a b. p.reduced.only_one x a (record { at = λ r j k l. subst (Divides x) (sym (s.entries r j k l)) (b.at r j k l) });
  };
}

-- a dictionary of a basis with the same columns
pub IsDictionary-same_basis : (m n : ℕ) (t : ℕ → ℕ → ℤ) (b c : ℕ → ℕ) (den : ℤ) (e : ℕ → ℕ → ℤ) → ((i : ℕ) → i < m → b i ≡ c i) → IsDictionary m n t b den e → IsDictionary m n t c den e
IsDictionary-same_basis m n t b c den e s p = record {
  scaled = record {
    positive = p.scaled.positive;
    columns = λ i a. subst (λ j. j < n + m) (s i a) (p.scaled.columns i a);
    basic = λ i r a k. subst (λ j. e r j ≡ basic_value m n den i j r) (s i a) (p.scaled.basic i r a k);
    rows = p.scaled.rows;
    main = p.scaled.main;
    first = λ k j a l. p.scaled.first k j a l ∙ sum_to-same m _ _ (λ r d. ap (λ i. t k i *ℤ e r j) (s r d));
  };
  reduced = p.reduced;
}

-- the same of a wide basis, and of a basis that took a column
pub IsWideBasis-same_basis : (m n : ℕ) (t : ℕ → ℕ → ℤ) (limit : ℕ) (b c : ℕ → ℕ) (entry : Entry) → ((i : ℕ) → i < m → b i ≡ c i) → IsWideBasis m n t b limit entry → IsWideBasis m n t c limit entry
IsWideBasis-same_basis m n t limit b c entry same h = record {
  den = h.den;
  table = h.table;
  dictionary = IsDictionary-same_basis m n t b c h.den h.table same h.dictionary;
  first = h.first;
}

pub with_column-same : (b c : ℕ → ℕ) (row column i : ℕ) → b i ≡ c i → with_column b row column i ≡ with_column c row column i
with_column-same b c row column i e = ap (λ z. if i == row then column else z) e
