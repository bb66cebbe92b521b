-- The basis after a pivot has a dictionary: what row operations make, divided by its greatest common divisor.
use Rattle.std.proofs.Common.{ℕ, ◌+◌, ◌<◌, ℤ, pos, ◌*ℤ◌, ◌<ℤ◌, int_div, sym}
use Rattle.md_math.specs.Divisors.{Divides, DividesTable}
use Rattle.md_math.proofs.Division.{Divides_trans, Divides-int_div, positive_divisor}
use Rattle.md_math.proofs.Gcds.{gcd_of_two, family_gcd}
use Rattle.md_lp.specs.declared.pivot.Pivot.{Pivot}
use Rattle.md_dict.specs.Dictionary.{IsScaledDictionary, IsDictionary}
use Rattle.md_dict.specs.Pivot.{with_column, raw_entry}
use Rattle.md_dict.proofs.RawPivot.{IsPivot, raw_pivot}
use Rattle.md_dict.proofs.Cancelling.{divided_dictionary}
use Rattle.md_simplex.specs.declared.order.Order.{Order}
use Rattle.md_simplex.specs.declared.step.Step.TheVariants as steps
use Rattle.md_simplex.specs.Rules.{HasNext}
use Rattle.md_simplex.specs.Path.{after}
use Rattle.md_simplex.proofs.PathLaws.{entering_in}

-- the basis has a dictionary
pub record HasDictionary (m n : ℕ) (t : ℕ → ℕ → ℤ) (basis : ℕ → ℕ) : Type 0 where
  pub den : ℤ
  pub table : ℕ → ℕ → ℤ
  pub dictionary : IsDictionary m n t basis den table

-- ---- the divisor of a denominator and a table

record IsTableDivisor (rows columns : ℕ) (d : ℤ) (f : ℕ → ℕ → ℤ) (g : ℤ) : Type 0 where
  positive : pos 0 <ℤ g
  of_den : Divides g d
  of_table : DividesTable rows columns f g
  greatest : (x : ℤ) → Divides x d → DividesTable rows columns f x → Divides x g

row_gcd : (columns : ℕ) (f : ℕ → ℕ → ℤ) → ℕ → ℤ
row_gcd columns f r = (family_gcd columns (f r)).0

row_divides : (columns : ℕ) (f : ℕ → ℕ → ℤ) (r j : ℕ) → j < columns → Divides (row_gcd columns f r) (f r j)
unfolding row_gcd
row_divides columns f r j b = (family_gcd columns (f r)).1.is_gcd.common.at j b

row_greatest : (columns : ℕ) (f : ℕ → ℕ → ℤ) (r : ℕ) (x : ℤ) → ((j : ℕ) → j < columns → Divides x (f r j)) → Divides x (row_gcd columns f r)
unfolding row_gcd
row_greatest columns f r x h = (family_gcd columns (f r)).1.is_gcd.greatest x (record { at = h })

table_divisor : (rows columns : ℕ) (d : ℤ) (f : ℕ → ℕ → ℤ) → pos 0 <ℤ d → (g : ℤ) × IsTableDivisor rows columns d f g
table_divisor rows columns d f p =
    let (h, k) = family_gcd rows (row_gcd columns f) in
    let (g, q) = gcd_of_two d h in (
      g,
      record {
        positive = positive_divisor d g p q.is_gcd.left q.is_gcd.nonneg;
        of_den = q.is_gcd.left;
        of_table = record {
          at = λ r j a b. Divides_trans g h (f r j) q.is_gcd.right (Divides_trans h (row_gcd columns f r) (f r j) (k.is_gcd.common.at r a) (row_divides columns f r j b));
        };
        greatest = λ x u v. q.is_gcd.greatest x u (k.is_gcd.greatest x (record { at = λ r a. row_greatest columns f r x (λ j b. v.at r j a b) }));
      },
    )

-- ---- the next basis

divided : (m n : ℕ) (t : ℕ → ℕ → ℤ) (basis : ℕ → ℕ) (d : ℤ) (f : ℕ → ℕ → ℤ) → IsScaledDictionary m n t basis d f → HasDictionary m n t basis
divided m n t basis d f h =
    let (g, k) = table_divisor (m + 2) (n + m + 1) d f h.positive in
    record {
      den = int_div d g;
      table = λ r j. int_div (f r j) g;
      dictionary = divided_dictionary m n t basis g d (int_div d g) f (λ r j. int_div (f r j) g) h
          (record {
            positive = k.positive;
            den_is = sym (Divides-int_div g d k.of_den);
            entries = λ r j a b. sym (Divides-int_div g (f r j) (k.of_table.at r j a b));
          })
          (record { greatest = k.greatest });
    }

pub next_dictionary : (m n : ℕ) (t : ℕ → ℕ → ℤ) (basis : ℕ → ℕ) (d : ℤ) (e : ℕ → ℕ → ℤ) (row column : ℕ) → IsPivot m n t basis d e row column → HasDictionary m n t (with_column basis row column)
next_dictionary m n t basis d e row column h =
    divided m n t (with_column basis row column) (d *ℤ e row column) (raw_entry row column d e) (raw_pivot m n t basis d e row column h)

-- the basis after the pivot that the rules give
pub HasDictionary-after : (order : Order) (m n : ℕ) (t : ℕ → ℕ → ℤ) (basis : ℕ → ℕ) (p : Pivot) → HasNext order m n t basis (steps.Pivot p) → HasDictionary m n t (after basis p)
HasDictionary-after order m n t basis p next =
    next_dictionary m n t basis next.den next.table p.row p.column
    (record {
      scaled = next.dictionary.scaled;
      row_in = next.next.1.inside;
      column_in = entering_in order m n next.table p.column next.next.0;
      positive = next.next.1.positive;
    })
