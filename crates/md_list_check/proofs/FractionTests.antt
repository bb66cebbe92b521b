-- What a test of two fractions says of them.
use Rattle.std.proofs.Common.{◌≡◌, ◌≢◌, ℤ, Bool, true, false, ◌&&◌, not, refl, sym, ap, ◌∙◌}
use mathlib.Core.Bool.{false≢true}
use Rattle.std.specs.Ordering.{int_eq}
use Rattle.std.proofs.lemmas.Bool.Decides.{Decides-int_eq}
use Rattle.md_math.proofs.BoundedTests.{and-left, and-right, and-both}
use Rattle.md_num.specs.declared.frac.Frac.{Frac}

not-false : (b : Bool) → not b ≡ false → b ≡ true
not-false true e = refl
not-false false e = absurd (false≢true (sym e))

pub told-same : (told right : Frac) (r : Bool) → r ≡ not (int_eq told.num right.num && int_eq told.den right.den) → r ≡ false → told ≡ right
told-same told right r e f =
    let both = not-false (int_eq told.num right.num && int_eq told.den right.den) (sym e ∙ f) in
    let num : told.num ≡ right.num = (Decides-int_eq told.num right.num).0 (and-left (int_eq told.num right.num) (int_eq told.den right.den) both) in
    let den : told.den ≡ right.den = (Decides-int_eq told.den right.den).0 (and-right (int_eq told.num right.num) (int_eq told.den right.den) both) in
    let by_num : ℤ → Frac = λ n. record { num = n; den = told.den } in
    let by_den : ℤ → Frac = λ d. record { num = right.num; den = d } in
    ap by_num num ∙ ap by_den den

pub told-other : (told right : Frac) (r : Bool) → r ≡ not (int_eq told.num right.num && int_eq told.den right.den) → r ≡ true → told ≢ right
told-other told right r e f = λ same.
    let both : (int_eq told.num right.num && int_eq told.den right.den) ≡ true =
    and-both (int_eq told.num right.num) (int_eq told.den right.den) ((Decides-int_eq told.num right.num).1 (ap (λ z. z.num) same)) ((Decides-int_eq told.den right.den).1 (ap (λ z. z.den) same)) in
    false≢true (sym (ap not both) ∙ sym e ∙ f)
