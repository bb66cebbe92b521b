-- Where a condition stands among all conditions, and how many there are.
use Rattle.std.proofs.Common.{◌≡◌, ℕ, zero, suc, ◌+◌, ◌-◌, ◌*◌, ◌/◌, ◌%◌, ◌<◌, ◌≤◌, ◌^◌, inl, inr, false, List, [], ◌∷◌, ◌++◌, length, map, get_or, Some, refl, sym, ap, ap₂, subst, ◌∙◌, arith, length-append, mul-le-mul}
use Rattle.std.specs.Prelude.{slice_get, slice_index, ◌==◌}
use Rattle.std.proofs.lemmas.Nat.{div_below, mod_below, div-add-mod'}
use Rattle.std.proofs.lemmas.List.{length-map, get_or-map, get_or_append_left, get_or-append_right}
use Rattle.std.proofs.lemmas.Option.{slice_get-get_or}
use Rattle.md_math.proofs.Builders.{length-list_to, length-up_to, get_or-list_to, get_or-up_to}
use Rattle.md_math.proofs.ListLaws.{get_or-up_to_at}
use Rattle.md_mech.specs.Conditions.{IsFalseReport}
use Rattle.md_mech.specs.Rows.{unless_true, by_report}
use Rattle.md_mech.proofs.ConditionLaws.{apart, false-apart, false-below, some-factor}
use Rattle.md_mech.proofs.CountLaws.{before-true, length-by_report}
use Rattle.md_reduced.specs.declared.condition.ReducedCondition.{ReducedCondition}
use Rattle.md_reduced.specs.declared.condition.ReducedCondition.TheVariants.{Truth, Rational, Cut}
use Rattle.md_reduced.specs.Conditions.{truths_at, truths, rationals, conditions_of, IsAt}
use Rattle.md_lp.specs.Cuts.{AreCuts}
use Rattle.md_lp.proofs.CutLaws.{cuts-at_most}

-- ---- how many

truths-each : (kinds a : ℕ) → a < kinds → length (truths_at kinds a) ≡ kinds - 1
truths-each kinds a h = length-by_report kinds a (Truth a) h

pub truths-length : (kinds : ℕ) → length (truths kinds) ≡ kinds * (kinds - 1)
truths-length kinds = length-up_to kinds (kinds - 1) (truths_at kinds) (truths-each kinds)

pub conditions-length : (kinds : ℕ) (cuts : List ℕ) → length (conditions_of kinds cuts) ≡ kinds * (kinds - 1) + (kinds + length cuts)
conditions-length kinds cuts =
    length-append (truths kinds) (rationals kinds ++ map Cut cuts)
    ∙ ap₂ (λ m n. m + n) (truths-length kinds) (length-append (rationals kinds) (map Cut cuts) ∙ ap₂ (λ m n. m + n) (length-list_to kinds Rational) (length-map cuts Cut))

truths-few : (kinds : ℕ) → kinds ≤ 12 → kinds * (kinds - 1) ≤ 132
truths-few kinds few = mul-le-mul few (let e : kinds - 1 ≤ 11 = omega (arith, few) in e)

pub conditions-few : (kinds : ℕ) (cuts : List ℕ) → kinds ≤ 12 → AreCuts kinds cuts → length (conditions_of kinds cuts) ≤ 4240
conditions-few kinds cuts few are = omega (arith, conditions-length kinds cuts, truths-few kinds few, few, cuts-at_most kinds cuts are few)

-- ---- where they stand

at-place : {X : Type 0} (xs : List X) (k : ℕ) (x : X) → k < length xs → get_or xs k x ≡ x → slice_get xs k ≡ Some x
at-place xs k x h e = slice_get-get_or xs k x h ∙ ap Some e

-- a false report by its number
report-number : {X : Type 0} (a number b : ℕ) (f : ℕ → X) → IsFalseReport a number b → number ≡ length (by_report b a f)
report-number a number b f (inl e) = sym (before-true b a f (omega (arith, e.0, e.1)) ∙ e.1)
report-number a number b f (inr e) = sym (length-by_report b a f (omega (arith, e.0, e.1)) ∙ omega (arith, e.1))

report-at : {X : Type 0} (n a number b : ℕ) (f : ℕ → X) → a < n → number < n - 1 → IsFalseReport a number b → get_or (by_report n a f) number (f b) ≡ f b
report-at n a number b f h l report =
    let other : (b == a) ≡ false = apart b a (false-apart a number b report) in
    let one : length (unless_true a f b) ≡ 1 = rw other refl in
    let place : number ≡ length (by_report b a f) + 0 = omega (arith, report-number a number b f report) in
    ap (λ k. get_or (by_report n a f) k (f b)) place
    ∙ get_or-up_to_at n b 0 (unless_true a f) (f b) (false-below n a number b h l report) (omega (arith, one))
    ∙ rw other refl

pub truth-at : (kinds number other : ℕ) → number < kinds * (kinds - 1) → IsFalseReport (number / (kinds - 1)) (number % (kinds - 1)) other
    → IsAt kinds (truths kinds) number (Truth (number / (kinds - 1)) other)
truth-at kinds number other below report =
    let w = kinds - 1 in
    let some = some-factor kinds w number below in
    let kind : number / w < kinds = div_below number w kinds some below in
    let rest : number % w < kinds - 1 = mod_below number w some in
    let c = Truth (number / w) other in
    record {
      is = at-place (truths kinds) number c (omega (arith, truths-length kinds, below))
          (ap (λ k. get_or (truths kinds) k c) (let e : number ≡ (number / w) * w + number % w = omega (arith, div-add-mod' number w) in e)
          ∙ get_or-up_to kinds w (number / w) (number % w) (truths_at kinds) c (truths-each kinds) kind rest
          ∙ report-at kinds (number / w) (number % w) other (Truth (number / w)) kind rest report);
      inside = (kind, false-below kinds (number / w) (number % w) other kind rest report, false-apart (number / w) (number % w) other report);
    }

pub truth-among : (kinds : ℕ) (cuts : List ℕ) (number : ℕ) (c : ReducedCondition) → number < kinds * (kinds - 1) → IsAt kinds (truths kinds) number c → IsAt kinds (conditions_of kinds cuts) number c
truth-among kinds cuts number c h at = record { is = left (truths kinds) (rationals kinds ++ map Cut cuts) number c at.is; inside = at.inside }
  where
    left : (xs ys : List ReducedCondition) (k : ℕ) (x : ReducedCondition) → slice_get xs k ≡ Some x → slice_get (xs ++ ys) k ≡ Some x
    left [] ys k x h = cc
    left (a ∷ xs) ys zero x h = h
    left (a ∷ xs) ys (suc k) x h = left xs ys k x h

pub rational-at : (kinds : ℕ) (cuts : List ℕ) (number kind : ℕ) → kind < kinds → number ≡ kinds * (kinds - 1) + kind → IsAt kinds (conditions_of kinds cuts) number (Rational kind)
rational-at kinds cuts number kind h e =
    let first = truths-length kinds in
    record {
      is = at-place (conditions_of kinds cuts) number (Rational kind) (omega (arith, conditions-length kinds cuts, h, e))
          (get_or-append_right (truths kinds) (rationals kinds ++ map Cut cuts) (kinds * (kinds - 1)) number (Rational kind) first (omega (arith, e))
          ∙ ap (λ k. get_or (rationals kinds ++ map Cut cuts) k (Rational kind)) (let back : number - kinds * (kinds - 1) ≡ kind = omega (arith, e) in back)
          ∙ get_or_append_left (rationals kinds) (map Cut cuts) (Rational kind) kind (omega (arith, h, length-list_to kinds Rational))
          ∙ get_or-list_to kinds Rational kind (Rational kind) h);
      inside = h;
    }

pub cut-at : (kinds : ℕ) (cuts : List ℕ) (number place set : ℕ) → place < length cuts → number ≡ kinds * (kinds - 1) + (kinds + place) → set ≡ slice_index cuts place → AreCuts kinds cuts
    → IsAt kinds (conditions_of kinds cuts) number (Cut set)
cut-at kinds cuts number place set h e same are = record {
  is = at-place (conditions_of kinds cuts) number (Cut set) (omega (arith, conditions-length kinds cuts, h, e))
      (get_or-append_right (truths kinds) (rationals kinds ++ map Cut cuts) (kinds * (kinds - 1)) number (Cut set) (truths-length kinds) (omega (arith, e))
      ∙ ap (λ k. get_or (rationals kinds ++ map Cut cuts) k (Cut set)) (let back : number - kinds * (kinds - 1) ≡ kinds + place = omega (arith, e) in back)
      ∙ get_or-append_right (rationals kinds) (map Cut cuts) kinds (kinds + place) (Cut set) (length-list_to kinds Rational) (omega arith)
      ∙ ap (λ k. get_or (map Cut cuts) k (Cut set)) (let back : kinds + place - kinds ≡ place = omega arith in back)
      ∙ get_or-map Cut cuts place 0 (Cut set) h
      ∙ ap Cut (sym same));
  inside = subst (λ s. s < 2 ^ kinds) (sym same) (are.inside place h);
}
