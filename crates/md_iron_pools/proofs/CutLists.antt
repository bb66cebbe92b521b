-- The sets of the values from some places on are cuts.
use Rattle.std.proofs.Common.{◌≡◌, ℕ, zero, suc, ◌+◌, ◌^◌, ◌<◌, ◌≤◌, Bool, true, false, if◌then◌else◌, List, [], ◌∷◌, ◌++◌, length, inl, inr, sym, ap, subst, ◌∙◌, arith, length-append}
use Rattle.std.specs.Prelude.{slice_index}
use Rattle.std.proofs.lemmas.Bool.{cases_lt}
use Rattle.std.proofs.lemmas.List.{get_or_append_left, append-nil}
use Rattle.std.proofs.lemmas.Nat.{pow_below, pow_pos}
use Rattle.std.proofs.Math.Seq.{get_or-append_seam}
use Rattle.md_math.specs.Lists.{up_to}
use Rattle.md_lp.specs.Cuts.{AreCuts}
use Rattle.md_iron_values.specs.Pools.{Pools}
use Rattle.md_iron_values.specs.Cuts.{begins, cuts_of, set_from}

-- sets of kinds, each with more than the last ones from n on, in descending order
record AreAbove (kinds n : ℕ) (sets : List ℕ) : Type 0 where
  inside : (k : ℕ) → k < length sets → slice_index sets k < 2 ^ kinds
  above : (k : ℕ) → k < length sets → 2 ^ kinds < slice_index sets k + 2 ^ n
  descend : (j k : ℕ) → j < k → k < length sets → slice_index sets k < slice_index sets j

up : (n : ℕ) → 2 ^ n < 2 ^ suc n
up n = pow_below n (suc n) (omega arith)

skip : (kinds n : ℕ) (sets : List ℕ) → AreAbove kinds n sets → AreAbove kinds (suc n) sets
skip kinds n sets h = record {
  inside = h.inside;
  above = λ k b. omega (arith, h.above k b, up n);
  descend = h.descend;
}

push : (kinds n : ℕ) (sets : List ℕ) → n < kinds → AreAbove kinds n sets → AreAbove kinds (suc n) (sets ++ set_from kinds n ∷ [])
push kinds n sets l h = record {
  inside = λ k b. by_place k b (λ x. x < 2 ^ kinds) (h.inside k) (omega (arith, power, pow_pos n));
  above = λ k b. by_place k b (λ x. 2 ^ kinds < x + 2 ^ suc n) (λ c. omega (arith, h.above k c, up n)) (omega (arith, power, up n));
  descend = λ j k m b. ordered j k m b;
}
  where
    all : List ℕ
    all = sets ++ set_from kinds n ∷ []

    power : 2 ^ n < 2 ^ kinds
    power = pow_below n kinds l

    long : length all ≡ length sets + 1
    long = length-append sets (set_from kinds n ∷ [])

    old : (k : ℕ) → k < length sets → slice_index all k ≡ slice_index sets k
    old k b = get_or_append_left sets (set_from kinds n ∷ []) 0 k b

    new : (k : ℕ) → k ≡ length sets → slice_index all k ≡ set_from kinds n
    new k e = ap (slice_index all) e ∙ get_or-append_seam sets (set_from kinds n) [] 0

    by_place : (k : ℕ) → k < length all → (P : ℕ → Type 0) → (k < length sets → P (slice_index sets k)) → P (set_from kinds n) → P (slice_index all k)
    by_place k b P before here = elim (cases_lt k (length sets)) [
      | inl m ↦ subst P (sym (old k m)) (before m)
      | inr g ↦ subst P (sym (new k (omega (arith, g, b, long)))) here
    ]

    ordered : (j k : ℕ) → j < k → k < length all → slice_index all k < slice_index all j
    ordered j k m b =
        let first : slice_index all j ≡ slice_index sets j = old j (omega (arith, m, b, long)) in
        elim (cases_lt k (length sets)) [
          | inl c ↦ omega (arith, first, old k c, h.descend j k m c)
          | inr g ↦ omega (arith, first, new k (omega (arith, g, b, long)), h.above j (omega (arith, m, b, long)), power)
        ]

-- the sets of some of the first places
all_above : (kinds n : ℕ) (test : ℕ → Bool) → n ≤ kinds → AreAbove kinds n (up_to n (λ s. if test s then set_from kinds s ∷ [] else []))
all_above kinds zero test l = record {
  inside = λ k b. absurd (omega (arith, b));
  above = λ k b. absurd (omega (arith, b));
  descend = λ j k m b. absurd (omega (arith, b));
}
all_above kinds (suc n) test l = by_test (test n) (all_above kinds n test (omega (arith, l)))
  where
    front : List ℕ
    front = up_to n (λ s. if test s then set_from kinds s ∷ [] else [])

    by_test : (t : Bool) → AreAbove kinds n front → AreAbove kinds (suc n) (front ++ (if t then set_from kinds n ∷ [] else []))
    by_test true h = push kinds n front l h
    by_test false h = subst (AreAbove kinds (suc n)) (sym (append-nil front)) (skip kinds n front h)

pub AreCuts-cuts_of : (kinds : ℕ) (pools : Pools) → AreCuts kinds (cuts_of kinds pools)
AreCuts-cuts_of kinds pools = cut (all_above kinds kinds (begins pools) (omega arith))
  where
    cut : AreAbove kinds kinds (cuts_of kinds pools) → AreCuts kinds (cuts_of kinds pools)
    cut h = record {
      some = λ k b. omega (arith, h.above k b);
      inside = h.inside;
      distinct = λ j k m b same. omega (arith, h.descend j k m b, same);
    }
