-- How often the draws below a whole pick a number of a stretch.
use Rattle.std.proofs.Common.{◌≡◌, ℕ, suc, ◌+◌, ◌-◌, ◌*◌, ◌/◌, ◌%◌, ◌<◌, ◌≤◌, ℤ, pos, ◌≤ℤ◌, Bool, true, false, ◌&&◌, if◌then◌else◌, eqb, ltb, leb, refl, sym, ap, subst, ◌∙◌, inl, inr, arith, eq-eqb, ne_eqb}
use Rattle.std.proofs.Math.Nat as NatL
use Rattle.std.proofs.lemmas.Bool.{cases_order, and_parts, and_from, leb-true, ltb-true, le-leb, lt-ltb, false≢true}
use Rattle.std.proofs.lemmas.Nat.{mod-mul-add, div-add-mod'}
use Rattle.md_math.specs.Sums.{sum_to}
use Rattle.md_math.proofs.BoundedTests.{true_or_false}
use Rattle.md_math.proofs.Ring.{linear, *ℤ-one}
use Rattle.md_math.proofs.SumLaws.{sum_to-same, sum_to-zero, sum_to-nonneg, sum_to-swap, sum_to-join, sum_to-nested, sum_to-single, sum_to-at, sum_to-constant}
use Rattle.md_flow.specs.Over.{any_below}
use Rattle.md_flow.proofs.AnyBelow.{any_below-place, any_below-false}

-- ---- numbers that a draw picks

-- 1 where a draw picks a number, and 0 where it does not
abbrev pub picks : ℕ → ℕ → ℕ → ℤ
picks whole draw y = if eqb (y % whole) draw then pos 1 else pos 0

-- how many numbers of a stretch it picks
abbrev pub picks_in : ℕ → ℕ → ℕ → ℕ → ℤ
picks_in whole draw start length = sum_to length (λ j. picks whole draw (start + j))

picks-nonneg : (whole draw y : ℕ) → pos 0 ≤ℤ picks whole draw y
picks-nonneg whole draw y = at (eqb (y % whole) draw)
  where
    at : (t : Bool) → pos 0 ≤ℤ (if t then pos 1 else pos 0)
    at true = omega (arith, linear)
    at false = omega (arith, linear)

-- of each whole run of numbers one
pub picks-wholes : (whole draw units : ℕ) → draw < whole → sum_to (units * whole) (picks whole draw) ≡ pos units
picks-wholes whole draw units h =
    sum_to-nested units whole (picks whole draw)
    ∙ sum_to-same units _ (λ _. pos 1)
    (λ i b.
    sum_to-same whole _ (λ j. if eqb j draw then pos 1 else pos 0) (λ j c. ap (λ k. if eqb k draw then pos 1 else pos 0) (mod-mul-add i whole j c)) ∙ sum_to-at whole draw (λ _. pos 1) h)
    ∙ sum_to-constant units (pos 1)
    ∙ *ℤ-one (pos units)

-- no more of fewer numbers
pub picks-le : (whole draw m n : ℕ) → m ≤ n → sum_to m (picks whole draw) ≤ℤ sum_to n (picks whole draw)
picks-le whole draw m n h =
    let e : m + (n - m) ≡ n = omega arith in
    let more : pos 0 ≤ℤ picks_in whole draw m (n - m) = sum_to-nonneg (n - m) (λ j. picks whole draw (m + j)) (λ j b. picks-nonneg whole draw (m + j)) in
    subst (λ k. sum_to m (picks whole draw) ≤ℤ sum_to k (picks whole draw)) e (omega (arith, linear, sum_to-join m (n - m) (picks whole draw)))

-- each number is picked by one draw below the whole
picked-once : (whole y : ℕ) → 0 < whole → sum_to whole (λ draw. picks whole draw y) ≡ pos 1
picked-once whole y p =
    sum_to-single whole (y % whole) (λ draw. picks whole draw y) (NatL.mod-lt y p) (λ draw b d. rw (ne_eqb (y % whole) draw (λ e. d (sym e))) refl)
    ∙ (rw (eq-eqb (y % whole) (y % whole) refl) refl)

-- all draws below the whole pick as many of a stretch as it has
pub picked-all : (whole start length : ℕ) → 0 < whole → sum_to whole (λ draw. picks_in whole draw start length) ≡ pos length
picked-all whole start length p =
    sum_to-swap whole length (λ draw j. picks whole draw (start + j))
    ∙ sum_to-same length _ (λ _. pos 1) (λ j b. picked-once whole (start + j) p)
    ∙ sum_to-constant length (pos 1)
    ∙ *ℤ-one (pos length)

-- ---- a stretch no longer than the whole

-- two numbers that a draw picks are the same, or a whole apart
not-near : (whole draw p q y z : ℕ) → p * whole + draw ≡ y → q * whole + draw ≡ z → y < z + whole → z < y + whole → y ≡ z
not-near whole draw p q y z e f b c = elim (cases_order p q) [
  | inl same ↦ (let g : p * whole ≡ q * whole = ap (λ k. k * whole) same in omega arith)
  | inr (inl l) ↦
      let g : suc p * whole ≤ q * whole = NatL.mul-le-mul_right whole l in
      let h : suc p * whole ≡ p * whole + whole = omega arith in
      absurd (omega arith)
  | inr (inr l) ↦
      let g : suc q * whole ≤ p * whole = NatL.mul-le-mul_right whole l in
      let h : suc q * whole ≡ q * whole + whole = omega arith in
      absurd (omega arith)
]

-- whether a draw picks some number from a start on and before an end
abbrev pub picks_some : ℕ → ℕ → ℕ → ℕ → Bool
picks_some whole draw start end = any_below end (λ m. leb start (draw + m * whole) && ltb (draw + m * whole) end)

-- it picks one number of a stretch, or none
pub picks-one : (whole draw start length : ℕ) → draw < whole → length ≤ whole → picks_in whole draw start length ≡ (if picks_some whole draw start (start + length) then pos 1 else pos 0)
picks-one whole draw start length h l = elim (true_or_false (picks_some whole draw start (start + length))) [
  | inl some ↦ rw some (there some)
  | inr none ↦ rw none (sum_to-zero length _ (λ j b. rw (ne_eqb ((start + j) % whole) draw (nowhere none j b)) refl))
]
  where
    test : ℕ → Bool
    test m = leb start (draw + m * whole) && ltb (draw + m * whole) (start + length)

    quotient : (y : ℕ) → y % whole ≡ draw → y / whole * whole + draw ≡ y
    quotient y e = ap (λ r. y / whole * whole + r) (sym e) ∙ div-add-mod' y whole

    there : picks_some whole draw start (start + length) ≡ true → picks_in whole draw start length ≡ pos 1
    there some =
        let (m, _, e) = any_below-place (start + length) test some in
        let (f, g) = and_parts (leb start (draw + m * whole)) (ltb (draw + m * whole) (start + length)) e in
        let low : start ≤ draw + m * whole = leb-true start (draw + m * whole) f in
        let high : draw + m * whole < start + length = ltb-true (draw + m * whole) (start + length) g in
        let j : ℕ = draw + m * whole - start in
        let at : m * whole + draw ≡ start + j = omega arith in
        let here : (start + j) % whole ≡ draw = ap (λ y. y % whole) (sym at) ∙ mod-mul-add m whole draw h in
        sum_to-single length j (λ i. picks whole draw (start + i)) (omega arith)
        (λ i b d. rw (ne_eqb ((start + i) % whole) draw (λ c. d (let near : start + i ≡ start + j = not-near whole draw ((start + i) / whole) m (start + i) (start + j) (quotient (start + i) c) at (omega arith) (omega arith) in omega arith))) refl)
        ∙ (rw (eq-eqb ((start + j) % whole) draw here) refl)

    nowhere : picks_some whole draw start (start + length) ≡ false → (j : ℕ) → j < length → (start + j) % whole ≡ draw → ⊥
    nowhere none j b e =
        let m : ℕ = (start + j) / whole in
        let at : m * whole + draw ≡ start + j = quotient (start + j) e in
        let few : m ≤ start + j = NatL.div-le_self (start + j) whole in
        let fails : test m ≡ false = any_below-false (start + length) test none m (omega arith) in
        let passes : test m ≡ true = and_from (leb start (draw + m * whole)) (ltb (draw + m * whole) (start + length)) (le-leb start (draw + m * whole) (omega arith)) (lt-ltb (draw + m * whole) (start + length) (omega arith)) in
        false≢true (sym fails ∙ passes)
