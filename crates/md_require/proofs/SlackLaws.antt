-- Complementary slackness of shadows, by bounds that move a little: loosened, the bound of a condition still lets the mechanism through,
-- and so it does where it is tightened but did not bind.
use Rattle.std.proofs.Common.{◌≡◌, ℕ, ◌<◌, ℤ, pos, ◌+ℤ◌, ◌-ℤ◌, ◌*ℤ◌, neg_ℤ, ◌≤ℤ◌, ◌<ℤ◌, List, [], ◌∷◌, get_or, length, All, Option, Some, None, refl, sym, ap, ◌∙◌, subst, arith, inl, inr, ◌⊎◌}
use lib.IntN.{*ℤ_comm}
use Rattle.std.specs.Prelude.{map}
use Rattle.std.proofs.lemmas.List.Elements.{All-cons, All-head, All-nil, All-tail}
use Rattle.md_math.specs.Sums.{total}
use Rattle.md_math.proofs.Order.{*ℤ-le, ≤ℤ_antisymm, le_from_lt, le_from_same, lt_or_le, nonneg_from_*ℤ, positive-*ℤ}
use Rattle.md_math.proofs.Ring.{linear, ring, neg_ℤ-*ℤ, one-*ℤ, *ℤ-zero, zero-*ℤ}
use Rattle.md_num.specs.declared.frac.Frac.{Frac}
use Rattle.md_setting.specs.Setting.{GeneralSetting}
use Rattle.md_setting.specs.Meaning.{total_of}
use Rattle.md_mech.specs.declared.mechanism.Mechanism.{Mechanism}
use Rattle.md_require.specs.declared.condition.Condition.{Condition}
use Rattle.md_require.specs.declared.condition.Side.{Side}
use Rattle.md_require.specs.declared.condition.Side.TheVariants.{Least, Most}
use Rattle.md_require.specs.Amounts.{Amount, amount_of, amounts_of, chance, chance_at, payment_at, revenue, utility, welfare, whole_of}
use Rattle.md_require.specs.Conditions.{bound_of, IsMet, lower_by, lower_of, MeetsAll, Stays, told_of, upper_by, upper_of}
use Rattle.md_require.specs.Required.{IsRequired}
use Rattle.md_require.specs.Shadows.{AreComplementary, AreParts, AreToldShadows, BindsAt, from, IsMoved, IsPart, LimitGains, move_of}

-- ---- a step of a bound

-- to the side on which it lets more through, and to the other one
abbrev looser : Side → ℤ
looser Least = neg_ℤ (pos 1)
looser Most = pos 1

abbrev tighter : Side → ℤ
tighter Least = pos 1
tighter Most = neg_ℤ (pos 1)

neg-one : (n : ℤ) → neg_ℤ (pos 1) *ℤ n ≡ neg_ℤ n
neg-one n = neg_ℤ-*ℤ (pos 1) n ∙ ap neg_ℤ (one-*ℤ n)

-- a number whose products with both steps are not negative is 0
no-step : (side : Side) (n : ℤ) → pos 0 ≤ℤ (looser side *ℤ n) → pos 0 ≤ℤ (tighter side *ℤ n) → n ≡ pos 0
no-step Least n a b =
    let down = neg-one n in
    let up = one-*ℤ n in
    omega (arith, linear, a, b, down, up)
no-step Most n a b =
    let down = neg-one n in
    let up = one-*ℤ n in
    omega (arith, linear, a, b, down, up)

-- a side of a condition in smaller units, and its bound with one such unit more or less
finer-told : (unit den told : ℤ) → (den *ℤ unit) *ℤ told ≡ unit *ℤ (den *ℤ told)
finer-told unit den told = simp ring

finer-bound : (unit num step whole : ℤ) → (num *ℤ unit +ℤ step) *ℤ whole ≡ unit *ℤ (num *ℤ whole) +ℤ step *ℤ whole
finer-bound unit num step whole = simp ring

still-loose : (side : Side) (unit den told num whole : ℤ) → pos 0 ≤ℤ unit → pos 0 ≤ℤ whole → lower_by side (den *ℤ told) (num *ℤ whole) ≤ℤ upper_by side (den *ℤ told) (num *ℤ whole)
    → lower_by side ((den *ℤ unit) *ℤ told) ((num *ℤ unit +ℤ looser side) *ℤ whole) ≤ℤ upper_by side ((den *ℤ unit) *ℤ told) ((num *ℤ unit +ℤ looser side) *ℤ whole)
still-loose Least unit den told num whole up some h =
    let scaled = *ℤ-le unit (num *ℤ whole) (den *ℤ told) up h in
    let left = finer-told unit den told in
    let right = finer-bound unit num (neg_ℤ (pos 1)) whole in
    let step = neg-one whole in
    omega (arith, linear, scaled, left, right, step, some)
still-loose Most unit den told num whole up some h =
    let scaled = *ℤ-le unit (den *ℤ told) (num *ℤ whole) up h in
    let left = finer-told unit den told in
    let right = finer-bound unit num (pos 1) whole in
    let step = one-*ℤ whole in
    omega (arith, linear, scaled, left, right, step, some)

one-apart : (unit a : ℤ) → unit *ℤ (a +ℤ pos 1) ≡ unit *ℤ a +ℤ unit
one-apart unit a = simp ring

still-tight : (side : Side) (unit den told num whole : ℤ) → pos 0 ≤ℤ unit → whole ≤ℤ unit → lower_by side (den *ℤ told) (num *ℤ whole) <ℤ upper_by side (den *ℤ told) (num *ℤ whole)
    → lower_by side ((den *ℤ unit) *ℤ told) ((num *ℤ unit +ℤ tighter side) *ℤ whole) ≤ℤ upper_by side ((den *ℤ unit) *ℤ told) ((num *ℤ unit +ℤ tighter side) *ℤ whole)
still-tight Least unit den told num whole up few h =
    let next : (num *ℤ whole +ℤ pos 1) ≤ℤ (den *ℤ told) = omega (arith, linear, h) in
    let scaled = *ℤ-le unit (num *ℤ whole +ℤ pos 1) (den *ℤ told) up next in
    let more = one-apart unit (num *ℤ whole) in
    let left = finer-told unit den told in
    let right = finer-bound unit num (pos 1) whole in
    let step = one-*ℤ whole in
    omega (arith, linear, scaled, more, left, right, step, few)
still-tight Most unit den told num whole up few h =
    let next : (den *ℤ told +ℤ pos 1) ≤ℤ (num *ℤ whole) = omega (arith, linear, h) in
    let scaled = *ℤ-le unit (den *ℤ told +ℤ pos 1) (num *ℤ whole) up next in
    let more = one-apart unit (den *ℤ told) in
    let left = finer-told unit den told in
    let right = finer-bound unit num (neg_ℤ (pos 1)) whole in
    let step = neg-one whole in
    omega (arith, linear, scaled, more, left, right, step, few)

-- sides that are not apart are the same
same-sides : (side : Side) (told bound : ℤ) → lower_by side told bound ≤ℤ upper_by side told bound → upper_by side told bound ≤ℤ lower_by side told bound → told ≡ bound
same-sides Least told bound h k = ≤ℤ_antisymm told bound k h
same-sides Most told bound h k = ≤ℤ_antisymm told bound h k

module _ (s : GeneralSetting) (m : Mechanism) (den : pos 0 <ℤ m.den) (all : pos 0 <ℤ total_of s) where
  some-whole : (a : Amount) → pos 0 ≤ℤ whole_of s a
  some-whole revenue = le_from_lt (pos 0) (total_of s) all
  some-whole welfare = le_from_lt (pos 0) (total_of s) all
  some-whole (utility i) = le_from_lt (pos 0) (total_of s) all
  some-whole (chance o) = le_from_lt (pos 0) (total_of s) all
  some-whole (chance_at t o) = omega arith
  some-whole (payment_at i t) = omega arith

  few-whole : (a : Amount) → whole_of s a ≤ℤ total_of s
  few-whole revenue = le_from_same (total_of s) (total_of s) refl
  few-whole welfare = le_from_same (total_of s) (total_of s) refl
  few-whole (utility i) = le_from_same (total_of s) (total_of s) refl
  few-whole (chance o) = le_from_same (total_of s) (total_of s) refl
  few-whole (chance_at t o) = omega (arith, linear, all)
  few-whole (payment_at i t) = omega (arith, linear, all)

  -- ---- the amounts of a condition

  abbrev unit : ℤ
  unit = m.den *ℤ total_of s

  above-unit : pos 0 <ℤ unit
  above-unit = positive-*ℤ m.den (total_of s) den all

  -- the condition with its bound a step of the smallest unit away
  abbrev nudged : Condition → ℤ → Condition
  nudged c step = record c { num = c.num *ℤ unit +ℤ step; den = c.den *ℤ unit }

  loose-stays : (c : Condition) (a : Amount) → Stays s m c a → Stays s m (nudged c (looser c.side)) a
  loose-stays c a h =
      let part : (m.den *ℤ pos 0) ≤ℤ (m.den *ℤ whole_of s a) = *ℤ-le m.den (pos 0) (whole_of s a) (le_from_lt (pos 0) m.den den) (some-whole a) in
      let some : pos 0 ≤ℤ (m.den *ℤ whole_of s a) = subst (λ z. z ≤ℤ (m.den *ℤ whole_of s a)) (*ℤ-zero m.den) part in
      still-loose c.side unit c.den (amount_of s m a) c.num (m.den *ℤ whole_of s a) (le_from_lt (pos 0) unit above-unit) some h

  tight-stays : (c : Condition) (a : Amount) → lower_of s m c a <ℤ upper_of s m c a → Stays s m (nudged c (tighter c.side)) a
  tight-stays c a h =
      still-tight c.side unit c.den (amount_of s m a) c.num (m.den *ℤ whole_of s a) (le_from_lt (pos 0) unit above-unit)
      (*ℤ-le m.den (whole_of s a) (total_of s) (le_from_lt (pos 0) m.den den) (few-whole a)) h

  -- one of them is at the bound, or none is
  binds-or-not : (c : Condition) (these : List Amount) → All (Stays s m c) these → BindsAt s m c these ⊎ All (λ a. lower_of s m c a <ℤ upper_of s m c a) these
  binds-or-not c [] h = inr (All-nil (λ a. lower_of s m c a <ℤ upper_of s m c a))
  binds-or-not c (a ∷ these) h = here (lt_or_le (lower_of s m c a) (upper_of s m c a)) (binds-or-not c these (All-tail (Stays s m c) a these h))
    where
      here : (lower_of s m c a <ℤ upper_of s m c a) ⊎ (upper_of s m c a ≤ℤ lower_of s m c a) → BindsAt s m c these ⊎ All (λ b. lower_of s m c b <ℤ upper_of s m c b) these
          → BindsAt s m c (a ∷ these) ⊎ All (λ b. lower_of s m c b <ℤ upper_of s m c b) (a ∷ these)
      here (inr k) later =
          inl (record { before = []; amount = a; after = these; parts = refl; at_bound = same-sides c.side (told_of s m c a) (bound_of s m c a) (All-head (Stays s m c) a these h) k })
      here (inl l) (inl b) = inl (record { before = a ∷ b.before; amount = b.amount; after = b.after; parts = ap (λ xs. a ∷ xs) b.parts; at_bound = b.at_bound })
      here (inl l) (inr k) = inr (All-cons (λ b. lower_of s m c b <ℤ upper_of s m c b) a these l k)

  -- ---- moves of one bound

  nudge : (c : Condition) (step : ℤ) → move_of c (nudged c step) ≡ step *ℤ c.den
  nudge c step = apart c.num unit step c.den
    where
      apart : (n u e d : ℤ) → (n *ℤ u +ℤ e) *ℤ d -ℤ n *ℤ (d *ℤ u) ≡ e *ℤ d
      apart n u e d = simp ring (omega (arith, linear))

  nudged-part : (c : Condition) (step : ℤ) (v : Frac) → IsPart (v.den *ℤ (c.den *ℤ unit)) c (nudged c step) (Some v) (step *ℤ v.num)
  nudged-part c step v = turn step v.num v.den c.den (c.den *ℤ unit) ∙ ap (λ z. (v.den *ℤ (c.den *ℤ unit)) *ℤ (v.num *ℤ z)) (sym (nudge c step))
    where
      turn : (e n d c w : ℤ) → (e *ℤ n) *ℤ (d *ℤ (c *ℤ w)) ≡ (d *ℤ w) *ℤ (n *ℤ (e *ℤ c))
      turn e n d c w = simp ring

  is-nudged : (c : Condition) (step : ℤ) → pos 0 <ℤ c.den → IsMoved c (nudged c step)
  is-nudged c step up = record { measured = refl; side = refl; positive = positive-*ℤ c.den unit up above-unit }

  no-move : (c : Condition) → move_of c c ≡ pos 0
  no-move c = none (c.num *ℤ c.den)
    where
      none : (z : ℤ) → z -ℤ z ≡ pos 0
      none z = omega (arith, linear)

  still-part : (k : ℤ) (c : Condition) (v : Option Frac) → IsPart k c c v (pos 0)
  still-part k c (Some v) = zero-*ℤ (v.den *ℤ (c.den *ℤ c.den)) ∙ sym (ap (λ z. k *ℤ (v.num *ℤ z)) (no-move c) ∙ ap (λ z. k *ℤ z) (*ℤ-zero v.num) ∙ *ℤ-zero k)
  still-part k c None = (no-move c, refl)

  abbrev zeros : List Condition → List ℤ
  zeros cs = map (λ _. pos 0) cs

  total-zeros : (cs : List Condition) → total (zeros cs) ≡ pos 0
  total-zeros [] = refl
  total-zeros (c ∷ cs) = (let rest = total-zeros cs in omega (arith, linear, rest))

  still-parts : (k over : ℤ) (main face : ℕ → ℤ) (cs : List Condition) (vs : List (Option Frac)) → All (λ c. pos 0 <ℤ c.den) cs → AreToldShadows s cs over main face vs → AreParts k cs cs vs (zeros cs)
  still-parts k over main face [] [] up h = tt
  still-parts k over main face [] (v ∷ vs) up h = absurd h
  still-parts k over main face (c ∷ cs) [] up h = absurd h
  still-parts k over main face (c ∷ cs) (v ∷ vs) up h = (
    record { measured = refl; side = refl; positive = All-head (λ e. pos 0 <ℤ e.den) c cs up },
    still-part k c v,
    still-parts k over (from (length (amounts_of s c.measured)) main) (from (length (amounts_of s c.measured)) face) cs vs (All-tail (λ e. pos 0 <ℤ e.den) c cs up) h.1,
  )

  -- ---- each condition

  -- wherever bounds move to without shutting the mechanism out, the shadows say no loss
  abbrev SayNoLoss : List Condition → List (Option Frac) → Type 0
  SayNoLoss cs vs = (moved : List Condition) (k : ℤ) (parts : List ℤ) → pos 0 <ℤ k → AreParts k cs moved vs parts → MeetsAll s moved m → pos 0 ≤ℤ total parts

  no-loss-at : (over : ℤ) (main face : ℕ → ℤ) (c : Condition) (cs : List Condition) (v : Frac) (vs : List (Option Frac)) (step : ℤ) → All (λ e. pos 0 <ℤ e.den) (c ∷ cs)
      → AreToldShadows s (c ∷ cs) over main face (Some v ∷ vs) → MeetsAll s cs m → SayNoLoss (c ∷ cs) (Some v ∷ vs) → IsMet s m (nudged c step) → pos 0 ≤ℤ (step *ℤ v.num)
  no-loss-at over main face c cs v vs step up told met law here =
      let k = v.den *ℤ (c.den *ℤ unit) in
      let up_c : pos 0 <ℤ c.den = All-head (λ e. pos 0 <ℤ e.den) c cs up in
      let up_k : pos 0 <ℤ k = positive-*ℤ v.den (c.den *ℤ unit) told.0.0.least.positive (positive-*ℤ c.den unit up_c above-unit) in
      let width = length (amounts_of s c.measured) in
      let gain = law (nudged c step ∷ cs) k ((step *ℤ v.num) ∷ zeros cs) up_k
      (is-nudged c step up_c, nudged-part c step v, still-parts k over (from width main) (from width face) cs vs (All-tail (λ e. pos 0 <ℤ e.den) c cs up) told.1)
      (All-cons (IsMet s m) (nudged c step) cs here met) in
      let rest = total-zeros cs in
      omega (arith, linear, gain, rest)

  no-loss-later : (c : Condition) (cs : List Condition) (v : Option Frac) (vs : List (Option Frac)) → pos 0 <ℤ c.den → IsMet s m c → SayNoLoss (c ∷ cs) (v ∷ vs) → SayNoLoss cs vs
  no-loss-later c cs v vs up met law = λ moved k parts up_k are meets.
      let gain = law (c ∷ moved) k (pos 0 ∷ parts) up_k (record { measured = refl; side = refl; positive = up }, still-part k c v, are) (All-cons (IsMet s m) c moved met meets) in
      omega (arith, linear, gain)

  all-complementary : (over : ℤ) (main face : ℕ → ℤ) (cs : List Condition) (vs : List (Option Frac)) → All (λ c. pos 0 <ℤ c.den) cs → AreToldShadows s cs over main face vs → MeetsAll s cs m
      → SayNoLoss cs vs → AreComplementary s m cs vs
  all-complementary over main face [] [] up told met law = tt
  all-complementary over main face [] (v ∷ vs) up told met law = absurd told
  all-complementary over main face (c ∷ cs) [] up told met law = absurd told
  all-complementary over main face (c ∷ cs) (None ∷ vs) up told met law = (
    tt,
    all-complementary over (from (length (amounts_of s c.measured)) main) (from (length (amounts_of s c.measured)) face) cs vs (All-tail (λ e. pos 0 <ℤ e.den) c cs up) told.1
        (All-tail (IsMet s m) c cs met) (no-loss-later c cs None vs (All-head (λ e. pos 0 <ℤ e.den) c cs up) (All-head (IsMet s m) c cs met) law),
  )
  all-complementary over main face (c ∷ cs) (Some v ∷ vs) up told met law = (
    here (binds-or-not c (amounts_of s c.measured) (All-head (IsMet s m) c cs met)),
    all-complementary over (from (length (amounts_of s c.measured)) main) (from (length (amounts_of s c.measured)) face) cs vs (All-tail (λ e. pos 0 <ℤ e.den) c cs up) told.1
        (All-tail (IsMet s m) c cs met) (no-loss-later c cs (Some v) vs (All-head (λ e. pos 0 <ℤ e.den) c cs up) (All-head (IsMet s m) c cs met) law),
  )
    where
      others : MeetsAll s cs m
      others = All-tail (IsMet s m) c cs met

      loose : IsMet s m (nudged c (looser c.side))
      loose = λ k d l. loose-stays c (get_or (amounts_of s c.measured) k d) (All-head (IsMet s m) c cs met k d l)

      here : BindsAt s m c (amounts_of s c.measured) ⊎ All (λ a. lower_of s m c a <ℤ upper_of s m c a) (amounts_of s c.measured) → (v.num ≡ pos 0) ⊎ BindsAt s m c (amounts_of s c.measured)
      here (inl b) = inr b
      here (inr k) =
          inl (no-step c.side v.num (no-loss-at over main face c cs v vs (looser c.side) up told others law loose)
          (no-loss-at over main face c cs v vs (tighter c.side) up told others law (λ i d l. tight-stays c (get_or (amounts_of s c.measured) i d) (k i d l))))

-- the shadows of a mechanism that meets the conditions
pub complementary : (s : GeneralSetting) (conditions : List Condition) (m : Mechanism) (over : ℤ) (main face : ℕ → ℤ) (shadows : List (Option Frac)) → pos 0 <ℤ m.den → pos 0 <ℤ total_of s
    → All (λ c. pos 0 <ℤ c.den) conditions → AreToldShadows s conditions over main face shadows → IsRequired s conditions m → LimitGains s conditions m shadows
    → AreComplementary s m conditions shadows
complementary s conditions m over main face shadows den all up told required law =
    all-complementary s m den all over main face conditions shadows up told required.meets
    (λ moved k parts up_k are meets.
    let whole = (m.den *ℤ m.den) *ℤ total_of s in
    let above : pos 0 <ℤ whole = positive-*ℤ (m.den *ℤ m.den) (total_of s) (positive-*ℤ m.den m.den den den) all in
    let gain = law moved k parts up_k are m (record { admissible = required.admissible; meets = meets }) in
    let turn = *ℤ_comm (total parts) whole in
    nonneg_from_*ℤ whole (total parts) above (omega (arith, linear, gain, turn)))
