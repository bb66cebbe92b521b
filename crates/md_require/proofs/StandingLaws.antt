-- How a mechanism stands against conditions.
use Rattle.std.proofs.Common.{◌≡◌, ◌↔◌, IsTrue, ℕ, ◌+◌, ◌<◌, Bool, true, false, ℤ, pos, ◌*ℤ◌, ◌≤ℤ◌, ◌<ℤ◌, Option, Some, None, MatchOption, List, [], ◌∷◌, ◌++◌, length, take, get_or, All, refl, sym, ap, ◌∙◌, subst, arith, inl, inr}
use Rattle.std.specs.Prelude.{◌==◌, is_some, not, slice_index}
use Rattle.md_math.specs.Lists.{up_to}
use lib.IntN.{*ℤ_comm}
use Rattle.std.proofs.lemmas.Bool.{cases_Bool, eq-eqb}
use Rattle.std.proofs.lemmas.Int.{ints}
use Rattle.std.proofs.lemmas.List.{append_assoc, get_or-set_same, length-map, take_more}
use Rattle.std.proofs.lemmas.List.Elements.{All-cons, All-head, All-nil, All-push, All-tail, All-weaker}
use Rattle.std.proofs.lemmas.Slice.Zip.{all_zipped_more}
use Rattle.md_math.specs.Divisors.{IsLeastTerms}
use Rattle.md_math.proofs.Builders.{All-right, All-up_to_at}
use Rattle.md_math.proofs.Order.{*ℤ-le, le_from_lt, ≤ℤ_trans}
use Rattle.md_num.specs.declared.frac.Frac.{Frac}
use Rattle.md_space.specs.Profiles.{IsProfile, profile_at, profile_count, rank_of, replaced}
use Rattle.md_space.proofs.Ranks.{length-IsProfile, profile_at-IsProfile, profile_at-rank_of, rank_of-below, replaced-IsProfile}
use Rattle.md_setting.specs.Setting.{GeneralSetting}
use Rattle.md_setting.specs.Meaning.{sizes_of, total_of}
use Rattle.md_mech.specs.declared.mechanism.Mechanism.{Mechanism}
use Rattle.md_mech.proofs.RowLaws.{all-by_profile, all-one}
use Rattle.md_question.specs.declared.unmet.Unmet.{Unmet}
use Rattle.md_require.specs.declared.condition.Condition.{Condition}
use Rattle.md_require.specs.declared.condition.Measured.{Measured}
use Rattle.md_require.specs.declared.condition.Measured.TheVariants as measured
use Rattle.md_require.specs.declared.condition.Side.{Side}
use Rattle.md_require.specs.declared.condition.Side.TheVariants.{Least, Most}
use Rattle.md_require.specs.declared.standing.Figure.{Figure}
use Rattle.md_require.specs.declared.standing.Standing.{Standing}
use Rattle.md_require.specs.Amounts.{Amount, revenue, welfare, utility, chance, chance_at, payment_at, amount_of, amounts_of, payment_where, whole_of}
use Rattle.md_require.specs.Conditions.{IsMet, MeetsAll, Stays, lower_by, upper_by}
use Rattle.md_require.specs.Furthest.{IsAsFar, IsFigureOf, IsFurther, IsFurthest, IsFurthestIfAny}
use Rattle.md_require.specs.Missed.{IsMissedAs}
use Rattle.md_require.specs.Places.{IsIn}
use Rattle.md_require.specs.Standings.{AreMet, AreStandings, IsMeasure, IsStanding, bounded_by}
use Rattle.md_require.proofs.UnmetLaws.{not-met}

-- ---- whether a condition is met

not_both : false ≡ true → ⊥
not_both e = cc

pub met-known : (s : GeneralSetting) (m : Mechanism) (c : Condition) (number : ℕ) (o : Option Unmet) (told : Bool) → MatchOption o (IsMet s m c) (IsMissedAs s m c number)
    → is_some o ≡ not told → IsTrue told ↔ IsMet s m c
met-known s m c number None true h e = (λ _. h, λ _. refl)
met-known s m c number None false h e = absurd (not_both e)
met-known s m c number (Some unmet) true h e = absurd (not_both (sym e))
met-known s m c number (Some unmet) false h e = (λ t. absurd (not_both t), λ met. absurd (not-met s m c unmet h.missed met))

-- ---- the furthest of some amounts

as_far-self : (side : Side) (z : ℤ) → IsAsFar side z z
as_far-self Least z = omega (arith, ints)
as_far-self Most z = omega (arith, ints)

as_far-through : (side : Side) (a b c : ℤ) → IsAsFar side a b → IsAsFar side b c → IsAsFar side a c
as_far-through Least a b c h k = ≤ℤ_trans a b c h k
as_far-through Most a b c h k = ≤ℤ_trans c b a k h

module _ (s : GeneralSetting) (m : Mechanism) (side : Side) where
  -- none of some amounts is further
  abbrev IsBehind : ℤ → Amount → Type 0
  IsBehind sum other = IsAsFar side sum (amount_of s m other)

  behind-own : (amount : Amount) (figure : Figure) → IsFigureOf s m amount figure → IsBehind figure.sum amount
  behind-own amount figure h = subst (IsAsFar side figure.sum) h.sum_is (as_far-self side figure.sum)

  furthest-alone : (amount : Amount) (next : Figure) → IsFigureOf s m amount next → IsFurthest s m side (amount ∷ []) next
  furthest-alone amount next n = record {
    before = [];
    amount = amount;
    after = [];
    parts = refl;
    is = n;
    others = all-one (IsBehind next.sum) amount (behind-own amount next n);
  }

  furthest-kept : (amounts : List Amount) (amount : Amount) (kept next : Figure) → IsFurthest s m side amounts kept → IsFigureOf s m amount next → IsAsFar side kept.sum next.sum
      → IsFurthest s m side (amounts ++ amount ∷ []) kept
  furthest-kept amounts amount kept next h n far = record {
    before = h.before;
    amount = h.amount;
    after = h.after ++ amount ∷ [];
    parts = ap (λ xs. xs ++ amount ∷ []) h.parts ∙ append_assoc h.before (h.amount ∷ h.after) (amount ∷ []);
    is = h.is;
    others = All-push (IsBehind kept.sum) amounts amount h.others (subst (IsAsFar side kept.sum) n.sum_is far);
  }

  furthest-replaced : (amounts : List Amount) (amount : Amount) (kept next : Figure) → IsFurthest s m side amounts kept → IsFigureOf s m amount next → IsAsFar side next.sum kept.sum
      → IsFurthest s m side (amounts ++ amount ∷ []) next
  furthest-replaced amounts amount kept next h n far = record {
    before = amounts;
    amount = amount;
    after = [];
    parts = refl;
    is = n;
    others = All-push (IsBehind next.sum) amounts amount
        (All-weaker (IsBehind kept.sum) (IsBehind next.sum) (λ other k. as_far-through side next.sum kept.sum (amount_of s m other) far k) amounts h.others) (behind-own amount next n);
  }

  pub furthest-next : (amounts : List Amount) (amount : Amount) (found : Option Figure) (next further : Figure) → IsFurthestIfAny s m side amounts found → IsFigureOf s m amount next
      → IsFurther side found next further → IsFurthest s m side (amounts ++ amount ∷ []) further
  furthest-next amounts amount None next further none n same =
      subst (IsFurthest s m side (amounts ++ amount ∷ [])) (sym same) (subst (λ xs. IsFurthest s m side (xs ++ amount ∷ []) next) (sym none) (furthest-alone amount next n))
  furthest-next amounts amount (Some kept) next further h n is =
      elim is [
        | inl k ↦ subst (IsFurthest s m side (amounts ++ amount ∷ [])) (sym k.0) (furthest-kept amounts amount kept next h n k.1)
        | inr k ↦ subst (IsFurthest s m side (amounts ++ amount ∷ [])) (sym k.0) (furthest-replaced amounts amount kept next h n k.1)
      ]

-- ---- each condition has an amount

not_none : {X : Type 0} → (x : X) (xs : List X) → ◌≡◌ {A = List X} (x ∷ xs) [] → ⊥
not_none x xs e = cc

none-at : {X : Type 0} → (n k : ℕ) (f : ℕ → List X) (x : X) → k < n → up_to n f ≡ [] → f k ≡ x ∷ [] → ⊥
none-at {X} n k f x below none here =
    let P : X → Type 0 = λ _. ⊥ in
    All-head P x [] (subst (All P) here (All-up_to_at P n k f below (subst (All P) (sym none) (All-nil P))))

typed-at : (s : GeneralSetting) (agent kind : ℕ) (t : List ℕ) → slice_index t agent ≡ kind → payment_where agent kind t ≡ payment_at agent t ∷ []
typed-at s agent kind t typed = rw (eq-eqb (slice_index t agent) kind typed) refl

pub some_amount : (s : GeneralSetting) (m : Measured) → 0 < profile_count (sizes_of s) → IsIn s m → amounts_of s m ≡ [] → ⊥
some_amount s measured.Revenue some h none = not_none revenue [] none
some_amount s measured.Welfare some h none = not_none welfare [] none
some_amount s (measured.Utility agent) some h none = not_none (utility agent) [] none
some_amount s (measured.Chance outcome) some h none = not_none (chance outcome) [] none
some_amount s (measured.ChanceAt rank outcome) some h none = not_none (chance_at (profile_at (sizes_of s) rank) outcome) [] none
some_amount s (measured.Payment agent) some h none =
    none-at (profile_count (sizes_of s)) 0 (λ r. payment_at agent (profile_at (sizes_of s) r) ∷ []) (payment_at agent (profile_at (sizes_of s) 0)) some none refl
some_amount s (measured.PaymentAs agent kind) some h none =
    let sizes = sizes_of s in
    let first : IsProfile sizes (profile_at sizes 0) = profile_at-IsProfile sizes 0 some in
    let t : List ℕ = replaced (profile_at sizes 0) agent kind in
    let there : IsProfile sizes t = replaced-IsProfile sizes (profile_at sizes 0) agent kind first h.1 in
    let inside : agent < length (profile_at sizes 0) = omega (arith, h.0, length-IsProfile sizes (profile_at sizes 0) first, length-map s.agents (λ a. length a.types)) in
    let typed : slice_index t agent ≡ kind = get_or-set_same (profile_at sizes 0) agent kind 0 inside in
    none-at (profile_count sizes) (rank_of sizes t) (λ r. payment_where agent kind (profile_at sizes r)) (payment_at agent t) (rank_of-below sizes t there) none
    (ap (payment_where agent kind) (profile_at-rank_of sizes t there) ∙ typed-at s agent kind t typed)

-- ---- all amounts of a condition have one whole

abbrev whole_by : GeneralSetting → Measured → ℤ
whole_by s measured.Revenue = total_of s
whole_by s measured.Welfare = total_of s
whole_by s (measured.Utility agent) = total_of s
whole_by s (measured.Chance outcome) = total_of s
whole_by s (measured.ChanceAt rank outcome) = pos 1
whole_by s (measured.Payment agent) = pos 1
whole_by s (measured.PaymentAs agent kind) = pos 1

abbrev HasWhole : GeneralSetting → Measured → Amount → Type 0
HasWhole s m amount = whole_of s amount ≡ whole_by s m

typed-whole : (s : GeneralSetting) (agent kind : ℕ) (t : List ℕ) → All (HasWhole s (measured.PaymentAs agent kind)) (payment_where agent kind t)
typed-whole s agent kind t = elim (cases_Bool (slice_index t agent == kind)) [
  | inl here ↦ rw here (all-one (HasWhole s (measured.PaymentAs agent kind)) (payment_at agent t) refl)
  | inr away ↦ rw away (All-nil (HasWhole s (measured.PaymentAs agent kind)))
]

wholes : (s : GeneralSetting) (m : Measured) → All (HasWhole s m) (amounts_of s m)
wholes s measured.Revenue = all-one (HasWhole s measured.Revenue) revenue refl
wholes s measured.Welfare = all-one (HasWhole s measured.Welfare) welfare refl
wholes s (measured.Utility agent) = all-one (HasWhole s (measured.Utility agent)) (utility agent) refl
wholes s (measured.Chance outcome) = all-one (HasWhole s (measured.Chance outcome)) (chance outcome) refl
wholes s (measured.ChanceAt rank outcome) = all-one (HasWhole s (measured.ChanceAt rank outcome)) (chance_at (profile_at (sizes_of s) rank) outcome) refl
wholes s (measured.Payment agent) = all-by_profile s (HasWhole s (measured.Payment agent)) (λ t. payment_at agent t ∷ []) (λ t p. all-one (HasWhole s (measured.Payment agent)) (payment_at agent t) refl)
wholes s (measured.PaymentAs agent kind) = all-by_profile s (HasWhole s (measured.PaymentAs agent kind)) (payment_where agent kind) (λ t p. typed-whole s agent kind t)

-- ---- what a condition measures

-- what is not further stays on its side
far-stays : (side : Side) (num den product sum amount : ℤ) → pos 0 <ℤ den → num *ℤ product ≡ sum *ℤ den → IsAsFar side sum amount
    → lower_by side (den *ℤ amount) (num *ℤ product) ≤ℤ upper_by side (den *ℤ amount) (num *ℤ product)
far-stays Least num den product sum amount above is far =
    subst (λ z. z ≤ℤ (den *ℤ amount)) (sym (is ∙ *ℤ_comm sum den)) (*ℤ-le den sum amount (le_from_lt (pos 0) den above) far)
far-stays Most num den product sum amount above is far =
    subst (λ z. (den *ℤ amount) ≤ℤ z) (sym (is ∙ *ℤ_comm sum den)) (*ℤ-le den amount sum (le_from_lt (pos 0) den above) far)

pub measure-is : (s : GeneralSetting) (m : Mechanism) (c : Condition) (figure : Figure) (value : Frac) → IsFurthest s m c.side (amounts_of s c.measured) figure → IsLeastTerms value.num value.den
    → value.num *ℤ (m.den *ℤ figure.whole) ≡ figure.sum *ℤ value.den → IsMeasure s m c value
measure-is s m c figure value h least is = record {
  least = least;
  before = h.before;
  amount = h.amount;
  after = h.after;
  parts = h.parts;
  is = subst (λ z. value.num *ℤ (m.den *ℤ whole_of s h.amount) ≡ z *ℤ value.den) h.is.sum_is (subst (λ w. value.num *ℤ (m.den *ℤ w) ≡ figure.sum *ℤ value.den) h.is.whole_is is);
  furthest = λ k d below. stays (get_or (amounts_of s c.measured) k d) (h.others k d below) (wholes s c.measured k d below);
}
  where
    -- the whole of the furthest one
    own : figure.whole ≡ whole_by s c.measured
    own = h.is.whole_is ∙ All-head (HasWhole s c.measured) h.amount h.after (All-right (HasWhole s c.measured) h.before (h.amount ∷ h.after) (subst (All (HasWhole s c.measured)) h.parts (wholes s c.measured)))

    stays : (other : Amount) → IsAsFar c.side figure.sum (amount_of s m other) → HasWhole s c.measured other → Stays s m (bounded_by c value) other
    stays other far whole =
        subst (λ w. lower_by c.side (value.den *ℤ amount_of s m other) (value.num *ℤ (m.den *ℤ w)) ≤ℤ upper_by c.side (value.den *ℤ amount_of s m other) (value.num *ℤ (m.den *ℤ w)))
        (own ∙ sym whole) (far-stays c.side value.num value.den (m.den *ℤ figure.whole) figure.sum (amount_of s m other) least.positive is far)

-- ---- all conditions

pub stands-next : (s : GeneralSetting) (m : Mechanism) (cs : List Condition) (i : ℕ) (d : Condition) (standings : List Standing) (standing : Standing) → i < length cs → AreStandings s m (take i cs) standings
    → IsStanding s m (get_or cs i d) standing → AreStandings s m (take (i + 1) cs) (standings ++ standing ∷ [])
stands-next s m cs i d standings standing below before here =
    subst (λ xs. AreStandings s m xs (standings ++ standing ∷ [])) (sym (take_more cs i d below)) (all_zipped_more (IsStanding s m) (take i cs) standings (get_or cs i d) standing before here)

pub met-all : (s : GeneralSetting) (m : Mechanism) (cs : List Condition) (standings : List Standing) → AreStandings s m cs standings → AreMet standings ↔ MeetsAll s cs m
met-all s m [] [] h = (λ _. All-nil (IsMet s m), λ _. All-nil (λ (x : Standing). IsTrue x.met))
met-all s m [] (x ∷ xs) h = absurd h
met-all s m (c ∷ cs) [] h = absurd h
met-all s m (c ∷ cs) (x ∷ xs) h =
    let P : Standing → Type 0 = λ y. IsTrue y.met in
    let rest = met-all s m cs xs h.1 in (
      λ all. All-cons (IsMet s m) c cs (h.0.met.0 (All-head P x xs all)) (rest.0 (All-tail P x xs all)),
      λ all. All-cons P x xs (h.0.met.1 (All-head (IsMet s m) c cs all)) (rest.1 (All-tail (IsMet s m) c cs all)),
    )
