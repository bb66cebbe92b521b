-- The first condition that is not met.
use Rattle.std.proofs.Common.{◌≡◌, ℕ, ℤ, ◌≤ℤ◌, ◌<ℤ◌, ◌∷◌, All, sym, ap, ◌∙◌, subst, arith, List}
use Rattle.std.proofs.lemmas.Int.{ints}
use Rattle.std.proofs.lemmas.List.Elements.{All-head}
use Rattle.md_math.proofs.Builders.{All-right}
use Rattle.md_setting.specs.Setting.{GeneralSetting}
use Rattle.md_mech.specs.declared.mechanism.Mechanism.{Mechanism}
use Rattle.md_question.specs.declared.unmet.Unmet.{Unmet}
use Rattle.md_question_check.proofs.OneVerdict.{one-split}
use Rattle.md_require.specs.declared.condition.Condition.{Condition}
use Rattle.md_require.specs.Conditions.{IsFirstUnmet, IsMet, IsMissed, MeetsAll, Stays, lower_of, upper_of}

same_unmet : (a b : Unmet) → a.condition ≡ b.condition → a.left ≡ b.left → a.right ≡ b.right → a ≡ b
same_unmet a b condition left right =
    let by_condition : ℕ → Unmet = λ c. record { condition = c; left = a.left; right = a.right } in
    let by_left : ℤ → Unmet = λ l. record { condition = b.condition; left = l; right = a.right } in
    let by_right : ℤ → Unmet = λ r. record { condition = b.condition; left = b.left; right = r } in
    ap by_condition condition ∙ ap by_left left ∙ ap by_right right

module _ (s : GeneralSetting) (m : Mechanism) where
  not-stays : (c : Condition) (unmet : Unmet) (h : IsMissed s m c unmet) → ¬ Stays s m c h.amount
  not-stays c unmet h stays = over (lower_of s m c h.amount) (upper_of s m c h.amount) unmet.left unmet.right h.left h.right h.less stays
    where
      over : (lower upper left right : ℤ) → left ≡ upper → right ≡ lower → left <ℤ right → lower ≤ℤ upper → ⊥
      over lower upper left right l r less atmost = omega (arith, ints, l, r, less, atmost)

  pub not-met : (c : Condition) (unmet : Unmet) → IsMissed s m c unmet → ¬ IsMet s m c
  not-met c unmet h met =
      not-stays c unmet h
      (All-head (Stays s m c) h.amount h.after (All-right (Stays s m c) h.before (h.amount ∷ h.after) (subst (All (Stays s m c)) h.parts met)))

  pub unmet-not_met : (conditions : List Condition) (unmet : Unmet) → IsFirstUnmet s conditions m unmet → ¬ MeetsAll s conditions m
  unmet-not_met conditions unmet h meets =
      not-met h.condition unmet h.missed
      (All-head (IsMet s m) h.condition h.after (All-right (IsMet s m) h.before (h.condition ∷ h.after) (subst (All (IsMet s m)) h.parts meets)))

  one-missed : (c : Condition) (a b : Unmet) → IsMissed s m c a → IsMissed s m c b → (a.left ≡ b.left) × (a.right ≡ b.right)
  one-missed c a b h k =
      let same = (one-split (Stays s m c) h.before k.before h.amount k.amount h.after k.after (sym h.parts ∙ k.parts) h.stay k.stay (not-stays c a h) (not-stays c b k)).1 in
      (h.left ∙ ap (upper_of s m c) same ∙ sym k.left, h.right ∙ ap (lower_of s m c) same ∙ sym k.right)

  pub one-unmet : (conditions : List Condition) (a b : Unmet) → IsFirstUnmet s conditions m a → IsFirstUnmet s conditions m b → a ≡ b
  one-unmet conditions a b h k =
      let same = one-split (IsMet s m) h.before k.before h.condition k.condition h.after k.after (sym h.parts ∙ k.parts) h.met k.met (not-met h.condition a h.missed) (not-met k.condition b k.missed) in
      let sides = one-missed h.condition a b h.missed (subst (λ c. IsMissed s m c b) (sym same.1) k.missed) in
      same_unmet a b (h.number ∙ same.0 ∙ sym k.number) sides.0 sides.1
