-- Where the values of a pool lie, and which values are ahead of it.
use Rattle.std.proofs.Common.{◌≡◌, ◌⊎◌, ℕ, zero, suc, ◌<◌, ◌≤◌, Bool, true, false, not, ◌&&◌, ℤ, refl, sym, ap, ◌∙◌, arith, inl, inr, lt-ltb, le-ltb, eq-eqb, ne_eqb}
use Rattle.std.proofs.lemmas.Bool.{cases_lt}
use Rattle.md_iron_values.specs.Pools.{Pools, IsPooled}
use Rattle.md_iron_values.proofs.PoolLaws.{next-pool}
use Rattle.md_threshold_laws.specs.Rule.{buys, is_ahead, is_beside}

pub buys-true : (pools : Pools) (v : ℕ) → pools.reserve ≤ v → buys pools v ≡ true
buys-true pools v g = ap not (le-ltb v pools.reserve g)

pub buys-false : (pools : Pools) (v : ℕ) → v < pools.reserve → buys pools v ≡ false
buys-false pools v l = ap not (lt-ltb v pools.reserve l)

and-false : (b : Bool) → (b && false) ≡ false
and-false true = refl
and-false false = refl

module _ (kinds : ℕ) (weight sum : ℕ → ℤ) (pools : Pools) (p : IsPooled kinds weight sum pools) where
  -- ---- pools and their beginnings

  first-zero : 0 < kinds → pools.first 0 ≡ 0
  first-zero b = (let (low, high, inside) = p.place 0 b in omega (arith, low))

  pub first-begins : (j : ℕ) → j < kinds → pools.first (pools.first j) ≡ pools.first j
  first-begins zero b = ap pools.first (first-zero b)
  first-begins (suc j) b = elim (next-pool kinds weight sum pools p j b) [
    | inl e ↦ ap pools.first e.1
    | inr e ↦ (let (buy, first, stop) = e in ap pools.first first ∙ first-begins j (omega (arith, b)) ∙ sym first)
  ]

  pub stop-begins : (j : ℕ) → j < kinds → pools.stop (pools.first j) ≡ pools.stop j
  stop-begins zero b = ap pools.stop (first-zero b)
  stop-begins (suc j) b = elim (next-pool kinds weight sum pools p j b) [
    | inl e ↦ ap pools.stop e.1
    | inr e ↦ (let (buy, first, stop) = e in ap pools.stop first ∙ stop-begins j (omega (arith, b)) ∙ sym stop)
  ]

  pub buys-first : (j : ℕ) → j < kinds → pools.reserve ≤ j → pools.reserve ≤ pools.first j
  buys-first zero b g = omega (arith, g)
  buys-first (suc j) b g = elim (next-pool kinds weight sum pools p j b) [
    | inl e ↦ omega (arith, e.1, g)
    | inr e ↦ (let (buy, first, stop) = e in omega (arith, first, buys-first j (omega (arith, b)) buy))
  ]

  -- the values before the end of a pool are in it
  pub within : (x v : ℕ) → pools.first x ≡ x → x ≤ v → v < pools.stop x → v < kinds → (pools.first v ≡ x) × (pools.stop v ≡ pools.stop x)
  within x zero e l h b =
      let same : x ≡ 0 = omega (arith, l) in
      (sym (ap pools.first same) ∙ e, ap pools.stop (sym same))
  within x (suc v) e l h b = elim (cases_lt v x) [
    | inl m ↦
        let same : x ≡ suc v = omega (arith, l, m) in
        (sym (ap pools.first same) ∙ e, ap pools.stop (sym same))
    | inr m ↦
        let (first, stop) = within x v e m (omega (arith, h)) (omega (arith, b)) in
        elim (next-pool kinds weight sum pools p v b) [
          | inl f ↦ absurd (omega (arith, f.0, stop, h))
          | inr f ↦ (let (buy, first', stop') = f in (first' ∙ first, stop' ∙ stop))
        ]
  ]

  -- the pools of the values behind it begin behind it
  pub behind : (x v : ℕ) → pools.first x ≡ x → x < kinds → pools.stop x ≤ v → v < kinds → pools.stop x ≤ pools.first v
  behind x zero e c h b = (let (low, high, inside) = p.place x c in absurd (omega (arith, high, h)))
  behind x (suc v) e c h b =
      let (low, high, inside) = p.place x c in
      elim (next-pool kinds weight sum pools p v b) [
        | inl f ↦ omega (arith, f.1, h)
        | inr f ↦
            let (buy, first', stop') = f in
            elim (cases_lt v (pools.stop x)) [
              | inl m ↦
                  let (first, stop) = within x v e (omega (arith, m, h, high)) m (omega (arith, b)) in
                  let (low', high', inside') = p.place (suc v) b in
                  absurd (omega (arith, high', stop', stop, m, h))
              | inr m ↦ omega (arith, first', behind x v e c m (omega (arith, b)))
            ]
      ]

  -- so the next value begins a pool
  pub next-begins : (x : ℕ) → pools.first x ≡ x → x < kinds → pools.stop x < kinds → pools.first (pools.stop x) ≡ pools.stop x
  next-begins x e c b =
      let (low, high, inside) = p.place (pools.stop x) b in
      omega (arith, low, behind x (pools.stop x) e c (omega arith) b)

  -- ---- which values are beside and ahead of the one that begins a pool

  pub beside-below : (x v : ℕ) → pools.first x ≡ x → v < x → v < kinds → is_beside pools x v ≡ false
  beside-below x v e l b =
      let (low, high, inside) = p.place v b in
      ap (λ t. (buys pools x && buys pools v) && t) (ne_eqb (pools.first v) (pools.first x) (λ f. omega (arith, f, e, low, l)))
      ∙ and-false (buys pools x && buys pools v)

  pub beside-within : (x v : ℕ) → pools.first x ≡ x → pools.reserve ≤ x → x ≤ v → v < pools.stop x → v < kinds → is_beside pools x v ≡ true
  beside-within x v e g l h b =
      rw (buys-true pools x g, buys-true pools v (omega (arith, g, l)), eq-eqb (pools.first v) (pools.first x) ((within x v e l h b).0 ∙ sym e)) refl

  pub beside-behind : (x v : ℕ) → pools.first x ≡ x → x < kinds → pools.stop x ≤ v → v < kinds → is_beside pools x v ≡ false
  beside-behind x v e c h b =
      let (low, high, inside) = p.place x c in
      let far = behind x v e c h b in
      ap (λ t. (buys pools x && buys pools v) && t) (ne_eqb (pools.first v) (pools.first x) (λ f. omega (arith, f, e, high, far)))
      ∙ and-false (buys pools x && buys pools v)

  pub ahead-before : (x v : ℕ) → pools.first x ≡ x → v < pools.stop x → v < kinds → is_ahead pools x v ≡ false
  ahead-before x v e h b =
      let (low, high, inside) = p.place v b in
      ap (λ t. buys pools v && t) (le-ltb (pools.first x) (pools.first v) (near (cases_lt v x))) ∙ and-false (buys pools v)
    where
      near : (v < x) ⊎ (x ≤ v) → pools.first v ≤ pools.first x
      near (inl l) = (let (low, high, inside) = p.place v b in omega (arith, low, l, e))
      near (inr l) = (let first = (within x v e l h b).0 in omega (arith, first, e))

  pub ahead-behind : (x v : ℕ) → pools.first x ≡ x → pools.reserve ≤ x → x < kinds → pools.stop x ≤ v → v < kinds → is_ahead pools x v ≡ true
  ahead-behind x v e g c h b =
      let (low, high, inside) = p.place x c in
      let far = behind x v e c h b in
      rw (buys-true pools v (omega (arith, g, high, h)), lt-ltb (pools.first x) (pools.first v) (omega (arith, e, high, far))) refl
