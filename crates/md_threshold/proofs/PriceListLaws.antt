-- Lists of prices that grow.
use Rattle.std.proofs.Common.{◌≡◌, ℕ, ◌<◌, ◌≤◌, true, List, [], ◌∷◌, ◌++◌, map, All, None, refl, sym, ap, ◌∙◌, subst, arith, append-nil, append_assoc, inl, inr, eqb-true, lt-ltb, le-ltb, false, ◌==◌, if◌then◌else◌}
use Rattle.std.proofs.lemmas.List.{map-append}
use Rattle.std.proofs.lemmas.List.Elements.{All-push}
use Rattle.std.proofs.lemmas.Bool.{cases_lt}
use Rattle.md_setting.specs.AuctionShaped.{IsAuction}
use Rattle.md_setting.specs.Auction.{SymmetricAuction, value_count}
use Rattle.md_iron_values.specs.Cuts.{begins}
use Rattle.md_iron_values.specs.Pools.{Pools}
use Rattle.md_iron_values.specs.VirtualValues.{weight_to, virtual_to, IsPooledAuction}
use Rattle.md_iron_values.proofs.PoolLaws.{reserve-begins}
use Rattle.md_threshold.specs.declared.price.Price.{Price}
use Rattle.md_threshold.specs.PriceLists.{PriceCase, case_of, IsCasePrice, IsCase, AddsPrices}

pub adds-none : (a : SymmetricAuction) (pools : Pools) (rows : List Price) → AddsPrices a pools [] rows rows
adds-none a pools rows = record { cases_are = sym (append-nil (map case_of rows)); right = λ h. h }

pub adds-one : (a : SymmetricAuction) (pools : Pools) (row : Price) (old new : List Price) → new ≡ old ++ row ∷ [] → IsCasePrice a pools row → AddsPrices a pools (case_of row ∷ []) old new
adds-one a pools row old new e is = record {
  cases_are = ap (map case_of) e ∙ map-append case_of old (row ∷ []);
  right = λ h. subst (All (IsCasePrice a pools)) (sym e) (All-push (IsCasePrice a pools) old row h is);
}

pub adds-more : (a : SymmetricAuction) (pools : Pools) (cases more : List PriceCase) (old mid new : List Price) → AddsPrices a pools cases old mid → AddsPrices a pools more mid new → AddsPrices a pools (cases ++ more) old new
adds-more a pools cases more old mid new first next = record {
  cases_are = next.cases_are ∙ ap (λ xs. xs ++ more) first.cases_are ∙ append_assoc (map case_of old) cases more;
  right = λ h. next.right (first.right h);
}

-- ---- the first case of a pool

begun : (pools : Pools) (s : ℕ) → begins pools s ≡ true → (pools.reserve ≤ s) × (pools.first s ≡ s)
begun pools s h = elim (cases_lt s pools.reserve) [
  | inl l ↦ absurd (clash (sym h ∙ ap (λ x. if x then false else (pools.first s == s)) (lt-ltb s pools.reserve l)))
  | inr l ↦ (l, eqb-true (pools.first s) s (sym (ap (λ x. if x then false else (pools.first s == s)) (le-ltb s pools.reserve l)) ∙ h))
]
  where
    clash : true ≡ false → ⊥
    clash e = cc

pub none-case : (a : SymmetricAuction) (pools : Pools) (pool : ℕ) → IsAuction a → IsPooledAuction a pools → pool < value_count a → begins pools pool ≡ true → IsCase a pools pool None 0
none-case a pools pool shaped p b h =
    let is = begun pools pool h in
    record {
      inside = b;
      buys = is.0;
      best = is.0;
      best_buys = omega arith;
      not_above = omega (arith, is.0, is.1, reserve-begins (value_count a) (weight_to a) (virtual_to a) pools p (omega (arith, is.0, b)));
      few = omega (arith, shaped.some_bidder);
      none = λ e. refl;
    }
