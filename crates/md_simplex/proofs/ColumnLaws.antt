-- The first column in an order: found by trying one after another, and that there is one or none.
use Rattle.std.proofs.Common.{◌≡◌, ◌⊎◌, ℕ, zero, suc, ◌-◌, ◌<◌, ◌≤◌, inl, inr, subst, arith}
use Rattle.std.proofs.lemmas.Bool.{cases_lt}
use Rattle.md_simplex.specs.declared.order.Order.{Order}
use Rattle.md_simplex.specs.declared.order.Order.TheVariants.{Forward, Backward}
use Rattle.md_simplex.specs.Rules.{IsFirstIn}
use Rattle.md_simplex.specs.Columns.{HasNoColumn, tried_at}

pub tried_in : (order : Order) (n place : ℕ) → place < n → tried_at order n place < n
tried_in Forward n place b = b
tried_in Backward n place b = omega arith

-- of the columns that were tried, the last is the first with P
pub first_found : (order : Order) (n place : ℕ) (P : ℕ → Type 0) → place < n → ((k : ℕ) → k < place → ¬ P (tried_at order n k)) → P (tried_at order n place) → IsFirstIn order n P (tried_at order n place)
first_found Forward n place P b none h = record { inside = b; holds = h; others = λ j a l. none j l }
first_found Backward n place P b none h = record {
  inside = omega arith;
  holds = h;
  others = λ j a l. (let e : n - suc (n - suc j) ≡ j = omega arith in subst (λ i. ¬ P i) e (none (n - suc j) (omega arith)));
}

pub none_found : (order : Order) (n : ℕ) (P : ℕ → Type 0) → ((k : ℕ) → k < n → ¬ P (tried_at order n k)) → HasNoColumn n P
none_found Forward n P none = record { none = none }
none_found Backward n P none = record { none = λ j b. (let e : n - suc (n - suc j) ≡ j = omega arith in subst (λ i. ¬ P i) e (none (n - suc j) (omega arith))) }

-- a column was found, or none was before a place
data Tried (order : Order) (n place : ℕ) (P : ℕ → Type 0) : Type 0 where
  Found : (c : ℕ) → IsFirstIn order n P c → Tried order n place P
  NoneYet : ((k : ℕ) → k < place → ¬ P (tried_at order n k)) → Tried order n place P

tried_more : (order : Order) (n place : ℕ) (P : ℕ → Type 0) → place < n → P (tried_at order n place) ⊎ (¬ P (tried_at order n place)) → Tried order n place P → Tried order n (suc place) P
tried_more order n place P b test (Found c f) = Found c f
tried_more order n place P b (inl h) (NoneYet none) = Found (tried_at order n place) (first_found order n place P b none h)
tried_more order n place P b (inr o) (NoneYet none) = NoneYet (λ k a.
    elim (cases_lt k place) [
      | inl l ↦ none k l
      | inr l ↦ (let e : place ≡ k = omega arith in subst (λ i. ¬ P (tried_at order n i)) e o)
    ])

tried : (order : Order) (n place : ℕ) (P : ℕ → Type 0) → ((j : ℕ) → P j ⊎ (¬ P j)) → place ≤ n → Tried order n place P
tried order n zero P test b = NoneYet (λ k a. absurd (omega arith))
tried order n (suc place) P test b = tried_more order n place P (omega arith) (test (tried_at order n place)) (tried order n place P test (omega arith))

-- a column is the first, or there is none
pub data Search (order : Order) (n : ℕ) (P : ℕ → Type 0) : Type 0 where
  First : (c : ℕ) → IsFirstIn order n P c → Search order n P
  Nowhere : HasNoColumn n P → Search order n P

searched : (order : Order) (n : ℕ) (P : ℕ → Type 0) → Tried order n n P → Search order n P
searched order n P (Found c f) = First c f
searched order n P (NoneYet none) = Nowhere (none_found order n P none)

pub search_columns : (order : Order) (n : ℕ) (P : ℕ → Type 0) → ((j : ℕ) → P j ⊎ (¬ P j)) → Search order n P
search_columns order n P test = searched order n P (tried order n n P test (omega arith))
