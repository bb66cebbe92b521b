-- Laws of the nodes of a search tree: what is fixed in them, and which choices agree with them. Each choice agrees with the first
-- node, and one that agrees with a node agrees with one of its children.
use Rattle.std.proofs.Common.{◌≡◌, ◌≢◌, ℕ, zero, suc, ◌+◌, ◌<◌, List, Option, Some, None, [], ◌∷◌, ◌++◌, length, get_or, drop, cond, is_none, refl, sym, ap, subst, ◌∙◌, inl, inr, arith, length-set, get_or-set_same, get_or-set_other}
use Rattle.std.specs.Prelude.{slice_get, ◌⊎◌}
use Rattle.std.specs.List.{Contains, All}
use Rattle.std.proofs.lemmas.List.Elements.{Contains-append_left, Contains-append_right}
use Rattle.std.proofs.lemmas.List.Sums.{sum_by-set}
use Rattle.std.proofs.lemmas.Option.{none-some, same_Some, slice_get-get_or}
use Rattle.md_math.proofs.Builders.{length-list_to, get_or-list_to, All-list_to}
use Rattle.md_determ_branching.specs.Fixed.{fixed_at, nothing_fixed, with_fixed, IsFree, IsWhole, free_count, children_of, AreOutcomes, Agrees}
use Rattle.md_determ_branching.specs.Tour.{Tour, SomeAgrees, current_of, rest_of}

-- ---- what is fixed in a child

pub length-with_fixed : (fixed : List (Option ℕ)) (rank outcome : ℕ) → length (with_fixed fixed rank outcome) ≡ length fixed
length-with_fixed fixed rank outcome = length-set fixed rank (Some outcome)

pub fixed_at-here : (fixed : List (Option ℕ)) (rank outcome : ℕ) → rank < length fixed → fixed_at (with_fixed fixed rank outcome) rank ≡ Some outcome
fixed_at-here fixed rank outcome b = get_or-set_same fixed rank (Some outcome) None b

pub fixed_at-elsewhere : (fixed : List (Option ℕ)) (rank outcome r : ℕ) → r ≢ rank → fixed_at (with_fixed fixed rank outcome) r ≡ fixed_at fixed r
fixed_at-elsewhere fixed rank outcome r ne = get_or-set_other fixed rank r (Some outcome) None ne

-- what is fixed in a child is its own outcome, or was fixed before
pub fixed_at-cases : (fixed : List (Option ℕ)) (rank outcome r o : ℕ) → fixed_at (with_fixed fixed rank outcome) r ≡ Some o → ((r ≡ rank) × (o ≡ outcome)) ⊎ (fixed_at fixed r ≡ Some o)
fixed_at-cases [] rank outcome r o e = inr e
fixed_at-cases (x ∷ fixed) zero outcome zero o e = inl (refl, sym (same_Some outcome o e))
fixed_at-cases (x ∷ fixed) zero outcome (suc r) o e = inr e
fixed_at-cases (x ∷ fixed) (suc rank) outcome zero o e = inr e
fixed_at-cases (x ∷ fixed) (suc rank) outcome (suc r) o e =
    elim (fixed_at-cases fixed rank outcome r o e) [ inl (here, same) ↦ inl (ap suc here, same) | inr before ↦ inr before ]

-- one rank less is free
pub free_count-child : (fixed : List (Option ℕ)) (rank outcome : ℕ) → IsFree fixed rank → free_count (with_fixed fixed rank outcome) + 1 ≡ free_count fixed
free_count-child fixed rank outcome h =
    let count : Option ℕ → ℕ = λ entry. cond (is_none entry) 1 0 in
    let changed = sum_by-set count fixed rank (Some outcome) None h.below in
    let before : count (get_or fixed rank None) ≡ 1 = ap count h.free in
    omega (arith, changed, before)

-- the child with an outcome stands at its place
pub child-at : (outcomes : ℕ) (fixed : List (Option ℕ)) (rank outcome : ℕ) → outcome < outcomes → slice_get (children_of outcomes fixed rank) outcome ≡ Some (with_fixed fixed rank outcome)
child-at outcomes fixed rank outcome b =
    slice_get-get_or (children_of outcomes fixed rank) outcome [] (omega (arith, length-list_to outcomes (with_fixed fixed rank)))
    ∙ ap Some (get_or-list_to outcomes (with_fixed fixed rank) outcome [] b)

pub child-contained : (outcomes : ℕ) (fixed : List (Option ℕ)) (rank outcome : ℕ) → outcome < outcomes → Contains (children_of outcomes fixed rank) (with_fixed fixed rank outcome)
child-contained outcomes fixed rank outcome b =
    (outcome, omega (arith, length-list_to outcomes (with_fixed fixed rank)), get_or-list_to outcomes (with_fixed fixed rank) outcome (with_fixed fixed rank outcome) b)

-- ---- the outcomes that are fixed

pub fixed_at-nothing : (ranks rank : ℕ) → fixed_at (nothing_fixed ranks) rank ≡ None
fixed_at-nothing zero rank = refl
fixed_at-nothing (suc ranks) zero = refl
fixed_at-nothing (suc ranks) (suc rank) = fixed_at-nothing ranks rank

pub AreOutcomes-nothing : (outcomes ranks : ℕ) → AreOutcomes outcomes (nothing_fixed ranks)
AreOutcomes-nothing outcomes ranks =
    record { below = λ rank outcome e. absurd (none-some outcome (sym (fixed_at-nothing ranks rank) ∙ e)) }

pub AreOutcomes-child : (outcomes : ℕ) (fixed : List (Option ℕ)) (rank outcome : ℕ) → outcome < outcomes → AreOutcomes outcomes fixed → AreOutcomes outcomes (with_fixed fixed rank outcome)
AreOutcomes-child outcomes fixed rank outcome b h = record {
  below = λ r o e.
      elim (fixed_at-cases fixed rank outcome r o e) [ inl (here, same) ↦ omega arith | inr before ↦ h.below r o before ];
}

pub AreOutcomes-children : (outcomes : ℕ) (fixed : List (Option ℕ)) (rank : ℕ) → AreOutcomes outcomes fixed → All (AreOutcomes outcomes) (children_of outcomes fixed rank)
AreOutcomes-children outcomes fixed rank h =
    All-list_to (AreOutcomes outcomes) outcomes (with_fixed fixed rank) (λ outcome b. AreOutcomes-child outcomes fixed rank outcome b h)

-- ---- nodes with an outcome at each rank

pub IsWhole-outcome : (fixed : List (Option ℕ)) (rank : ℕ) → IsWhole fixed → rank < length fixed → (outcome : ℕ) × (fixed_at fixed rank ≡ Some outcome)
IsWhole-outcome fixed rank h b = at (fixed_at fixed rank) refl
  where
    at : (entry : Option ℕ) → fixed_at fixed rank ≡ entry → (outcome : ℕ) × (fixed_at fixed rank ≡ Some outcome)
    at None e = absurd (h.at rank b e)
    at (Some outcome) e = (outcome, e)

pub IsWhole-none_free : (fixed : List (Option ℕ)) (rank : ℕ) → IsWhole fixed → IsFree fixed rank → ⊥
IsWhole-none_free fixed rank h f = h.at rank f.below f.free

-- ---- choices that agree with a node

pub all-agree_nothing : (choice : ℕ → ℕ) (ranks : ℕ) → Agrees choice (nothing_fixed ranks)
all-agree_nothing choice ranks =
    record { same = λ rank outcome e. absurd (none-some outcome (sym (fixed_at-nothing ranks rank) ∙ e)) }

-- who agrees with a child agrees with the node
pub agrees-child : (choice : ℕ → ℕ) (fixed : List (Option ℕ)) (rank outcome : ℕ) → IsFree fixed rank → Agrees choice (with_fixed fixed rank outcome) → Agrees choice fixed
agrees-child choice fixed rank outcome f h = record {
  same = λ r o e.
      let other : r ≢ rank = λ same. none-some o (sym f.free ∙ sym (ap (fixed_at fixed) same) ∙ e) in
      h.same r o (fixed_at-elsewhere fixed rank outcome r other ∙ e);
}

-- and has the outcome of the child
pub agrees-outcome : (choice : ℕ → ℕ) (fixed : List (Option ℕ)) (rank outcome : ℕ) → rank < length fixed → Agrees choice (with_fixed fixed rank outcome) → choice rank ≡ outcome
agrees-outcome choice fixed rank outcome b h = h.same rank outcome (fixed_at-here fixed rank outcome b)

-- who agrees with a node agrees with its child of the same outcome
pub agrees-with_fixed : (choice : ℕ → ℕ) (fixed : List (Option ℕ)) (rank : ℕ) → Agrees choice fixed → Agrees choice (with_fixed fixed rank (choice rank))
agrees-with_fixed choice fixed rank h = record {
  same = λ r o e.
      elim (fixed_at-cases fixed rank (choice rank) r o e) [ inl (here, same) ↦ ap choice here ∙ sym same | inr before ↦ h.same r o before ];
}

-- a node with an outcome at each rank leaves one choice
pub agrees-whole : (choice : ℕ → ℕ) (fixed : List (Option ℕ)) (rank : ℕ) → IsWhole fixed → Agrees choice fixed → rank < length fixed → fixed_at fixed rank ≡ Some (choice rank)
agrees-whole choice fixed rank w h b =
    let (outcome, e) = IsWhole-outcome fixed rank w b in
    e ∙ sym (ap Some (h.same rank outcome e))

-- ---- choices that agree with an open node

pub some-first : (choice : ℕ → ℕ) (ranks : ℕ) → SomeAgrees choice (nothing_fixed ranks ∷ [])
some-first choice ranks =
    record { node = nothing_fixed ranks; open_is = (0, omega arith, refl); agrees = all-agree_nothing choice ranks }

pub some-none : (choice : ℕ → ℕ) → SomeAgrees choice [] → ⊥
some-none choice h = let (k, b, e) = h.open_is in omega (arith, b)

pub some-front : (choice : ℕ → ℕ) (front rest : List (List (Option ℕ))) → SomeAgrees choice front → SomeAgrees choice (front ++ rest)
some-front choice front rest h =
    record { node = h.node; open_is = Contains-append_left front rest h.node h.open_is; agrees = h.agrees }

pub some-behind : (choice : ℕ → ℕ) (front rest : List (List (Option ℕ))) → SomeAgrees choice rest → SomeAgrees choice (front ++ rest)
some-behind choice front rest h =
    record { node = h.node; open_is = Contains-append_right front rest h.node h.open_is; agrees = h.agrees }

pub some-cases : (choice : ℕ → ℕ) (node : List (Option ℕ)) (rest : List (List (Option ℕ))) → SomeAgrees choice (node ∷ rest) → Agrees choice node ⊎ SomeAgrees choice rest
some-cases choice node rest h = let (k, b, e) = h.open_is in at k b e
  where
    at : (k : ℕ) → k < length (node ∷ rest) → get_or (node ∷ rest) k h.node ≡ h.node → Agrees choice node ⊎ SomeAgrees choice rest
    at zero b e = inl (subst (Agrees choice) (sym e) h.agrees)
    at (suc k) b e = inr (record { node = h.node; open_is = (k, omega arith, e); agrees = h.agrees })

-- a choice among the outcomes that agrees with a node agrees with one of its children
pub some-child : (choice : ℕ → ℕ) (outcomes : ℕ) (fixed : List (Option ℕ)) (rank : ℕ) → choice rank < outcomes → Agrees choice fixed → SomeAgrees choice (children_of outcomes fixed rank)
some-child choice outcomes fixed rank b h = record {
  node = with_fixed fixed rank (choice rank);
  open_is = child-contained outcomes fixed rank (choice rank) b;
  agrees = agrees-with_fixed choice fixed rank h;
}

-- it still agrees with an open node where one was replaced by its children
pub some-of_children : (choice : ℕ → ℕ) (outcomes : ℕ) (fixed : List (Option ℕ)) (rank : ℕ) (rest : List (List (Option ℕ))) → choice rank < outcomes → SomeAgrees choice (fixed ∷ rest) → SomeAgrees choice (children_of outcomes fixed rank ++ rest)
some-of_children choice outcomes fixed rank rest b h =
    elim (some-cases choice fixed rest h) [
      | inl here ↦ some-front choice (children_of outcomes fixed rank) rest (some-child choice outcomes fixed rank b here)
      | inr behind ↦ some-behind choice (children_of outcomes fixed rank) rest behind
    ]

-- a choice that agrees with an open node agrees with the one that is visited, or with one that comes after it
pub some-visited : (choice : ℕ → ℕ) (tour : Tour) → SomeAgrees choice tour.opens → Agrees choice (current_of tour) ⊎ SomeAgrees choice (rest_of tour)
some-visited choice tour h = at tour.opens h
  where
    at : (opens : List (List (Option ℕ))) → SomeAgrees choice opens → Agrees choice (get_or opens 0 []) ⊎ SomeAgrees choice (drop 1 opens)
    at [] h = absurd (some-none choice h)
    at (node ∷ rest) h = some-cases choice node rest h

-- after a branch
pub some-branched : (choice : ℕ → ℕ) (tour : Tour) (rank : ℕ) → choice rank < tour.outcomes → SomeAgrees choice tour.opens → SomeAgrees choice (children_of tour.outcomes (current_of tour) rank ++ rest_of tour)
some-branched choice tour rank b h =
    elim (some-visited choice tour h) [
      | inl here ↦
          some-front choice (children_of tour.outcomes (current_of tour) rank) (rest_of tour) (some-child choice tour.outcomes (current_of tour) rank b here)
      | inr behind ↦ some-behind choice (children_of tour.outcomes (current_of tour) rank) (rest_of tour) behind
    ]

pub some-over : (choice : ℕ → ℕ) (tour : Tour) → tour.opens ≡ [] → SomeAgrees choice tour.opens → ⊥
some-over choice tour e h = some-none choice (subst (SomeAgrees choice) e h)
