-- A search has one answer.
use Rattle.std.proofs.Common.{◌≡◌, ◌⊎◌, inl, inr, ℕ, ℤ, pos, ◌*ℤ◌, ◌<ℤ◌, List, [], ◌∷◌, ◌++◌, Option, None, Some, refl, sym, ap, ap₂, ◌∙◌, subst, arith}
use Rattle.std.proofs.lemmas.Bool.{cases_lt}
use Rattle.md_math.proofs.Order.{positive-*ℤ}
use Rattle.md_num.specs.declared.frac.Frac.{Frac}
use Rattle.md_setting.specs.Setting.{GeneralSetting}
use Rattle.md_setting.specs.Meaning.{outcome_count, total_of}
use Rattle.md_mech.specs.declared.mechanism.Mechanism.{Mechanism}
use Rattle.md_mech.specs.Optimal.{worth_of}
use Rattle.md_mech.specs.Value.{IsValueOf}
use Rattle.md_lp.specs.declared.pivot.Pivot.{Pivot}
use Rattle.md_lp.specs.declared.wide.Wide.{Wide}
use Rattle.md_cert.specs.declared.bound.Bound.{Bound}
use Rattle.md_question.proofs.OneFraction.{one_fraction}
use Rattle.md_determ_branching.specs.Fixed.{IsFirstFree, children_of}
use Rattle.md_determ_node.specs.Deterministic.{IsDeterministic}
use Rattle.md_tree.specs.Trees.{root_of}
use Rattle.md_tree.specs.declared.answer.DetAnswer.{DetAnswer}
use Rattle.md_tree.specs.declared.answer.DetAnswer.TheVariants as answers
use Rattle.md_tree.specs.declared.node.Node.{Node}
use Rattle.md_tree.specs.declared.node.Node.TheVariants as nodes
use Rattle.md_determ.specs.Readings.{IsReadAt}
use Rattle.md_determ.specs.Search.{IsFinished, IsNoBetter, IsSearched, IsSearchFrom, IsStoppedAt, LeavesOpen}
use Rattle.md_question_solve.specs.declared.reading.Reading.{Reading}
use Rattle.md_question_solve.specs.declared.reading.Reading.TheVariants.{Optimal, Infeasible, Unbounded}
use Rattle.md_determ.proofs.ReadingLaws.{one-reading, one-wide, read-not_wide, read-positive}

-- ---- kinds of readings

-- the leaf that tells a reading; a reading without end is told by no leaf
abbrev leaf_of : Reading → Node
leaf_of (Optimal m bound) = nodes.Optimal m bound
leaf_of (Infeasible face) = nodes.Infeasible face
leaf_of (Unbounded m pays) = nodes.Branch 0

abbrev end_of : Reading → DetAnswer
end_of (Unbounded m pays) = answers.Unbounded m pays
end_of (Optimal m bound) = answers.Infeasible []
end_of (Infeasible face) = answers.Infeasible []

abbrev IsOptimalReading : Reading → Type 0
IsOptimalReading (Optimal m bound) = Unit {0}
IsOptimalReading _ = ⊥

abbrev IsInfeasibleReading : Reading → Type 0
IsInfeasibleReading (Infeasible face) = Unit {0}
IsInfeasibleReading _ = ⊥

not-both : (m : Mechanism) (bound : Bound) (face : List ℤ) → Optimal m bound ≡ Infeasible face → ⊥
not-both m bound face same = subst IsOptimalReading same tt

not-optimal : (m leaf : Mechanism) (pays : List ℤ) (bound : Bound) → Optimal leaf bound ≡ Unbounded m pays → ⊥
not-optimal m leaf pays bound same = subst IsOptimalReading same tt

not-infeasible : (m : Mechanism) (pays face : List ℤ) → Infeasible face ≡ Unbounded m pays → ⊥
not-infeasible m pays face same = subst IsInfeasibleReading same tt

first-free : (fixed : List (Option ℕ)) (a b : ℕ) → IsFirstFree fixed a → IsFirstFree fixed b → a ≡ b
first-free fixed a b h k = elim (cases_lt a b) [
  | inl low ↦ absurd (k.first a low h.free.free)
  | inr high ↦ elim (cases_lt b a) [ inl low ↦ absurd (h.first b low k.free.free) | inr above ↦ omega (arith, high, above) ]
]

-- ---- the node that is visited

-- what was read makes it this node
abbrev IsNodeOf : GeneralSetting → Option Mechanism → List (Option ℕ) → Node → Reading → Type 0
IsNodeOf s best fixed (nodes.Branch rank) reading = LeavesOpen s best reading × IsFirstFree fixed rank
IsNodeOf s best fixed (nodes.Infeasible face) reading = reading ≡ Infeasible face
IsNodeOf s best fixed (nodes.Optimal m bound) reading = (reading ≡ Optimal m bound) × (IsNoBetter s best m ⊎ ((¬ IsNoBetter s best m) × IsDeterministic s m))

record IsVisited (s : GeneralSetting) (width : ℕ) (best : Option Mechanism) (fixed : List (Option ℕ)) (node : Node) : Type 0 where
  reading : Reading
  is_read : IsReadAt s width fixed reading
  is_node : IsNodeOf s best fixed node reading

visited-first : (s : GeneralSetting) (width : ℕ) (tree : List Node) (answer : DetAnswer) (best : Option Mechanism) (fixed : List (Option ℕ)) (opens : List (List (Option ℕ))) (node : Node) (visited : List Node)
    → IsSearchFrom s width tree answer best (fixed ∷ opens) (node ∷ visited) → IsVisited s width best fixed node
visited-first s width tree answer best fixed opens (nodes.Branch rank) visited h =
    record { reading = h.0.reading; is_read = h.0.is_read; is_node = (h.0.leaves_open, h.0.least) }
visited-first s width tree answer best fixed opens (nodes.Infeasible face) visited h = record { reading = Infeasible face; is_read = h.0; is_node = refl }
visited-first s width tree answer best fixed opens (nodes.Optimal m bound) visited h = record {
  reading = Optimal m bound;
  is_read = h.0;
  is_node = (refl, elim h.1 [ inl kept ↦ inl kept.0 | inr new ↦ inr (new.0, new.1) ]);
}

-- a leaf is not left open
closed-optimal : (s : GeneralSetting) (best : Option Mechanism) (m : Mechanism) (bound : Bound) (reading : Reading) → LeavesOpen s best reading → reading ≡ Optimal m bound
    → IsNoBetter s best m ⊎ ((¬ IsNoBetter s best m) × IsDeterministic s m) → ⊥
closed-optimal s best m bound reading opened same closed =
    let here : LeavesOpen s best (Optimal m bound) = subst (LeavesOpen s best) same opened in
    elim closed [ inl kept ↦ here.0 kept | inr new ↦ here.1 new.1 ]

closed-infeasible : (s : GeneralSetting) (best : Option Mechanism) (face : List ℤ) (reading : Reading) → LeavesOpen s best reading → reading ≡ Infeasible face → ⊥
closed-infeasible s best face reading opened same = subst (LeavesOpen s best) same opened

one-node : (s : GeneralSetting) (best : Option Mechanism) (fixed : List (Option ℕ)) (reading : Reading) (a b : Node) → IsNodeOf s best fixed a reading → IsNodeOf s best fixed b reading → a ≡ b
one-node s best fixed reading (nodes.Branch r) (nodes.Branch q) h k = ap nodes.Branch (first-free fixed r q h.1 k.1)
one-node s best fixed reading (nodes.Branch r) (nodes.Infeasible f) h k = absurd (closed-infeasible s best f reading h.0 k)
one-node s best fixed reading (nodes.Branch r) (nodes.Optimal m b) h k = absurd (closed-optimal s best m b reading h.0 k.0 k.1)
one-node s best fixed reading (nodes.Infeasible f) (nodes.Branch q) h k = absurd (closed-infeasible s best f reading k.0 h)
one-node s best fixed reading (nodes.Infeasible f) (nodes.Infeasible g) h k = ap leaf_of (sym h ∙ k)
one-node s best fixed reading (nodes.Infeasible f) (nodes.Optimal m b) h k = absurd (not-both m b f (sym k.0 ∙ h))
one-node s best fixed reading (nodes.Optimal m b) (nodes.Branch q) h k = absurd (closed-optimal s best m b reading k.0 h.0 h.1)
one-node s best fixed reading (nodes.Optimal m b) (nodes.Infeasible g) h k = absurd (not-both m b g (sym h.0 ∙ k))
one-node s best fixed reading (nodes.Optimal m b) (nodes.Optimal n c) h k = ap leaf_of (sym h.0 ∙ k.0)

one-visited : (s : GeneralSetting) (width : ℕ) (best : Option Mechanism) (fixed : List (Option ℕ)) (a b : Node) → IsVisited s width best fixed a → IsVisited s width best fixed b → a ≡ b
one-visited s width best fixed a b h k =
    one-node s best fixed k.reading a b (subst (IsNodeOf s best fixed a) (one-reading s width fixed h.reading k.reading h.is_read k.is_read) h.is_node) k.is_node

-- the search does not end at a node that it goes on from
unbounded-ends : (s : GeneralSetting) (best : Option Mechanism) (fixed : List (Option ℕ)) (m : Mechanism) (pays : List ℤ) (node : Node) (reading : Reading) → IsDeterministic s m → reading ≡ Unbounded m pays → IsNodeOf s best fixed node reading → ⊥
unbounded-ends s best fixed m pays (nodes.Branch rank) reading deterministic same h = (subst (LeavesOpen s best) same h.0) deterministic
unbounded-ends s best fixed m pays (nodes.Infeasible face) reading deterministic same h = not-infeasible m pays face (sym h ∙ same)
unbounded-ends s best fixed m pays (nodes.Optimal leaf bound) reading deterministic same h = not-optimal m leaf pays bound (sym h.0 ∙ same)

stopped-ends : (s : GeneralSetting) (width : ℕ) (best : Option Mechanism) (fixed : List (Option ℕ)) (answer : DetAnswer) (node : Node) → IsStoppedAt s width fixed answer → IsVisited s width best fixed node → ⊥
stopped-ends s width best fixed (answers.Optimal value m told) node h k = h
stopped-ends s width best fixed (answers.Infeasible told) node h k = h
stopped-ends s width best fixed (answers.Unbounded m pays) node h k =
    unbounded-ends s best fixed m pays node k.reading h.0 (one-reading s width fixed k.reading (Unbounded m pays) k.is_read h.1) k.is_node
stopped-ends s width best fixed (answers.TooWide pairs first second) node h k = read-not_wide s width fixed k.reading first second k.is_read h.1

-- ---- where it ends

stopped-one : (s : GeneralSetting) (width : ℕ) (fixed : List (Option ℕ)) (a b : DetAnswer) → IsStoppedAt s width fixed a → IsStoppedAt s width fixed b → a ≡ b
stopped-one s width fixed (answers.Unbounded m pays) (answers.Unbounded n others) h k = ap end_of (one-reading s width fixed (Unbounded m pays) (Unbounded n others) h.1 k.1)
stopped-one s width fixed (answers.TooWide pairs first second) (answers.TooWide others third fourth) h k =
    let wides = one-wide s width fixed first second third fourth h.1 k.1 in
    ap (λ (x : List Pivot). answers.TooWide x first second) (h.0 ∙ sym k.0)
    ∙ ap (λ (x : Wide). answers.TooWide others x second) wides.0
    ∙ ap (λ (x : Wide). answers.TooWide others third x) wides.1
stopped-one s width fixed (answers.Unbounded m pays) (answers.TooWide pairs first second) h k = absurd (read-not_wide s width fixed (Unbounded m pays) first second h.1 k.1)
stopped-one s width fixed (answers.TooWide pairs first second) (answers.Unbounded m pays) h k = absurd (read-not_wide s width fixed (Unbounded m pays) first second k.1 h.1)
stopped-one s width fixed (answers.Unbounded m pays) (answers.Optimal value n told) h k = absurd k
stopped-one s width fixed (answers.Unbounded m pays) (answers.Infeasible told) h k = absurd k
stopped-one s width fixed (answers.TooWide pairs first second) (answers.Optimal value n told) h k = absurd k
stopped-one s width fixed (answers.TooWide pairs first second) (answers.Infeasible told) h k = absurd k
stopped-one s width fixed (answers.Optimal value m told) b h k = absurd h
stopped-one s width fixed (answers.Infeasible told) b h k = absurd h

value-one : (s : GeneralSetting) (m : Mechanism) (v w : Frac) → pos 0 <ℤ (m.den *ℤ total_of s) → IsValueOf s m v → IsValueOf s m w → v ≡ w
value-one s m v w above a b =
    one_fraction (worth_of s m) (m.den *ℤ total_of s) v w above (record { same = a.is_value; least = a.least }) (record { same = b.is_value; least = b.least })

-- the best mechanism so far has a positive denominator
abbrev IsPositive : Option Mechanism → Type 0
IsPositive None = Unit {0}
IsPositive (Some best) = pos 0 <ℤ best.den

record TellsBest (s : GeneralSetting) (best : Mechanism) (tree : List Node) (answer : DetAnswer) : Type 0 where
  value : Frac
  is_value : IsValueOf s best value
  is : answer ≡ answers.Optimal value best tree

tells-best : (s : GeneralSetting) (best : Mechanism) (tree : List Node) (answer : DetAnswer) → IsFinished s (Some best) tree answer → TellsBest s best tree answer
tells-best s best tree (answers.Optimal value m told) h = record {
  value = value;
  is_value = h.1;
  is = ap (λ (k : Mechanism). answers.Optimal value k told) h.0 ∙ ap (λ (t : List Node). answers.Optimal value best t) h.2;
}
tells-best s best tree (answers.Infeasible told) h = absurd h
tells-best s best tree (answers.Unbounded m pays) h = absurd h
tells-best s best tree (answers.TooWide pairs first second) h = absurd h

tells-none : (s : GeneralSetting) (tree : List Node) (answer : DetAnswer) → IsFinished s None tree answer → answer ≡ answers.Infeasible tree
tells-none s tree (answers.Infeasible told) h = ap answers.Infeasible h
tells-none s tree (answers.Optimal value m told) h = absurd h
tells-none s tree (answers.Unbounded m pays) h = absurd h
tells-none s tree (answers.TooWide pairs first second) h = absurd h

module _ (s : GeneralSetting) (width : ℕ) (total : pos 0 <ℤ total_of s) (first second : List Node) (a b : DetAnswer) where
  finished-one : (best : Option Mechanism) → IsPositive best → IsFinished s best first a → IsFinished s best second b → first ≡ second → a ≡ b
  finished-one None positive h k same = tells-none s first a h ∙ ap answers.Infeasible same ∙ sym (tells-none s second b k)
  finished-one (Some best) positive h k same =
      let left = tells-best s best first a h in
      let right = tells-best s best second b k in
      left.is
      ∙ ap (λ (v : Frac). answers.Optimal v best first) (value-one s best left.value right.value (positive-*ℤ best.den (total_of s) positive total) left.is_value right.is_value)
      ∙ ap (λ (t : List Node). answers.Optimal right.value best t) same
      ∙ sym right.is

  -- the second search visits the same node
  same-node : (best : Option Mechanism) (fixed : List (Option ℕ)) (opens : List (List (Option ℕ))) (node other : Node) (visited others : List Node)
      → IsSearchFrom s width first a best (fixed ∷ opens) (node ∷ visited) → IsSearchFrom s width second b best (fixed ∷ opens) (other ∷ others) → other ≡ node
  same-node best fixed opens node other visited others h k =
      one-visited s width best fixed other node (visited-first s width second b best fixed opens other others k) (visited-first s width first a best fixed opens node visited h)

  abbrev SameFrom : List Node → List Node → Type 0
  SameFrom visited others = (visited ≡ others) × (first ≡ second → a ≡ b)

  joined : (node other : Node) (visited others : List Node) → other ≡ node → SameFrom visited others → SameFrom (node ∷ visited) (other ∷ others)
  joined node other visited others same rest = (ap₂ (λ (x : Node) (xs : List Node). x ∷ xs) (sym same) rest.0, rest.1)

  pub one-search : (best : Option Mechanism) (opens : List (List (Option ℕ))) (visited others : List Node) → IsPositive best
      → IsSearchFrom s width first a best opens visited → IsSearchFrom s width second b best opens others → SameFrom visited others
  one-search best [] [] [] positive h k = (refl, finished-one best positive h k)
  one-search best [] [] (other ∷ others) positive h k = absurd k
  one-search best [] (node ∷ visited) others positive h k = absurd h
  one-search best (fixed ∷ opens) [] [] positive h k = (refl, λ _. stopped-one s width fixed a b h k)
  one-search best (fixed ∷ opens) [] (other ∷ others) positive h k = absurd (stopped-ends s width best fixed a other h (visited-first s width second b best fixed opens other others k))
  one-search best (fixed ∷ opens) (node ∷ visited) [] positive h k = absurd (stopped-ends s width best fixed b node k (visited-first s width first a best fixed opens node visited h))
  one-search best (fixed ∷ opens) (nodes.Branch rank ∷ visited) (other ∷ others) positive h k =
      let same = same-node best fixed opens (nodes.Branch rank) other visited others h k in
      let there : IsSearchFrom s width second b best (fixed ∷ opens) (nodes.Branch rank ∷ others) = subst (λ x. IsSearchFrom s width second b best (fixed ∷ opens) (x ∷ others)) same k in
      joined (nodes.Branch rank) other visited others same (one-search best (children_of (outcome_count s) fixed rank ++ opens) visited others positive h.1 there.1)
  one-search best (fixed ∷ opens) (nodes.Infeasible face ∷ visited) (other ∷ others) positive h k =
      let same = same-node best fixed opens (nodes.Infeasible face) other visited others h k in
      let there : IsSearchFrom s width second b best (fixed ∷ opens) (nodes.Infeasible face ∷ others) = subst (λ x. IsSearchFrom s width second b best (fixed ∷ opens) (x ∷ others)) same k in
      joined (nodes.Infeasible face) other visited others same (one-search best opens visited others positive h.1 there.1)
  one-search best (fixed ∷ opens) (nodes.Optimal m bound ∷ visited) (other ∷ others) positive h k =
      let same = same-node best fixed opens (nodes.Optimal m bound) other visited others h k in
      let there : IsSearchFrom s width second b best (fixed ∷ opens) (nodes.Optimal m bound ∷ others) = subst (λ x. IsSearchFrom s width second b best (fixed ∷ opens) (x ∷ others)) same k in
      joined (nodes.Optimal m bound) other visited others same
      (elim h.1 [
        | inl kept ↦ elim there.1 [
          | inl stays ↦ one-search best opens visited others positive kept.1 stays.1
          | inr new ↦ absurd (new.0 kept.0)
        ]
        | inr found ↦ elim there.1 [
          | inl stays ↦ absurd (found.0 stays.0)
          | inr new ↦ one-search (Some m) opens visited others (read-positive s width fixed m bound h.0) found.2 new.2
        ]
      ])

-- a setting and a width have one answer
pub one-searched : (s : GeneralSetting) (width : ℕ) (a b : DetAnswer) → pos 0 <ℤ total_of s → IsSearched s width a → IsSearched s width b → a ≡ b
one-searched s width a b total h k =
    let same = one-search s width total h.tree k.tree a b None (root_of s ∷ []) h.tree k.tree tt h.search k.search in
    same.1 same.0
