-- An answer has one verdict.
use Rattle.std.proofs.Common.{◌≡◌, ℕ, suc, ◌+◌, ℤ, pos, ◌*ℤ◌, ◌≤ℤ◌, ◌<ℤ◌, List, [], ◌∷◌, ◌++◌, length, Option, Some, All, inl, inr, refl, sym, ap, ◌∙◌, subst, arith}
use Rattle.std.specs.Prelude.{◌⊎◌}
use Rattle.std.proofs.lemmas.Int.{ints}
use Rattle.std.proofs.lemmas.List.Elements.{All-head, All-tail}
use Rattle.md_math.proofs.FirstFailures.{same_from_IsFirstFailure}
use Rattle.md_math.proofs.Fractions.{same_from_IsLeastTerms}
use Rattle.md_math.proofs.Order.{positive-*ℤ}
use Rattle.md_num.specs.declared.frac.Frac.{Frac}
use Rattle.md_space.specs.Profiles.{profile_count, profile_at}
use Rattle.md_space.proofs.Ranks.{profile_at-IsProfile}
use Rattle.md_setting.specs.Setting.{GeneralSetting}
use Rattle.md_setting.specs.Meaning.{outcome_count, sizes_of, total_of}
use Rattle.md_mech.specs.declared.broken.Broken.{Broken}
use Rattle.md_mech.specs.declared.mechanism.Mechanism.{Mechanism}
use Rattle.md_mech.specs.Optimal.{worth_of}
use Rattle.md_mech.specs.Rows.{Condition, IsKept, IsFirstBroken, conditions_of, left_of, right_of}
use Rattle.md_mech.specs.Value.{HasValue, IsValueOf}
use Rattle.md_mech.proofs.RowLaws.{broken-not_admissible}
use Rattle.md_cert.specs.declared.certificate.Certificate.{Certificate}
use Rattle.md_cert.specs.declared.certificate.Certificate.TheVariants as certificates
use Rattle.md_cert.proofs.SameCertificates.{certified-same}
use Rattle.md_rows.proofs.OneProgram as rows
use Rattle.md_claims.specs.Certificates.{optimal_certificate, unbounded_certificate}
use Rattle.md_claims.specs.Values.{IsOtherValue}
use Rattle.md_claims.proofs.ValueLaws.{same_least}
use Rattle.md_determ_branching.specs.Fixed.{children_of}
use Rattle.md_determ_node.specs.Deterministic.{HasNoLottery, IsDeterministic, IsFirstLottery}
use Rattle.md_determ_node.proofs.Laws.{same_certificates}
use Rattle.md_tree.specs.Trees.{AreTrees, root_of}
use Rattle.md_tree.specs.Leaves.{IsCertified, IsRefused, IsCertifiedLeaf, IsRefusedLeaf, IsSoundLeaf}
use Rattle.md_tree.specs.Verdicts.{IsLeafFault, IsFirstLeafFault, IsVerdictFrom, IsTreeVerdict, IsRule, IsRuleFault, IsOptimalVerdict, HasGrowth, HasNoGrowth, IsUnboundedVerdict}
use Rattle.md_tree.specs.declared.node.Node.{Node}
use Rattle.md_tree.specs.declared.node.Node.TheVariants.{Branch, Infeasible, Optimal}
use Rattle.md_tree.specs.declared.verdict.DetReject.{DetReject}
use Rattle.md_tree.specs.declared.verdict.DetReject.TheVariants.{Lottery, Audit, Value, Leaf, Worth, Root}
use Rattle.md_tree.specs.declared.verdict.DetVerdict.{DetVerdict}
use Rattle.md_tree.specs.declared.verdict.DetVerdict.TheVariants.{Valid, Undecided, Rejected}

-- ---- leaves

module _ (s : GeneralSetting) (best : Option Mechanism) where
  -- a program certifies what another one of the same node certifies
  one-certificate : (fixed : List (Option ℕ)) (c : Certificate) → IsCertified s fixed c → IsRefused s fixed c → ⊥
  one-certificate fixed c h r = r.refused ((same_certificates s fixed h.program r.program h.is_program r.is_program c).0 h.certified)

  certified-not_refused : (fixed : List (Option ℕ)) (leaf : Node) → IsCertifiedLeaf s fixed leaf → IsRefusedLeaf s fixed leaf → ⊥
  certified-not_refused fixed (Branch rank) h r = h
  certified-not_refused fixed (Infeasible face) h r = one-certificate fixed (certificates.Infeasible face) h r
  certified-not_refused fixed (Optimal m bound) h r = one-certificate fixed (optimal_certificate s m bound) h r

  sound-no_fault : (fixed : List (Option ℕ)) (leaf : Node) (number : ℕ) (fault : DetReject) → IsSoundLeaf s best fixed leaf → IsLeafFault s best fixed leaf number fault → ⊥
  sound-no_fault fixed leaf number (Leaf told) h f = certified-not_refused fixed leaf h.certified f.1
  sound-no_fault fixed leaf number (Worth told) h f = f.2 h.within
  sound-no_fault fixed leaf number (Lottery rank) h f = f
  sound-no_fault fixed leaf number (Audit broken) h f = f
  sound-no_fault fixed leaf number (Value right) h f = f
  sound-no_fault fixed leaf number Root h f = f

  one-leaf_fault : (fixed : List (Option ℕ)) (leaf : Node) (number : ℕ) (f g : DetReject) → IsLeafFault s best fixed leaf number f → IsLeafFault s best fixed leaf number g → f ≡ g
  one-leaf_fault fixed leaf number (Leaf a) (Leaf b) f g = ap Leaf (f.0 ∙ sym g.0)
  one-leaf_fault fixed leaf number (Leaf a) (Worth b) f g = absurd (certified-not_refused fixed leaf g.1 f.1)
  one-leaf_fault fixed leaf number (Worth a) (Leaf b) f g = absurd (certified-not_refused fixed leaf f.1 g.1)
  one-leaf_fault fixed leaf number (Worth a) (Worth b) f g = ap Worth (f.0 ∙ sym g.0)
  one-leaf_fault fixed leaf number (Leaf a) _ f g = absurd g
  one-leaf_fault fixed leaf number (Worth a) _ f g = absurd g
  one-leaf_fault fixed leaf number _ _ f g = absurd f

  -- ---- trees

  sound-no_first : (opens : List (List (Option ℕ))) (number : ℕ) (nodes : List Node) (fault : DetReject) → AreTrees (outcome_count s) (IsSoundLeaf s best) opens nodes
      → IsFirstLeafFault s best opens number nodes fault → ⊥
  sound-no_first [] number nodes fault h f = f
  sound-no_first (fixed ∷ opens) number [] fault h f = f
  sound-no_first (fixed ∷ opens) number (Branch rank ∷ nodes) fault h f = sound-no_first (children_of (outcome_count s) fixed rank ++ opens) (suc number) nodes fault h.1 f
  sound-no_first (fixed ∷ opens) number (Infeasible face ∷ nodes) fault h f = elim f [
    | inl here ↦ sound-no_fault fixed (Infeasible face) number fault h.0 here
    | inr behind ↦ sound-no_first opens (suc number) nodes fault h.1 behind.1
  ]
  sound-no_first (fixed ∷ opens) number (Optimal m bound ∷ nodes) fault h f = elim f [
    | inl here ↦ sound-no_fault fixed (Optimal m bound) number fault h.0 here
    | inr behind ↦ sound-no_first opens (suc number) nodes fault h.1 behind.1
  ]

  -- the first fault of a leaf and of what comes behind it
  one-of_two : (fixed : List (Option ℕ)) (leaf : Node) (number : ℕ) (Rest : DetReject → Type 0) (f g : DetReject) → ((f g : DetReject) → Rest f → Rest g → f ≡ g)
      → IsLeafFault s best fixed leaf number f ⊎ (IsSoundLeaf s best fixed leaf × Rest f) → IsLeafFault s best fixed leaf number g ⊎ (IsSoundLeaf s best fixed leaf × Rest g) → f ≡ g
  one-of_two fixed leaf number Rest f g one (inl a) (inl b) = one-leaf_fault fixed leaf number f g a b
  one-of_two fixed leaf number Rest f g one (inl a) (inr b) = absurd (sound-no_fault fixed leaf number f b.0 a)
  one-of_two fixed leaf number Rest f g one (inr a) (inl b) = absurd (sound-no_fault fixed leaf number g a.0 b)
  one-of_two fixed leaf number Rest f g one (inr a) (inr b) = one f g a.1 b.1

  one-first : (opens : List (List (Option ℕ))) (number : ℕ) (nodes : List Node) (f g : DetReject) → IsFirstLeafFault s best opens number nodes f → IsFirstLeafFault s best opens number nodes g
      → f ≡ g
  one-first [] number nodes f g h k = absurd h
  one-first (fixed ∷ opens) number [] f g h k = absurd h
  one-first (fixed ∷ opens) number (Branch rank ∷ nodes) f g h k = one-first (children_of (outcome_count s) fixed rank ++ opens) (suc number) nodes f g h k
  one-first (fixed ∷ opens) number (Infeasible face ∷ nodes) f g h k =
      one-of_two fixed (Infeasible face) number (IsFirstLeafFault s best opens (suc number) nodes) f g (λ f g h k. one-first opens (suc number) nodes f g h k) h k
  one-first (fixed ∷ opens) number (Optimal m bound ∷ nodes) f g h k =
      one-of_two fixed (Optimal m bound) number (IsFirstLeafFault s best opens (suc number) nodes) f g (λ f g h k. one-first opens (suc number) nodes f g h k) h k

  pub one-from : (opens : List (List (Option ℕ))) (number : ℕ) (nodes : List Node) (v w : DetVerdict) → IsVerdictFrom s best opens number nodes v → IsVerdictFrom s best opens number nodes w
      → v ≡ w
  one-from opens number nodes Valid Valid h k = refl
  one-from opens number nodes Valid Undecided h k = absurd k
  one-from opens number nodes Valid (Rejected g) h k = absurd (sound-no_first opens number nodes g h k)
  one-from opens number nodes Undecided w h k = absurd h
  one-from opens number nodes (Rejected f) Valid h k = absurd (sound-no_first opens number nodes f k h)
  one-from opens number nodes (Rejected f) Undecided h k = absurd k
  one-from opens number nodes (Rejected f) (Rejected g) h k = ap Rejected (one-first opens number nodes f g h k)

  -- the fault of a tree is one of its leaves
  pub of-leaf : (fault : DetReject) → ((fixed : List (Option ℕ)) (leaf : Node) (number : ℕ) → IsLeafFault s best fixed leaf number fault → ⊥)
      → (opens : List (List (Option ℕ))) (number : ℕ) (nodes : List Node) → IsFirstLeafFault s best opens number nodes fault → ⊥
  of-leaf fault none [] number nodes h = h
  of-leaf fault none (fixed ∷ opens) number [] h = h
  of-leaf fault none (fixed ∷ opens) number (Branch rank ∷ nodes) h = of-leaf fault none (children_of (outcome_count s) fixed rank ++ opens) (suc number) nodes h
  of-leaf fault none (fixed ∷ opens) number (Infeasible face ∷ nodes) h =
      elim h [ inl here ↦ none fixed (Infeasible face) number here | inr behind ↦ of-leaf fault none opens (suc number) nodes behind.1 ]
  of-leaf fault none (fixed ∷ opens) number (Optimal m bound ∷ nodes) h =
      elim h [ inl here ↦ none fixed (Optimal m bound) number here | inr behind ↦ of-leaf fault none opens (suc number) nodes behind.1 ]

pub one-tree : (s : GeneralSetting) (best : Option Mechanism) (tree : List Node) (v w : DetVerdict) → IsTreeVerdict s best tree v → IsTreeVerdict s best tree w → v ≡ w
one-tree s best tree v w h k = one-from s best (root_of s ∷ []) 0 tree v w h k

-- ---- the first condition that is broken

same_broken : (a b : Broken) → a.row ≡ b.row → a.left ≡ b.left → a.right ≡ b.right → a ≡ b
same_broken a b row left right =
    let by_row : ℕ → Broken = λ r. record { row = r; left = a.left; right = a.right } in
    let by_left : ℤ → Broken = λ l. record { row = b.row; left = l; right = a.right } in
    let by_right : ℤ → Broken = λ r. record { row = b.row; left = b.left; right = r } in
    ap by_row row ∙ ap by_left left ∙ ap by_right right

same_head : {X : Type 0} (x y : X) (xs ys : List X) → x ∷ xs ≡ y ∷ ys → x ≡ y
same_head x y xs ys e = cc

same_tail : {X : Type 0} (x y : X) (xs ys : List X) → x ∷ xs ≡ y ∷ ys → xs ≡ ys
same_tail x y xs ys e = cc

-- what is not so comes first behind as many, and is the same
one-split : {X : Type 0} (P : X → Type 0) (before front : List X) (x y : X) (after behind : List X) → before ++ x ∷ after ≡ front ++ y ∷ behind → All P before → All P front → ¬ P x → ¬ P y
    → (length before ≡ length front) × (x ≡ y)
one-split P [] [] x y after behind e h k not_x not_y = (refl, same_head x y after behind e)
one-split P [] (b ∷ front) x y after behind e h k not_x not_y =
    absurd (not_x (subst P (sym (same_head x b after (front ++ y ∷ behind) e)) (All-head P b front k)))
one-split P (a ∷ before) [] x y after behind e h k not_x not_y =
    absurd (not_y (subst P (same_head a y (before ++ x ∷ after) behind e) (All-head P a before h)))
one-split P (a ∷ before) (b ∷ front) x y after behind e h k not_x not_y =
    let rest = one-split P before front x y after behind (same_tail a b (before ++ x ∷ after) (front ++ y ∷ behind) e) (All-tail P a before h) (All-tail P b front k) not_x not_y in
    (ap suc rest.0, rest.1)

lt-not_le : (a b : ℤ) → a <ℤ b → b ≤ℤ a → ⊥
lt-not_le a b less atmost = omega (arith, ints)

not-kept : (s : GeneralSetting) (m : Mechanism) (rows : List Condition) (start : ℕ) (broken : Broken) (first : IsFirstBroken s m rows start broken) → ¬ IsKept s m first.row
not-kept s m rows start broken first kept =
    lt-not_le broken.left broken.right first.less
    (subst (λ z. broken.right ≤ℤ z) (sym first.left) (subst (λ z. z ≤ℤ left_of s m first.row) (sym first.right) kept))

one-broken : (s : GeneralSetting) (m : Mechanism) (rows : List Condition) (start : ℕ) (a b : Broken) → IsFirstBroken s m rows start a → IsFirstBroken s m rows start b → a ≡ b
one-broken s m rows start a b h k =
    let same = one-split (IsKept s m) h.before k.before h.row k.row h.after k.after (sym h.parts ∙ k.parts) h.kept k.kept (not-kept s m rows start a h) (not-kept s m rows start b k) in
    same_broken a b
    (h.number ∙ ap (λ n. start + n) same.0 ∙ sym k.number)
    (h.left ∙ ap (left_of s m) same.1 ∙ sym k.left)
    (h.right ∙ ap (right_of s m) same.1 ∙ sym k.right)

-- ---- values

same_frac : (a b : Frac) → a.num ≡ b.num → a.den ≡ b.den → a ≡ b
same_frac a b num den =
    let by_num : ℤ → Frac = λ n. record { num = n; den = a.den } in
    let by_den : ℤ → Frac = λ d. record { num = b.num; den = d } in
    ap by_num num ∙ ap by_den den

one-value : (s : GeneralSetting) (m : Mechanism) (a b : Frac) → pos 0 <ℤ total_of s → pos 1 ≤ℤ m.den → IsValueOf s m a → IsValueOf s m b → a ≡ b
one-value s m a b total den h k =
    let whole : pos 0 <ℤ (m.den *ℤ total_of s) = positive-*ℤ m.den (total_of s) (omega (arith, ints, den)) total in
    let same = same_from_IsLeastTerms a.num a.den b.num b.den h.least k.least (same_least a.num a.den b.num b.den (worth_of s m) (m.den *ℤ total_of s) whole h.is_value k.is_value) in
    same_frac a b same.0 same.1

-- ---- the first two conditions

pub lottery-not_deterministic : (s : GeneralSetting) (m : Mechanism) (rank : ℕ) → IsFirstLottery s m rank → ¬ IsDeterministic s m
lottery-not_deterministic s m rank first deterministic =
    first.fails (deterministic.at (profile_at (sizes_of s) rank) (profile_at-IsProfile (sizes_of s) rank first.below))

pub fault-no_rule : (s : GeneralSetting) (m : Mechanism) (fault : DetReject) → IsRuleFault s m fault → ¬ IsRule s m
fault-no_rule s m (Lottery rank) h rule = lottery-not_deterministic s m rank h rule.deterministic
fault-no_rule s m (Audit broken) h rule = broken-not_admissible s m 0 broken h.1 rule.admissible
fault-no_rule s m (Value right) h rule = h
fault-no_rule s m (Leaf number) h rule = h
fault-no_rule s m (Worth number) h rule = h
fault-no_rule s m Root h rule = h

one-rule_fault : (s : GeneralSetting) (m : Mechanism) (f g : DetReject) → IsRuleFault s m f → IsRuleFault s m g → f ≡ g
one-rule_fault s m (Lottery a) (Lottery b) h k =
    ap Lottery (same_from_IsFirstFailure (λ r. HasNoLottery s m (profile_at (sizes_of s) r)) (profile_count (sizes_of s)) a b h k)
one-rule_fault s m (Lottery a) (Audit b) h k = absurd (lottery-not_deterministic s m a h k.0)
one-rule_fault s m (Lottery a) _ h k = absurd k
one-rule_fault s m (Audit a) (Audit b) h k = ap Audit (one-broken s m (conditions_of s) 0 a b h.1 k.1)
one-rule_fault s m (Audit a) (Lottery b) h k = absurd (lottery-not_deterministic s m b k h.0)
one-rule_fault s m (Audit a) _ h k = absurd k
one-rule_fault s m _ _ h k = absurd h

record IsFaultVerdict (s : GeneralSetting) (m : Mechanism) (v : DetVerdict) : Type 0 where
  fault : DetReject
  is : v ≡ Rejected fault
  holds : IsRuleFault s m fault

-- one of the first two conditions fails, or the verdict is by what comes behind
abbrev IsInOrder : GeneralSetting → Mechanism → (DetVerdict → Type 0) → DetVerdict → Type 0
IsInOrder s m Behind v = IsFaultVerdict s m v ⊎ (IsRule s m × Behind v)

module _ (s : GeneralSetting) (m : Mechanism) (Behind : DetVerdict → Type 0) where
  only-fault : (fault : DetReject) → IsRuleFault s m fault → (v : DetVerdict) → IsInOrder s m Behind v → v ≡ Rejected fault
  only-fault fault holds v (inl told) = told.is ∙ ap Rejected (one-rule_fault s m told.fault fault told.holds holds)
  only-fault fault holds v (inr behind) = absurd (fault-no_rule s m fault holds behind.0)

  only-behind : IsRule s m → (v : DetVerdict) → IsInOrder s m Behind v → Behind v
  only-behind rule v (inl told) = absurd (fault-no_rule s m told.fault told.holds rule)
  only-behind rule v (inr behind) = behind.1

-- ---- optimal answers

record IsValueVerdict (s : GeneralSetting) (value : Frac) (m : Mechanism) (v : DetVerdict) : Type 0 where
  right : Frac
  is : v ≡ Rejected (Value right)
  other : IsOtherValue s m value right

abbrev IsOptimalBehind : GeneralSetting → Frac → Mechanism → List Node → DetVerdict → Type 0
IsOptimalBehind s value m tree v = IsValueVerdict s value m v ⊎ (HasValue s m value × IsTreeVerdict s (Some m) tree v)

module _ (s : GeneralSetting) (value : Frac) (m : Mechanism) (tree : List Node) where
  optimal-order : (v : DetVerdict) → IsOptimalVerdict s value m tree v → IsInOrder s m (IsOptimalBehind s value m tree) v
  optimal-order Valid h = inr (h.0, inr (h.1, h.2))
  optimal-order Undecided h = absurd h.2
  optimal-order (Rejected (Lottery rank)) h = inl (record { fault = Lottery rank; is = refl; holds = h })
  optimal-order (Rejected (Audit broken)) h = inl (record { fault = Audit broken; is = refl; holds = h })
  optimal-order (Rejected (Value right)) h = inr (h.0, inl (record { right = right; is = refl; other = h.1 }))
  optimal-order (Rejected (Leaf number)) h = inr (h.0, inr (h.1, h.2))
  optimal-order (Rejected (Worth number)) h = inr (h.0, inr (h.1, h.2))
  optimal-order (Rejected Root) h = inr (h.0, inr (h.1, h.2))

  -- the verdict on a mechanism that is such a rule and has the value
  pub optimal-by_tree : IsRule s m → HasValue s m value → (v : DetVerdict) → IsTreeVerdict s (Some m) tree v → IsOptimalVerdict s value m tree v
  optimal-by_tree rule has Valid h = (rule, has, h)
  optimal-by_tree rule has Undecided h = absurd h
  optimal-by_tree rule has (Rejected (Lottery rank)) h = absurd (of-leaf s (Some m) (Lottery rank) (λ fixed leaf number f. f) (root_of s ∷ []) 0 tree h)
  optimal-by_tree rule has (Rejected (Audit broken)) h = absurd (of-leaf s (Some m) (Audit broken) (λ fixed leaf number f. f) (root_of s ∷ []) 0 tree h)
  optimal-by_tree rule has (Rejected (Value right)) h = absurd (of-leaf s (Some m) (Value right) (λ fixed leaf number f. f) (root_of s ∷ []) 0 tree h)
  optimal-by_tree rule has (Rejected (Leaf number)) h = (rule, has, h)
  optimal-by_tree rule has (Rejected (Worth number)) h = (rule, has, h)
  optimal-by_tree rule has (Rejected Root) h = (rule, has, h)

  pub optimal-only_fault : (fault : DetReject) → IsRuleFault s m fault → (v : DetVerdict) → IsOptimalVerdict s value m tree v → v ≡ Rejected fault
  optimal-only_fault fault holds v h = only-fault s m (IsOptimalBehind s value m tree) fault holds v (optimal-order v h)

  pub optimal-only_value : (right : Frac) → pos 0 <ℤ total_of s → IsRule s m → IsOtherValue s m value right → (v : DetVerdict) → IsOptimalVerdict s value m tree v → v ≡ Rejected (Value right)
  optimal-only_value right total rule other v h = elim (only-behind s m (IsOptimalBehind s value m tree) rule v (optimal-order v h)) [
    | inl told ↦ told.is ∙ ap (λ r. Rejected (Value r)) (one-value s m told.right right total rule.admissible.mechanism.den told.other.right other.right)
    | inr (has, judged) ↦ absurd (other.other has)
  ]

  pub optimal-only_tree : IsRule s m → HasValue s m value → (w : DetVerdict) → IsTreeVerdict s (Some m) tree w → (v : DetVerdict) → IsOptimalVerdict s value m tree v → v ≡ w
  optimal-only_tree rule has w judged v h = elim (only-behind s m (IsOptimalBehind s value m tree) rule v (optimal-order v h)) [
    | inl told ↦ absurd (told.other.other has)
    | inr (same, other) ↦ one-tree s (Some m) tree v w other judged
  ]

-- ---- unbounded answers

abbrev IsUnboundedBehind : GeneralSetting → Mechanism → List ℤ → DetVerdict → Type 0
IsUnboundedBehind s m ray Valid = HasGrowth s m ray
IsUnboundedBehind s m ray Undecided = ⊥
IsUnboundedBehind s m ray (Rejected Root) = HasNoGrowth s m ray
IsUnboundedBehind s m ray (Rejected _) = ⊥

module _ (s : GeneralSetting) (m : Mechanism) (ray : List ℤ) where
  unbounded-order : (v : DetVerdict) → IsUnboundedVerdict s m ray v → IsInOrder s m (IsUnboundedBehind s m ray) v
  unbounded-order Valid h = inr h
  unbounded-order Undecided h = absurd h
  unbounded-order (Rejected (Lottery rank)) h = inl (record { fault = Lottery rank; is = refl; holds = h })
  unbounded-order (Rejected (Audit broken)) h = inl (record { fault = Audit broken; is = refl; holds = h })
  unbounded-order (Rejected (Value right)) h = absurd h
  unbounded-order (Rejected (Leaf number)) h = absurd h
  unbounded-order (Rejected (Worth number)) h = absurd h
  unbounded-order (Rejected Root) h = inr h

  growth-not_none : HasGrowth s m ray → HasNoGrowth s m ray → ⊥
  growth-not_none h r =
      r.refused (certified-same h.program r.program (rows.same_program s h.program r.program h.is_program r.is_program) (unbounded_certificate s m ray) h.certified)

  one-behind : (v w : DetVerdict) → IsUnboundedBehind s m ray v → IsUnboundedBehind s m ray w → v ≡ w
  one-behind Valid Valid h k = refl
  one-behind Valid (Rejected Root) h k = absurd (growth-not_none h k)
  one-behind Valid _ h k = absurd k
  one-behind (Rejected Root) (Rejected Root) h k = refl
  one-behind (Rejected Root) Valid h k = absurd (growth-not_none k h)
  one-behind (Rejected Root) _ h k = absurd k
  one-behind _ _ h k = absurd h

  pub one-unbounded : (v w : DetVerdict) → IsUnboundedVerdict s m ray v → IsUnboundedVerdict s m ray w → v ≡ w
  one-unbounded v w h k = elim (unbounded-order v h) [
    | inl told ↦ told.is ∙ sym (only-fault s m (IsUnboundedBehind s m ray) told.fault told.holds w (unbounded-order w k))
    | inr (rule, behind) ↦ one-behind v w behind (only-behind s m (IsUnboundedBehind s m ray) rule w (unbounded-order w k))
  ]
