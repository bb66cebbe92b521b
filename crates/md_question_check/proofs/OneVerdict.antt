-- An answer to a question has one verdict.
use Rattle.std.proofs.Common.{◌≡◌, ℕ, suc, ◌+◌, ℤ, pos, ◌≤ℤ◌, ◌<ℤ◌, List, [], ◌∷◌, ◌++◌, length, All, refl, sym, ap, ◌∙◌, subst, arith}
use Rattle.std.proofs.lemmas.Int.{ints}
use Rattle.std.proofs.lemmas.List.Elements.{All-head, All-tail}
use Rattle.md_math.specs.FirstFailure.{IsFirstFailure}
use Rattle.md_math.specs.Lists.{number_at}
use Rattle.md_math.proofs.FirstFailures.{HoldsBelow-no_failure, same_from_IsFirstFailure}
use Rattle.md_num.specs.declared.frac.Frac.{Frac}
use Rattle.md_setting.specs.Setting.{GeneralSetting}
use Rattle.md_mech.specs.declared.broken.Broken.{Broken}
use Rattle.md_mech.specs.declared.mechanism.Mechanism.{Mechanism}
use Rattle.md_mech.specs.Accepted.{IsAccepted}
use Rattle.md_mech.specs.Rows.{Condition, IsKept, IsFirstBroken, conditions_of, left_of, right_of}
use Rattle.md_mech.proofs.RowLaws.{broken-not_admissible}
use Rattle.md_lp.specs.Program.{Program, row_count}
use Rattle.md_lp.specs.Point.{row_sum, cost_sum, column_sum, right_sum}
use Rattle.md_cert.specs.declared.bound.Bound.{Bound}
use Rattle.md_cert.specs.declared.certificate.Certificate.{Certificate}
use Rattle.md_cert.specs.declared.certificate.Certificate.TheVariants as certificate
use Rattle.md_cert.specs.Certified.{PairHolds, ColumnHolds, FaceHolds, FaceSumHolds, RayHolds, reduced_cost}
use Rattle.md_cert.specs.Fault.{IsFraction, BreaksPair, BreaksFace, BreaksColumn, BreaksFaceSum, BreaksRay, HasPairs, HasColumns, HasFaces, HasFaceSums, HasRays}
use Rattle.md_parts.specs.Fitting.{IsBoundOver}
use Rattle.md_question.specs.Question.{IsProgramFor, IsQuestion, Question, optimal_certificate, unbounded_certificate}
use Rattle.md_question.proofs.OneFraction.{one_fraction}
use Rattle.md_question_check.specs.declared.verdict.Reject.{Reject}
use Rattle.md_question_check.specs.declared.verdict.Reject.TheVariants.{Audit, Value, Pair, Column, FaceRight, MainRight, RayRow, RayGain, Masses, Reduced, Level, Unmet}
use Rattle.md_question_check.specs.declared.verdict.Verdict.{Verdict}
use Rattle.md_question_check.specs.declared.verdict.Verdict.TheVariants.{Valid, Undecided, Rejected}
use Rattle.md_question_check.specs.Programs.{OfProgram}
use Rattle.md_question_check.specs.Certificates.{TellsFault, Judges}
use Rattle.md_question_check.specs.Verdicts.{IsOptimalVerdict, IsUnboundedVerdict, TellsNotAdmitted}
use Rattle.md_question_check.proofs.VerdictLaws.{certified-no_fault}

-- ---- numbers that are told

-- the first place at which a condition fails is one, and so are two numbers of the place
pub one-place : (n : ℕ) (C : ℕ → Type 0) (F G : ℕ → ℤ) (make : ℕ → ℤ → ℤ → Reject) (j k : ℕ) (f g x y : ℤ) → IsFirstFailure n C j → IsFirstFailure n C k
    → f ≡ F j → g ≡ F k → x ≡ G j → y ≡ G k → make j f x ≡ make k g y
one-place n C F G make j k f g x y first also f_is g_is x_is y_is =
    let same : j ≡ k = same_from_IsFirstFailure C n j k first also in
    ap (λ z. make j z x) (f_is ∙ ap F same ∙ sym g_is) ∙ ap (λ z. make j g z) (x_is ∙ ap G same ∙ sym y_is) ∙ ap (λ i. make i g y) same

-- a number is one fraction in least terms
one-number : (num den : ℤ) (a b : Frac) → pos 0 <ℤ den → IsFraction num den a → IsFraction num den b → a ≡ b
one-number num den a b above h k = one_fraction num den a b above (record { same = h.value; least = h.least }) (record { same = k.value; least = k.least })

-- ---- the conditions of a certificate

module _ (p : Program) where
  pair-one : (face main : ℕ → ℤ) (r q : ℕ) (f g m n : ℤ) → BreaksPair p face main r f m → BreaksPair p face main q g n → Pair r f m ≡ Pair q g n
  pair-one face main r q f g m n a b = one-place (row_count p) (PairHolds p face main) face main Pair r q f g m n a.first b.first a.face_is b.face_is a.main_is b.main_is

  pair-none : (face main : ℕ → ℤ) (r : ℕ) (f m : ℤ) → BreaksPair p face main r f m → HasPairs p face main → ⊥
  pair-none face main r f m a all = HoldsBelow-no_failure (PairHolds p face main) (row_count p) r all a.first

  column-one : (over : ℤ) (face main : ℕ → ℤ) (j k : ℕ) (f g m n : ℤ) → BreaksColumn p over face main j f m → BreaksColumn p over face main k g n → Column j f m ≡ Column k g n
  column-one over face main j k f g m n a b =
      one-place p.columns (ColumnHolds p over face main) (column_sum p face) (reduced_cost p over main) Column j k f g m n a.first b.first a.face_is b.face_is a.main_is b.main_is

  column-none : (over : ℤ) (face main : ℕ → ℤ) (j : ℕ) (f m : ℤ) → BreaksColumn p over face main j f m → HasColumns p over face main → ⊥
  column-none over face main j f m a all = HoldsBelow-no_failure (ColumnHolds p over face main) p.columns j all a.first

  face-one : (face : ℕ → ℤ) (r q : ℕ) (f g m n : ℤ) → BreaksFace p face r f m → BreaksFace p face q g n → Pair r f m ≡ Pair q g n
  face-one face r q f g m n a b = one-place (row_count p) (FaceHolds p face) face (λ _. pos 0) Pair r q f g m n a.first b.first a.face_is b.face_is a.main_is b.main_is

  face-none : (face : ℕ → ℤ) (r : ℕ) (f m : ℤ) → BreaksFace p face r f m → HasFaces p face → ⊥
  face-none face r f m a all = HoldsBelow-no_failure (FaceHolds p face) (row_count p) r all a.first

  face_sum-one : (face : ℕ → ℤ) (j k : ℕ) (f g m n : ℤ) → BreaksFaceSum p face j f m → BreaksFaceSum p face k g n → Column j f m ≡ Column k g n
  face_sum-one face j k f g m n a b = one-place p.columns (FaceSumHolds p face) (column_sum p face) (λ _. pos 0) Column j k f g m n a.first b.first a.face_is b.face_is a.main_is b.main_is

  face_sum-none : (face : ℕ → ℤ) (j : ℕ) (f m : ℤ) → BreaksFaceSum p face j f m → HasFaceSums p face → ⊥
  face_sum-none face j f m a all = HoldsBelow-no_failure (FaceSumHolds p face) p.columns j all a.first

  ray-one : (ray : ℕ → ℤ) (r q : ℕ) (x y : ℤ) → BreaksRay p ray r x → BreaksRay p ray q y → RayRow r x ≡ RayRow q y
  ray-one ray r q x y a b = one-place (row_count p) (RayHolds p ray) (row_sum p ray) (λ _. pos 0) (λ k z _. RayRow k z) r q x y (pos 0) (pos 0) a.first b.first a.sum_is b.sum_is refl refl

  ray-none : (ray : ℕ → ℤ) (r : ℕ) (x : ℤ) → BreaksRay p ray r x → HasRays p ray → ⊥
  ray-none ray r x a all = HoldsBelow-no_failure (RayHolds p ray) (row_count p) r all a.first

  bound-one : (den over : ℤ) (x main : ℕ → ℤ) (b c e d : Frac) → pos 0 <ℤ den → pos 0 <ℤ over → IsFraction (right_sum p main) over b → IsFraction (right_sum p main) over c
      → IsFraction (cost_sum p x) den e → IsFraction (cost_sum p x) den d → MainRight b e ≡ MainRight c d
  bound-one den over x main b c e d above positive b_is c_is e_is d_is =
      ap (λ z. MainRight z e) (one-number (right_sum p main) over b c positive b_is c_is) ∙ ap (λ z. MainRight c z) (one-number (cost_sum p x) den e d above e_is d_is)

-- the denominators of a certificate are positive
abbrev pub HasDenominators : Certificate → Type 0
HasDenominators (certificate.Optimal den point bound) = (pos 0 <ℤ den) × (pos 0 <ℤ bound.den)
HasDenominators (certificate.Infeasible face) = Unit {0}
HasDenominators (certificate.Unbounded den point ray) = Unit {0}

-- the first condition that fails is one
one-told : (p : Program) (c : Certificate) (a b : Reject) → HasDenominators c → TellsFault p c a → TellsFault p c b → a ≡ b
one-told p c (Audit broken) b d h k = absurd h
one-told p c (Value right) b d h k = absurd h
one-told p c (Masses kind sum demand) b d h k = absurd h
one-told p c (Reduced row left right) b d h k = absurd h
one-told p c (Level level) b d h k = absurd h
one-told p c (Unmet unmet) b d h k = absurd h
one-told p c a (Audit broken) d h k = absurd k
one-told p c a (Value right) d h k = absurd k
one-told p c a (Masses kind sum demand) d h k = absurd k
one-told p c a (Reduced row left right) d h k = absurd k
one-told p c a (Level level) d h k = absurd k
one-told p c a (Unmet unmet) d h k = absurd k
one-told p (certificate.Optimal den point bound) (Pair r f m) (Pair q g n) d h k = pair-one p (number_at bound.face) (number_at bound.main) r q f g m n h.1 k.1
one-told p (certificate.Optimal den point bound) (Pair r f m) b d h k = absurd (pair-none p (number_at bound.face) (number_at bound.main) r f m h.1 k.1)
one-told p (certificate.Optimal den point bound) a (Pair q g n) d h k = absurd (pair-none p (number_at bound.face) (number_at bound.main) q g n k.1 h.1)
one-told p (certificate.Optimal den point bound) (Column i f m) (Column j g n) d h k = column-one p bound.den (number_at bound.face) (number_at bound.main) i j f g m n h.2 k.2
one-told p (certificate.Optimal den point bound) (Column i f m) b d h k = absurd (column-none p bound.den (number_at bound.face) (number_at bound.main) i f m h.2 k.2)
one-told p (certificate.Optimal den point bound) a (Column j g n) d h k = absurd (column-none p bound.den (number_at bound.face) (number_at bound.main) j g n k.2 h.2)
one-told p (certificate.Optimal den point bound) (FaceRight x) (FaceRight y) d h k = ap FaceRight (h.3.0 ∙ sym k.3.0)
one-told p (certificate.Optimal den point bound) (FaceRight x) (MainRight limit cost) d h k = absurd (h.3.1 (h.3.0 ∙ k.3.0))
one-told p (certificate.Optimal den point bound) (MainRight limit cost) (FaceRight y) d h k = absurd (k.3.1 (k.3.0 ∙ h.3.0))
one-told p (certificate.Optimal den point bound) (MainRight limit cost) (MainRight other also) d h k =
    bound-one p den bound.den (number_at point) (number_at bound.main) limit other cost also d.0 d.1 h.3.2 k.3.2 h.3.3 k.3.3
one-told p (certificate.Optimal den point bound) (RayRow r x) b d h k = absurd h.3
one-told p (certificate.Optimal den point bound) (RayGain x) b d h k = absurd h.3
one-told p (certificate.Optimal den point bound) a (RayRow q y) d h k = absurd k.3
one-told p (certificate.Optimal den point bound) a (RayGain y) d h k = absurd k.3
one-told p (certificate.Infeasible face) (MainRight limit cost) b d h k = absurd h
one-told p (certificate.Infeasible face) (RayRow r x) b d h k = absurd h
one-told p (certificate.Infeasible face) (RayGain x) b d h k = absurd h
one-told p (certificate.Infeasible face) a (MainRight limit cost) d h k = absurd k
one-told p (certificate.Infeasible face) a (RayRow q y) d h k = absurd k
one-told p (certificate.Infeasible face) a (RayGain y) d h k = absurd k
one-told p (certificate.Infeasible face) (Pair r f m) (Pair q g n) d h k = face-one p (number_at face) r q f g m n h k
one-told p (certificate.Infeasible face) (Pair r f m) b d h k = absurd (face-none p (number_at face) r f m h k.0)
one-told p (certificate.Infeasible face) a (Pair q g n) d h k = absurd (face-none p (number_at face) q g n k h.0)
one-told p (certificate.Infeasible face) (Column i f m) (Column j g n) d h k = face_sum-one p (number_at face) i j f g m n h.1 k.1
one-told p (certificate.Infeasible face) (Column i f m) (FaceRight y) d h k = absurd (face_sum-none p (number_at face) i f m h.1 k.1)
one-told p (certificate.Infeasible face) (FaceRight x) (Column j g n) d h k = absurd (face_sum-none p (number_at face) j g n k.1 h.1)
one-told p (certificate.Infeasible face) (FaceRight x) (FaceRight y) d h k = ap FaceRight (h.2 ∙ sym k.2)
one-told p (certificate.Unbounded den point ray) (RayRow r x) (RayRow q y) d h k = ray-one p (number_at ray) r q x y h.1 k.1
one-told p (certificate.Unbounded den point ray) (RayRow r x) (RayGain y) d h k = absurd (ray-none p (number_at ray) r x h.1 k.1)
one-told p (certificate.Unbounded den point ray) (RayGain x) (RayRow q y) d h k = absurd (ray-none p (number_at ray) q y k.1 h.1)
one-told p (certificate.Unbounded den point ray) (RayGain x) (RayGain y) d h k = ap RayGain (h.2 ∙ sym k.2)
one-told p (certificate.Unbounded den point ray) (RayRow r x) _ d h k = absurd k
one-told p (certificate.Unbounded den point ray) (RayGain x) _ d h k = absurd k
one-told p (certificate.Unbounded den point ray) _ b d h k = absurd h

one-judging : (p : Program) (c : Certificate) (v w : Verdict) → HasDenominators c → Judges p c v → Judges p c w → v ≡ w
one-judging p c Valid Valid d h k = refl
one-judging p c Valid Undecided d h k = absurd k
one-judging p c Valid (Rejected b) d h k = absurd (certified-no_fault p c b h k)
one-judging p c Undecided w d h k = absurd h
one-judging p c (Rejected a) Valid d h k = absurd (certified-no_fault p c a k h)
one-judging p c (Rejected a) Undecided d h k = absurd k
one-judging p c (Rejected a) (Rejected b) d h k = ap Rejected (one-told p c a b d h k)

-- what is so of each program of one meaning is so of one of them
pub both-of : (IsProgram P Q : Program → Type 0) (R : Type 0) → OfProgram IsProgram P → OfProgram IsProgram Q → ((p : Program) → P p → Q p → R) → R
both-of IsProgram P Q R h k all = all h.program (h.holds h.program h.is_program) (k.holds h.program h.is_program)

-- the programs of one meaning judge a certificate alike
pub one-judged : (IsProgram : Program → Type 0) (c : Certificate) (v w : Verdict) → HasDenominators c → OfProgram IsProgram (λ p. Judges p c v) → OfProgram IsProgram (λ p. Judges p c w) → v ≡ w
one-judged IsProgram c v w d h k = both-of IsProgram (λ p. Judges p c v) (λ p. Judges p c w) (v ≡ w) h k (λ p. one-judging p c v w d)

-- ---- the first condition of the setting that is broken

same_broken : (a b : Broken) → a.row ≡ b.row → a.left ≡ b.left → a.right ≡ b.right → a ≡ b
same_broken a b row left right =
    let by_row : ℕ → Broken = λ r. record { row = r; left = a.left; right = a.right } in
    let by_left : ℤ → Broken = λ l. record { row = b.row; left = l; right = a.right } in
    let by_right : ℤ → Broken = λ r. record { row = b.row; left = b.left; right = r } in
    ap by_row row ∙ ap by_left left ∙ ap by_right right

same_head : {X : Type 0} (x y : X) (xs ys : List X) → x ∷ xs ≡ y ∷ ys → x ≡ y
same_head x y xs ys e = cc

same_tail : {X : Type 0} (x y : X) (xs ys : List X) → x ∷ xs ≡ y ∷ ys → xs ≡ ys
same_tail x y xs ys e = cc

-- what is not so comes first behind as many, and is the same
pub one-split : {X : Type 0} (P : X → Type 0) (before front : List X) (x y : X) (after behind : List X) → before ++ x ∷ after ≡ front ++ y ∷ behind → All P before → All P front → ¬ P x → ¬ P y
    → (length before ≡ length front) × (x ≡ y)
one-split P [] [] x y after behind e h k not_x not_y = (refl, same_head x y after behind e)
one-split P [] (b ∷ front) x y after behind e h k not_x not_y =
    absurd (not_x (subst P (sym (same_head x b after (front ++ y ∷ behind) e)) (All-head P b front k)))
one-split P (a ∷ before) [] x y after behind e h k not_x not_y =
    absurd (not_y (subst P (same_head a y (before ++ x ∷ after) behind e) (All-head P a before h)))
one-split P (a ∷ before) (b ∷ front) x y after behind e h k not_x not_y =
    let rest = one-split P before front x y after behind (same_tail a b (before ++ x ∷ after) (front ++ y ∷ behind) e) (All-tail P a before h) (All-tail P b front k) not_x not_y in
    (ap suc rest.0, rest.1)

lt-not_le : (a b : ℤ) → a <ℤ b → b ≤ℤ a → ⊥
lt-not_le a b less atmost = omega (arith, ints)

not-kept : (s : GeneralSetting) (m : Mechanism) (rows : List Condition) (start : ℕ) (broken : Broken) (first : IsFirstBroken s m rows start broken) → ¬ IsKept s m first.row
not-kept s m rows start broken first kept =
    lt-not_le broken.left broken.right first.less
    (subst (λ z. broken.right ≤ℤ z) (sym first.left) (subst (λ z. z ≤ℤ left_of s m first.row) (sym first.right) kept))

one-broken : (s : GeneralSetting) (m : Mechanism) (rows : List Condition) (start : ℕ) (a b : Broken) → IsFirstBroken s m rows start a → IsFirstBroken s m rows start b → a ≡ b
one-broken s m rows start a b h k =
    let same = one-split (IsKept s m) h.before k.before h.row k.row h.after k.after (sym h.parts ∙ k.parts) h.kept k.kept (not-kept s m rows start a h) (not-kept s m rows start b k) in
    same_broken a b
    (h.number ∙ ap (λ n. start + n) same.0 ∙ sym k.number)
    (h.left ∙ ap (left_of s m) same.1 ∙ sym k.left)
    (h.right ∙ ap (right_of s m) same.1 ∙ sym k.right)

-- ---- the verdict on a mechanism

module _ (q : Question) (m : Mechanism) (laws : IsQuestion q) where
  -- where a condition on it fails, it is not admitted
  not-admitted : (a : Reject) → TellsNotAdmitted q m a → ¬ q.admits m
  not-admitted (Audit broken) h admitted = broken-not_admissible q.setting m 0 broken h (laws.admissible m admitted)
  not-admitted (Unmet unmet) h admitted = laws.met m unmet h.1 admitted
  not-admitted _ h admitted = h

  one-not_admitted : (a b : Reject) → TellsNotAdmitted q m a → TellsNotAdmitted q m b → Rejected a ≡ Rejected b
  one-not_admitted (Audit a) (Audit b) h k = ap (λ x. Rejected (Audit x)) (one-broken q.setting m (conditions_of q.setting) 0 a b h k)
  one-not_admitted (Audit a) (Unmet b) h k = absurd (broken-not_admissible q.setting m 0 a h k.0)
  one-not_admitted (Unmet a) (Audit b) h k = absurd (broken-not_admissible q.setting m 0 b k h.0)
  one-not_admitted (Unmet a) (Unmet b) h k = ap (λ x. Rejected (Unmet x)) (laws.one_unmet m a b h.1 k.1)
  one-not_admitted (Audit a) _ h k = absurd k
  one-not_admitted (Unmet a) _ h k = absurd k
  one-not_admitted _ b h k = absurd h

  -- with its value and multipliers
  pub one-optimal : IsAccepted q.setting m → (value : Frac) (bound : Bound) → IsBoundOver q.rows bound → (v w : Verdict) → IsOptimalVerdict q value m bound v → IsOptimalVerdict q value m bound w → v ≡ w
  one-optimal fits value bound over (Rejected (Audit a)) (Rejected (Audit b)) h k = one-not_admitted (Audit a) (Audit b) h k
  one-optimal fits value bound over (Rejected (Audit a)) (Rejected (Unmet b)) h k = one-not_admitted (Audit a) (Unmet b) h k
  one-optimal fits value bound over (Rejected (Audit a)) (Rejected (Value b)) h k = absurd (not-admitted (Audit a) h k.0)
  one-optimal fits value bound over (Rejected (Audit a)) w h k = absurd (not-admitted (Audit a) h k.0.admitted)
  one-optimal fits value bound over (Rejected (Unmet a)) (Rejected (Audit b)) h k = one-not_admitted (Unmet a) (Audit b) h k
  one-optimal fits value bound over (Rejected (Unmet a)) (Rejected (Unmet b)) h k = one-not_admitted (Unmet a) (Unmet b) h k
  one-optimal fits value bound over (Rejected (Unmet a)) (Rejected (Value b)) h k = absurd (not-admitted (Unmet a) h k.0)
  one-optimal fits value bound over (Rejected (Unmet a)) w h k = absurd (not-admitted (Unmet a) h k.0.admitted)
  one-optimal fits value bound over (Rejected (Value a)) (Rejected (Audit b)) h k = absurd (not-admitted (Audit b) k h.0)
  one-optimal fits value bound over (Rejected (Value a)) (Rejected (Unmet b)) h k = absurd (not-admitted (Unmet b) k h.0)
  one-optimal fits value bound over (Rejected (Value a)) (Rejected (Value b)) h k = ap (λ x. Rejected (Value x)) (laws.one_value m a b h.0 h.1.right k.1.right)
  one-optimal fits value bound over (Rejected (Value a)) w h k = absurd (h.1.other k.0.value)
  one-optimal fits value bound over v (Rejected (Audit b)) h k = absurd (not-admitted (Audit b) k h.0.admitted)
  one-optimal fits value bound over v (Rejected (Unmet b)) h k = absurd (not-admitted (Unmet b) k h.0.admitted)
  one-optimal fits value bound over v (Rejected (Value b)) h k = absurd (k.1.other h.0.value)
  one-optimal fits value bound over (Rejected (Level a)) (Rejected (Level b)) h k = ap (λ x. Rejected (Level x)) (h.1.is ∙ sym k.1.is)
  one-optimal fits value bound over (Rejected (Level a)) w h k = absurd (h.1.wide k.1)
  one-optimal fits value bound over v (Rejected (Level b)) h k = absurd (k.1.wide h.1)
  one-optimal fits value bound over v w h k = one-judged (IsProgramFor q) (optimal_certificate q m bound) v w ((let one : pos 1 ≤ℤ m.den = fits.mechanism.den in omega (arith, ints)), over.den.positive) h.2 k.2

  -- with payments that are added
  pub one-unbounded : (ray : List ℤ) (v w : Verdict) → IsUnboundedVerdict q m ray v → IsUnboundedVerdict q m ray w → v ≡ w
  one-unbounded ray (Rejected (Audit a)) (Rejected (Audit b)) h k = one-not_admitted (Audit a) (Audit b) h k
  one-unbounded ray (Rejected (Audit a)) (Rejected (Unmet b)) h k = one-not_admitted (Audit a) (Unmet b) h k
  one-unbounded ray (Rejected (Audit a)) w h k = absurd (not-admitted (Audit a) h k.0)
  one-unbounded ray (Rejected (Unmet a)) (Rejected (Audit b)) h k = one-not_admitted (Unmet a) (Audit b) h k
  one-unbounded ray (Rejected (Unmet a)) (Rejected (Unmet b)) h k = one-not_admitted (Unmet a) (Unmet b) h k
  one-unbounded ray (Rejected (Unmet a)) w h k = absurd (not-admitted (Unmet a) h k.0)
  one-unbounded ray v (Rejected (Audit b)) h k = absurd (not-admitted (Audit b) k h.0)
  one-unbounded ray v (Rejected (Unmet b)) h k = absurd (not-admitted (Unmet b) k h.0)
  one-unbounded ray (Rejected (Level a)) (Rejected (Level b)) h k = ap (λ x. Rejected (Level x)) (h.1.is ∙ sym k.1.is)
  one-unbounded ray (Rejected (Level a)) w h k = absurd (h.1.wide k.1)
  one-unbounded ray v (Rejected (Level b)) h k = absurd (k.1.wide h.1)
  one-unbounded ray v w h k = one-judged (IsProgramFor q) (unbounded_certificate q m ray) v w tt h.2 k.2
