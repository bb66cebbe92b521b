-- The records of an answer as they are made.
use Rattle.std.proofs.Common.{◌≡◌, ℕ, zero, suc, ◌+◌, ◌*◌, ◌<◌, ◌≤◌, ℤ, List, [], ◌∷◌, ◌++◌, map, take, take_all, get_or, length, All, refl, sym, ap, subst, ◌∙◌, arith, add-one, append_assoc}
use Rattle.std.proofs.lemmas.List.{take_more, map-append, length-map}
use Rattle.std.proofs.lemmas.List.Elements.{All-push}
use Rattle.md_math.specs.Lists.{number_at, list_to, up_to}
use Rattle.md_math.proofs.Builders.{map-list_to}
use Rattle.md_num.specs.WholeText.{text_of}
use Rattle.md_space.specs.Profiles.{profile_count, profile_at}
use Rattle.md_space.proofs.InOrder.{profiles_of-by_rank}
use Rattle.md_space.proofs.Ranks.{rank_of-profile_at}
use Rattle.md_setting.specs.Setting.{Agent, GeneralSetting}
use Rattle.md_setting.specs.Meaning.{nobody, agent_at, agent_count, sizes_of}
use Rattle.md_mech.specs.RowName.{type_names}
use Rattle.md_lp.specs.declared.pivot.Pivot.{Pivot}
use Rattle.md_parts.specs.Fitting.{IsTablePlace}
use Rattle.md_parts.specs.Fields.{word_field}
use Rattle.md_parts.specs.Rows.{profile_row, profile_rows}
use Rattle.md_parts.proofs.TableSteps.{length-names, profile-long}

-- one element more of a list of which each is mapped
pub mapped-more : {X Y : Type 0} (f : X → Y) (front made next : List Y) (xs : List X) (i : ℕ) (d : X) → i < length xs → made ≡ front ++ map f (take i xs) → next ≡ made ++ f (get_or xs i d) ∷ []
    → next ≡ front ++ map f (take (i + 1) xs)
mapped-more f front made next xs i d l h one =
    let more = take_more xs i d l in
    one ∙ ap (λ ys. ys ++ f (get_or xs i d) ∷ []) h ∙ append_assoc front (map f (take i xs)) (f (get_or xs i d) ∷ [])
    ∙ ap (λ ys. front ++ ys) (sym (map-append f (take i xs) (get_or xs i d ∷ []))) ∙ ap (λ xs. front ++ map f xs) (sym more)

-- one more place of a list that is built place by place
pub listed-more : {X : Type 0} (f : ℕ → X) (front made next : List X) (i : ℕ) → made ≡ front ++ list_to i f → next ≡ made ++ f i ∷ [] → next ≡ front ++ list_to (i + 1) f
listed-more f front made next i h one = one ∙ ap (λ ys. ys ++ f i ∷ []) h ∙ append_assoc front (list_to i f) (f i ∷ []) ∙ rw add-one refl

pub joined-more : {X : Type 0} (f : ℕ → List X) (front made next : List X) (i : ℕ) → made ≡ front ++ up_to i f → next ≡ made ++ f i → next ≡ front ++ up_to (i + 1) f
joined-more f front made next i h one = one ∙ ap (λ ys. ys ++ f i) h ∙ append_assoc front (up_to i f) (f i) ∙ rw add-one refl

-- ---- the names of a profile

type_names-at : (agents : List Agent) (t : List ℕ) (i : ℕ) → length t ≡ length agents → i < length agents → get_or (type_names agents t) i [] ≡ get_or (get_or agents i nobody).types (get_or t i 0) []
type_names-at [] t i long l = absurd (omega arith)
type_names-at (agent ∷ others) [] i long l = absurd (omega arith)
type_names-at (agent ∷ others) (a ∷ t) zero long l = refl
type_names-at (agent ∷ others) (a ∷ t) (suc i) long l = type_names-at others t i (omega arith) (omega arith)

pub name_count : (s : GeneralSetting) (rank : ℕ) → rank < profile_count (sizes_of s) → length (type_names s.agents (profile_at (sizes_of s) rank)) ≡ agent_count s
name_count s rank l =
    let t = profile_at (sizes_of s) rank in
    sym (length-map (type_names s.agents t) word_field) ∙ length-names s.agents t (profile-long s rank l)

pub names-more : (s : GeneralSetting) (rank i : ℕ) (front made next : List (List ℕ)) (name : List ℕ) → rank < profile_count (sizes_of s) → i < agent_count s
    → name ≡ get_or (agent_at s i).types (get_or (profile_at (sizes_of s) rank) i 0) []
    → made ≡ front ++ take i (type_names s.agents (profile_at (sizes_of s) rank)) → next ≡ made ++ name ∷ []
    → next ≡ front ++ take (i + 1) (type_names s.agents (profile_at (sizes_of s) rank))
names-more s rank i front made next name l m is h one =
    let t = profile_at (sizes_of s) rank in
    let names = type_names s.agents t in
    let count = name_count s rank l in
    let more = take_more names i [] (omega (arith, m, count)) in
    let at = type_names-at s.agents t i (profile-long s rank l) m in
    one ∙ ap (λ (ys : List (List ℕ)). ys ++ name ∷ []) h ∙ append_assoc front (take i names) (name ∷ [])
    ∙ ap (λ (n : List ℕ). front ++ (take i names ++ n ∷ [])) (is ∙ sym at) ∙ ap (λ (ys : List (List ℕ)). front ++ ys) (sym more)

pub names-all : (s : GeneralSetting) (rank i : ℕ) (front made : List (List ℕ)) → rank < profile_count (sizes_of s) → i ≡ agent_count s
    → made ≡ front ++ take i (type_names s.agents (profile_at (sizes_of s) rank)) → made ≡ front ++ type_names s.agents (profile_at (sizes_of s) rank)
names-all s rank i front made l e h =
    let count = name_count s rank l in
    h ∙ ap (λ (ys : List (List ℕ)). front ++ ys) (take_all i (type_names s.agents (profile_at (sizes_of s) rank)) (omega (arith, e, count)))

-- ---- the records of profiles

-- the record of the profile of a rank
pub profile_row-made : (word : List ℕ) (s : GeneralSetting) (numbers : List ℤ) (count rank : ℕ) (first named filled : List (List ℕ)) → rank < profile_count (sizes_of s) → first ≡ word ∷ []
    → named ≡ first ++ type_names s.agents (profile_at (sizes_of s) rank) → filled ≡ named ++ list_to count (λ k. text_of (number_at numbers (rank * count + k)))
    → filled ≡ profile_row word s numbers count (profile_at (sizes_of s) rank)
profile_row-made word s numbers count rank first named filled l one two three =
    let names = type_names s.agents (profile_at (sizes_of s) rank) in
    three ∙ ap (λ (ys : List (List ℕ)). ys ++ list_to count (λ k. text_of (number_at numbers (rank * count + k)))) (two ∙ ap (λ (ys : List (List ℕ)). ys ++ names) one)
    ∙ ap (λ (r : ℕ). word ∷ (names ++ list_to count (λ k. text_of (number_at numbers (r * count + k))))) (sym (rank_of-profile_at (sizes_of s) rank l))

-- a block of numbers is within the list
pub block-inside : (rank count n long : ℕ) → rank < n → long ≡ n * count → rank * count + count ≤ long
block-inside rank count n long l e = grind arith

-- all profiles
pub profiles-all : (word : List ℕ) (s : GeneralSetting) (numbers : List ℤ) (count n : ℕ) (front made : List (List (List ℕ))) → n ≡ profile_count (sizes_of s)
    → made ≡ front ++ list_to n (λ r. profile_row word s numbers count (profile_at (sizes_of s) r)) → made ≡ front ++ profile_rows word s numbers count
profiles-all word s numbers count n front made e h =
    h ∙ ap (λ (k : ℕ). front ++ list_to k (λ r. profile_row word s numbers count (profile_at (sizes_of s) r))) e
    ∙ ap (λ (ys : List (List (List ℕ))). front ++ ys) (sym (map-list_to (profile_row word s numbers count) (profile_count (sizes_of s)) (profile_at (sizes_of s))))
    ∙ ap (λ (ts : List (List ℕ)). front ++ map (profile_row word s numbers count) ts) (sym (profiles_of-by_rank (sizes_of s)))

-- ---- pivots

pub pivots-more : (path : List Pivot) (i : ℕ) (d : Pivot) → i < length path → All (λ (p : Pivot). IsTablePlace p.row p.column) (take i path) → IsTablePlace (get_or path i d).row (get_or path i d).column
    → All (λ (p : Pivot). IsTablePlace p.row p.column) (take (i + 1) path)
pivots-more path i d l all one =
    let P : Pivot → Type 0 = λ (p : Pivot). IsTablePlace p.row p.column in
    subst (λ (ps : List Pivot). All P ps) (sym (take_more path i d l)) (All-push P (take i path) (get_or path i d) all one)

-- ---- parts behind parts

pub two-parts : {X : Type 0} (old first second a b : List X) → first ≡ old ++ a → second ≡ first ++ b → second ≡ old ++ (a ++ b)
two-parts old first second a b one two = two ∙ ap (λ ys. ys ++ b) one ∙ append_assoc old a b

pub three-parts : {X : Type 0} (old first second third a b c : List X) → first ≡ old ++ a → second ≡ first ++ b → third ≡ second ++ c → third ≡ old ++ (a ++ (b ++ c))
three-parts old first second third a b c one two three = two-parts old first third a (b ++ c) one (two-parts first second third b c two three)
