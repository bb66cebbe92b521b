-- Weights of profiles that are products of the weights of types.
use Rattle.std.proofs.Common.{◌≡◌, ℕ, zero, suc, ◌<◌, ℤ, pos, ◌*ℤ◌, List, [], ◌∷◌, map, length, get_or, remove, refl, ap, ◌∙◌, arith}
use lib.IntN.{*ℤ_comm}
use Rattle.md_math.specs.Lists.{number_at}
use Rattle.md_math.specs.Sums.{sum_to, total_by}
use Rattle.md_math.proofs.Ring.{*ℤ_left_comm}
use Rattle.md_math.proofs.SumLaws.{sum_to-same, sum_to-*ℤ}
use Rattle.md_math.proofs.TotalLaws.{total_by-*ℤ}
use Rattle.md_space.specs.AllProfiles.{profiles_of}
use Rattle.md_space.specs.ByType.{where_type}
use Rattle.md_space.specs.Profiles.{replaced}
use Rattle.md_space.proofs.TypeSums.{by_first, first_only, behind_first, total_given-*ℤ}
use Rattle.md_setting.specs.Setting.{Agent}
use Rattle.md_setting.specs.Meaning.{nobody, type_weights}

-- the number of types of each of some agents
abbrev pub types_of : List Agent → List ℕ
types_of agents = map (λ (agent : Agent). length agent.types) agents

-- the weight of all types of an agent, and the product of these
abbrev pub whole_of : Agent → ℤ
whole_of agent = sum_to (length agent.types) (number_at agent.weights)

abbrev pub wholes : List Agent → ℤ
wholes [] = pos 1
wholes (agent ∷ others) = whole_of agent *ℤ wholes others

-- a sum of multiples of one number
sum_times : (n : ℕ) (f : ℕ → ℤ) (c : ℤ) → sum_to n (λ k. f k *ℤ c) ≡ sum_to n f *ℤ c
sum_times n f c = sum_to-same n (λ k. f k *ℤ c) (λ k. c *ℤ f k) (λ k b. *ℤ_comm (f k) c) ∙ sum_to-*ℤ n c f ∙ *ℤ_comm c (sum_to n f)

-- all profiles together weigh the product of what the types of each agent weigh
pub total-type_weights : (agents : List Agent) → total_by (type_weights agents) (profiles_of (types_of agents)) ≡ wholes agents
total-type_weights [] = refl
total-type_weights (agent ∷ others) =
    by_first (length agent.types) (types_of others) (type_weights (agent ∷ others))
    ∙ sum_to-same (length agent.types) _ (λ c. number_at agent.weights c *ℤ wholes others)
    (λ c b. total_by-*ℤ (number_at agent.weights c) (type_weights others) (profiles_of (types_of others)) ∙ ap (λ z. number_at agent.weights c *ℤ z) (total-type_weights others))
    ∙ sum_times (length agent.types) (number_at agent.weights) (wholes others)

-- the profiles in which an agent has a type weigh that type's weight times what the types of the others weigh
pub given-type_weights : (agents : List Agent) (i a : ℕ) → i < length agents → a < length (get_or agents i nobody).types
    → total_by (where_type i a (type_weights agents)) (profiles_of (types_of agents)) ≡ number_at (get_or agents i nobody).weights a *ℤ wholes (remove agents i)
given-type_weights [] i a h k = absurd (omega arith)
given-type_weights (agent ∷ others) zero a h k =
    first_only (length agent.types) a (types_of others) (type_weights (agent ∷ others)) k
    ∙ total_by-*ℤ (number_at agent.weights a) (type_weights others) (profiles_of (types_of others))
    ∙ ap (λ z. number_at agent.weights a *ℤ z) (total-type_weights others)
given-type_weights (agent ∷ others) (suc i) a h k =
    behind_first (length agent.types) (types_of others) i a (type_weights (agent ∷ others))
    ∙ sum_to-same (length agent.types) _ (λ c. number_at agent.weights c *ℤ (number_at (get_or others i nobody).weights a *ℤ wholes (remove others i)))
    (λ c b. total_given-*ℤ (types_of others) i a (number_at agent.weights c) (type_weights others) ∙ ap (λ z. number_at agent.weights c *ℤ z) (given-type_weights others i a (omega arith) k))
    ∙ sum_times (length agent.types) (number_at agent.weights) (number_at (get_or others i nobody).weights a *ℤ wholes (remove others i))
    ∙ *ℤ_left_comm (whole_of agent) (number_at (get_or others i nobody).weights a) (wholes (remove others i))

-- a type in the place of another one weighs as the two types do
pub type_weights-replaced : (agents : List Agent) (t : List ℕ) (i b : ℕ) → i < length agents → length t ≡ length agents
    → number_at (get_or agents i nobody).weights (get_or t i 0) *ℤ type_weights agents (replaced t i b) ≡ number_at (get_or agents i nobody).weights b *ℤ type_weights agents t
type_weights-replaced [] t i b h l = absurd (omega arith)
type_weights-replaced (agent ∷ others) [] i b h l = absurd (omega arith)
type_weights-replaced (agent ∷ others) (a ∷ t) zero b h l = *ℤ_left_comm (number_at agent.weights a) (number_at agent.weights b) (type_weights others t)
type_weights-replaced (agent ∷ others) (a ∷ t) (suc i) b h l =
    let w = number_at (get_or others i nobody).weights in
    *ℤ_left_comm (w (get_or t i 0)) (number_at agent.weights a) (type_weights others (replaced t i b))
    ∙ ap (λ z. number_at agent.weights a *ℤ z) (type_weights-replaced others t i b (omega arith) (omega arith))
    ∙ *ℤ_left_comm (number_at agent.weights a) (w b) (type_weights others t)
