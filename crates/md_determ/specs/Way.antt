-- A search under way: what it has visited and found so far.
use Rattle.std.specs.Prelude.{◌≡◌, ◌≢◌, ◌<◌, ℕ, List, [], ◌∷◌, ◌++◌, Option, None, Some}
use Rattle.md_space.specs.Profiles.{profile_count}
use Rattle.md_setting.specs.Setting.{GeneralSetting}
use Rattle.md_setting.specs.Meaning.{outcome_count, sizes_of}
use Rattle.md_mech.specs.declared.mechanism.Mechanism.{Mechanism}
use Rattle.md_mech.specs.Accepted.{IsAccepted}
use Rattle.md_determ_branching.specs.Fixed.{IsFirstFree, children_of}
use Rattle.md_determ_branching.specs.Tour.{current_of, left_of, rest_of}
use Rattle.md_determ_node.specs.NodeProgram.{IsNode, row_count_of}
use Rattle.md_tree.specs.AnswerTo.{IsDetAnswerTo, IsLeafFor}
use Rattle.md_tree.specs.Trees.{AreTrees, IsTree, root_of}
use Rattle.md_tree.specs.declared.answer.DetAnswer.{DetAnswer}
use Rattle.md_tree.specs.declared.node.Node.{Node}
use Rattle.md_tree.specs.declared.node.Node.TheVariants.{Branch}
use Rattle.md_question_solve.specs.Readings.{FitsReading}
use Rattle.md_determ.specs.Readings.{IsReadAt}
use Rattle.md_determ.specs.Search.{IsSearched, IsSearchFrom}
use Rattle.md_question_solve.specs.declared.reading.Reading.{Reading}
use Rattle.md_determ.specs.declared.search.Search.{Search}

-- the best mechanism so far has the setting's sizes, and its numbers are in their ranges
abbrev pub IsAcceptedBest : GeneralSetting → Option Mechanism → Type 0
IsAcceptedBest s None = Unit {0}
IsAcceptedBest s (Some best) = IsAccepted s best

-- Whatever nodes are visited from here on, with those before they are the whole search, and whatever trees stand at the open nodes,
-- with the nodes before they are one whole tree.
pub record IsUnderWay (s : GeneralSetting) (width : ℕ) (search : Search) : Type 0 where
  pub same_width : search.width ≡ width
  pub ranks : search.walk.ranks ≡ profile_count (sizes_of s)
  pub outcomes : search.walk.outcomes ≡ outcome_count s
  pub accepted : IsAcceptedBest s search.best
  pub trees : (rest : List Node) → AreTrees (outcome_count s) (IsLeafFor s) search.walk.opens rest → IsTree s (IsLeafFor s) (search.tree ++ rest)
  pub searches : (answer : DetAnswer) (visited : List Node) → IsSearchFrom s width (search.tree ++ visited) answer search.best search.walk.opens visited
      → IsSearchFrom s width (search.tree ++ visited) answer None (root_of s ∷ []) (search.tree ++ visited)

-- this was read at the node that is visited
pub record IsAtNode (s : GeneralSetting) (width : ℕ) (search : Search) (reading : Reading) : Type 0 where
  pub way : IsUnderWay s width search
  pub some_open : search.walk.opens ≢ []
  pub node : IsNode s (current_of search.walk)
  pub is_read : IsReadAt s width (current_of search.walk) reading
  pub fits : FitsReading s (row_count_of s (current_of search.walk)) reading

-- the search goes on, with fewer nodes that may still be visited
pub record IsTurn (s : GeneralSetting) (width : ℕ) (old new : Search) : Type 0 where
  pub way : IsUnderWay s width new
  pub less : left_of new.walk < left_of old.walk

-- the node that is visited is this leaf
pub record IsClosed (leaf : Node) (old new : Search) : Type 0 where
  pub width : new.width ≡ old.width
  pub best : new.best ≡ old.best
  pub tree : new.tree ≡ old.tree ++ leaf ∷ []
  pub ranks : new.walk.ranks ≡ old.walk.ranks
  pub outcomes : new.walk.outcomes ≡ old.walk.outcomes
  pub opens : new.walk.opens ≡ rest_of old.walk
  pub less : left_of new.walk < left_of old.walk

-- the node that is visited branches at the least rank where nothing is fixed
pub record IsSplit (old new : Search) : Type 0 where
  pub rank : ℕ
  pub least : IsFirstFree (current_of old.walk) rank
  pub width : new.width ≡ old.width
  pub best : new.best ≡ old.best
  pub tree : new.tree ≡ old.tree ++ Branch rank ∷ []
  pub ranks : new.walk.ranks ≡ old.walk.ranks
  pub outcomes : new.walk.outcomes ≡ old.walk.outcomes
  pub opens : new.walk.opens ≡ children_of old.walk.outcomes (current_of old.walk) rank ++ rest_of old.walk
  pub less : left_of new.walk < left_of old.walk

-- the search has this answer, which can be written and checked
pub record IsTold (s : GeneralSetting) (width : ℕ) (answer : DetAnswer) : Type 0 where
  pub searched : IsSearched s width answer
  pub writable : IsDetAnswerTo s answer
