use Rattle.std.proofs.Common.{◌*◌, ◌+◌, ◌<◌, drop, ap, ◌∙◌, sym, rules}
use Rattle.std.proofs.lemmas.List.Elements.{All-drop}
use Rattle.md_space.specs.Profiles.{profile_count}
use Rattle.md_space.proofs.Walks.{count-drop, profile_count-pos, stays_above}
use Rattle.md_space.proofs.space.profiles_within.Goals as goal

pub returns-then-profiles-gt-MAX_PROFILES : goal.returns-then-profiles-gt-MAX_PROFILES
returns-then-profiles-gt-MAX_PROFILES c =
    stays_above c.loop-n.profiles c.from-profiles.result (profile_count (drop (c.loop-n.n-index + 1) c.args.types.now)) 1024 _
    (rw c.from-profiles.ensures (ap (λ k. c.loop-n.profiles * k) (sym (count-drop _ _ c.loop-n-test.true)) ∙ c.loop-n.invariant.0))
    (profile_count-pos _ (All-drop (λ n. 0 < n) (c.loop-n.n-index + 1) c.args.types.now c.requires.some_type))
    (search (rules))
