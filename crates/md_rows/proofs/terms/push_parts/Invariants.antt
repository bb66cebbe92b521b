use Rattle.std.proofs.Common.{◌+◌, ◌*◌, ◌^◌, take}
use Rattle.md_space.specs.Profiles.{profile_count}
use Rattle.md_setting.specs.Meaning.{sizes_of}
use Rattle.md_forms.proofs.TermLaws.{AddsShares}
use Rattle.md_rows.specs.Terms.{part_at}
use Rattle.md_rows.proofs.terms.push_parts.Given as goal

abbrev pub invariant-loop-share : goal.invariant-loop-share
invariant-loop-share l = AddsShares 1000000 (2 ^ 44) (l.first + l.agent * profile_count (sizes_of l.setting)) 1 (part_at (l.first + l.agent * profile_count (sizes_of l.setting)) l.sign) (take l.share-index l.shares) l.fn.terms.items l.terms.items
