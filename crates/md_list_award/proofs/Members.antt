-- The bidders of one group after the other.
use Rattle.std.proofs.Common.{◌≡◌, ℕ, suc, ◌+◌, ◌<◌, ◌≤◌, List, ◌++◌, length, drop, replicate, sym, ap, ◌∙◌, append_assoc, append-nil, add-one}
use Rattle.std.proofs.Math.Seq.{drop-cons}
use Rattle.std.proofs.Math.ListN.{drop_of_length-le}
use Rattle.md_setting.specs.Grouped.{GroupedAuction, no_group, group_at, members_from, members}

-- the bidders so far, and those of all groups from number k on, are all bidders
abbrev pub AreMembersTo : GroupedAuction → ℕ → List ℕ → Type 0
AreMembersTo a k groups = groups ++ members_from k (drop k a.groups) ≡ members a

pub next-members : (a : GroupedAuction) (k : ℕ) (groups new : List ℕ) → k < length a.groups → AreMembersTo a k groups → new ≡ groups ++ replicate (group_at a k).count k → AreMembersTo a (k + 1) new
next-members a k groups new b h e =
    ap (λ n. new ++ members_from n (drop n a.groups)) (add-one k)
    ∙ ap (λ xs. xs ++ members_from (suc k) (drop (suc k) a.groups)) e
    ∙ append_assoc groups (replicate (group_at a k).count k) (members_from (suc k) (drop (suc k) a.groups))
    ∙ sym (ap (λ gs. groups ++ members_from k gs) (drop-cons a.groups k no_group b))
    ∙ h

pub all-members : (a : GroupedAuction) (k : ℕ) (groups : List ℕ) → length a.groups ≤ k → AreMembersTo a k groups → groups ≡ members a
all-members a k groups l h = sym (append-nil groups) ∙ sym (ap (λ gs. groups ++ members_from k gs) (drop_of_length-le a.groups l)) ∙ h
