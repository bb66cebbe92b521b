use Rattle.std.proofs.Common.{◌≡◌, rules, refl, ap, Some, ◌∙◌}
use Rattle.md_ports.proofs.FirstNamed.{content_in-push_new, content_in-push_others, count_in-push}
use Rattle.md_ports.proofs.mem_shelf.MemShelf.put.Goals as goal

pub returns-in_ok-push-clause-content : goal.returns-in_ok-push-clause-content
returns-in_ok-push-clause-content c =
    let h = c.in-Some.ensures in
    let copied : c.in_ok-bytes.bytes.items ≡ c.args.bytes.now = search rules in
    rw (c.in_ok-push.ensures.items, h.2) (content_in-push_new _ _ _ h.0 c.in_ok-name.ensures.ok ∙ ap Some (h.1 ∙ copied))

pub returns-in_ok-push-clause-others : goal.returns-in_ok-push-clause-others
returns-in_ok-push-clause-others c =
    let h = c.in-Some.ensures in
    λ n ne. rw (c.in_ok-push.ensures.items, h.2) (content_in-push_others _ _ _ c.in_ok-name.ensures.ok n ne)

pub returns-in_ok-push-clause-counts : goal.returns-in_ok-push-clause-counts
returns-in_ok-push-clause-counts c =
    let h = c.in-Some.ensures in
    λ n. rw (c.in_ok-push.ensures.items, h.2) (count_in-push c.args.self.now.absent c.args.self.now.files.items _ n refl)
