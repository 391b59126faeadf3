use Rattle.std.proofs.Common.{◌≡◌, ◌<◌, ◌≤◌, length, get_or, vec_items, ap, ◌∙◌}
use Rattle.std.specs.Bool.{then_some}
use Rattle.ordered_store.proofs.Rising.{finds, finds_end}
use Rattle.ordered_store.proofs.ordered.calls.OrderedListStore.find.Goals as goal

pub returns-in_err-node : goal.returns-in_err-node
returns-in_err-node c =
    let end : length (vec_items c.args.self.now.order) ≤ c.place-place.result = rw c.deref.ensures.value at c.in_err-node.ensures.lookup.3 in
    c.from_residual.ensures ∙ finds_end _ _ c.args.self.now.holds_all c.args.self.now.rises _ _ c.place-place.ensures end

pub returns : goal.returns
returns c =
    let h = c.in_ok-node.ensures.lookup.3 in
    let e = c.deref.ensures.value in
    let within : c.place-place.result < length (vec_items c.args.self.now.order) = rw e at h.0 in
    let read : c.in_ok-node.field-0.now ≡ get_or (vec_items c.args.self.now.order) c.place-place.result c.in_ok-node.field-0.now = rw e at (h.1 c.in_ok-node.field-0.now) in
    c.then_some.ensures ∙ ap (λ s. then_some s c.in_ok-node.field-0.now) c.same.ensures
    ∙ finds _ _ c.args.self.now.have_rows c.args.self.now.holds_all c.args.self.now.rises _ _ c.place-place.ensures _ within read
