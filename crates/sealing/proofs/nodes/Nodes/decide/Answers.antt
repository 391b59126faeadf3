-- The node is decided already, or the game is as good as it, or not.
use Rattle.std.proofs.Common.{◌||◌, vec_items, sym, refl, ap, ◌∙◌}
use Rattle.std.proofs.lemmas.Bool.Decides.{not_from_Decides}
use Rattle.games.specs.Sides.{other}
use Rattle.nodesets.specs.Pairs.{by}
use Rattle.nodesets.specs.Sets.{has}
use Rattle.sealing.specs.Views.{links, ranks}
use Rattle.sealing.proofs.Reading.{meet_same, same_length}
use Rattle.sealing.proofs.Whole.{there_links, option_bit, worse_bit}
use Rattle.sealing.proofs.Deciding.{further_decided, further_blocked, further_stands}
use Rattle.sealing.proofs.nodes.Nodes.decide.Goals as goal

pub returns-then-contains : goal.returns-then-contains
returns-then-contains c o within was known =
    let t = c.args.self.now in
    further_decided (links t) (ranks t) t.lower t.ranked (same_length (vec_items t.rows)) c.args.side o within c.args.h (there_links t c.args.h c.requires) (has c.args.known.now.decided) (has c.args.known.now.worse)
    (has c.args.theirs.now) was known (sym c.contains.ensures ∙ c.if-contains.true)

pub returns-then-meets : goal.returns-then-meets
returns-then-meets c o within was known =
    let t = c.args.self.now in
    let row = c.index-row.result.now in
    let h = c.args.h in
    further_blocked (links t) (ranks t) t.lower t.ranked (same_length (vec_items t.rows)) c.args.side o within h (there_links t h c.requires) (has c.args.known.now.decided) (has c.args.known.now.worse)
    (has c.args.theirs.now) was known (sym c.contains.ensures ∙ c.if-contains.false) (has c.union.new.self)
    (meet_same (has c.of.result.now) (has c.args.theirs.now) _ _ (λ k. c.of.ensures k ∙ sym (option_bit t h c.requires row c.index-row.ensures c.args.side k)) (λ k. refl) (c.meets.ensures.0 c.if-meets.true))
    (λ k. c.union.ensures k ∙ ap (λ b. has c.args.known.now.decided k || b)
    (c.of-then-meets.ensures k ∙ ap (λ z. by row.worse z k) c.other.ensures ∙ sym (worse_bit t h c.requires row c.index-row.ensures (other c.args.side) k)))

pub returns-else-meets : goal.returns-else-meets
returns-else-meets c o within was known =
    let t = c.args.self.now in
    let row = c.index-row.result.now in
    let h = c.args.h in
    further_stands (links t) (ranks t) t.lower t.ranked (same_length (vec_items t.rows)) c.args.side o within h (there_links t h c.requires) (has c.args.known.now.decided) (has c.args.known.now.worse)
    (has c.args.theirs.now) was known (sym c.contains.ensures ∙ c.if-contains.false) (has c.union-else-meets.new.self) (has c.union-else-meets-2.new.self)
    (λ m. not_from_Decides c.meets.result c.meets.ensures c.if-meets.false
    (meet_same _ _ (has c.of.result.now) (has c.args.theirs.now) (λ k. option_bit t h c.requires row c.index-row.ensures c.args.side k ∙ sym (c.of.ensures k)) (λ k. refl) m))
    (λ k. c.union-else-meets.ensures k ∙ ap (λ b. has c.args.known.now.decided k || b) (c.of-else-meets.ensures k ∙ sym (worse_bit t h c.requires row c.index-row.ensures c.args.side k)))
    (λ k. c.union-else-meets-2.ensures k ∙ ap (λ b. has c.args.known.now.worse k || b) (c.of-else-meets-2.ensures k ∙ sym (worse_bit t h c.requires row c.index-row.ensures c.args.side k)))
