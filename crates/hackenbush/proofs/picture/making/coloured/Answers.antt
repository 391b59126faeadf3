-- One edge more, which is in the set or not.
use Rattle.std.proofs.Common.{◌≡◌, ℕ, ◌+◌, ◌&&◌, ltb, sym, ◌∙◌, subst, arith}
use Rattle.std.proofs.lemmas.Bool.{le-ltb}
use Rattle.bits.specs.Bits.{bit}
use Rattle.bits.proofs.Words.{bit_none}
use Rattle.hackenbush.specs.Hackenbush.{painted}
use Rattle.hackenbush.proofs.Making.{set_more, set_same, set_all, painted_at}
use Rattle.hackenbush.proofs.picture.making.coloured.Goals as goal
use Rattle.hackenbush.proofs.picture.making.coloured.Goals.{then-is_cut_by, else-is_cut_by}

pub loop-i-init : goal.loop-i-init
loop-i-init c j = bit_none j ∙ rw (le-ltb j 0 (omega arith))

pub loop-i-preserved : goal.loop-i-preserved
loop-i-preserved c =
    let q = painted c.args.side c.args.edges.now in
    let here = painted_at c.args.side c.args.edges.now c.loop-i.i c.loop-i-test.true in
    elim c.if-is_cut_by.branch [
      | then-is_cut_by w ↦ λ j. subst (λ (n : ℕ). bit n j ≡ (ltb j (c.loop-i.i + 1) && q j)) (sym w.set-is)
          (set_more q c.loop-i.set c.loop-i.i c.loop-i.invariant (here ∙ sym c.is_cut_by.ensures ∙ w.if-is_cut_by.true) (omega (arith, c.requires)) j)
      | else-is_cut_by w ↦ λ j. subst (λ (n : ℕ). bit n j ≡ (ltb j (c.loop-i.i + 1) && q j)) (sym w.set-is)
          (set_same q c.loop-i.set c.loop-i.i c.loop-i.invariant (here ∙ sym c.is_cut_by.ensures ∙ w.if-is_cut_by.false) j)
    ]

pub returns : goal.returns
returns c = set_all c.args.side c.args.edges.now c.loop-i.set c.loop-i.i c.loop-i.invariant c.loop-i-test.false
