-- Steps put together, and the canonical form.
-- Assumes nothing.
use Rattle.std.proofs.Common.{◌≡◌, ℕ, ◌+◌, true, List, length, sym, ap, ◌∙◌, arith}
use Rattle.std.proofs.lemmas.Bool.{and_from, lt-ltb}
use Rattle.games.specs.declared.side.Side.{Side}
use Rattle.games.specs.declared.side.Side.TheVariants.{Left, Right}
use Rattle.games.specs.Form.{Form, ◌∈◌}
use Rattle.games.specs.Order.{◌≈◌}
use Rattle.games.specs.Sides.{other, options}
use Rattle.games.specs.Canon.{AsGood, Dominated, Reversible, Canonical, canonical}
use Rattle.games.specs.Tests.{is_canonical}
use Rattle.games.proofs.Order.{≈_trans}
use Rattle.games.proofs.Tests.{canonical_is}
use Rattle.nodesets.specs.Pairs.{Sets, Within}
use Rattle.sealing.specs.Forms.{node, game}
use Rattle.sealing.specs.Invariants.{Lower, AllCanonical}
use Rattle.sealing.specs.Steps.{Compared, Stays, Reduced, Clear, Cleared, Undominated, Settled}
use Rattle.sealing.proofs.Forming.{game_back, game_rises, node_back}
use Rattle.sealing.proofs.Standing.{from_good, T_true}
use Rattle.sealing.proofs.Reducing.{reduced_self, reduced_then, compared_same}

pub undominated_none : (os : List Sets) (s : Side) (o : Sets) → Within (length os) o → Undominated os s 0 o o
undominated_none os s o within = record { reduced = reduced_self os s o within; fewer = λ k t. t; clear = λ j k l t g. absurd (omega (arith, l.0)) }

pub undominated_more : (os : List Sets) (s : Side) (a : ℕ) (o p q : Sets) → Undominated os s a o p → Cleared os s a p q → Undominated os s (a + 1) o q
undominated_more os s a o p q u c = record {
  reduced = reduced_then os s o p q u.reduced c.reduced;
  fewer = λ k t. u.fewer k (c.fewer k t);
  clear = c.clear u.clear;
}

-- a game is canonical that has no dominated and no reversible option
pub clean_canonical : (os : List Sets) → Lower os → AllCanonical os → (q w : Sets) → Compared os q (length os) w → ((s : Side) → Clear os s (length os) (q s)) → ((s : Side) (k : ℕ) → q s k ≡ true → Stays os s w k)
    → Canonical (game os q)
clean_canonical os lower all q w known clear stays = canonical (record { rising = λ s. game_rises os q s; undominated = und; irreversible = irr }) parts
  where
    und : (s : Side) (x : Form) → x ∈ options s (game os q) → ¬ Dominated s (game os q) x
    und s x m d =
        let (k, l, t, e) = game_back os q s x m in
        let (j, i, u, f) = game_back os q s d.other_one d.is_option in
        let g : AsGood s (node os j) (node os k) = rw (e, f) at d.as_good in
        d.is_another (f ∙ ap (node os) (clear s j k (i, l) (u, t) g) ∙ sym e)

    irr : (s : Side) (x : Form) → x ∈ options s (game os q) → ¬ Reversible s (game os q) x
    irr s x m r =
        let (k, l, t, e) = game_back os q s x m in
        let n : r.reply ∈ options (other s) (node os k) = rw e at r.is_reply in
        let (b, i, u, f) = node_back os k l (other s) r.reply n in
        let g : AsGood s (game os q) (node os b) = rw f at r.as_good in
        stays s k t (b, u, known s b ∙ and_from _ _ (lt-ltb b (length os) (omega arith)) (from_good s g))

    parts : (s : Side) (x : Form) → x ∈ options s (game os q) → Canonical x
    parts s x m = let (k, l, t, e) = game_back os q s x m in rw e (canonical_is (node os k) (T_true (is_canonical (node os k)) (all k l)))

-- the four steps
module _ (os : List Sets) (lower : Lower os) (all : AllCanonical os) (o a b c d w : Sets) (known : Compared os o (length os) w)
    (one : Reduced os Left o a) (one_stays : (k : ℕ) → a Left k ≡ true → Stays os Left w k) (two : Reduced os Right a b) (two_stays : (k : ℕ) → b Right k ≡ true → Stays os Right w k)
    (three : Undominated os Left (length os) b c) (four : Undominated os Right (length os) c d) where
  kept : game os o ≈ game os d
  kept = ≈_trans one.value (≈_trans two.value (≈_trans three.reduced.value four.reduced.value))

  clear : (s : Side) → Clear os s (length os) (d s)
  clear Left j k l (t, u) g = three.clear j k l (sym (four.reduced.theirs j) ∙ t, sym (four.reduced.theirs k) ∙ u) g
  clear Right j k l p g = four.clear j k l p g

  stays : (s : Side) (k : ℕ) → d s k ≡ true → Stays os s w k
  stays Left k t = one_stays k (sym (two.theirs k) ∙ three.fewer k (sym (four.reduced.theirs k) ∙ t))
  stays Right k t = two_stays k (sym (three.reduced.theirs k) ∙ four.fewer k t)

  pub settled : Settled os o d
  settled = record { value = kept; within = four.reduced.within; canonical = clean_canonical os lower all d w (compared_same os o d (length os) w kept known) clear stays }
