-- Both lists are short, or one is not.
use Rattle.std.proofs.Common.{◌≡◌, ◌≤◌, length, filter, ap, ◌∙◌, arith}
use Rattle.std.proofs.lemmas.Bool.{leb-true, le-leb, lt-leb, both_ways}
use Rattle.games.specs.declared.side.Side.TheVariants.{Left, Right}
use Rattle.games.specs.Numbered.{list_of}
use Rattle.nodesets.specs.Pairs.{by}
use Rattle.nodesets.specs.Sets.{has}
use Rattle.nodesets.proofs.Sides.{both}
use Rattle.sealing.specs.Seals.{listed, row_of}
use Rattle.sealing.proofs.tables.Tables.is_narrow.Goals as goal

pub returns-then-count_listed-le-MOST_OPTIONS : goal.returns-then-count_listed-le-MOST_OPTIONS
returns-then-count_listed-le-MOST_OPTIONS c =
    let t = c.args.self.now in
    let l : c.count_listed.result ≡ length (listed t (has c.args.form.now.left)) = c.count_listed.ensures ∙ ap (λ ks. length (filter (has c.args.form.now.left) ks)) c.deref.ensures.value in
    let r : c.count_listed-then-count_listed-le-MOST_OPTIONS.result ≡ length (listed t (has c.args.form.now.right)) =
    c.count_listed-then-count_listed-le-MOST_OPTIONS.ensures ∙ ap (λ ks. length (filter (has c.args.form.now.right) ks)) c.deref-then-count_listed-le-MOST_OPTIONS.ensures.value in (
      λ e. both (λ s. length (list_of s (row_of t (by c.args.form.now))) ≤ 16) (omega (arith, c.if-count_listed-le-MOST_OPTIONS.true)) (omega (arith, leb-true _ _ e)),
      λ h. le-leb _ 16 (let k : length (listed t (has c.args.form.now.right)) ≤ 16 = h Right in omega arith),
    )

pub returns-else-count_listed-le-MOST_OPTIONS : goal.returns-else-count_listed-le-MOST_OPTIONS
returns-else-count_listed-le-MOST_OPTIONS c =
    let t = c.args.self.now in
    let l : c.count_listed.result ≡ length (listed t (has c.args.form.now.left)) = c.count_listed.ensures ∙ ap (λ ks. length (filter (has c.args.form.now.left) ks)) c.deref.ensures.value in (
      λ e. absurd (both_ways _ (lt-leb _ 16 c.if-count_listed-le-MOST_OPTIONS.false) e),
      λ h. absurd (let k : length (listed t (has c.args.form.now.left)) ≤ 16 = h Left in omega (arith, c.if-count_listed-le-MOST_OPTIONS.false)),
    )
