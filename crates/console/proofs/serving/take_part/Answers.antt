-- What is at hand is taken up to the first line break.
use Rattle.std.proofs.Common.{◌+◌, ◌≤◌, length, sym, subst, ◌∙◌, arith, rules, le_refl, refl}
use Rattle.std.specs.Io.BufRead.{FillKeeps}
use Rattle.std.proofs.BufReadLemmas.{Consumes_shown}
use Rattle.console.proofs.Lines.{break_found, part_none, part_end, part_broken, part_unbroken}
use Rattle.console.proofs.serving.take_part.Goals as goal

pub returns-in-Err : goal.returns-in-Err
returns-in-Err g c = part_none (g.B.Read.remaining c.args.input.now) (g.B.Read.remaining c.fill_buf.follows.lender-at-none) c.args.line.now.bytes.items c.args.line.now.few c.fill_buf.follows.holds-at-none.0

pub returns-then-is_empty : goal.returns-then-is_empty
returns-then-is_empty g c =
    part_end (g.B.Read.remaining c.args.input.now) _ c.args.line.now.bytes.items (length c.in-Ok.at_hand.now) (search rules) c.in-Ok.ensures.end c.fill_buf.follows.holds-at-none.0

pub returns-in_ok-keep-in-Some : goal.returns-in_ok-keep-in-Some
returns-in_ok-keep-in-Some g c =
    let shown = c.in-Ok.at_hand.now in
    let place = c.in-Some.place in
    let found = sym c.line_break.ensures ∙ c.in-Some.is in
    let within : place + 1 ≤ length shown = omega (arith, (break_found shown place found).0) in
    let rested = c.fill_buf.follows.lender-at-none in
    let filled = subst (FillKeeps _ (g.B.Read.remaining rested) (g.B.BufRead.consumable_len rested)) c.in-Ok.is c.fill_buf.follows.holds-at-none in
    let moved = Consumes_shown _ _ _ _ shown (place + 1) within c.in-Ok.ensures.front c.in-Ok.ensures.end filled.0 filled.1 c.consume.ensures.bytes in
    part_broken _ _ c.args.line.now.bytes.items c.keep.new.self.bytes.items shown place found c.in_ok-keep-in-Some.ensures moved.0

pub returns-in_ok-keep-in-None : goal.returns-in_ok-keep-in-None
returns-in_ok-keep-in-None g c =
    let shown = c.in-Ok.at_hand.now in
    let found = sym c.line_break.ensures ∙ c.in-None.is in
    let rested = c.fill_buf.follows.lender-at-none in
    let filled = subst (FillKeeps _ (g.B.Read.remaining rested) (g.B.BufRead.consumable_len rested)) c.in-Ok.is c.fill_buf.follows.holds-at-none in
    let moved = Consumes_shown _ _ _ _ shown (length shown) (le_refl _) c.in-Ok.ensures.front c.in-Ok.ensures.end filled.0 filled.1 c.consume-in-None.ensures.bytes in
    part_unbroken _ _ c.args.line.now.bytes.items c.keep-in-None.new.self.bytes.items shown (length shown) found c.in_ok-keep-in-None.ensures refl moved.0
