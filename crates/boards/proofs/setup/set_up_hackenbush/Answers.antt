-- The edges that were read are those of the picture, or it is refused for its size. Bytes that were read spell a picture.
use Rattle.std.proofs.Common.{Err, sym, ap, ◌∙◌}
use Rattle.std.proofs.lemmas.Result.{err_from_is_err_and}
use Rattle.hackenbush.specs.Hackenbush.{hackenbush}
use Rattle.boards.proofs.Codes.{edges_stand}
use Rattle.boards.proofs.Refusals.{no_value}
use Rattle.boards.proofs.EdgesSpelt.{edges_spelt}
use Rattle.boards.proofs.Pictured.{edges_refused, picture_set, picture_refused}
use Rattle.boards.proofs.setup.set_up_hackenbush.Goals as goal

pub returns-in_err-edges : goal.returns-in_err-edges
returns-in_err-edges c =
    let p = err_from_is_err_and c.from_residual.result c.from_residual.ensures.1 in
    let h = no_value c.read.result c.in_err-edges.field-0.0 c.in_err-edges.ensures.value in
    record {
      set = λ edges e. rw (p.1, p.2) (edges_refused c.args.items.now edges e (sym h.0 ∙ c.read.ensures), h.1);
      others = λ none. p.1 ∙ ap Err (p.2 ∙ h.1);
      standing = edges_stand;
    }

pub returns-in_err-picture : goal.returns-in_err-picture
returns-in_err-picture c =
    let p = err_from_is_err_and c.from_residual-in_err-picture.result c.from_residual-in_err-picture.ensures.1 in
    let h = c.in_err-picture.ensures in
    record {
      set = λ edges e. rw (p.1, p.2) (picture_refused c.args.items.now edges e c.in_ok-edges.field-0 (sym c.in_ok-edges.ensures.ok_part ∙ c.read.ensures) _ c.as_slice.ensures.value h.0, h.1);
      others = λ none. p.1 ∙ ap Err (p.2 ∙ h.1);
      standing = edges_stand;
    }

pub returns : goal.returns
returns c =
    let h = c.in_ok-picture.ensures in
    record {
      set = λ edges e. picture_set c.args.items.now edges e c.in_ok-edges.field-0 (sym c.in_ok-edges.ensures.ok_part ∙ c.read.ensures) _ c.as_slice.ensures.value _ _ h.0 (ap hackenbush h.1) c.len.ensures.value;
      others = λ none. (let w = edges_spelt c.args.items.now c.in_ok-edges.field-0 (sym (sym c.in_ok-edges.ensures.ok_part ∙ c.read.ensures)) in absurd (none w.0 w.1));
      standing = edges_stand;
    }
