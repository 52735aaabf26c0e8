-- Where the header passes, the notes are the image's own bytes from 20 to O. (The check finds this alone, but takes minutes to refuse a wrong part.)
use Rattle.std.proofs.Common.{◌≡◌, refl, ap, ◌∙◌, arith}
use Rattle.model.specs.Image.{offset, notes_of}
use Rattle.model.proofs.Answers.{notes_passed}
use Rattle.reader.specs.declared.image.Header.{Header}
use Rattle.reader.proofs.notes.Goals as goal

pub returns-in-Ok : goal.returns-in-Ok
unfolding notes_of
returns-in-Ok c =
    let w = notes_passed c.args.image.now c.in-Ok.ensures.0 in
    let o : c.offset.result ≡ offset c.args.image.now = c.offset.ensures ∙ ap (λ (h : Header). h.offset) c.in-Ok.ensures.1 in
    rw (w.0, w.1, o) (refl, refl, omega arith)
