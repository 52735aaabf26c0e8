-- From the offset on to the end lie the events, and running through them is reading the image.
use Rattle.std.proofs.Common.{ℕ, ◌-◌, ◌*◌, ◌≡◌, arith, length, length-drop, take, drop, sym, ap, ◌∙◌}
use Rattle.std.proofs.lemmas.List.{take_rest}
use Rattle.model.specs.Image.{event_size, events, offset}
use Rattle.model.specs.Reading.{told}
use Rattle.model.specs.Trace.{Read}
use Rattle.model.proofs.Answers.{image_passed}
use Rattle.model.proofs.Image.{accepted}
use Rattle.reader.specs.declared.image.Header.{Header}
use Rattle.reader.proofs.read.Goals as goal

pub returns : goal.returns
returns c =
    let b = c.args.image.now in
    let t = c.args.table.now in
    let o = c.offset.result in
    let e = c.in_ok-header.ensures in
    let rest : take (length b - o) (drop o b) ≡ drop (offset b) b = take_rest b o ∙ ap (λ (n : ℕ). drop n b) (c.offset.ensures ∙ ap (λ (x : Header). x.offset) e.1) in
    let long : length (take (length b - o) (drop o b)) ≡ event_size * events b = ap length rest ∙ length-drop (offset b) b ∙ omega (arith, (accepted b e.0).ends) in
    c.run.ensures (events b) long ∙ rw (rest, e.1) (ap (λ (r : Read). told r t) (sym (image_passed b (length t) c.if-table-lt-ROOM.false e.0)))
