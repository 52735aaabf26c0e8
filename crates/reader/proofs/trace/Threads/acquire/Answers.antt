-- Each way out is one law of `Steps`.
use Rattle.std.proofs.Common.{arith, rules, refl}
use Rattle.std.proofs.lemmas.Result.{err_from_is_err_and}
use Rattle.reader.proofs.Steps.{again, taken_elsewhere, deep, acquired, first, full, noted}
use Rattle.reader.proofs.trace.Threads.acquire.Goals.{then-hold-gt0+in_ok-note, else-hold-gt0}
use Rattle.reader.proofs.trace.Threads.acquire.Goals as goal

pub returns-then-ask-clause-did : goal.returns-then-ask-clause-did
returns-then-ask-clause-did c =
    λ k s t₀ S L. again S L c.requires.within c.from-thread.ensures c.ask.ensures k c.if-ask.true

pub returns-then-self-lock-ne0-clause-did : goal.returns-then-self-lock-ne0-clause-did
returns-then-self-lock-ne0-clause-did c =
    λ k s t₀ S L. taken_elsewhere S L c.requires.within c.from-thread.ensures c.ask.ensures k c.if-ask.false c.from-lock.ensures c.if-self-lock-ne0.true

pub returns-then-hold-ge-MOST_HELD-clause-did :
    goal.returns-then-hold-ge-MOST_HELD-clause-did
returns-then-hold-ge-MOST_HELD-clause-did c =
    λ k s t₀ S L.
    deep S L c.requires.within c.from-thread.ensures c.ask.ensures k c.if-ask.false c.from-lock.ensures c.if-self-lock-ne0.false c.if-hold-ge-MOST_HELD.true

pub returns-in_err-note-clause-did : goal.returns-in_err-note-clause-did
returns-in_err-note-clause-did c =
    let v = err_from_is_err_and c.from_residual.result c.from_residual.ensures.1 in
    rw (v.1, v.2)
    (λ k s t₀ S L.
    full S L c.requires.within c.from-thread.ensures c.ask.ensures k c.if-ask.false c.from-lock.ensures c.if-self-lock-ne0.false c.if-hold-ge-MOST_HELD.false
    c.if-hold-gt0.true c.key_of.ensures _ _ c.in_err-note.ensures.noted)

pub returns-clause-did : goal.returns-clause-did
returns-clause-did c =
    λ k s t₀ S L.
    acquired S L c.requires.within c.from-thread.ensures c.ask.ensures k c.if-ask.false c.from-lock.ensures c.if-self-lock-ne0.false c.if-hold-ge-MOST_HELD.false
    _ _ c.take-taken.result c.take-taken.ensures (search rules) (search rules) refl refl
    (elim c.if-hold-gt0.branch [
      | then-hold-gt0+in_ok-note w ↦
          rw w.rows-is
          (noted S L c.requires.within c.from-thread.ensures c.ask.ensures k c.if-ask.false c.from-lock.ensures c.if-self-lock-ne0.false c.if-hold-ge-MOST_HELD.false
          w.if-hold-gt0.true w.key_of.ensures w.note.new.self w.in_ok-note.ensures.noted)
      | else-hold-gt0 w ↦
          rw w.rows-is
          (first S L c.requires.within c.from-thread.ensures c.ask.ensures k c.if-ask.false c.from-lock.ensures c.if-self-lock-ne0.false c.if-hold-ge-MOST_HELD.false (omega (arith, w.if-hold-gt0.false)))
    ])
