-- Each way out is one law of `Steps`.
use Rattle.std.proofs.Common.{rules, refl}
use Rattle.std.proofs.lemmas.Bool.{not-true, not-false}
use Rattle.reader.proofs.Steps.{gave_back, not_held}
use Rattle.reader.proofs.trace.Threads.release.Goals as goal

pub returns-then-not-ask-clause-did : goal.returns-then-not-ask-clause-did
returns-then-not-ask-clause-did c =
    λ p rows k s t₀ S L. not_held S L c.requires c.from-thread.ensures c.ask.ensures k (not-true _ c.if-not-ask.true)

pub returns-clause-did : goal.returns-clause-did
returns-clause-did c =
    λ p rows k s t₀ S L.
    gave_back S L c.requires c.from-thread.ensures c.ask.ensures k (not-false _ c.if-not-ask.false) c.from.ensures _ c.release.result c.release.ensures (search rules) (search rules) refl refl
