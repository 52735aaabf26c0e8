-- A kind that is not known, then names past the limits; then the kind decides.
use Rattle.std.proofs.Common.{sym, ap, ◌∙◌}
use Rattle.std.proofs.lemmas.Result.{err_from_is_err_and}
use Rattle.model.specs.Kinds.{code_of}
use Rattle.reader.proofs.Steps.{did_refuse, unknown_kind, refused_names}
use Rattle.reader.proofs.trace.Threads.step.Goals as goal

pub returns-in_err-kind-clause-did : goal.returns-in_err-kind-clause-did
returns-in_err-kind-clause-did c =
    let a = c.args in
    let v = err_from_is_err_and c.from_residual.result c.from_residual.ensures.1 in
    rw (v.1, v.2, c.in_err-kind.ensures.0)
    (λ s t₀ S L. did_refuse a.event a.self.now a.rows.now _ (unknown_kind a.self.now.limits s a.event c.in_err-kind.ensures.1) L)

pub returns-in_err-check_names-clause-did : goal.returns-in_err-check_names-clause-did
returns-in_err-check_names-clause-did c =
    let a = c.args in
    let v = err_from_is_err_and c.from_residual-in_err-check_names.result c.from_residual-in_err-check_names.ensures.1 in
    rw (v.1, v.2)
    (λ s t₀ S L. did_refuse a.event a.self.now a.rows.now _ (refused_names a.self.now.limits s a.event c.in_ok-kind.kind c.in_ok-kind.ensures _ c.in_err-check_names.ensures) L)

pub returns-in-Release-clause-did : goal.returns-in-Release-clause-did
returns-in-Release-clause-did c = c.release.ensures.did c.args.place c.args.rows.now (sym c.in_ok-kind.ensures ∙ ap code_of c.in-Release.is)
