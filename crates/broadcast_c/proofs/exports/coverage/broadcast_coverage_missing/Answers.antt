use Rattle.broadcast_c.proofs.exports.coverage.broadcast_coverage_missing.Goals as goal

pub returns-in-None-clause-none : goal.returns-in-None-clause-none
returns-in-None-clause-none c = λ h.
    let none = rw c.in-Some.ensures.spans at c.in-None.ensures.none in
    rw c.in-Some-reported.ensures.spans at none
