use Rattle.std.proofs.Common.{rules, ap, ◌∙◌}
use Rattle.std.specs.Prelude.{not}
use Rattle.std.specs.List.{filter}
use Rattle.std.specs.Ordering.{eq_by_cmp}
use Rattle.std.proofs.lemmas.Fn.{filter_same}
use Rattle.entries.proofs.bucket.Bucket.remove.Goals as goal

pub returns-clause-removed : goal.returns-clause-removed
returns-clause-removed g c = λ _. filter_same _ _ _ (λ x b f' k. search rules) _ _ c.retain.ensures.filtered
    ∙ ap (filter (λ e. not (eq_by_cmp g.K.Ord.cmp c.args.key.now e.0))) c.self.view_is
