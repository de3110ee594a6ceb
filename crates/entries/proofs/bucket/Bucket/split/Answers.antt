use Rattle.std.proofs.Common.{ap, ◌∙◌, ◌-◌}
use Rattle.std.specs.Prelude.{nat_eq}
use Rattle.std.specs.List.{filter}
use Rattle.entries.specs.Parts.{number, spread}
use Rattle.entries.proofs.bucket.Bucket.split.Goals as goal

pub returns-clause-moved : goal.returns-clause-moved
returns-clause-moved g c = c.shrink_to_fit-2.ensures.items ∙ c.divide.ensures.moved
    ∙ ap (λ v. filter (λ e. nat_eq (number c.args.bits c.args.buckets (spread (g.K.Leading.leading_of e.0))) (c.args.buckets - 1)) v.items) c.replace-entries.ensures.value
    ∙ ap (filter (λ e. nat_eq (number c.args.bits c.args.buckets (spread (g.K.Leading.leading_of e.0))) (c.args.buckets - 1))) c.self.view_is
