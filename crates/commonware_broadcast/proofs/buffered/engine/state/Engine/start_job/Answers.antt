use Rattle.std.proofs.Common.{◌≡◌, true, false, refl, ap, ◌∙◌, subst}
use Rattle.std.specs.Prelude.{IfOk}
use Rattle.engine_io.specs.Counters.{Counters}
use Rattle.commonware_broadcast.proofs.Applying.{AppliesInput-refused}
use Rattle.commonware_broadcast.proofs.Arriving.{decoding, Arrives-uncounted, Arrives-decoded, Arrives-handled}
use Rattle.commonware_broadcast.proofs.buffered.engine.state.Engine.start_job.Goals as goal

pub returns-in_default-clause-arrives : goal.returns-in_default-clause-arrives
returns-in_default-clause-arrives g c = rw (← c.self.view_is) (λ s is past has.
    Arrives-uncounted has (ap (λ (k : Counters g.row.P.Denot). record c.self.inside.node { metrics = k }) c.in_default.ensures.unchanged_on_error) (ap (λ e. e.job) c.self.view_is ∙ c.requires.idle))

pub returns-in-Ok-started-clause-arrives : goal.returns-in-Ok-started-clause-arrives
returns-in-Ok-started-clause-arrives g c = rw (← c.self.view_is) (λ s is past has.
    Arrives-decoded (decoding is.same has (record { one = c.in-Ok.ensures.counts_one; stays = c.count_and_start.ensures.totals_stay }))
    (c.poll_job.ensures.arrives c.args.message (subst (λ r. IfOk r (λ job. g.T.Job.Job.is_of job c.args.message)) c.in-Ok-started.is c.in-Ok.ensures.of_message) s is past has))

pub returns-in-Err-clause-arrives : goal.returns-in-Err-clause-arrives
returns-in-Err-clause-arrives g c = rw (← c.self.view_is) (λ s is past has.
    Arrives-decoded (decoding is.same has (record { one = c.in-Ok.ensures.counts_one; stays = c.count_and_start.ensures.totals_stay }))
    (Arrives-handled refl (AppliesInput-refused has refl tt) (ap (λ e. e.job) c.self.view_is ∙ c.requires.idle)))

pub returns-in_default-clause-counted_before_its_job : goal.returns-in_default-clause-counted_before_its_job
returns-in_default-clause-counted_before_its_job g c = rw (← c.self.view_is) (λ has. absurd (let no : false ≡ true = c.in_default.ensures.succeeds_if_counted_before has in cc))

pub returns-in-Ok-started-clause-counted_before_its_job : goal.returns-in-Ok-started-clause-counted_before_its_job
returns-in-Ok-started-clause-counted_before_its_job g c = rw (← c.self.view_is) (λ has. rw c.poll_job.ensures.counts_no_payload c.in-Ok.ensures.counts_one)

pub returns-in-Err-clause-counted_before_its_job : goal.returns-in-Err-clause-counted_before_its_job
returns-in-Err-clause-counted_before_its_job g c = rw (← c.self.view_is) (λ has. c.in-Ok.ensures.counts_one)
