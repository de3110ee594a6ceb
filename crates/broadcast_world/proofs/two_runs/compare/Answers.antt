use Rattle.std.proofs.Common.{◌≡◌, [], sym, ap, ◌∙◌, subst}
use Rattle.std.specs.List.{list_any}
use Rattle.std.specs.Ordering.{eq_by_cmp}
use Rattle.broadcast_world.specs.TwoRuns.{without_hostile}
use Rattle.broadcast_world.proofs.Honest.{IsRun-from}
use Rattle.broadcast_world.proofs.Origins.{HasOrigins-from}
use Rattle.broadcast_world.specs.World.{log_of, AreAnswered}
use Rattle.broadcast_world.proofs.Requests.{Laws, Laws-from}
use Rattle.broadcast_world.proofs.two_runs.compare.Given as given
use Rattle.broadcast_world.proofs.two_runs.compare.Goals as goal

-- the keys, the size of lists and the range are those that were given
with_scene : (g : given.Over) (c : goal.In_ok-both g) → c.in_ok-both.both.with_world.scene ≡ c.in_ok-with_world.with_world.scene
with_scene g c = (c.in_ok-both.ensures.with_run [] c.in_ok-with_world.ensures.empty).scene

pub returns-clause-nodes : goal.returns-clause-nodes
returns-clause-nodes g c = λ q. ap (λ w. list_any (eq_by_cmp g.P.Ord.cmp q) w.nodes) (with_scene g c) ∙ c.in_ok-with_world.ensures.nodes q

pub returns-clause-hostile : goal.returns-clause-hostile
returns-clause-hostile g c = λ q. ap (λ w. list_any (eq_by_cmp g.P.Ord.cmp q) w.hostile) (with_scene g c) ∙ c.in_ok-with_world.ensures.hostile q

pub returns-clause-apart : goal.returns-clause-apart
returns-clause-apart g c = λ q here. ap (λ w. list_any (eq_by_cmp g.P.Ord.cmp q) w.hostile) (with_scene g c)
    ∙ c.in_ok-with_world.ensures.apart q (sym (ap (λ w. list_any (eq_by_cmp g.P.Ord.cmp q) w.nodes) (with_scene g c)) ∙ here)

pub returns-clause-deque_size : goal.returns-clause-deque_size
returns-clause-deque_size g c = ap (λ w. w.deque_size) (with_scene g c) ∙ c.in_ok-with_world.ensures.deque_size

pub returns-clause-range : goal.returns-clause-range
returns-clause-range g c = ap (λ w. w.range) (with_scene g c) ∙ c.in_ok-with_world.ensures.range

pub returns-clause-same_scene : goal.returns-clause-same_scene
returns-clause-same_scene g c =
    (c.in_ok-both.ensures.without_run [] c.in_ok-without_world.ensures.empty).scene ∙ c.in_ok-without_world.ensures.scene ∙ sym (with_scene g c)

pub returns-clause-with_run : goal.returns-clause-with_run
returns-clause-with_run g c =
    IsRun-from g.P.Ord.cmp c.args.steps.now c.in_ok-both.both.with_log.answers _ _ (c.in_ok-both.ensures.with_run [] c.in_ok-with_world.ensures.empty)

pub returns-clause-without_run : goal.returns-clause-without_run
returns-clause-without_run g c =
    IsRun-from g.P.Ord.cmp (without_hostile c.args.steps.now) c.in_ok-both.both.without_log.answers _ _ (c.in_ok-both.ensures.without_run [] c.in_ok-without_world.ensures.empty)

pub returns-clause-origins : goal.returns-clause-origins
returns-clause-origins g c =
    HasOrigins-from g.P.Ord.cmp g.met.P.Ord.total c.in_ok-both.both.with_world.scene
    (log_of c.args.steps.now c.in_ok-both.both.with_log.answers) c.in_ok-both.both.with_world.cores (returns-clause-with_run g c).world.cores

pub returns-clause-clean_origins : goal.returns-clause-clean_origins
returns-clause-clean_origins g c =
    HasOrigins-from g.P.Ord.cmp g.met.P.Ord.total c.in_ok-both.both.without_world.scene
    (log_of (without_hostile c.args.steps.now) c.in_ok-both.both.without_log.answers) c.in_ok-both.both.without_world.cores (returns-clause-without_run g c).world.cores

-- both runs compared
laws : (g : given.Over) (c : goal.In_ok-both g)
    → Laws g.P.Ord.cmp c.in_ok-both.both.with_world.scene (log_of c.args.steps.now c.in_ok-both.both.with_log.answers) (log_of (without_hostile c.args.steps.now) c.in_ok-both.both.without_log.answers)
laws g c =
    Laws-from g.P.Ord.cmp g.met.P.Ord.total c.in_ok-both.both.with_world.scene (returns-clause-apart g c) _ _ (returns-clause-with_run g c).answered
    (subst (λ w. AreAnswered g.P.Ord.cmp w (log_of (without_hostile c.args.steps.now) c.in_ok-both.both.without_log.answers) []) (returns-clause-same_scene g c) (returns-clause-without_run g c).answered)

pub returns-clause-honest_lists : goal.returns-clause-honest_lists
returns-clause-honest_lists g c = (laws g c).honest_lists

pub returns-clause-clean_digests : goal.returns-clause-clean_digests
returns-clause-clean_digests g c = (laws g c).clean_digests

pub returns-clause-few_more_digests : goal.returns-clause-few_more_digests
returns-clause-few_more_digests g c = (laws g c).few_more_digests

pub returns-clause-clean_caches : goal.returns-clause-clean_caches
returns-clause-clean_caches g c = (laws g c).clean_caches

pub returns-clause-clean_gets : goal.returns-clause-clean_gets
returns-clause-clean_gets g c = (laws g c).clean_gets

pub returns-clause-answers_kept : goal.returns-clause-answers_kept
returns-clause-answers_kept g c = (laws g c).answers_kept

pub returns-clause-waits_in_both : goal.returns-clause-waits_in_both
returns-clause-waits_in_both g c = (laws g c).waits_in_both

pub returns-clause-added_answers : goal.returns-clause-added_answers
returns-clause-added_answers g c = (laws g c).added_answers

pub returns-clause-byte_budget : goal.returns-clause-byte_budget
returns-clause-byte_budget g c = ap (λ w. w.byte_budget) (with_scene g c) ∙ c.in_ok-with_world.ensures.byte_budget
