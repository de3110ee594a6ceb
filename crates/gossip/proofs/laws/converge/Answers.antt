use Rattle.std.proofs.Common.{◌∙◌, sym, ap}
use Rattle.gossip.specs.Held.{Held, in_time, bare_of}
use Rattle.gossip.proofs.Bare.{converge_bare}
use Rattle.gossip.proofs.laws.converge.Goals as goal

pub returns : goal.returns
returns c = record {
  same = λ same one.
      ap (λ (h : Held). bare_of h) c.in_ok-run_log.ensures.after
      ∙ converge_bare c.args.logs.now.0 c.args.logs.now.1 (in_time c.args.first.now) (in_time c.args.second.now) c.requires.new.0 c.requires.empty.0 c.requires.new.1 c.requires.empty.1 c.requires.budgets same one
      ∙ sym (ap (λ (h : Held). bare_of h) c.in_ok-run_log-2.ensures.after);
}
