use Rattle.std.proofs.Common.{ap, ◌∙◌}
use Rattle.std.specs.Cmp.{eq_by_cmp_equiv}
use Rattle.std.specs.Option.{unwrap_or}
use Rattle.std.specs.Ordering.{eq_by_cmp}
use Rattle.engine_io.specs.Counters.{count_of}
use Rattle.engine_io.proofs.PeerCounts.{found-copied}
use Rattle.engine_io.proofs.metrics.MetricsClone.clone.Goals as goal

pub returns : goal.returns
returns g c = record {
  cases = record {
    totals = ap (λ v. v.totals) c.self.view_is;
    peers = λ p. ap (λ r. unwrap_or r 0) (found-copied (eq_by_cmp_equiv g.met.P.Ord.total) g.P.Clone.is_clone g.met.P.PublicKey.copies c.self.inside.peer.entries c.in_ok-clone.field-0.entries c.in_ok-clone.ensures.cases p)
        ∙ ap (λ v. count_of (eq_by_cmp g.P.Ord.cmp) p v.peer) c.self.view_is;
  };
}
