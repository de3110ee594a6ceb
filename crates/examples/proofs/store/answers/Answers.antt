use Rattle.std.proofs.Common.{false}
use Rattle.broadcast_core.specs.Setting.{whole, setting}
use Rattle.broadcast_core.specs.Content.{same_by}
use Rattle.examples.proofs.Finding.{answers_were_taken}
use Rattle.examples.proofs.store.answers.Goals as goal

pub returns : goal.returns
returns g c =
    let s = setting c.args.own 10 1000 false (same_by g.P.Ord.cmp g.M.Digest.Ord.cmp) g.M.Digestible.digest_of g.M.Write.encoding (whole (g.M.Read.reading c.args.cfg.now)) in
    answers_were_taken s c.args.events.items c.run.result (c.answer_law.ensures.found s c.same_law.ensures.key c.same_law.ensures.digest) c.run.ensures
