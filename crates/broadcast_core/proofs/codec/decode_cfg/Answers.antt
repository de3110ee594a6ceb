use Rattle.std.proofs.Common.{◌≡◌, length, Ok, ◌≤◌, arith}
use Rattle.std.proofs.lemmas.Result.{err_from_is_err_and}
use Rattle.broadcast_core.specs.Codec.{layout_of}
use Rattle.broadcast_core.proofs.CodecLemmas.{whole_lacks}
use Rattle.broadcast_core.proofs.codec.decode_cfg.Goals as goal

pub returns-in_err-value : goal.returns-in_err-value
returns-in_err-value g c =
    let bytes = c.args.buf.now in
    let laid : layout_of (g.M.Read.reading c.args.cfg.now bytes) ≡ Ok c.in_ok-used.used = cc c.in_ok-used.ensures in
    let all : length bytes ≤ c.in_ok-used.used = omega arith in
    let left = err_from_is_err_and c.from_residual-in_err-value.result c.from_residual-in_err-value.ensures.1 in
    whole_lacks (g.M.Read.reading c.args.cfg.now bytes) (length bytes) c.in_ok-used.used c.in_err-value.field-0.0 c.from_residual-in_err-value.result laid all (g.met.M.Read.within c.args.cfg.now bytes) c.in_err-value.ensures cc
