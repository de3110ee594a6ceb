use Rattle.broadcast_core.proofs.CodecLemmas.{whole_reads_back}
use Rattle.broadcast_core.proofs.laws.codec_law.Goals as goal

pub returns : goal.returns
returns g c cfg message decoded bytes = whole_reads_back g.M.Write.encoding (g.M.Read.reading cfg) (g.met.M.Codec.reads_back cfg) message decoded bytes
