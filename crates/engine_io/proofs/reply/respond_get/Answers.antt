use Rattle.std.proofs.Common.{rules}
use Rattle.engine_io.proofs.reply.respond_get.Goals as goal

pub returns : goal.returns
returns g c = search rules
