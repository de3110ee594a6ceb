use Rattle.std.proofs.Common.{sym, ap, ◌∙◌}
use Rattle.broadcast_core.specs.Codec.{layout_of}
use Rattle.broadcast_core.specs.TestMessage.{read_message}
use Rattle.broadcast_world.proofs.Decoding.{encoding-reads}
use Rattle.broadcast_world.proofs.encoded.Encoded.decode.Goals as goal

pub returns-clause-exact : goal.returns-clause-exact
returns-clause-exact c =
    let it = c.args.self.now in
    let range = c.args.range.now in
    encoding-reads range it.message.message it.bytes it.encoding (ap (λ b. layout_of (read_message range b)) (sym c.as_slice.ensures) ∙ sym c.in_ok-_length.ensures.exact)
