use Rattle.examples.proofs.Reading.{decodes_again}
use Rattle.examples.proofs.block.write_and_read.Goals as goal

pub returns : goal.returns
returns g c =
    let written = rw c.new-bytes.ensures.items at c.in_ok-write.ensures.written in
    let read = rw (c.deref.ensures.value, written.2) at c.decode_cfg.ensures in
    decodes_again c.decode_cfg.result c.args.message.now _ (λ decoded. c.codec_law.ensures c.args.limits.now c.args.message.now decoded written.0 written.1) read
