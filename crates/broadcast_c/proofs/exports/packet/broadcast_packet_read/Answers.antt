use Rattle.std.proofs.Common.{◌≡◌, ℕ, ◌+◌, ◌<◌, ◌≤◌, List, length, Result, Ok, refl, sym, subst, arith}
use Rattle.broadcast_core.specs.declared.codec.CodecError.{CodecError}
use Rattle.broadcast_core.specs.declared.codec.RangeCfg.{RangeCfg}
use Rattle.broadcast_core.specs.ByteList.{read_list}
use Rattle.broadcast_c.specs.Packets.{ReportsReading}
use Rattle.broadcast_c.proofs.Reading.{front, is_whole, is_followed}
use Rattle.broadcast_c.proofs.exports.packet.broadcast_packet_read.Goals as goal

pub returns-else-rest-gt0 : goal.returns-else-rest-gt0
returns-else-rest-gt0 c =
    let range : RangeCfg = record { min = 0; max = c.args.max_len } in
    let bytes = c.args.bytes.now in
    let message = c.in-Ok.message.now in
    let rest = c.in-Ok.rest.now in
    let read : read_list range bytes ≡ Ok (message, rest) = rw c.new.ensures at c.in-Ok.ensures.exact in
    let none : length rest ≡ 0 = omega (arith, c.if-rest-gt0.false) in
    let front = front range bytes message rest read in
    let fits : 4 + length message ≤ length bytes = omega (arith, front.lengths) in
    subst (λ (r : Result (List ℕ) CodecError). ReportsReading r bytes c.args.out.now (record { offset = 4; length = length message }) 0)
    (sym (is_whole range bytes message rest read none)) (refl, fits, front.message)

pub returns-then-rest-gt0 : goal.returns-then-rest-gt0
returns-then-rest-gt0 c =
    let range : RangeCfg = record { min = 0; max = c.args.max_len } in
    let bytes = c.args.bytes.now in
    let message = c.in-Ok.message.now in
    let rest = c.in-Ok.rest.now in
    let read : read_list range bytes ≡ Ok (message, rest) = rw c.new.ensures at c.in-Ok.ensures.exact in
    let some : 0 < length rest = omega (arith, c.if-rest-gt0.true) in
    subst (λ (r : Result (List ℕ) CodecError). ReportsReading r bytes c.args.out.now c.refuse.new.out c.refuse.result)
    (sym (is_followed range bytes message rest read some)) (c.refuse.ensures bytes)
