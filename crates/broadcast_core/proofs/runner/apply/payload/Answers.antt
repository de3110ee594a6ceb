use Rattle.std.proofs.Common.{◌≡◌, inl, inr, Ok, Err, refl, sym, ap, ◌∙◌}
use Rattle.std.specs.Prelude.{length, is_ok, true}
use Rattle.broadcast_core.specs.Setting.{own_digested}
use Rattle.broadcast_core.specs.Happening.{arrival}
use Rattle.broadcast_core.specs.declared.codec.CodecError.TheVariants as CodecError
use Rattle.broadcast_core.specs.declared.event.Event.TheVariants.{Payload}
use Rattle.broadcast_core.proofs.Lawful.{same_by-lawful}
use Rattle.broadcast_core.proofs.Applying.{Applies-taken, Applies-refused, Applies-invalid, not_memory}
use Rattle.broadcast_core.proofs.runner.apply.payload.Goals as goal

pub returns-in-Err-clause-follows : goal.returns-in-Err-clause-follows
returns-in-Err-clause-follows g c = λ s is enc dg rd past has.
    let lawful = same_by-lawful g.met.P.Ord.total (g.met.M.Digest.Ord g.world.𝓛 g.world.𝓜 g.world.𝓡 (λ s x. x, λ x. x, λ x. x, λ x. x)).total in
    elim c.in-Err.ensures [
      | inl h ↦
          let read : s.reading c.args.bytes.now ≡ Err c.in-Err.refusal = ap (λ f. f c.args.bytes.now) rd ∙ sym h in
          let other : c.in-Err.refusal ≡ CodecError.Memory → ⊥ =
          λ m. not_memory (length c.args.bytes.now) (g.M.Read.reading c.args.cfg.now c.args.bytes.now) (λ why. g.met.M.Read.refusals c.args.cfg.now c.args.bytes.now why) (sym h ∙ ap Err m) in
          rw (c.refused.ensures.invalid other) (Applies-invalid is lawful has c.args.peer.now c.args.bytes.now c.in-Err.refusal refl read)
      | inr lacks ↦
          let memory : c.in-Err.refusal ≡ CodecError.Memory = (let h = lacks.0 in cc) in
          let reads : is_ok (s.reading c.args.bytes.now) ≡ true = ap (λ f. is_ok (f c.args.bytes.now)) rd ∙ lacks.1 in
          rw (c.refused.ensures.memory memory) (Applies-refused is lawful has (Payload c.args.peer.now c.args.bytes.now) refl reads)
    ]

pub returns-in-Ok-take-clause-follows : goal.returns-in-Ok-take-clause-follows
returns-in-Ok-take-clause-follows g c = λ s is enc dg rd past has.
    let lawful = same_by-lawful g.met.P.Ord.total (g.met.M.Digest.Ord g.world.𝓛 g.world.𝓜 g.world.𝓡 (λ s x. x, λ x. x, λ x. x, λ x. x)).total in
    let r = c.in-Ok-take.ensures in
    let carried : c.in-Ok-compute.message ≡ own_digested s c.in-Ok.message = c.in-Ok-compute.ensures ∙ ap (λ f. record { message = c.in-Ok.message; digest = f c.in-Ok.message }) (sym dg) in
    let read : s.reading c.args.bytes.now ≡ Ok c.in-Ok.message = ap (λ f. f c.args.bytes.now) rd ∙ elim c.in-Ok.ensures [ inl h ↦ sym h | inr lacks ↦ absurd (let h = lacks.0 in cc) ] in
    Applies-taken is lawful has enc (arrival c.args.peer.now c.in-Ok-compute.message) (record { key = c.args.peer.now; carried = c.in-Ok-compute.message })
    (rw (read, carried) refl) refl (rw (read, carried) refl) r.ok r.outcome r.served
