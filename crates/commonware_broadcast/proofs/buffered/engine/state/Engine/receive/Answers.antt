use Rattle.std.proofs.Common.{◌≡◌, Ok, Err, inl, inr, refl, sym, ap, ◌∙◌}
use Rattle.std.specs.Prelude.{length, is_ok, true}
use Rattle.broadcast_core.specs.Setting.{whole}
use Rattle.broadcast_core.specs.declared.codec.CodecError.TheVariants as CodecError
use Rattle.broadcast_core.proofs.Applying.{not_memory}
use Rattle.commonware_broadcast.proofs.Arriving.{some_ok, Arrives-handled, Arrives-uncounted}
use Rattle.commonware_broadcast.proofs.buffered.engine.state.Engine.receive.Goals as goal

pub returns-in-Ok-clause-arrives : goal.returns-in-Ok-clause-arrives
returns-in-Ok-clause-arrives g c = λ s is past has.
    let read : s.reading c.args.bytes.now ≡ Ok c.in-Ok.message = ap (λ f. f c.args.bytes.now) (is.reading ∙ ap (λ e. whole (g.M.Read.reading e.codec_config)) (sym c.self.view_is))
    ∙ elim c.in-Ok.ensures [ inl at ↦ sym at | inr lacks ↦ absurd (let h = lacks.0 in cc) ] in
    rw read (c.start_job.ensures.arrives s is past has)

pub returns-in-Err-clause-arrives : goal.returns-in-Err-clause-arrives
returns-in-Err-clause-arrives g c = rw (← c.self.view_is) (λ s is past has.
    let idle = ap (λ e. e.job) c.self.view_is ∙ c.requires.idle in
    elim c.in-Err.ensures [
      | inl at ↦
          let read : s.reading c.args.bytes.now ≡ Err c.in-Err.error = ap (λ f. f c.args.bytes.now) is.reading ∙ sym at in
          let other : c.in-Err.error ≡ CodecError.Memory → ⊥ =
          λ h. not_memory (length c.args.bytes.now) (g.M.Read.reading c.self.inside.codec_config c.args.bytes.now) (λ why. g.met.M.Read.refusals c.self.inside.codec_config c.args.bytes.now why) (sym at ∙ ap Err h) in
          rw read (Arrives-handled refl (c.refuse.ensures.invalid other s is.same past has) idle)
      | inr lacks ↦
          let memory : c.in-Err.error ≡ CodecError.Memory = (let h = lacks.0 in cc) in
          let reads : is_ok (s.reading c.args.bytes.now) ≡ true = ap (λ f. is_ok (f c.args.bytes.now)) is.reading ∙ lacks.1 in
          let message = some_ok (s.reading c.args.bytes.now) reads in
          let refused = c.refuse.ensures.memory memory in
          rw message.1 (rw refused.0 (Arrives-uncounted has refused.1 idle))
    ])
