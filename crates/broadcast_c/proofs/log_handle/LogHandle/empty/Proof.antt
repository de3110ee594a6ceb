-- An empty handle owns nothing.
use Rattle.std.proofs.Common.{◌≡◌, false, None, Option, [], ◌∷◌, refl}
use mir.Val.{Val}
use base.Logic.{SProp, emp}
use contract.Monad.{fact, fact_i}
use contract.Running.{tables}
use types.Kit.{‵, raw, ◌⊛◌, ◌$◌, ◌∵◌, !, qed, by, move, keep, use0, split, fjoin}
use types.Part.{agg}
use types.Run.{no_more, and_then, returns, enter, lit, false_lit}
use types.ByLocal.{alloc_all, pass_all, free_all, look_at, sets}
use denote.RattleType.{owns}
use denote.RawPtr.{null_ptr}
use denote.Signature.{types_at}
use denote.Steps.{nothing}
use denote.Triple.Entry.{alive}
use denote.Triple.Walked.{Stays, walk_of}
use Rattle.std.proofs.raw_atomic.Walks.{proved_at, leaves}
use Rattle.broadcast_c.proofs.Values.{handle_val, handle_own, handle_made, handle_typed}
use Rattle.broadcast_c.specs.declared.log_handle.OwnLog.{OwnLog}
use Rattle.broadcast_c.specs.contracts.log_handle.LogHandle as handle
use Rattle.broadcast_c.specs.contracts.log_handle.LogHandle.empty.{ended, clauses}
use Rattle.broadcast_c.specs.contracts.log_handle.LogHandle.empty.Key.{name as #self}
use Rattle.broadcast_c.proofs.log_handle.LogHandle.empty.Statement.{statement}
use Rattle.broadcast_c.proofs.log_handle.LogHandle.empty.Code as code

pub empty_spec : {M : Type 1} → statement M
empty_spec 𝓤 𝓛 𝓜 𝓡 wired =
    let H = 𝓛.H in let En = ended in let c = clauses 𝓛 𝓜.mem 𝓡.returns in let 𝓣 = tables 𝓤 H 𝓜 𝓡 𝓡.env in
    let hs : Stays En.signature.params En.kept = tt in
    proved_at 𝓛 En hs c 𝓜 𝓡 tt #self code.function (code.unfolded 𝓤 H 𝓜 𝓡 wired) (λ z are.
    let Post : Val → SProp 𝓤 = (walk_of 𝓛 En hs c).post z in
    let x : (handle.the_row).Denot = record { at = null_ptr; full = false; value = None; marked = refl } in
    let none : Option OwnLog = None in let Said : Type 0 = none ≡ none in
    qed 𝓛 ((raw (alive 𝓛 En.signature z.0.0 z.0.1) ⊛ ‵ (owns (types_at En.signature.params z.0.0) z.0.3 z.0.4)) ∷ raw ((c z.0.0 z.0.3).requires z.1) ∷ []) ∵
    split ! $ keep ! (0 ∷ []) $
    enter ! 𝓣.C 𝓣.Λ code.function [] Post $ alloc_all ! (λ l. pass_all ! refl tt $
    sets ! (agg ! (and_then ! (lit ! tt) (and_then ! (false_lit !) (no_more !)))) refl (handle_typed null_ptr false) $
    returns ! (look_at ! 0 refl) $ free_all ! refl $
    nothing ! $ use0 𝓛 (‵ (handle_own null_ptr false (handle_val null_ptr false ∷ []))) (handle_made 𝓛 null_ptr false) $ fjoin ! $
    use0 𝓛 (raw (fact 𝓤 Said)) (fact_i 𝓤 Said (emp 𝓤) refl) $ nothing ! $ move ! (3 ∷ 0 ∷ 2 ∷ 1 ∷ []) $
    by ! (leaves 𝓛 En hs c z (handle_val null_ptr false) x tt tt)))
