-- A full handle gives its box back.
use Rattle.std.proofs.Common.{◌≡◌, true, Some, Option, List, [], ◌∷◌, ◌++◌, refl, sym, ◌∙◌}
use mir.Val.{Val}
use base.Logic.{SProp, emp, never, fst∗}
use prog.Wp.{WpFn}
use types.Logic.{sem}
use contract.Monad.{fact, fact_i}
use contract.Running.{tables}
use mir.Raw.{raw as bare}
use types.Kit.{‵, raw, ◌⊛◌, prop, ◌$◌, ◌∵◌, !, qed, by, move, keep, drop, use0, split, regoal, rewrite, fsplit, fjoin}
use types.Part.{whole, sub, agg}
use types.Run.{stop, fld, of_opd, no_more, and_then, returns, enter}
use types.ByLocal.{alloc_all, pass_all, free_all, look_at, get, get_in, sets}
use denote.RattleType.{owns}
use denote.RawPtr.{block_ptr, null_ptr, in_a_block}
use denote.Signature.{types_at}
use denote.Steps.{nothing, heard}
use denote.Triple.Entry.{alive}
use denote.Triple.Walked.{Stays, stay_dropped, walk_of, Goes-dropped}
use Rattle.std.specs.Box.Ownership.{box_owns}
use Rattle.core.proofs.alloc.Calls.{handle_tells, token}
use Rattle.std_alloc.proofs.BoxSteps.Form.{D, R, τ, word, box_typed}
use Rattle.std_alloc.proofs.BoxSteps.Steps.{box_in}
use Rattle.std.proofs.raw_atomic.Walks.{proved_at, leaves}
use Rattle.broadcast_c.specs.Holding.{holds_log}
use Rattle.broadcast_c.specs.declared.log_handle.OwnLog.{OwnLog}
use Rattle.broadcast_c.proofs.LogBox.{E, FromHandle, FromGlobal}
use Rattle.broadcast_c.proofs.Values.{handle_val, handle_told, handle_typed, is_there}
use Rattle.broadcast_c.specs.contracts.log_handle.LogHandle.into_parts.{ended, clauses}
use Rattle.broadcast_c.specs.contracts.log_handle.LogHandle.into_parts.Key.{name as #self}
use Rattle.broadcast_c.proofs.log_handle.LogHandle.into_parts.Statement.{statement}
use Rattle.broadcast_c.proofs.log_handle.LogHandle.into_parts.Code as code

pub into_parts_spec : {M : Type 1} → statement M
into_parts_spec 𝓤 𝓛 𝓜 𝓡 wired =
    let H = 𝓛.H in let En = ended in let c = clauses 𝓛 𝓜.mem 𝓡.returns in let 𝓣 = tables 𝓤 H 𝓜 𝓡 𝓡.env in
    let hs : Stays En.signature.params En.kept = (stay_dropped FromHandle En.kept.0, (stay_dropped FromGlobal En.kept.1.0, tt)) in
    proved_at 𝓛 En hs c 𝓜 𝓡 (Goes-dropped 𝓛 0 FromHandle En.kept.0 (λ κs x f. refl), (Goes-dropped 𝓛 0 FromGlobal En.kept.1.0 (λ κs x f. refl), tt)) #self code.function (code.unfolded 𝓤 H 𝓜 𝓡 wired) (λ z are.
    let Post : Val → SProp 𝓤 = (walk_of 𝓛 En hs c).post z in
    let h = z.0.3.0 in let alloc = z.0.3.1.0 in let vss = z.0.4 in
    qed 𝓛 ((raw (alive 𝓛 En.signature z.0.0 z.0.1) ⊛ ‵ (owns (types_at En.signature.params z.0.0) z.0.3 vss)) ∷ raw (fact 𝓤 (h.full ≡ true)) ∷ []) ∵
    move ! (1 ∷ []) $ heard ! (h.full ≡ true) (λ is_full.
    let found = is_there h.value (sym h.marked ∙ is_full) in let x : OwnLog = found.0 in
    split ! $ move ! (1 ∷ []) $ fsplit ! $ fsplit ! $ drop ! $
    rewrite ! 0 (λ (v : Option OwnLog). ‵ (holds_log h.at v)) found.1 refl $
    in_a_block ! h.at (λ p. box_owns (token E.al alloc) (R E) p x) (fst∗ 𝓤 (never 𝓤) (sem 𝓛 (token E.al alloc (bare (τ E)) null_ptr))) (λ b o e.
    move ! (1 ∷ []) $ fsplit ! $ handle_tells E.al ! alloc vss.1.0 (λ hv ea fa. move ! (2 ∷ []) $ fsplit ! $
    -- [the log; its token; the allocator; true; alive]
    let d : D E = record { ptr = block_ptr b o; alloc = alloc; value = x } in
    let Said : Type 0 = h.value ≡ Some x in
    move ! (0 ∷ 1 ∷ 2 ∷ []) $ box_in E ! d b o x refl refl $ keep ! (0 ∷ 2 ∷ []) $
    regoal ! (λ (us : List Val). prop (WpFn 𝓤 H 𝓣.C 𝓣.Λ code.function us Post)) (λ i. (handle_told h.at h.full vss.0 are.0.0 ∙ (λ j. handle_val (e j) h.full ∷ [])) i ++ (ea i ++ [])) refl $
    enter ! 𝓣.C 𝓣.Λ code.function (handle_val (block_ptr b o) h.full ∷ hv ∷ []) Post $
    alloc_all ! (λ l. pass_all ! refl (handle_typed (block_ptr b o) h.full, (fa, tt)) $
    sets ! (of_opd ! (get_in ! (fld ! refl (stop !)) (sub ! 0 refl (whole !)))) refl (tt, tt) $
    sets ! (of_opd ! (get ! refl)) refl (tt, tt) $
    sets ! (agg ! (and_then ! (get ! refl) (and_then ! (get ! refl) (no_more !)))) refl (box_typed E hv b o fa) $
    returns ! (look_at ! 0 refl) $ free_all ! refl $
    use0 𝓛 (raw (fact 𝓤 Said)) (fact_i 𝓤 Said (emp 𝓤) found.1) $ nothing ! $ nothing ! $ fjoin ! $ nothing ! $ fjoin ! $ move ! (3 ∷ 0 ∷ 2 ∷ 1 ∷ []) $
    by ! (leaves 𝓛 En hs c z (word E hv b o) (record { ptr = block_ptr b o; alloc = alloc; value = x }) (tt, (tt, tt)) (tt, (tt, tt))))))))
