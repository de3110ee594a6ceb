-- A handle tells whether it is full.
use Rattle.std.proofs.Common.{◌≡◌, is_some, List, [], ◌∷◌, ◌++◌, refl}
use mir.Val.{Val, vbool}
use base.Logic.{SProp, emp}
use base.Fml.{ftrue}
use prog.Wp.{WpFn}
use contract.Monad.{fact, fact_i}
use contract.Running.{tables}
use types.Kit.{‵, raw, ◌⊛◌, prop, ◌$◌, ◌∵◌, !, qed, by, move, keep, drop, use0, use2, split, regoal, fsplit, fjoin, feq_i}
use types.Part.{whole, sub, agg}
use types.Run.{stop, fld, of_opd, no_more, and_then, returns, enter}
use types.ByLocal.{alloc_all, pass_all, free_all, look_at, get, get_in, sets}
use denote.RattleType.{owns}
use denote.Builtin.{bool}
use denote.Signature.{types_at}
use denote.Steps.{nothing}
use denote.Struct.Tuple.{Tuple}
use denote.Triple.Entry.{alive}
use denote.Triple.Walked.{Stays, stay_dropped, walk_of, Goes-dropped}
use Rattle.std_alloc.proofs.ResultValues.{and_tt}
use Rattle.std_alloc.proofs.Pairs.{pair_of, pair_val}
use Rattle.std.proofs.raw_atomic.Walks.{proved_at, leaves}
use Rattle.broadcast_c.proofs.LogBox.{FromHandle}
use Rattle.broadcast_c.proofs.Values.{handle_val, handle_own, handle_told, handle_made, handle_typed, ptr_good}
use Rattle.broadcast_c.specs.contracts.log_handle.LogHandle as handle
use Rattle.broadcast_c.specs.contracts.log_handle.LogHandle.with_full.{ended, clauses}
use Rattle.broadcast_c.specs.contracts.log_handle.LogHandle.with_full.Key.{name as #self}
use Rattle.broadcast_c.proofs.log_handle.LogHandle.with_full.Statement.{statement}
use Rattle.broadcast_c.proofs.log_handle.LogHandle.with_full.Code as code

pub with_full_spec : {M : Type 1} → statement M
with_full_spec 𝓤 𝓛 𝓜 𝓡 wired =
    let H = 𝓛.H in let En = ended in let c = clauses 𝓛 𝓜.mem 𝓡.returns in let 𝓣 = tables 𝓤 H 𝓜 𝓡 𝓡.env in
    let hs : Stays En.signature.params En.kept = (stay_dropped FromHandle En.kept.0, tt) in
    proved_at 𝓛 En hs c 𝓜 𝓡 (Goes-dropped 𝓛 0 FromHandle En.kept.0 (λ κs x f. refl), tt) #self code.function (code.unfolded 𝓤 H 𝓜 𝓡 wired) (λ z are.
    let Post : Val → SProp 𝓤 = (walk_of 𝓛 En hs c).post z in
    let h = z.0.3.0 in let vss = z.0.4 in
    let Said : Type 0 = (h.full ≡ is_some h.value) × (h.value ≡ h.value) in
    qed 𝓛 ((raw (alive 𝓛 En.signature z.0.0 z.0.1) ⊛ ‵ (owns (types_at En.signature.params z.0.0) z.0.3 vss)) ∷ ‵ ftrue ∷ []) ∵
    move ! (1 ∷ []) $ drop ! $ split ! $ move ! (1 ∷ []) $ fsplit ! $ fsplit ! $ drop ! $
    -- [what the handle holds; true; alive]
    keep ! (0 ∷ 2 ∷ []) $
    regoal ! (λ (us : List Val). prop (WpFn 𝓤 H 𝓣.C 𝓣.Λ code.function us Post)) (λ i. handle_told h.at h.full vss.0 are.0.0 i ++ []) refl $
    enter ! 𝓣.C 𝓣.Λ code.function (handle_val h.at h.full ∷ []) Post $
    let ok = handle_typed h.at h.full in
    alloc_all ! (λ l. pass_all ! refl (ok, tt) $
    sets ! (of_opd ! (get_in ! (fld ! refl (stop !)) (sub ! 0 refl (whole !)))) refl (ptr_good h.at) $
    sets ! (of_opd ! (get_in ! (fld ! refl (stop !)) (sub ! 1 refl (whole !)))) refl (tt, tt) $
    sets ! (agg ! (and_then ! (get ! refl) (and_then ! (get ! refl) (no_more !)))) refl ok $
    sets ! (agg ! (and_then ! (get ! refl) (and_then ! (get ! refl) (no_more !)))) refl (and_tt _ ok.0, (tt, (ok.1, tt))) $
    returns ! (look_at ! 0 refl) $ free_all ! refl $
    use0 𝓛 (‵ (handle_own h.at h.full (handle_val h.at h.full ∷ []))) (handle_made 𝓛 h.at h.full) $ fjoin ! $
    feq_i ! (List Val) (vbool h.full ∷ []) (vbool h.full ∷ []) refl $
    use2 𝓛 (‵ ((Tuple (bool ∷ handle.the_row ∷ [])).own_val (h.full, h) (pair_val (vbool h.full) (handle_val h.at h.full) ∷ []))) (pair_of 𝓛 bool handle.the_row h.full h (vbool h.full) (handle_val h.at h.full)) $
    use0 𝓛 (raw (fact 𝓤 Said)) (fact_i 𝓤 Said (emp 𝓤) (h.marked, refl)) $ nothing ! $ nothing ! $ fjoin ! $ move ! (3 ∷ 0 ∷ 2 ∷ 1 ∷ []) $
    by ! (leaves 𝓛 En hs c z (pair_val (vbool h.full) (handle_val h.at h.full)) (h.full, h) (tt, tt) (tt, tt))))
