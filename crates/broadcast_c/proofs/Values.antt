-- The machine value of a handle: what its fields own tells it, and is made of nothing.
use Rattle.std.proofs.Common.{◌≡◌, Bool, true, List, [], ◌∷◌, ◌++◌, Option, Some, None, is_some, refl, ◌∙◌, lit<}
use seplogic.Ra.Ura.{Ura}
use mir.Syntax.{ty_ptr, ty_bool, ty_struct, tcons, tnil}
use mir.Val.{Val, vbool, vstruct, vcons, vnil, of_list}
use base.Logic.{ent, emp}
use base.Fml.{Fml}
use types.Logic.{Logic, sem}
use denote.Builtin.{bool}
use denote.RawPtr.{Ptr, RawPtr, block_ptr, null_ptr, ptr_val}
use denote.Shadow.{shadow, makes_shadow}
use denote.Struct.Struct.{Struct}
use Rattle.core.proofs.cell.Inside.{Good}

abbrev pub handle_val : Ptr → Bool → Val
handle_val p t = vstruct (vcons (ptr_val p) (vcons (vbool t) vnil))

abbrev pub handle_own : Ptr → Bool → List Val → Fml
handle_own p t = (Struct (record { name = []; args = []; types = []; fields = RawPtr ∷ bool ∷ [] })).own_val (p, (t, tt))

pub handle_told : (p : Ptr) (t : Bool) (vs : List Val) → shadow (handle_own p t vs) → vs ≡ handle_val p t ∷ []
handle_told p t vs s = s.1.0 ∙ (λ i. vstruct (of_list (s.1.1.0 i ++ (s.1.1.1.0 i ++ []))) ∷ [])

pub handle_made : {M : Type 1} {𝓤 : Ura M} (𝓛 : Logic 𝓤) (p : Ptr) (t : Bool) → ent 𝓤 (emp 𝓤) (sem 𝓛 (handle_own p t (handle_val p t ∷ [])))
handle_made 𝓛 p t = makes_shadow 𝓛 (handle_own p t (handle_val p t ∷ [])) (λ _. (tt, (tt, (tt, tt)))) ((ptr_val p ∷ [], (vbool t ∷ [], tt)), (refl, (refl, (refl, tt))))

pub handle_typed : (p : Ptr) (t : Bool) → Good (ty_struct [] (tcons ty_ptr (tcons ty_bool tnil))) (handle_val p t)
handle_typed (block_ptr b o) t = (tt, (tt, (tt, tt)))
handle_typed null_ptr t = (tt, (record { fits = lit< tt }, (tt, tt)))

pub is_there : {X : Type 0} (o : Option X) → is_some o ≡ true → (x : X) × (o ≡ Some x)
is_there (Some x) e = (x, refl)
is_there None e = absurd cc

pub ptr_good : (p : Ptr) → Good ty_ptr (ptr_val p)
ptr_good (block_ptr b o) = (tt, tt)
ptr_good null_ptr = (tt, record { fits = lit< tt })
