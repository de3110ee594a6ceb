-- What is cached, and what is replied, was taken.
use Rattle.std.proofs.Common.{◌≡◌, ℕ, ◌+◌, Bool, true, false, cond, ◌&&◌, ◌||◌, List, [], ◌∷◌, ◌++◌, length, Option, None, Some, is_some, refl, sym, ap, ◌∙◌, subst, arith, add-one, ◌↔◌, ⊎_elim}
use Rattle.std.specs.Option.{option_map}
use Rattle.std.specs.List.{list_any}
use Rattle.std.specs.Cmp.{IsEquivalence}
use Rattle.broadcast_core.specs.Carried.{Carried}
use Rattle.broadcast_core.specs.Content.{among, digests_of}
use Rattle.broadcast_core.specs.Fronted.{with_taken}
use Rattle.broadcast_core.specs.Setting.{Setting}
use Rattle.broadcast_core.specs.Happening.{Taking, Happening, History, subscribe, get, carried_by, of_digest, taken, takes}
use Rattle.broadcast_core.specs.Peers.{primary, is_primary}
use Rattle.broadcast_core.specs.Lists.{charged, charged_list, list}
use Rattle.broadcast_core.specs.Cache.{is_listed, message}
use Rattle.broadcast_core.specs.Waiting.{Awaiting, Reply, cleans, reply_from, reply}
use Rattle.broadcast_core.specs.Log.{Log, history}
use Rattle.broadcast_core.specs.Answers.{answer_to, answer_to_subscribe, IsAllocFailure}
use Rattle.broadcast_core.specs.HasRun.{IsAnswered}
use Rattle.broadcast_core.specs.TakenLaw.{IsFrom, IsFirst, FoundWasTaken, asked, found}
use Rattle.broadcast_core.specs.declared.event.Event.{Event}
use Rattle.broadcast_core.specs.declared.event.Event.TheVariants.{Peers, Broadcast, Payload, Subscribe, Get, Cleanup}
use Rattle.broadcast_core.proofs.Distinct.{by_test, or_false}
use Rattle.broadcast_core.proofs.Listing.{from-any, charged-taken}
use Rattle.broadcast_core.proofs.Listed.{listed-before}
use Rattle.broadcast_core.proofs.Following.{listed, message-none, message-some}

-- what a mapped option has
mapped-some : {X Y : Type 0} (f : X → Y) (o : Option X) (y : Y) → option_map f o ≡ Some y → (x : X) × (o ≡ Some x) × (f x ≡ y)
mapped-some f (Some x) y h = (x, refl, cc)
mapped-some f None y h = absurd cc

module _ {P M D : Type 0} (s : Setting P M D) where
  later-named : (d : D) (c : Carried M D) (o : Option (Taking P M D)) → of_digest s d o ≡ true → carried_by s o ≡ Some c → s.same.digest d c.digest ≡ true
  later-named d c None it_takes h = absurd cc
  later-named d c (Some t) it_takes h = let same : t.carried ≡ c = cc in subst (λ (x : Carried M D). s.same.digest d x.digest ≡ true) same it_takes

  taken-named : (d : D) (c : Carried M D) (o : Option (Taking P M D)) → carried_by s o ≡ Some c → s.same.digest d c.digest ≡ true → of_digest s d o ≡ true
  taken-named d c None h named = absurd cc
  taken-named d c (Some t) h named = let same : c ≡ t.carried = cc in subst (λ (x : Carried M D). s.same.digest d x.digest ≡ true) same named

module _ {P M D W V : Type 0} (s : Setting P M D) where
  -- what a happening takes is from all that it is the first of
  from-first : (d : D) (c : Carried M D) (e : Happening P M D W V) (es : List (Happening P M D W V)) → carried_by s (taken s e) ≡ Some c → s.same.digest d c.digest ≡ true → IsFrom s d (e ∷ es) c
  from-first d c e es takes named = record { before = []; happening = e; after = es; place = refl; takes = takes; named = named }

  from-more : (d : D) (c : Carried M D) (e : Happening P M D W V) (es : List (Happening P M D W V)) → IsFrom s d es c → IsFrom s d (e ∷ es) c
  from-more d c e es h = record { before = e ∷ h.before; happening = h.happening; after = h.after; place = ap (λ (x : List (Happening P M D W V)). e ∷ x) h.place; takes = h.takes; named = h.named }

  -- one that takes nothing adds nothing
  from-fewer : (d : D) (c : Carried M D) (e : Happening P M D W V) (es : List (Happening P M D W V)) → taken s e ≡ None → IsFrom s d (e ∷ es) c → IsFrom s d es c
  from-fewer d c e es none h = fewer h.before h.place
    where
      fewer : (before : List (Happening P M D W V)) → e ∷ es ≡ before ++ h.happening ∷ h.after → IsFrom s d es c
      fewer [] place = absurd (let here : e ≡ h.happening = cc in let nothing : carried_by s (taken s e) ≡ None = ap (carried_by s) none in let some = h.takes in cc)
      fewer (x ∷ xs) place = record { before = xs; happening = h.happening; after = h.after; place = cc; takes = h.takes; named = h.named }

  module _ (key_laws : IsEquivalence s.same.key) where
    -- a digest has a message exactly if it is listed
    pub message-if_listed : (d : D) (past : List (Happening P M D W V)) → is_some (message s d past) ≡ is_listed s d past
    message-if_listed d past = by_test (is_listed s d past)
        (λ now. message-some s key_laws d past now ∙ sym now)
        (λ gone. ap is_some (message-none s d past gone) ∙ sym gone)

  module _ (key_laws : IsEquivalence s.same.key) (laws : IsEquivalence s.same.digest) where
    -- a taking makes no digest listed but its own
    newly-listed : (d : D) (e : Happening P M D W V) (t : Taking P M D) (past : List (Happening P M D W V)) → taken s e ≡ Some t → is_listed s d (e ∷ past) ≡ true → is_listed s d past ≡ false → s.same.digest d t.carried.digest ≡ true
    newly-listed d e t past some now before = by_test (s.same.digest d t.carried.digest) (λ is. is)
        (λ other. absurd (from-any (λ q. among s.same.digest d (list s q (e ∷ past))) (primary s (e ∷ past)) now
        (λ q there.
        let was = old q (s.same.key q t.key && is_primary s q past) other (subst (λ cs. among s.same.digest d (digests_of cs) ≡ true) (charged-taken s laws q e t past some) there) in
        let no = listed s key_laws d q past was in cc)))
      where
        old : (q : P) (b : Bool) → s.same.digest d t.carried.digest ≡ false
            → among s.same.digest d (digests_of (cond b (with_taken s.same.digest s.deque_size s.byte_budget (charged s t.carried) (charged_list s q past)) (charged_list s q past))) ≡ true
            → among s.same.digest d (list s q past) ≡ true
        old q true other h = listed-before s (s.same.digest d) t.carried (charged_list s q past) other h
        old q false other h = h

    first-named : (d : D) (c : Carried M D) (e : Happening P M D W V) (past : List (Happening P M D W V)) (o : Option (Taking P M D)) → taken s e ≡ o
        → carried_by s o ≡ Some c → is_listed s d (e ∷ past) ≡ true → is_listed s d past ≡ false → s.same.digest d c.digest ≡ true
    first-named d c e past None is h now before = absurd cc
    first-named d c e past (Some t) is h now before = let same : t.carried ≡ c = cc in subst (λ (x : Carried M D). s.same.digest d x.digest ≡ true) same (newly-listed d e t past is now before)

    pub message-from : (d : D) (past : List (Happening P M D W V)) (c : Carried M D) → message s d past ≡ Some c → IsFrom s d past c
    message-from d [] c h = absurd cc
    message-from d (e ∷ past) c h = by_test (is_listed s d (e ∷ past))
        (λ now. by_test (is_listed s d past)
        (λ before. from-more d c e past (message-from d past c (rw (now, before) at h)))
        (λ before. let first : carried_by s (taken s e) ≡ Some c = rw (now, before) at h in from-first d c e past first (first-named d c e past (taken s e) refl first now before)))
        (λ gone. absurd (let no = rw gone at h in cc))

    pub get-from : (v : V) (d : D) (past : List (Happening P M D W V)) (c : Carried M D) → message s d (get v d ∷ past) ≡ Some c → IsFrom s d past c
    get-from v d past c h = from-fewer d c (get v d) past refl (message-from d (get v d ∷ past) c h)

    pub subscribe-from : (w : W) (d : D) (past : List (Happening P M D W V)) (c : Carried M D) → message s d (subscribe w d ∷ past) ≡ Some c → IsFrom s d past c
    subscribe-from w d past c h = from-fewer d c (subscribe w d) past refl (message-from d (subscribe w d ∷ past) c h)

    pub reply-listed : (w : Awaiting W D) (past es : List (Happening P M D W V)) (r : Reply M D) → is_listed s w.digest past ≡ true → reply s w past es ≡ Some r → IsFrom s w.digest past r.1
    reply-listed w past es r now h =
        let x = mapped-some (λ (c : Carried M D). (0, c)) (message s w.digest past) r (rw now at h) in
        message-from w.digest past r.1 (x.1 ∙ ap (λ (p : Reply M D). Some p.1) x.2)

module _ {P M D W V : Type 0} (s : Setting P M D) where
  first-here : (w : Awaiting W D) (e : Happening P M D W V) (es : List (Happening P M D W V)) (c : Carried M D) → carried_by s (taken s e) ≡ Some c → s.same.digest w.digest c.digest ≡ true → IsFirst s w (e ∷ es) (1, c)
  unfolding from-first
  first-here w e es c is named = (from-first s w.digest c e es is named, refl, refl)

  first-more : (w : Awaiting W D) (e : Happening P M D W V) (es : List (Happening P M D W V)) (r : Reply M D) → takes s w.digest e ≡ false → cleans s w e ≡ false → IsFirst s w es r → IsFirst s w (e ∷ es) (r.0 + 1, r.1)
  unfolding from-more
  first-more w e es r other stays later = (from-more s w.digest r.1 e es later.0, omega (arith, later.1), rw (other, stays) later.2)

  first-later : (w : Awaiting W D) (es : List (Happening P M D W V)) (r : Reply M D) → reply_from s w es ≡ Some r → IsFirst s w es r
  first-later w [] r h = absurd cc
  first-later w (e ∷ es) r h = by_test (takes s w.digest e)
      (λ yes.
      let x = mapped-some (λ (c : Carried M D). (1, c)) (carried_by s (taken s e)) r (rw yes at h) in
      subst (λ (p : Reply M D). IsFirst s w (e ∷ es) p) x.2 (first-here w e es x.0 x.1 (later-named s w.digest x.0 (taken s e) yes x.1)))
      (λ no. by_test (cleans s w e)
      (λ gone. absurd (let none = rw (no, gone) at h in cc))
      (λ stays.
      let x = mapped-some (λ (p : Reply M D). (p.0 + 1, p.1)) (reply_from s w es) r (rw (no, stays) at h) in
      subst (λ (p : Reply M D). IsFirst s w (e ∷ es) p) x.2 (first-more w e es x.0 no stays (first-later w es x.0 x.1))))

  later-first : (w : Awaiting W D) (before : List (Happening P M D W V)) (e : Happening P M D W V) (after : List (Happening P M D W V)) (c : Carried M D)
      → carried_by s (taken s e) ≡ Some c → s.same.digest w.digest c.digest ≡ true → list_any (λ x. takes s w.digest x || cleans s w x) before ≡ false
      → reply_from s w (before ++ e ∷ after) ≡ Some (length before + 1, c)
  later-first w [] e after c is named none = rw (taken-named s w.digest c (taken s e) is named, is) refl
  later-first w (x ∷ xs) e after c is named none =
      let here = or_false (takes s w.digest x || cleans s w x) (list_any (λ x. takes s w.digest x || cleans s w x) xs) none in
      let each = or_false (takes s w.digest x) (cleans s w x) here.0 in
      rw (each.0, each.1, later-first w xs e after c is named here.1) (ap (λ n. Some (n + 1, c)) (add-one (length xs)))

  pub reply-waits : (w : Awaiting W D) (past es : List (Happening P M D W V)) (r : Reply M D) → is_listed s w.digest past ≡ false → (reply s w past es ≡ Some r) ↔ IsFirst s w es r
  reply-waits w past es r not_yet = (
    λ h. first-later w es r (rw not_yet at h),
    λ f. rw (not_yet, f.0.place, later-first w f.0.before f.0.happening f.0.after r.1 f.0.takes f.0.named f.2, sym f.1) refl,
  )

module _ {P M D : Type 0} (s : Setting P M D) (key_laws : IsEquivalence s.same.key) (laws : IsEquivalence s.same.digest) where
  found-subscribe : (o : Option (Carried M D)) → found (answer_to_subscribe s o) ≡ o
  found-subscribe None = refl
  found-subscribe (Some c) = refl

  found-from : (e : Event P M D) (past : History P M D ℕ ℕ) (d : D) (c : Carried M D) → asked e ≡ Some d → found (answer_to s e past) ≡ Some c → IsFrom s d past c
  found-from (Subscribe k x) past d c which h = let same : x ≡ d = cc in subst (λ (y : D). IsFrom s y past c) same (subscribe-from s key_laws laws k x past c (sym (found-subscribe (message s x (subscribe k x ∷ past))) ∙ h))
  found-from (Get k x) past d c which h = let same : x ≡ d = cc in subst (λ (y : D). IsFrom s y past c) same (get-from s key_laws laws k x past c h)
  found-from (Peers ps) past d c which h = absurd cc
  found-from (Broadcast r x) past d c which h = absurd (let no = which in cc)
  found-from (Payload p b) past d c which h = absurd (let no = which in cc)
  found-from (Cleanup gone) past d c which h = absurd (let no = which in cc)

  pub answers-from : (log : Log P M D) → IsAnswered s log → FoundWasTaken s log
  answers-from [] h = tt
  answers-from (x ∷ log) h = (
    λ d c which is. ⊎_elim
        (λ (given : x.1 ≡ answer_to s x.0 (history s log)). found-from x.0 (history s log) d c which (ap found (sym given) ∙ is))
        (λ (lacks : IsAllocFailure s x.0 (history s log) x.1). absurd (let none : found x.1 ≡ None = ap found lacks.0 in cc))
        h.0,
    answers-from log h.1,
  )
