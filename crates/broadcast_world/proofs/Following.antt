-- What a core that holds copies of keys makes of an event.
use Rattle.std.proofs.Common.{◌≡◌, ℕ, Bool, List, [], ◌∷◌, map, inl, inr, refl, sym, ap, ◌∙◌, subst}
use Rattle.std.specs.Prelude.{IsTrue}
use Rattle.std.specs.List.{AllZip}
use Rattle.std.specs.Cmp.{IsEquivalence, IsTotalOrder, eq_by_cmp_equiv}
use Rattle.std.specs.Ordering.{eq_by_cmp}
use Rattle.std.specs.declared.cmp.Ordering.{Ordering}
use Rattle.broadcast_core.specs.Happening.{Happening, peers, broadcast, arrival, subscribe, get, cleanup}
use Rattle.broadcast_core.specs.Peers.{primary}
use Rattle.broadcast_core.specs.TestMessage.{Parts}
use Rattle.broadcast_core.specs.Log.{is_refused}
use Rattle.broadcast_core.specs.Content.{charged_at, message_at, waiting_at}
use Rattle.broadcast_core.specs.Lists.{charged_list}
use Rattle.broadcast_core.specs.Cache.{message}
use Rattle.broadcast_core.specs.Waiting.{waiting_for, with_digest}
use Rattle.broadcast_core.specs.HasContent.{HasContent}
use Rattle.broadcast_core.specs.HasRun.{Follows, counted_in}
use Rattle.broadcast_core.specs.declared.event.Answer.{Answer}
use Rattle.broadcast_core.specs.declared.event.Sent.{Sent}
use Rattle.broadcast_core.proofs.Distinct.{by_test}
use Rattle.broadcast_world.specs.Scene.{Scene}
use Rattle.broadcast_world.specs.World.{NodeHistory, at}
use Rattle.broadcast_world.specs.Steps.{HasNode, NodeContent}
use Rattle.broadcast_world.specs.Nodes.{NodeFollows, NodeTakes}
use Rattle.broadcast_world.proofs.Copied.{Twin, twin_peers, twin_arrival, twin_broadcast, twin_subscribe, twin_get, twin_cleanup, given, kept, TwinEvent, given_event, kept_event, primary-twin, charged-twin, message-twin, waiting-twin, answer-twin, refusable-twin, after-twins, after-given, after-kept}

module _ {P : Type 0} {same : P → P → Bool} (laws : IsEquivalence same) where
  self : (ps : List P) → AllZip (λ p q. IsTrue (same p q)) ps ps
  self [] = tt
  self (p ∷ ps) = (laws.refl p, self ps)

  -- a happening and itself
  abbrev exact : Happening P Parts (List ℕ) ℕ ℕ → Twin same
  exact (peers ps) = twin_peers ps ps (self ps)
  exact (arrival p c) = twin_arrival p p (laws.refl p) c
  exact (broadcast r c) = twin_broadcast r c
  exact (subscribe i d) = twin_subscribe i d
  exact (get i d) = twin_get i d
  exact (cleanup test) = twin_cleanup test

  exact-given : (past : NodeHistory P) → map given (map exact past) ≡ past
  exact-given [] = refl
  exact-given (peers ps ∷ past) = ap (λ es. peers ps ∷ es) (exact-given past)
  exact-given (arrival p c ∷ past) = ap (λ es. arrival p c ∷ es) (exact-given past)
  exact-given (broadcast r c ∷ past) = ap (λ es. broadcast r c ∷ es) (exact-given past)
  exact-given (subscribe i d ∷ past) = ap (λ es. subscribe i d ∷ es) (exact-given past)
  exact-given (get i d ∷ past) = ap (λ es. get i d ∷ es) (exact-given past)
  exact-given (cleanup test ∷ past) = ap (λ es. cleanup test ∷ es) (exact-given past)

nothing_equal : {P : Type 0} (R : P → P → Type 0) (ps : List P) → AllZip R [] ps → [] ≡ ps
nothing_equal R [] h = refl
nothing_equal R (p ∷ ps) h = absurd h

module _ {P : Type 0} (cmp : P → P → Ordering) (total : IsTotalOrder cmp) (w : Scene P) (n : P) where
  -- the history in which a copy of the newest peer set stands for it
  abbrev copied : (past : NodeHistory P) (ps : List P) → AllZip (λ p q. IsTrue (eq_by_cmp cmp p q)) (primary (at cmp w n) past) ps → List (Twin (eq_by_cmp cmp))
  copied [] ps h = []
  copied (peers qs ∷ past) ps h = twin_peers qs ps h ∷ map (exact (eq_by_cmp_equiv total)) past
  copied (arrival p c ∷ past) ps h = exact (eq_by_cmp_equiv total) (arrival p c) ∷ copied past ps h
  copied (broadcast r c ∷ past) ps h = twin_broadcast r c ∷ copied past ps h
  copied (subscribe i d ∷ past) ps h = twin_subscribe i d ∷ copied past ps h
  copied (get i d ∷ past) ps h = twin_get i d ∷ copied past ps h
  copied (cleanup test ∷ past) ps h = twin_cleanup test ∷ copied past ps h

  copied-given : (past : NodeHistory P) (ps : List P) (h : AllZip (λ p q. IsTrue (eq_by_cmp cmp p q)) (primary (at cmp w n) past) ps) → map given (copied past ps h) ≡ past
  copied-given [] ps h = refl
  copied-given (peers qs ∷ past) ps h = ap (λ es. peers qs ∷ es) (exact-given (eq_by_cmp_equiv total) past)
  copied-given (arrival p c ∷ past) ps h = ap (λ es. arrival p c ∷ es) (copied-given past ps h)
  copied-given (broadcast r c ∷ past) ps h = ap (λ es. broadcast r c ∷ es) (copied-given past ps h)
  copied-given (subscribe i d ∷ past) ps h = ap (λ es. subscribe i d ∷ es) (copied-given past ps h)
  copied-given (get i d ∷ past) ps h = ap (λ es. get i d ∷ es) (copied-given past ps h)
  copied-given (cleanup test ∷ past) ps h = ap (λ es. cleanup test ∷ es) (copied-given past ps h)

  copied-primary : (k : P) (past : NodeHistory P) (ps : List P) (h : AllZip (λ p q. IsTrue (eq_by_cmp cmp p q)) (primary (at cmp w n) past) ps) → primary (at cmp w k) (map kept (copied past ps h)) ≡ ps
  copied-primary k [] ps h = nothing_equal (λ p q. IsTrue (eq_by_cmp cmp p q)) ps h
  copied-primary k (peers qs ∷ past) ps h = refl
  copied-primary k (arrival p c ∷ past) ps h = copied-primary k past ps h
  copied-primary k (broadcast r c ∷ past) ps h = copied-primary k past ps h
  copied-primary k (subscribe i d ∷ past) ps h = copied-primary k past ps h
  copied-primary k (get i d ∷ past) ps h = copied-primary k past ps h
  copied-primary k (cleanup test ∷ past) ps h = copied-primary k past ps h

  -- a core has the content of the history with copies
  kept-content : (past : NodeHistory P) (core : NodeContent P) (has : HasNode cmp w n past core) → HasContent {V = ℕ} (at cmp w core.own) (map kept (copied past core.primary has.primary)) core
  kept-content past core has =
      let xs = copied past core.primary has.primary in
      let is : map given xs ≡ past = copied-given past core.primary has.primary in
      record {
        own = refl;
        deque_size = has.deque_size;
        byte_budget = has.byte_budget;
        primary = sym (copied-primary core.own past core.primary has.primary);
        lists = λ p. subst (λ es. charged_at (at cmp w n).same core p ≡ charged_list (at cmp w n) p es) (sym is) (has.lists p) ∙ charged-twin cmp total w n core.own has.own p xs;
        cached = λ d. subst (λ es. message_at (at cmp w n).same core d ≡ message (at cmp w n) d es) (sym is) (has.cached d) ∙ message-twin cmp total w n core.own has.own d xs;
        waiters = λ d. subst (λ es. waiting_at (at cmp w n).same core d ≡ waiting_for (at cmp w n) d es) (sym is) (has.waiters d) ∙ ap (with_digest (at cmp w n).same.digest d) (waiting-twin cmp total w n core.own has.own xs);
      }

  -- and so the node has that of its own
  given-content : (k : P) (own : IsTrue (eq_by_cmp cmp n k)) (xs : List (Twin (eq_by_cmp cmp))) (core : NodeContent P) → HasContent (at cmp w k) (map kept xs) core → HasNode cmp w n (map given xs) core
  given-content k own xs core has = record {
    own = ap (eq_by_cmp cmp n) has.own ∙ own;
    deque_size = has.deque_size;
    byte_budget = has.byte_budget;
    primary = subst (λ ps. AllZip (λ p q. IsTrue (eq_by_cmp cmp p q)) (primary (at cmp w n) (map given xs)) ps) (sym has.primary) (primary-twin cmp total w n k own xs);
    lists = λ p. has.lists p ∙ sym (charged-twin cmp total w n k own p xs);
    cached = λ d. has.cached d ∙ sym (message-twin cmp total w n k own d xs);
    waiters = λ d. has.waiters d ∙ ap (with_digest (at cmp w n).same.digest d) (sym (waiting-twin cmp total w n k own xs));
  }

  -- a core that follows an event with copies follows the event itself
  pub NodeFollows-from : (e : TwinEvent (eq_by_cmp cmp)) (old new : NodeContent P) (a : Answer Parts (List ℕ)) (sending : List (Sent P))
      → Follows (at cmp w old.own) (kept_event e) old new a sending → NodeFollows cmp w n (given_event e) old new a
  NodeFollows-from e old new a sending follows = λ past has.
      let k = old.own in
      let xs = copied past old.primary has.primary in
      let done = follows (map kept xs) (kept-content past old has) in
      subst (λ es. NodeTakes cmp w n es (given_event e) a new) (copied-given past old.primary has.primary) (record {
        answered = elim done.answered [
          | inl is ↦ inl (is ∙ ap counted_in (sym (answer-twin cmp total w n k has.own xs e)))
          | inr memory ↦ inr (memory.0, refusable-twin cmp total w n k has.own xs e memory.1)
        ];
        content = by_test (is_refused a)
            (λ t. rw t (given-content k has.own xs new (rw t at done.content)))
            (λ t. rw t (subst (λ es. HasNode cmp w n es new) (after-given cmp total w n k has.own xs e) (given-content k has.own (after-twins cmp total w n k has.own xs e) new
            (subst (λ es. HasContent (at cmp w k) es new) (sym (after-kept cmp total w n k has.own xs e)) (rw t at done.content)))));
      })
