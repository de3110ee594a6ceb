-- What each call of a core hands out, by the history that gives its content.
use Rattle.std.specs.Option.{option_map}
use Rattle.std.proofs.Common.{◌≡◌, ℕ, Option, length, List, [], ◌∷◌, map, Some, refl, sym, ap, ◌∙◌, subst}
use Rattle.broadcast_core.specs.Carried.{Carried}
use Rattle.broadcast_core.specs.Content.{Content, Same, message_at, waiting_at}
use Rattle.broadcast_core.specs.Fronted.{outcome_at}
use Rattle.broadcast_core.specs.Changes.{IsSubscribed}
use Rattle.broadcast_core.specs.Setting.{Setting}
use Rattle.broadcast_core.specs.Happening.{Taking, Happening, broadcast, arrival, subscribe, get, taken}
use Rattle.broadcast_core.specs.Cache.{message}
use Rattle.broadcast_core.specs.Waiting.{Awaiting, waiters_of, replied_at}
use Rattle.broadcast_core.specs.Handed.{Handed, to_subscribe, to_get, to_each, from_cache, handed_at}
use Rattle.broadcast_core.specs.HasContent.{HasContent}
use Rattle.broadcast_core.specs.Lists.{outcome}
use Rattle.broadcast_core.specs.declared.ordered.Recipients.{Recipients}
use Rattle.broadcast_core.specs.declared.outcome.Subscribed.{Subscribed}
use Rattle.broadcast_core.specs.declared.outcome.Subscribed.TheVariants as subscribed
use Rattle.broadcast_core.proofs.Lawful.{IsLawful}
use Rattle.broadcast_core.proofs.Following.{message-some, message-other, HasStore-content, outcome-followed}
use Rattle.broadcast_core.proofs.WaitsAfter.{replied_at-taking}

-- what is handed out by what a subscribe returned
abbrev pub handed_by : {M D W V : Type 0} → Subscribed W M D → List (Handed M D W V)
handed_by (subscribed.Answered w c) = to_subscribe w c ∷ []
handed_by subscribed.Waiting = []

to_each-waiters : {M D W V : Type 0} (c : Carried M D) (ws : List (Awaiting W D)) → to_each {V = V} c ws ≡ map (λ w. to_subscribe w c) (waiters_of ws)
to_each-waiters c [] = refl
to_each-waiters c (w ∷ ws) = ap (λ hs. to_subscribe w.waiter c ∷ hs) (to_each-waiters c ws)

module _ {P M D W V : Type 0} {s : Setting P M D} {same : Same P D} (is : s.same ≡ same) (lawful : IsLawful same)
    {past : List (Happening P M D W V)} {old : Content P M D W} (has : HasContent s past old) where
  laws : IsLawful s.same
  laws = subst (λ m. IsLawful m) (sym is) lawful

  -- the outcome of a taking
  pub outcome-taken : {encoding : M → Option (List ℕ)} → s.encoding ≡ encoding → (p : P) (c : Carried M D) → outcome_at same old p c.digest (option_map length (encoding c.message)) ≡ outcome s p c past
  outcome-taken {encoding} encodes p c =
      ap (λ m. outcome_at m old p c.digest (option_map length (encoding c.message))) (sym is)
      ∙ ap (λ f. outcome_at s.same old p c.digest (option_map length (f c.message))) (sym encodes)
      ∙ outcome-followed s past old (HasStore-content s past old has) p c

  -- the waiters that a taking serves
  pub served-taken : (e : Happening P M D W V) (t : Taking P M D) → taken s e ≡ Some t → waiting_at same old t.carried.digest ≡ waiters_of (replied_at s e past)
  served-taken e t some = ap (λ m. waiting_at m old t.carried.digest) (sym is) ∙ has.waiters t.carried.digest
      ∙ sym (replied_at-taking s laws.digest (λ d es h. message-some s laws.key d es h) e past t some)

  pub served-broadcast : (r : Recipients P) (c : Carried M D) → waiting_at same old c.digest ≡ waiters_of (replied_at s (broadcast r c) past)
  served-broadcast r c = served-taken (broadcast r c) (record { key = s.own; carried = c }) refl

  pub served-arrival : (p : P) (c : Carried M D) → waiting_at same old c.digest ≡ waiters_of (replied_at s (arrival p c) past)
  served-arrival p c = served-taken (arrival p c) (record { key = p; carried = c }) refl

  -- the message that a get, or a subscribe, finds
  pub found-get : (v : V) (d : D) → message_at same old d ≡ message s d (get v d ∷ past)
  found-get v d = ap (λ m. message_at m old d) (sym is) ∙ has.cached d ∙ sym (message-other s d (get v d) past refl refl)

  pub found-subscribe : (w : W) (d : D) → message_at same old d ≡ message s d (subscribe w d ∷ past)
  found-subscribe w d = ap (λ m. message_at m old d) (sym is) ∙ has.cached d ∙ sym (message-other s d (subscribe w d) past refl refl)

  -- what is handed out
  pub handed-broadcast : (r : Recipients P) (c : Carried M D) → map (λ w. to_subscribe w c) (waiting_at same old c.digest) ≡ handed_at s (broadcast r c) past
  handed-broadcast r c = ap (λ ws. map (λ w. to_subscribe w c) ws) (served-broadcast r c) ∙ sym (to_each-waiters c (replied_at s (broadcast r c) past))

  pub handed-arrival : (p : P) (c : Carried M D) → map (λ w. to_subscribe w c) (waiting_at same old c.digest) ≡ handed_at s (arrival p c) past
  handed-arrival p c = ap (λ ws. map (λ w. to_subscribe w c) ws) (served-arrival p c) ∙ sym (to_each-waiters c (replied_at s (arrival p c) past))

  pub handed-get : (v : V) (d : D) → to_get v (message_at same old d) ∷ [] ≡ handed_at s (get v d) past
  handed-get v d = ap (λ o. to_get v o ∷ []) (found-get v d)

  pub handed-subscribe : (w : W) (d : D) (new : Content P M D W) (r : Subscribed W M D) → IsSubscribed same d w old new r → handed_by r ≡ handed_at s (subscribe w d) past
  handed-subscribe w d new (subscribed.Answered v x) h = ap (λ u. to_subscribe u x ∷ []) h.0 ∙ ap (from_cache w) (sym h.1 ∙ found-subscribe w d)
  handed-subscribe w d new subscribed.Waiting h = ap (from_cache w) (sym h.0 ∙ found-subscribe w d)
