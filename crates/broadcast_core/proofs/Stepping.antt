-- What each call of a core makes of the history that gives its content. A caller's setting has the
-- equalities that the calls speak of, which are lawful.
use Rattle.std.proofs.Common.{◌≡◌, ℕ, ◌+◌, Bool, true, false, not, if◌then◌else◌, List, [], ◌∷◌, ◌++◌, Option, Some, None, is_some, length, refl, sym, ap, ◌∙◌, subst, filter}
use Rattle.std.specs.Prelude.{unwrap_or}
use Rattle.std.specs.Option.{option_map}
use Rattle.std.specs.List.{IsDistinct, sum_by, count_by}
use Rattle.std.specs.Map.{keys_of}
use Rattle.broadcast_core.specs.Empty.{empty}
use Rattle.broadcast_core.specs.Carried.{Carried}
use Rattle.broadcast_core.specs.Content.{Content, Same, items_at, message_at, waiting_at}
use Rattle.broadcast_core.specs.Changes.{Takes, TakesPeers, KeepsStore, Awaits, Cleans, IsSubscribed}
use Rattle.broadcast_core.specs.Waiters.{DropsClosed, waiting_in}
use Rattle.broadcast_core.specs.Counted.{counted}
use Rattle.broadcast_core.specs.Setting.{Setting}
use Rattle.broadcast_core.specs.Happening.{Taking, Happening, peers, broadcast, arrival, subscribe, get, cleanup, taken}
use Rattle.broadcast_core.specs.Cache.{is_listed, message}
use Rattle.broadcast_core.specs.Waiting.{with_digest, waiting}
use Rattle.broadcast_core.specs.HasContent.{HasContent}
use Rattle.broadcast_core.specs.Cleaned.{HasCleaned, named_by}
use Rattle.broadcast_core.specs.declared.ordered.Recipients.{Recipients}
use Rattle.broadcast_core.specs.declared.outcome.Subscribed.{Subscribed}
use Rattle.broadcast_core.specs.declared.outcome.Subscribed.TheVariants as subscribed
use Rattle.broadcast_core.proofs.Distinct.{by_test}
use Rattle.broadcast_core.proofs.Entries.{lookup-equal}
use Rattle.broadcast_core.proofs.Lawful.{IsLawful}
use Rattle.broadcast_core.proofs.Choice.{Choice, choose}
use Rattle.broadcast_core.proofs.Following.{message-some, message-none, message-other, HasStore, HasStore-content, HasContent-store, HasStore-empty, HasStore-peers, HasStore-taken, HasStore-other}
use Rattle.broadcast_core.proofs.WaitsAfter.{waiting-rises, waiting_for-taking, waiting_for-peers, waiting_for-get, waiting-cleanup, waiting_for-cleanup, waiting_for-listed, waiting_for-subscribe}
use Rattle.broadcast_core.proofs.WaitsCount.{counted_by-entries, named-counted}

-- a new core has what the empty history gives
pub HasContent-empty : {P M D W V : Type 0} {s : Setting P M D} {core : Content P M D W}
    → core ≡ empty s.own s.deque_size s.byte_budget → HasContent {V = V} s [] core
HasContent-empty {s = s} {core = core} new = HasContent-store s [] core
    (HasStore-empty s core (ap (λ c. c.own) new) (ap (λ c. c.deque_size) new) (ap (λ c. c.byte_budget) new) (ap (λ c. c.primary) new) (ap (λ c. c.lists) new) (ap (λ c. c.cached) new))
    (λ d. ap (λ c. items_at s.same.digest d c.waiters) new)

kept : {P M D W : Type 0} {same : _} (c : Content P M D W) → KeepsStore same c c
kept c = record { own = refl; deque_size = refl; byte_budget = refl; primary = refl; lists = refl; cached = refl }

nobody : {W : Type 0} (ws : List W) → filter (λ w. not true) ws ≡ []
nobody [] = refl
nobody (w ∷ ws) = nobody ws

module _ {P M D W V : Type 0} {s : Setting P M D} {same : Same P D} (is : s.same ≡ same) (lawful : IsLawful same)
    {past : List (Happening P M D W V)} {old : Content P M D W} (has : HasContent s past old) where
  laws : IsLawful s.same
  laws = subst (λ m. IsLawful m) (sym is) lawful

  held : (d : D) (es : List (Happening P M D W V)) → is_listed s d es ≡ true → is_some (message s d es) ≡ true
  held d es h = message-some s laws.key d es h

  store : HasStore s past old
  store = HasStore-content s past old has

  -- a peer set
  pub HasContent-peers : {ps : List P} {new : Content P M D W} → TakesPeers same ps old new → HasContent s (peers ps ∷ past) new
  HasContent-peers {ps} {new} by =
      let takes = subst (λ m. TakesPeers m ps old new) (sym is) by in
      HasContent-store s (peers ps ∷ past) new (HasStore-peers s laws.key ps past old new store takes)
      (λ d. takes.waiters d ∙ has.waiters d ∙ sym (waiting_for-peers s laws.digest held ps past d))

  -- a happening that takes a message
  pub HasContent-taken : {encoding : M → Option (List ℕ)} → s.encoding ≡ encoding → (e : Happening P M D W V) (t : Taking P M D) {new : Content P M D W} → taken s e ≡ Some t
      → Takes same t.key t.carried (option_map length (encoding t.carried.message)) old new → HasContent s (e ∷ past) new
  HasContent-taken {encoding} encodes e t {new} some by =
      let takes = subst (λ f. Takes s.same t.key t.carried (option_map length (f t.carried.message)) old new) (sym encodes)
      (subst (λ m. Takes m t.key t.carried (option_map length (encoding t.carried.message)) old new) (sym is) by) in
      HasContent-store s (e ∷ past) new (HasStore-taken s laws.key laws.digest e t past old new store takes some)
      (λ d. takes.waiters d ∙ ap (λ ws. if s.same.digest t.carried.digest d then [] else ws) (has.waiters d) ∙ sym (waiting_for-taking s laws.digest held e past t some d))

  pub HasContent-broadcast : {encoding : M → Option (List ℕ)} → s.encoding ≡ encoding → (r : Recipients P) {c : Carried M D} {new : Content P M D W}
      → Takes same s.own c (option_map length (encoding c.message)) old new → HasContent s (broadcast r c ∷ past) new
  HasContent-broadcast encodes r {c} takes = HasContent-taken encodes (broadcast r c) (record { key = s.own; carried = c }) refl takes

  pub HasContent-arrival : {encoding : M → Option (List ℕ)} → s.encoding ≡ encoding → {p : P} {c : Carried M D} {new : Content P M D W}
      → Takes same p c (option_map length (encoding c.message)) old new → HasContent s (arrival p c ∷ past) new
  HasContent-arrival encodes {p} {c} takes = HasContent-taken encodes (arrival p c) (record { key = p; carried = c }) refl takes

  -- a get
  pub HasContent-get : (v : V) (d : D) → HasContent s (get v d ∷ past) old
  HasContent-get v d = HasContent-store s (get v d ∷ past) old (HasStore-other s (get v d) past old old store (kept old) refl refl)
      (λ x. has.waiters x ∙ sym (waiting_for-get s laws.digest held v d past x))

  -- a subscribe that waits
  pub HasContent-waiting : {w : W} {d : D} {new : Content P M D W} → message_at same old d ≡ None → Awaits same d w old new → HasContent s (subscribe w d ∷ past) new
  HasContent-waiting {w} {d} {new} lacks by =
      let none = subst (λ m. message_at m old d ≡ None) (sym is) lacks in
      let awaits = subst (λ m. Awaits m d w old new) (sym is) by in
      let nothing : message s d (subscribe w d ∷ past) ≡ None = message-other s d (subscribe w d) past refl refl ∙ sym (has.cached d) ∙ none in
      let nowhere : is_listed s d (subscribe w d ∷ past) ≡ false = by_test (is_listed s d (subscribe w d ∷ past))
      (λ t. absurd (let some = sym (ap is_some nothing) ∙ held d (subscribe w d ∷ past) t in cc))
      (λ t. t) in
      HasContent-store s (subscribe w d ∷ past) new (HasStore-other s (subscribe w d) past old new store awaits.store refl refl)
      (λ x. awaits.waiters x ∙ ap (λ ws. if s.same.digest d x then ws ++ w ∷ [] else ws) (has.waiters x) ∙ sym (waiting_for-subscribe s laws.digest held w d past x nowhere))

  -- a subscribe that is answered
  pub HasContent-answered : (w : W) {d : D} {c : Carried M D} → message_at same old d ≡ Some c → HasContent s (subscribe w d ∷ past) old
  HasContent-answered w {d} {c} found =
      let h = subst (λ m. message_at m old d ≡ Some c) (sym is) found in
      let same_message = message-other s d (subscribe w d) past refl refl in
      let there : is_listed s d (subscribe w d ∷ past) ≡ true = by_test (is_listed s d (subscribe w d ∷ past)) (λ t. t)
      (λ t. absurd (let nothing = sym (message-none s d (subscribe w d ∷ past) t) ∙ same_message ∙ sym (has.cached d) ∙ h in cc)) in
      HasContent-store s (subscribe w d ∷ past) old (HasStore-other s (subscribe w d) past old old store (kept old) refl refl)
      (λ x. has.waiters x ∙ sym (waiting_for-listed s laws.digest held w d past x there))

  -- a subscribe
  pub HasContent-subscribe : {w : W} {d : D} {new : Content P M D W} (r : Subscribed W M D) → IsSubscribed same d w old new r → HasContent s (subscribe w d ∷ past) new
  HasContent-subscribe {w} {d} (subscribed.Answered v x) h = subst (λ c. HasContent s (subscribe w d ∷ past) c) (sym h.2) (HasContent-answered w h.1)
  HasContent-subscribe subscribed.Waiting h = HasContent-waiting h.0 h.1

  -- a cleanup of the waiters that pass a test, as one of their tickets
  pub HasContent-cleanup : {gone : W → Bool} {new : Content P M D W} → Cleans same gone old new → HasContent s (cleanup (λ n w. gone w) ∷ past) new
  HasContent-cleanup {gone} {new} by =
      let cleans = subst (λ m. Cleans m gone old new) (sym is) by in
      HasContent-store s (cleanup (λ n w. gone w) ∷ past) new (HasStore-other s (cleanup (λ n w. gone w)) past old new store cleans.store refl refl)
      (λ d. cleans.waiters d ∙ ap (λ ws. filter (λ w. not (gone w)) ws) (has.waiters d) ∙ sym (waiting_for-cleanup s laws.digest held gone past d))

  -- and how many they are
  pub cleanup-counted : (gone : W → Bool) → IsDistinct same.digest (keys_of old.waiters) → sum_by (λ e. count_by gone e.1) old.waiters ≡ named_by (λ n w. gone w) (waiting s past)
  cleanup-counted gone apart = counted_by-entries s.same.digest laws.digest gone old.waiters (waiting s past) (subst (λ m. IsDistinct m.digest (keys_of old.waiters)) (sym is) apart) has.waiters

  -- a cleanup of the waiters that answer closed
  pub HasCleaned-cleanup_by : {may_answer : W → Bool → Type 0} {new : Content P M D W} {removed : ℕ} → KeepsStore same old new
      → ((d : D) → DropsClosed may_answer (waiting_at same old d) (waiting_at same new d))
      → IsDistinct same.digest (keys_of old.waiters) → IsDistinct same.digest (keys_of new.waiters)
      → (n : ℕ) × (waiting_in old.waiters ≡ waiting_in new.waiters + n) × (removed ≡ counted n) → HasCleaned s may_answer past new removed
  HasCleaned-cleanup_by {may_answer} {new} {removed} keeps drops apart apart_left (n, fewer, count) =
      let left = waiting_at s.same new in
      let says : (d : D) → DropsClosed may_answer (waiting_at s.same old d) (left d) = subst (λ m. (d : D) → DropsClosed may_answer (waiting_at m old d) (waiting_at m new d)) (sym is) drops in
      let chosen : Choice s.same.digest may_answer (waiting s past) left = choose s.same.digest may_answer laws.digest 0 (waiting s past) left (waiting-rises s past)
      (λ d e h. ap (λ o. unwrap_or o []) (sym (lookup-equal laws.digest d e new.waiters h)))
      (λ d. subst (λ ws. DropsClosed may_answer ws (left d)) (has.waiters d) (says d)) in
      let content : HasContent s (cleanup chosen.test ∷ past) new =
      HasContent-store s (cleanup chosen.test ∷ past) new (HasStore-other s (cleanup chosen.test) past old new store (subst (λ m. KeepsStore m old new) (sym is) keeps) refl refl)
      (λ d. chosen.left d ∙ ap (with_digest s.same.digest d) (sym (waiting-cleanup s laws.digest held chosen.test past))) in
      record {
        test = chosen.test;
        content = content;
        answered = chosen.answered;
        removed = count ∙ ap counted (named-counted s laws.digest held has content
            (subst (λ m. IsDistinct m.digest (keys_of old.waiters)) (sym is) apart) (subst (λ m. IsDistinct m.digest (keys_of new.waiters)) (sym is) apart_left) fewer);
      }

  -- all waiters are dropped
  pub HasContent-clear_waiters : {new : Content P M D W} → KeepsStore same old new → new.waiters ≡ [] → HasContent s (cleanup (λ n w. true) ∷ past) new
  HasContent-clear_waiters {new} keeps none =
      HasContent-cleanup (record { store = keeps; waiters = λ d. ap (items_at same.digest d) none ∙ sym (nobody (waiting_at same old d)) })
