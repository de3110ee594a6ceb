-- What the calls of a store make of its history.
use Rattle.std.proofs.Common.{◌≡◌, ℕ, ◌+◌, ◌<◌, Bool, true, false, not, ◌&&◌, ◌==◌, if◌then◌else◌, cond, List, [], ◌∷◌, length, reverse, Option, Some, None, is_some, filter, refl, sym, ap, ◌∙◌, subst, arith}
use Rattle.std.specs.List.{list_any, count_by}
use Rattle.std.specs.Option.{option_map, option_to_list}
use Rattle.std.specs.Cmp.{IsEquivalence}
use Rattle.std.proofs.lemmas.Bool.{eq-eqb, ne_eqb}
use Rattle.std.proofs.lemmas.List.{length-map, length-replicate, length-reverse}
use Rattle.broadcast_core.specs.Carried.{Carried}
use Rattle.broadcast_core.specs.Content.{Content, bytes_of, digests_of, message_at}
use Rattle.broadcast_core.specs.Fronted.{outcome_at}
use Rattle.broadcast_core.specs.Changes.{Takes, CleansAt}
use Rattle.broadcast_core.specs.Counted.{counted}
use Rattle.broadcast_core.specs.Reports.{Reports}
use Rattle.broadcast_core.specs.Waiters.{is_gone}
use Rattle.broadcast_core.specs.Happening.{Happening, peers, subscribe, cleanup}
use Rattle.broadcast_core.specs.Setting.{Setting}
use Rattle.broadcast_core.specs.Cache.{is_listed, message}
use Rattle.broadcast_core.specs.Waiting.{Awaiting, waiting, with_digest}
use Rattle.broadcast_core.specs.HasContent.{HasContent}
use Rattle.broadcast_core.proofs.Distinct.{by_test}
use Rattle.broadcast_core.proofs.Concerning.{list-same}
use Rattle.broadcast_core.proofs.Choice.{Rises}
use Rattle.broadcast_core.proofs.WaitsAfter.{waiting-rises, waiting-cleanup}
use Rattle.broadcast_core.proofs.Following.{message-some, HasStore-content, HasContent-store, HasStore-other, is_on_list-followed, has_primary-followed}
use Rattle.broadcast_core.proofs.TakenLaws.{message-if_listed}
use Rattle.broadcast_core.proofs.Handing.{outcome-taken, served-arrival}
use Rattle.broadcast_core.proofs.AwaitedCount.{awaited-counted}
use Rattle.broadcast_core.proofs.Stepping.{HasContent-empty, HasContent-peers, HasContent-arrival, HasContent-waiting, HasContent-answered, HasContent-cleanup, cleanup-counted}
use Rattle.broadcast_c.proofs.Lawful.{lawful}
use Rattle.broadcast_c.proofs.Sizes.{cached-counted}
use Rattle.broadcast_c.proofs.Values.{is_there}
use Rattle.broadcast_c.specs.Calls.{IsFilled, outcome_code}
use Rattle.broadcast_c.specs.Storing.{HaveSameNames, carried_at, left_in, same_bytes}
use Rattle.broadcast_c.specs.Law.{Call, store_peers, store_take, store_subscribe, store_cleanup, store_cleanup_of, store_left, store_served, store_get, store_is_primary, store_bytes, store_list, store_count, Does, Calls, store_after, AreDone, IsNew, StoreHistory, store_setting, take_of, drops_of, after_call, history_of, last_served, HasHistory, Leaves, IsFound, IsAnswered, AreAnswered, IsListByConcerns, IsCachedIfListed}
use Rattle.broadcast_c.specs.declared.store.held.Held.{Held}
use Rattle.broadcast_c.specs.declared.store.name.Name.{Name}
use Rattle.broadcast_c.specs.declared.store.Store.{Store}

module _ {W D : Type 0} (P : Awaiting W D → Bool) where
  -- whether one at this place passes the test
  abbrev any_at : List (Awaiting W D) → ℕ → Bool
  any_at ws place = list_any (λ w. w.place == place && P w) ws

  none-before : (ws : List (Awaiting W D)) (m k : ℕ) → k < m → Rises m ws → any_at ws k ≡ false
  none-before [] m k above h = refl
  none-before (w ∷ ws) m k above h =
      let other : (w.place == k) ≡ false = ne_eqb w.place k (λ e. absurd (omega (arith, h.0))) in
      rw other (none-before ws (w.place + 1) k (omega (arith, h.0)) h.1)

  any-behind : (w : Awaiting W D) (ws vs : List (Awaiting W D)) (m : ℕ) → w.place < m → Rises m vs
      → filter (λ (v : Awaiting W D). not (any_at (w ∷ ws) v.place)) vs ≡ filter (λ (v : Awaiting W D). not (any_at ws v.place)) vs
  any-behind w ws [] m above h = refl
  any-behind w ws (v ∷ vs) m above h =
      let other : (w.place == v.place) ≡ false = ne_eqb w.place v.place (λ e. absurd (omega (arith, h.0))) in
      rw other (ap (λ us. cond (not (any_at ws v.place)) (v ∷ us) us) (any-behind w ws vs (v.place + 1) (omega (arith, h.0)) h.1))

  only-itself : (w : Awaiting W D) (ws : List (Awaiting W D)) → Rises (w.place + 1) ws → any_at (w ∷ ws) w.place ≡ P w
  only-itself w ws h =
      let here : (w.place == w.place) ≡ true = eq-eqb w.place w.place refl in
      rw (here, none-before ws (w.place + 1) w.place (omega arith) h) (by_test (P w) (λ t. rw t refl) (λ t. rw t refl))

  -- a test by place is one by the subscribe
  pub filter-at : (ws : List (Awaiting W D)) (n : ℕ) → Rises n ws → filter (λ (w : Awaiting W D). not (any_at ws w.place)) ws ≡ filter (λ (w : Awaiting W D). not (P w)) ws
  filter-at [] n h = refl
  filter-at (w ∷ ws) n h =
      ap (λ b. cond (not b) (w ∷ filter (λ (v : Awaiting W D). not (any_at (w ∷ ws) v.place)) ws) (filter (λ (v : Awaiting W D). not (any_at (w ∷ ws) v.place)) ws)) (only-itself w ws h.1)
      ∙ ap (λ us. cond (not (P w)) (w ∷ us) us) (any-behind w ws ws (w.place + 1) (omega arith) h.1 ∙ filter-at ws (w.place + 1) h.1)

module _ {W D : Type 0} (same : D → D → Bool) (laws : IsEquivalence same) (d : D) (gone : W → Bool) where
  -- those of one digest are dropped
  pub with_digest-dropped : (e : D) (ws : List (Awaiting W D)) → with_digest same e (filter (λ (w : Awaiting W D). not (same d w.digest && gone w.waiter)) ws)
      ≡ (if same d e then filter (λ w. not (gone w)) (with_digest same e ws) else with_digest same e ws)
  with_digest-dropped e [] = by_test (same d e) (λ t. rw t refl) (λ t. rw t refl)
  with_digest-dropped e (w ∷ ws) =
      let rest = with_digest-dropped e ws in
      by_test (same e w.digest)
      (λ t. let is : same d w.digest ≡ same d e = laws.symm d w.digest ∙ sym (laws.congr e w.digest d t) ∙ laws.symm e d in
      by_test (same d e)
      (λ u. let far : same d w.digest ≡ true = is ∙ u in by_test (gone w.waiter)
      (λ v. rw (far, v) (rw (t, u, v) (rw u at rest)))
      (λ v. rw (far, v) (rw (t, u, v) (ap (λ us. w.waiter ∷ us) (rw u at rest)))))
      (λ u. let far : same d w.digest ≡ false = is ∙ u in rw far (rw (t, u) (ap (λ us. w.waiter ∷ us) (rw u at rest)))))
      (λ t. by_test (same d w.digest && gone w.waiter)
      (λ u. rw u (rw t rest))
      (λ u. rw u (rw t rest)))

length-left : (st : Store) → length st.cache.left ≡ length (left_in st)
length-left st = sym (length-map (reverse st.cache.left) (λ (x : Carried Held (List ℕ)). x.message.handle) ∙ length-reverse st.cache.left)

pub mapped : (o : Option (Carried Held (List ℕ))) → is_some (option_map (λ x. x.message.handle) o) ≡ is_some o
mapped None = refl
mapped (Some x) = refl

module _ (own : Name) (deque_size byte_budget : ℕ) where
  abbrev pub s : Setting Name Held (List ℕ)
  s = store_setting own deque_size byte_budget

  held : (d : List ℕ) (es : StoreHistory) → is_listed s d es ≡ true → is_some (message s d es) ≡ true
  held d es h = message-some s lawful.key d es h

  module _ (past : StoreHistory) (old : Store) (had : HasHistory s past old) where
    abbrev has : HasContent s past old.cache.core
    has = had.content

    -- the waiters of one digest are dropped
    cleaned_of : (digest tickets : List ℕ) {new : Content Name Held (List ℕ) ℕ} → CleansAt same_bytes digest (is_gone (λ t. t) tickets) old.cache.core new
        → HasContent s (cleanup (drops_of digest tickets (waiting s past)) ∷ past) new
    cleaned_of digest tickets {new} by =
        let test = drops_of digest tickets (waiting s past) in
        HasContent-store s (cleanup test ∷ past) new (HasStore-other s (cleanup test) past old.cache.core new (HasStore-content s past old.cache.core has) by.store refl refl)
        (λ e. by.waiters e
        ∙ ap (λ ws. if same_bytes.digest digest e then filter (λ w. not (is_gone (λ t. t) tickets w)) ws else ws) (has.waiters e)
        ∙ sym (with_digest-dropped same_bytes.digest lawful.digest digest (is_gone (λ t. t) tickets) e (waiting s past))
        ∙ ap (with_digest same_bytes.digest e) (sym (filter-at (λ w. same_bytes.digest digest w.digest && is_gone (λ t. t) tickets w.waiter) (waiting s past) 0 (waiting-rises s past)))
        ∙ ap (with_digest same_bytes.digest e) (sym (waiting-cleanup s lawful.digest held test past)))

    listed : (d : List ℕ) → is_some (message_at same_bytes old.cache.core d) ≡ is_listed s d past
    listed d = ap is_some (has.cached d) ∙ message-if_listed s lawful.key d past

    -- one call
    content_after : (x : Call) (new : Store) → Does x old new → HasContent s (after_call s x new past) new.cache.core
    content_after (store_peers names) new (set, same, takes, served, reports) =
        subst (λ ps. HasContent s (peers ps ∷ past) new.cache.core) (sym takes.primary) (HasContent-peers refl lawful has takes)
    content_after (store_take peer digest charge handle report) new does =
        HasContent-arrival refl lawful has refl
        (subst (λ n. Takes same_bytes peer (carried_at handle charge digest) (Some n) old.cache.core new.cache.core) (sym (length-replicate charge 0)) does.0.taken.ok)
    content_after (store_subscribe ticket digest true) new (lacks, awaits, served, left) = HasContent-waiting refl lawful has lacks awaits
    content_after (store_subscribe ticket digest false) new (there, is) =
        let found = is_there (message_at same_bytes old.cache.core digest) there in
        subst (λ (st : Store). HasContent s (subscribe ticket digest ∷ past) st.cache.core) (sym is) (HasContent-answered refl lawful has ticket found.1)
    content_after (store_cleanup tickets removed) new (cleans, served, left, apart, count) = HasContent-cleanup refl lawful has cleans
    content_after (store_cleanup_of digest tickets removed) new (cleans, served, left, count) = cleaned_of digest tickets cleans
    content_after (store_left room out moved) new does = subst (λ c. HasContent s past c) (sym does.core) has
    content_after (store_served room out needed status) new (is, got) = subst (λ (st : Store). HasContent s past st.cache.core) (sym is) has
    content_after (store_get digest handle status) new (is, got) = subst (λ (st : Store). HasContent s past st.cache.core) (sym is) has
    content_after (store_is_primary peer primary) new (is, got) = subst (λ (st : Store). HasContent s past st.cache.core) (sym is) has
    content_after (store_bytes peer bytes) new (is, got) = subst (λ (st : Store). HasContent s past st.cache.core) (sym is) has
    content_after (store_list peer room out needed status) new (is, got) = subst (λ (st : Store). HasContent s past st.cache.core) (sym is) has
    content_after (store_count counts) new (is, one, cached, awaited) = subst (λ (st : Store). HasContent s past st.cache.core) (sym is) has

    served_after : (x : Call) (new : Store) → Does x old new → new.served ≡ last_served s (after_call s x new past)
    served_after (store_peers names) new (set, same, takes, served, reports) = served ∙ had.served
    served_after (store_take peer digest charge handle report) new does = does.0.taken.served ∙ served-arrival refl lawful has peer (carried_at handle charge digest)
    served_after (store_subscribe ticket digest true) new (lacks, awaits, served, left) = served ∙ had.served
    served_after (store_subscribe ticket digest false) new (there, is) = ap (λ (st : Store). st.served) is ∙ had.served
    served_after (store_cleanup tickets removed) new (cleans, served, left, apart, count) = served ∙ had.served
    served_after (store_cleanup_of digest tickets removed) new (cleans, served, left, count) = served ∙ had.served
    served_after (store_left room out moved) new does = does.served ∙ had.served
    served_after (store_served room out needed status) new (is, got) = ap (λ (st : Store). st.served) is ∙ had.served
    served_after (store_get digest handle status) new (is, got) = ap (λ (st : Store). st.served) is ∙ had.served
    served_after (store_is_primary peer primary) new (is, got) = ap (λ (st : Store). st.served) is ∙ had.served
    served_after (store_bytes peer bytes) new (is, got) = ap (λ (st : Store). st.served) is ∙ had.served
    served_after (store_list peer room out needed status) new (is, got) = ap (λ (st : Store). st.served) is ∙ had.served
    served_after (store_count counts) new (is, one, cached, awaited) = ap (λ (st : Store). st.served) is ∙ had.served

    pub stepped : (x : Call) (new : Store) → Does x old new → HasHistory s (after_call s x new past) new
    stepped x new does = record { content = content_after x new does; served = served_after x new does }

    -- what left is what the history gives
    leaves : (e : Happening Name Held (List ℕ) ℕ ℕ) (new : Store) → HasContent s (e ∷ past) new.cache.core → Reports same_bytes old.cache new.cache → Leaves s e past old new
    leaves e new after by = record {
      gone = by.gone;
      added = by.added;
      each = λ d. by.each d
          ∙ ap (λ o. option_to_list (if is_some (message_at same_bytes new.cache.core d) then None else o)) (has.cached d)
          ∙ ap (λ b. option_to_list (if b then None else message s d past)) (ap is_some (after.cached d) ∙ message-if_listed s lawful.key d (e ∷ past));
    }

    -- what is reported is what the history gives
    pub told : (x : Call) (new : Store) → Does x old new → IsAnswered s past x old new
    told (store_peers names) new (set, same, takes, served, reports) = (
      subst (λ ps. HaveSameNames names ps) (sym takes.primary) same,
      leaves (peers new.cache.core.primary) new (content_after (store_peers names) new (set, same, takes, served, reports)) reports,
    )
    told (store_take peer digest charge handle report) new does =
        let after = content_after (store_take peer digest charge handle report) new does in
        record {
          outcome = does.0.outcome ∙ ap outcome_code (does.0.taken.outcome ∙ ap (λ n. outcome_at same_bytes old.cache.core peer digest (Some n)) (sym (length-replicate charge 0))
              ∙ outcome-taken refl lawful has refl peer (carried_at handle charge digest));
          served = does.0.served ∙ ap length (served_after (store_take peer digest charge handle report) new does);
          kept = does.0.kept ∙ ap (λ b. not b && is_some (message_at same_bytes new.cache.core digest)) (listed digest)
              ∙ ap (λ b. not (is_listed s digest past) && b) (ap is_some (after.cached digest) ∙ message-if_listed s lawful.key digest (take_of peer digest charge handle ∷ past));
          cached = does.0.cached ∙ cached-counted own deque_size byte_budget (take_of peer digest charge handle ∷ past) new after does.1.cached;
          left = does.0.left ∙ length-left new;
          leaves = leaves (take_of peer digest charge handle) new after does.0.added;
        }
    told (store_subscribe ticket digest true) new (lacks, awaits, served, left) = ap not (ap is_some (sym lacks) ∙ listed digest)
    told (store_subscribe ticket digest false) new (there, is) = ap not (sym there ∙ listed digest)
    told (store_cleanup tickets removed) new (cleans, served, left, apart, count) = count ∙ ap counted (cleanup-counted refl lawful has (is_gone (λ t. t) tickets) apart)
    told (store_cleanup_of digest tickets removed) new (cleans, served, left, count) = count ∙ ap (count_by (is_gone (λ t. t) tickets)) (has.waiters digest)
    told (store_left room out moved) new does = tt
    told (store_served room out needed status) new (is, got) = subst (λ ts. IsFilled ts room out needed status) had.served got
    told (store_get digest handle status) new (is, got) = subst (λ o. IsFound (option_map (λ x. x.message.handle) o) handle status) (has.cached digest) got
    told (store_is_primary peer primary) new (is, got) = got ∙ has_primary-followed s past old.cache.core (HasStore-content s past old.cache.core has) peer
    told (store_bytes peer bytes) new (is, got) = got ∙ ap bytes_of (has.lists peer)
    told (store_list peer room out needed status) new (is, got) = subst (λ ds. IsFilled ds room out needed status) (ap digests_of (has.lists peer)) got
    told (store_count counts) new (is, one, cached, awaited) = (
      cached ∙ cached-counted own deque_size byte_budget past old has one.cached,
      awaited ∙ awaited-counted refl lawful has one.waiters one.some,
    )

    pub cached_if_listed : IsCachedIfListed old
    cached_if_listed d = mapped (message_at same_bytes old.cache.core d) ∙ listed d ∙ sym (is_on_list-followed s past old.cache.core (HasStore-content s past old.cache.core has) d)

  module _ (first : Store) (new : IsNew own deque_size byte_budget first) where
    pub follows : (calls : Calls) → AreDone first calls → HasHistory s (history_of s calls) (store_after first calls)
    follows [] done = record { content = HasContent-empty new.core; served = new.served }
    follows (x ∷ older) (does, done) = stepped (history_of s older) (store_after first older) (follows older done) x.0 x.1 does

    pub answers : (calls : Calls) → AreDone first calls → AreAnswered s first calls
    answers [] done = tt
    answers (x ∷ older) (does, done) = (told (history_of s older) (store_after first older) (follows older done) x.0 x.1 does, answers older done)

    pub by_concerns : (calls : Calls) → AreDone first calls → IsListByConcerns s (history_of s calls) (store_after first calls)
    by_concerns calls done p q other h =
        let has = follows calls done in
        list-same s s refl refl refl p q (history_of s calls) other h ∙ ap digests_of (sym (has.content.lists p))
