-- Each handle that a store cached leaves it once.
use Rattle.std.proofs.Common.{◌≡◌, ℕ, Bool, true, false, not, ◌&&◌, if◌then◌else◌, List, [], ◌∷◌, ◌++◌, length, map, drop, filter, Option, Some, None, is_some, refl, sym, ap, ◌∙◌}
use Rattle.std.specs.Option.{option_map, option_to_list}
use Rattle.std.specs.Map.{lookup}
use Rattle.broadcast_core.specs.Carried.{Carried}
use Rattle.broadcast_core.specs.Content.{message_at}
use Rattle.broadcast_core.specs.Fronted.{is_on_list}
use Rattle.broadcast_core.specs.Reports.{Reports}
use Rattle.broadcast_core.proofs.Distinct.{by_test}
use Rattle.broadcast_core.proofs.TakenLaws.{message-from}
use Rattle.broadcast_c.proofs.Lawful.{lawful, same_digest}
use Rattle.broadcast_c.proofs.Following.{s, mapped, stepped, follows, cached_if_listed}
use Rattle.broadcast_c.proofs.Moving.{drop-front}
use Rattle.broadcast_c.specs.Storing.{carried_at, handle_at, same_bytes}
use Rattle.broadcast_c.specs.Law.{Call, store_peers, store_take, store_subscribe, store_cleanup, store_cleanup_of, store_left, store_served, store_get, store_is_primary, store_bytes, store_list, store_count, Does, Calls, store_after, AreDone, IsNew, StoreHistory, HasHistory, take_of, history_of, gone_at, entered_by, have_entered, have_left_of}
use Rattle.broadcast_c.specs.declared.store.held.Held.{Held}
use Rattle.broadcast_c.specs.declared.store.name.Name.{Name}
use Rattle.broadcast_c.specs.declared.store.Store.{Store}

abbrev Message : Type 0
Message = Carried Held (List ℕ)

abbrev handle_of : Message → ℕ
handle_of c = c.message.handle

abbrev handles : List Message → List ℕ
handles cs = map (λ c. c.message.handle) cs

abbrev one : Option Message → List ℕ
one o = option_to_list (option_map (λ c. c.message.handle) o)

-- what was cached is cached still, or leaves
stays_or_leaves : (t : Bool) (handle : ℕ) (o n : Option Message) (b : Bool) (rest : List ℕ) → t ≡ false → n ≡ (if b then o else None)
    → (if t then handle ∷ [] else []) ++ (one o ++ rest) ≡ one n ++ (handles (option_to_list (if is_some n then None else o)) ++ rest)
stays_or_leaves true handle o n b rest e is = absurd cc
stays_or_leaves false handle None None b rest e is = refl
stays_or_leaves false handle (Some x) None b rest e is = refl
stays_or_leaves false handle None (Some y) true rest e is = absurd cc
stays_or_leaves false handle None (Some y) false rest e is = absurd cc
stays_or_leaves false handle (Some x) (Some y) true rest e is = let same : y ≡ x = cc in ap (λ (c : Message). c.message.handle ∷ rest) (sym same)
stays_or_leaves false handle (Some x) (Some y) false rest e is = absurd cc

-- what was not cached enters
enters : (t : Bool) (o n : Option Message) (x : Message) (rest : List ℕ) → t ≡ true → o ≡ None → n ≡ Some x
    → (if t then x.message.handle ∷ [] else []) ++ (one o ++ rest) ≡ one n ++ (handles (option_to_list (if is_some n then None else o)) ++ rest)
enters false o n x rest e none is = absurd cc
enters true (Some y) n x rest e none is = absurd cc
enters true None None x rest e none is = absurd cc
enters true None (Some y) x rest e none is = let same : y ≡ x = cc in ap (λ (c : Message). c.message.handle ∷ rest) (sym same)

and-false : (a : Bool) → (a && false) ≡ false
and-false true = refl
and-false false = refl

none_if : {X : Type 0} (o : Option X) → is_some o ≡ false → o ≡ None
none_if None h = refl
none_if (Some x) h = absurd cc

module _ (d : List ℕ) where
  abbrev gone : Call → Store → Store → List Message
  gone x old new = filter (λ (c : Message). same_bytes.digest d c.digest) (gone_at x old new)

  gone-told : (old new : Store) → Reports same_bytes old.cache new.cache
      → filter (λ (c : Message). same_bytes.digest d c.digest) (drop (length old.cache.left) new.cache.left)
      ≡ option_to_list (if is_some (message_at same_bytes new.cache.core d) then None else message_at same_bytes old.cache.core d)
  gone-told old new by =
      ap (λ xs. filter (λ (c : Message). same_bytes.digest d c.digest) xs) (ap (λ xs. drop (length old.cache.left) xs) by.added ∙ drop-front old.cache.left by.gone) ∙ by.each d

  stays : (old new : Store) → new.cache.core.cached ≡ old.cache.core.cached → (rest : List ℕ) → one (message_at same_bytes old.cache.core d) ++ rest ≡ one (message_at same_bytes new.cache.core d) ++ rest
  stays old new is rest = ap (λ es. one (lookup (same_bytes.digest d) es) ++ rest) (sym is)

  module _ (own : Name) (deque_size byte_budget : ℕ) (past : StoreHistory) (old : Store) (had : HasHistory (s own deque_size byte_budget) past old) where
    -- whether a message of the digest was cached
    was : is_some (message_at same_bytes old.cache.core d) ≡ is_on_list same_bytes old.cache.core d
    was = sym (mapped (message_at same_bytes old.cache.core d)) ∙ cached_if_listed own deque_size byte_budget past old had d

    -- one call
    step : (x : Call) (new : Store) → Does x old new → (rest : List ℕ)
        → entered_by d x ++ (one (message_at same_bytes old.cache.core d) ++ rest) ≡ one (message_at same_bytes new.cache.core d) ++ (handles (gone x old new) ++ rest)
    step (store_peers names) new (set, same, takes, served, reports) rest =
        rw (gone-told old new reports)
        (stays_or_leaves false 0 (message_at same_bytes old.cache.core d) (message_at same_bytes new.cache.core d) (is_on_list same_bytes new.cache.core d) rest refl (takes.cached d))
    step (store_take peer digest charge handle report) new does rest =
        let x : Message = carried_at handle charge digest in
        let o = message_at same_bytes old.cache.core d in
        let n = message_at same_bytes new.cache.core d in
        let is = does.0.taken.ok.cached d in
        -- a message of this digest enters by the report if it was not cached and is
        let kept : same_bytes.digest d digest ≡ true → report.kept ≡ (not (is_some o) && is_some n) = λ h.
        does.0.kept ∙ ap (λ e. not (is_some (message_at same_bytes old.cache.core e)) && is_some (message_at same_bytes new.cache.core e)) (sym (same_digest d digest h)) in
        let out : (not (is_some o) && is_some n) ≡ false → (report.kept && same_bytes.digest d digest) ≡ false = λ no. by_test (same_bytes.digest d digest)
        (λ h. rw (kept h, no) refl)
        (λ h. rw h (and-false report.kept)) in
        rw (gone-told old new does.0.added)
        (by_test (is_on_list same_bytes new.cache.core d)
        (λ after. by_test (is_on_list same_bytes old.cache.core d)
        (λ before. let same : n ≡ o = rw (after, before) at is in
        stays_or_leaves (report.kept && same_bytes.digest d digest) handle o n true rest (out (rw (was, before) refl)) same)
        (λ before. let now : n ≡ Some x = rw (after, before) at is in
        let not_before : o ≡ None = none_if o (was ∙ before) in
        let named : same_bytes.digest d digest ≡ true =
        (message-from (s own deque_size byte_budget) lawful.key lawful.digest d (take_of peer digest charge handle ∷ past) x
        (sym ((stepped own deque_size byte_budget past old had (store_take peer digest charge handle report) new does).content.cached d) ∙ now)).named in
        enters (report.kept && same_bytes.digest d digest) o n x rest (rw (kept named, not_before, now, named) refl) not_before now))
        (λ after. let none : n ≡ None = rw after at is in
        stays_or_leaves (report.kept && same_bytes.digest d digest) handle o n false rest (out (rw none (and-false (not (is_some o))))) none))
    step (store_subscribe ticket digest true) new (lacks, awaits, served, left) rest = stays old new awaits.store.cached rest
    step (store_subscribe ticket digest false) new (there, is) rest = stays old new (ap (λ (st : Store). st.cache.core.cached) is) rest
    step (store_cleanup tickets removed) new (cleans, served, left, apart, count) rest = stays old new cleans.store.cached rest
    step (store_cleanup_of digest tickets removed) new (cleans, served, left, count) rest = stays old new cleans.store.cached rest
    step (store_left room out moved) new does rest = stays old new (ap (λ c. c.cached) does.core) rest
    step (store_served room out needed status) new (is, got) rest = stays old new (ap (λ (st : Store). st.cache.core.cached) is) rest
    step (store_get digest handle status) new (is, got) rest = stays old new (ap (λ (st : Store). st.cache.core.cached) is) rest
    step (store_is_primary peer primary) new (is, got) rest = stays old new (ap (λ (st : Store). st.cache.core.cached) is) rest
    step (store_bytes peer bytes) new (is, got) rest = stays old new (ap (λ (st : Store). st.cache.core.cached) is) rest
    step (store_list peer room out needed status) new (is, got) rest = stays old new (ap (λ (st : Store). st.cache.core.cached) is) rest
    step (store_count counts) new (is, alone, cached, awaited) rest = stays old new (ap (λ (st : Store). st.cache.core.cached) is) rest

  -- all calls
  pub gone_once : (own : Name) (deque_size byte_budget : ℕ) (first : Store) → IsNew own deque_size byte_budget first → (calls : Calls) → AreDone first calls
      → have_entered d calls ≡ option_to_list (handle_at (store_after first calls).cache.core d) ++ have_left_of d first calls
  gone_once own deque_size byte_budget first new [] done = sym (ap (λ c. option_to_list (handle_at c d) ++ []) new.core)
  gone_once own deque_size byte_budget first new (x ∷ older) (does, done) =
      let before = gone_once own deque_size byte_budget first new older done in
      ap (λ hs. entered_by d x.0 ++ hs) before
      ∙ step own deque_size byte_budget (history_of (s own deque_size byte_budget) older) (store_after first older) (follows own deque_size byte_budget first new older done) x.0 x.1 does (have_left_of d first older)
