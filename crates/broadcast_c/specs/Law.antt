-- Believed.
-- The law of a store: its calls, what each of them does, and what their history gives.
use Rattle.std.specs.Prelude.{◌≡◌, ◌≤◌, ◌+◌, ℕ, Bool, true, false, not, ◌&&◌, ◌==◌, if◌then◌else◌, List, [], ◌∷◌, ◌++◌, length, map, reverse, take, drop, replicate, Option, None, Some, MatchOption, is_some, Err}
use Rattle.std.specs.List.{filter, list_any, count_by, IsDistinct}
use Rattle.std.specs.Map.{keys_of}
use Rattle.std.specs.Option.{option_map, option_to_list}
use Rattle.broadcast_core.specs.Carried.{Carried}
use Rattle.broadcast_core.specs.Content.{Content, bytes_of, charged_at, first_places, list_at, message_at, waiting_at}
use Rattle.broadcast_core.specs.Changes.{TakesPeers, Awaits, Cleans, CleansAt}
use Rattle.broadcast_core.specs.Counted.{counted}
use Rattle.broadcast_core.specs.Empty.{empty}
use Rattle.broadcast_core.specs.Fronted.{has_primary, is_on_list}
use Rattle.broadcast_core.specs.Reports.{Reports}
use Rattle.broadcast_core.specs.Waiters.{NoneEmpty, is_gone, gone_from}
use Rattle.broadcast_core.specs.Setting.{Setting, setting}
use Rattle.broadcast_core.specs.Happening.{Happening, History, peers, arrival, subscribe, cleanup}
use Rattle.broadcast_core.specs.Concerns.{concerns}
use Rattle.broadcast_core.specs.Peers.{is_primary, primary}
use Rattle.broadcast_core.specs.Lists.{charged_list, list, outcome}
use Rattle.broadcast_core.specs.Cache.{is_listed, message}
use Rattle.broadcast_core.specs.Waiting.{Awaiting, awaited, replied_at, waiters_of, waiting, waiting_for}
use Rattle.broadcast_core.specs.HasContent.{HasContent}
use Rattle.broadcast_core.specs.declared.codec.CodecError.TheVariants.{EndOfBuffer}
use Rattle.broadcast_c.specs.Calls.{IsFilled, ReportsTaking, outcome_code}
use Rattle.broadcast_c.specs.Storing.{HaveSameNames, MovesLeft, carried_at, handle_at, left_in, same_bytes}
use Rattle.broadcast_c.specs.declared.store.held.Held.{Held}
use Rattle.broadcast_c.specs.declared.store.name.Name.{Name}
use Rattle.broadcast_c.specs.declared.store.Store.{Store}
use Rattle.broadcast_c.specs.declared.exports.store.Counts.{Counts}
use Rattle.broadcast_c.specs.declared.exports.store.Stored.{Stored}

-- a call that did not fail, by the name of its function: what it was passed, then what it reported;
-- `room` is a buffer before the call, and `out` that buffer after it
pub data Call : Type 0 where
  store_peers : (names : List Name) → Call
  store_take : (peer : Name) (digest : List ℕ) (charge handle : ℕ) (report : Stored) → Call
  store_subscribe : (ticket : ℕ) (digest : List ℕ) (waits : Bool) → Call
  store_cleanup : (tickets : List ℕ) (removed : ℕ) → Call
  store_cleanup_of : (digest tickets : List ℕ) (removed : ℕ) → Call
  store_left : (room out : List ℕ) (moved : ℕ) → Call
  store_served : (room out : List ℕ) (needed status : ℕ) → Call
  store_get : (digest : List ℕ) (handle status : ℕ) → Call
  store_is_primary : (peer : Name) (primary : Bool) → Call
  store_bytes : (peer : Name) (bytes : ℕ) → Call
  store_list : (peer : Name) (room out : List (List ℕ)) (needed status : ℕ) → Call
  store_count : (counts : Counts) → Call

-- OK with the handle, or NONE
abbrev pub IsFound : Option ℕ → ℕ → ℕ → Type 0
IsFound found handle status = MatchOption found (status ≡ 3) (λ it. (status ≡ 0) × (handle ≡ it))

-- no digest has two messages, or two lists of waiters, and no list of waiters is empty
pub record IsOneEach (core : Content Name Held (List ℕ) ℕ) : Type 0 where
  pub cached : IsDistinct same_bytes.digest (keys_of core.cached)
  pub waiters : IsDistinct same_bytes.digest (keys_of core.waiters)
  pub some : NoneEmpty same_bytes.digest core.waiters

-- what each function promises of the store before a call and after it
abbrev pub Does : Call → Store → Store → Type 0
Does (store_peers names) old new = (set : List Name) × HaveSameNames names set
    × TakesPeers same_bytes set old.cache.core new.cache.core × (new.served ≡ old.served)
    × Reports same_bytes old.cache new.cache
Does (store_take peer digest charge handle report) old new =
    ReportsTaking peer digest charge handle old new report
    × IsOneEach new.cache.core
Does (store_subscribe ticket digest true) old new =
    (message_at same_bytes old.cache.core digest ≡ None)
    × Awaits same_bytes digest ticket old.cache.core new.cache.core
    × (new.served ≡ old.served) × (new.cache.left ≡ old.cache.left)
Does (store_subscribe ticket digest false) old new =
    (is_some (message_at same_bytes old.cache.core digest) ≡ true) × (new ≡ old)
Does (store_cleanup tickets removed) old new =
    Cleans same_bytes (is_gone (λ t. t) tickets) old.cache.core new.cache.core
    × (new.served ≡ old.served) × (new.cache.left ≡ old.cache.left)
    × IsDistinct same_bytes.digest (keys_of old.cache.core.waiters)
    × (removed ≡ counted (gone_from (λ t. t) tickets old.cache.core.waiters))
Does (store_cleanup_of digest tickets removed) old new =
    CleansAt same_bytes digest (is_gone (λ t. t) tickets) old.cache.core new.cache.core
    × (new.served ≡ old.served) × (new.cache.left ≡ old.cache.left)
    × (removed ≡ count_by (is_gone (λ t. t) tickets) (waiting_at same_bytes old.cache.core digest))
Does (store_left room out moved) old new = MovesLeft old new room out moved
Does (store_served room out needed status) old new =
    (new ≡ old) × IsFilled old.served room out needed status
Does (store_get digest handle status) old new =
    (new ≡ old) × IsFound (handle_at old.cache.core digest) handle status
Does (store_is_primary peer primary) old new =
    (new ≡ old) × (primary ≡ has_primary same_bytes old.cache.core peer)
Does (store_bytes peer bytes) old new =
    (new ≡ old) × (bytes ≡ bytes_of (charged_at same_bytes old.cache.core peer))
Does (store_list peer room out needed status) old new =
    (new ≡ old) × IsFilled (list_at same_bytes old.cache.core peer) room out needed status
Does (store_count counts) old new = (new ≡ old) × IsOneEach old.cache.core
    × (counts.cached ≡ length old.cache.core.cached)
    × (counts.awaited ≡ length old.cache.core.waiters)

-- calls, each with the store after it, the newest first; a call that failed left the store as it
-- was, and is none of them
abbrev pub Calls : Type 0
Calls = List (Call × Store)

-- the store after the calls
abbrev pub store_after : Store → Calls → Store
store_after first [] = first
store_after first (x ∷ older) = x.1

-- each call did to the store what its function promises
abbrev pub AreDone : Store → Calls → Type 0
AreDone first [] = Unit {0}
AreDone first (x ∷ older) = Does x.0 (store_after first older) x.1 × AreDone first older

-- what `broadcast_store_new` makes
pub record IsNew (own : Name) (deque_size byte_budget : ℕ) (store : Store) : Type 0 where
  pub core : store.cache.core ≡ empty own deque_size byte_budget
  pub served : store.served ≡ []
  pub left : store.cache.left ≡ []

-- what a history is read by: a message is charged what the caller charges it
abbrev pub store_setting : Name → ℕ → ℕ → Setting Name Held (List ℕ)
store_setting own deque_size byte_budget = setting own deque_size byte_budget false same_bytes
    (λ held. held.digest) (λ held. Some (replicate held.charge 0)) (λ bytes. Err EndOfBuffer)

-- those who wait are tickets
abbrev pub StoreHistory : Type 0
StoreHistory = History Name Held (List ℕ) ℕ ℕ

-- the taking of a message of a handle
abbrev pub take_of : Name → List ℕ → ℕ → ℕ → Happening Name Held (List ℕ) ℕ ℕ
take_of peer digest charge handle = arrival peer (carried_at handle charge digest)

-- whether at this place a subscribe waits for the digest with one of the tickets
abbrev pub drops_of : List ℕ → List ℕ → List (Awaiting ℕ (List ℕ)) → ℕ → ℕ → Bool
drops_of digest tickets ws place ticket = list_any (λ w. w.place == place
    && (same_bytes.digest digest w.digest && is_gone (λ t. t) tickets w.waiter)) ws

module _ (s : Setting Name Held (List ℕ)) where
  -- the history after a call that left the store `new`; a call that only reads adds nothing
  abbrev pub after_call : Call → Store → StoreHistory → StoreHistory
  after_call (store_peers names) new past = peers new.cache.core.primary ∷ past
  after_call (store_take peer digest charge handle report) new past =
      take_of peer digest charge handle ∷ past
  after_call (store_subscribe ticket digest waits) new past = subscribe ticket digest ∷ past
  after_call (store_cleanup tickets removed) new past =
      cleanup (λ place ticket. is_gone (λ t. t) tickets ticket) ∷ past
  after_call (store_cleanup_of digest tickets removed) new past =
      cleanup (drops_of digest tickets (waiting s past)) ∷ past
  after_call _ new past = past

  -- the history of the calls
  abbrev pub history_of : Calls → StoreHistory
  history_of [] = []
  history_of (x ∷ older) = after_call x.0 x.1 (history_of older)

  -- the tickets that the last taken message served
  abbrev pub last_served : StoreHistory → List ℕ
  last_served [] = []
  last_served (arrival p c ∷ past) = waiters_of (replied_at s (arrival p c) past)
  last_served (_ ∷ past) = last_served past

  -- the digests on the lists of these keys
  abbrev pub listed_by : StoreHistory → List Name → List (List ℕ)
  listed_by past [] = []
  listed_by past (p ∷ ps) = list s p past ++ listed_by past ps

  -- the cached digests, each once
  abbrev pub cached_digests : StoreHistory → List (List ℕ)
  cached_digests past = first_places s.same.digest (listed_by past (primary s past))

  -- the store has what the history gives
  pub record HasHistory (past : StoreHistory) (store : Store) : Type 0 where
    pub content : HasContent s past store.cache.core
    pub served : store.served ≡ last_served past

  -- what leaves at the happening, once: of each digest the message that was cached and is not any
  -- more
  pub record Leaves (e : Happening Name Held (List ℕ) ℕ ℕ) (past : StoreHistory)
      (old new : Store) : Type 0 where
    pub gone : List (Carried Held (List ℕ))
    pub added : new.cache.left ≡ old.cache.left ++ gone
    pub each : (d : List ℕ) → filter (λ x. s.same.digest d x.digest) gone
        ≡ option_to_list (if is_listed s d (e ∷ past) then None else message s d past)

  -- what a take reports after this history
  pub record IsTakeOf (e : Happening Name Held (List ℕ) ℕ ℕ) (peer : Name)
      (c : Carried Held (List ℕ)) (past : StoreHistory) (old new : Store) (report : Stored)
      : Type 0 where
    pub outcome : report.outcome ≡ outcome_code (outcome s peer c past)
    pub served : report.served ≡ length (waiters_of (replied_at s e past))
    pub kept : report.kept ≡ (not (is_listed s c.digest past) && is_listed s c.digest (e ∷ past))
    pub cached : report.cached ≡ length (cached_digests (e ∷ past))
    pub left : report.left ≡ length (left_in new)
    pub leaves : Leaves e past old new

  -- after this history the call reports what the history gives
  abbrev pub IsAnswered : StoreHistory → Call → Store → Store → Type 0
  IsAnswered past (store_peers names) old new = HaveSameNames names new.cache.core.primary
      × Leaves (peers new.cache.core.primary) past old new
  IsAnswered past (store_take peer digest charge handle report) old new =
      IsTakeOf (take_of peer digest charge handle) peer (carried_at handle charge digest)
      past old new report
  IsAnswered past (store_subscribe ticket digest waits) old new =
      waits ≡ not (is_listed s digest past)
  IsAnswered past (store_cleanup tickets removed) old new =
      removed ≡ counted (count_by (λ w. is_gone (λ t. t) tickets w.waiter) (waiting s past))
  IsAnswered past (store_cleanup_of digest tickets removed) old new =
      removed ≡ count_by (is_gone (λ t. t) tickets) (waiting_for s digest past)
  IsAnswered past (store_left room out moved) old new = Unit {0}
  IsAnswered past (store_served room out needed status) old new =
      IsFilled (last_served past) room out needed status
  IsAnswered past (store_get digest handle status) old new =
      IsFound (option_map (λ x. x.message.handle) (message s digest past)) handle status
  IsAnswered past (store_is_primary peer primary) old new = primary ≡ is_primary s peer past
  IsAnswered past (store_bytes peer bytes) old new = bytes ≡ bytes_of (charged_list s peer past)
  IsAnswered past (store_list peer room out needed status) old new =
      IsFilled (list s peer past) room out needed status
  IsAnswered past (store_count counts) old new =
      (counts.cached ≡ length (cached_digests past)) × (counts.awaited ≡ length (awaited s past))

  -- each call is answered by the history before it
  abbrev pub AreAnswered : Store → Calls → Type 0
  AreAnswered first [] = Unit {0}
  AreAnswered first (x ∷ older) =
      IsAnswered (history_of older) x.0 (store_after first older) x.1 × AreAnswered first older

  -- a key's list is that of any key in any history with the same concerns
  abbrev pub IsListByConcerns : StoreHistory → Store → Type 0
  IsListByConcerns past store = (p q : Name) (other : StoreHistory)
      → concerns s q other ≡ concerns s p past → list s q other ≡ list_at s.same store.cache.core p

-- a digest is cached if and only if it is on the list of a primary key
abbrev pub IsCachedIfListed : Store → Type 0
IsCachedIfListed store = (d : List ℕ)
    → is_some (handle_at store.cache.core d) ≡ is_on_list same_bytes store.cache.core d

-- the messages that left at a call
abbrev pub gone_at : Call → Store → Store → List (Carried Held (List ℕ))
gone_at (store_peers names) old new = drop (length old.cache.left) new.cache.left
gone_at (store_take peer digest charge handle report) old new =
    drop (length old.cache.left) new.cache.left
gone_at _ old new = []

-- the handle of the message that a call cached under the digest
abbrev pub entered_by : List ℕ → Call → List ℕ
entered_by d (store_take peer digest charge handle report) =
    if report.kept && same_bytes.digest d digest then handle ∷ [] else []
entered_by d _ = []

-- the handles that entered under the digest, and that left it, the newest first
abbrev pub have_entered : List ℕ → Calls → List ℕ
have_entered d [] = []
have_entered d (x ∷ older) = entered_by d x.0 ++ have_entered d older

abbrev pub have_left_of : List ℕ → Store → Calls → List ℕ
have_left_of d first [] = []
have_left_of d first (x ∷ older) = map (λ c. c.message.handle)
    (filter (λ c. same_bytes.digest d c.digest) (gone_at x.0 (store_after first older) x.1))
    ++ have_left_of d first older

-- under each digest each handle that entered has left once, in the same order, but for that of the
-- message that is cached now
abbrev pub AreGoneOnce : Store → Calls → Type 0
AreGoneOnce first calls = (d : List ℕ) → have_entered d calls
    ≡ option_to_list (handle_at (store_after first calls).cache.core d) ++ have_left_of d first calls

-- the handles that a call moved out
abbrev pub moved_by : Call → List ℕ
moved_by (store_left room out moved) = take moved out
moved_by _ = []

-- the handles that left, and that were moved out, the newest first
abbrev pub have_left : Store → Calls → List ℕ
have_left first [] = []
have_left first (x ∷ older) = map (λ c. c.message.handle)
    (reverse (gone_at x.0 (store_after first older) x.1)) ++ have_left first older

abbrev pub moved_out : Calls → List ℕ
moved_out [] = []
moved_out (x ∷ older) = moved_by x.0 ++ moved_out older

-- each handle left as often as it was moved out, and once more if it is still to be
abbrev pub AreMovedOnce : Store → Calls → Type 0
AreMovedOnce first calls = (handle : ℕ) → count_by (λ x. x == handle) (have_left first calls)
    ≡ count_by (λ x. x == handle) (moved_out calls)
    + count_by (λ x. x == handle) (left_in (store_after first calls))

-- how often a call let the ticket wait for the digest
abbrev pub waits_by : ℕ → List ℕ → Call → ℕ
waits_by t d (store_subscribe ticket digest true) =
    if same_bytes.digest digest d && ticket == t then 1 else 0
waits_by t d _ = 0

-- how often a call served the ticket by a message of the digest
abbrev pub serves_by : ℕ → List ℕ → Call → Store → ℕ
serves_by t d (store_take peer digest charge handle report) new =
    if same_bytes.digest digest d then count_by (λ x. x == t) new.served else 0
serves_by t d _ new = 0

abbrev pub waited : ℕ → List ℕ → Calls → ℕ
waited t d [] = 0
waited t d (x ∷ older) = waits_by t d x.0 + waited t d older

abbrev pub served : ℕ → List ℕ → Calls → ℕ
served t d [] = 0
served t d (x ∷ older) = serves_by t d x.0 x.1 + served t d older

-- each ticket was served at most as often as it began to wait, and not while it waits still
abbrev pub AreServedOnce : Store → Calls → Type 0
AreServedOnce first calls = (t : ℕ) (d : List ℕ) → served t d calls
    + count_by (λ x. x == t) (waiting_at same_bytes (store_after first calls).cache.core d)
    ≤ waited t d calls

-- this holds of all calls of a new store
abbrev pub OfAllCalls : (Setting Name Held (List ℕ) → Store → Calls → Type 0) → Type 0
OfAllCalls P = (own : Name) (deque_size byte_budget : ℕ) (first : Store) (calls : Calls)
    → IsNew own deque_size byte_budget first → AreDone first calls
    → P (store_setting own deque_size byte_budget) first calls
