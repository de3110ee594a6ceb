-- What hostile steps leave as it is.
use Rattle.std.proofs.Common.{◌≡◌, ℕ, ◌*◌, ◌≤◌, Bool, true, false, ◌||◌, List, [], ◌∷◌, ◌++◌, length, map, filter, Option, Some, None, Result, Ok, Err, inl, inr, refl, sym, ap, ◌∙◌, subst, arith, append-nil, append_assoc}
use Rattle.std.specs.Prelude.{◌==◌}
use Rattle.std.specs.List.{AllByRecursion, find, list_any, slice_get}
use Rattle.std.proofs.lemmas.List.{length-append, length-map, map-append}
use Rattle.std.specs.Option.{option_map}
use Rattle.std.specs.Cmp.{IsEquivalence, IsTotalOrder, eq_by_cmp_equiv}
use Rattle.std.proofs.lemmas.Cmp.{nat_list_cmp_total}
use Rattle.std.specs.Ordering.{eq_by_cmp}
use Rattle.std.specs.declared.cmp.Ordering.{Ordering}
use Rattle.broadcast_core.proofs.Distinct.{by_test, or_false, or_none, or_right}
use Rattle.broadcast_core.specs.Carried.{Carried}
use Rattle.sha2.specs.Sha256.{sha256}
use Rattle.broadcast_core.specs.Setting.{own_digested}
use Rattle.broadcast_core.specs.Happening.{peers, broadcast, arrival, subscribe, get, cleanup}
use Rattle.broadcast_core.specs.Content.{among}
use Rattle.broadcast_core.specs.Peers.{primary}
use Rattle.broadcast_core.specs.Lists.{list}
use Rattle.broadcast_core.specs.Cache.{is_listed, message}
use Rattle.broadcast_core.specs.Setting.{whole}
use Rattle.broadcast_core.specs.TestMessage.{Parts, encoding_of, read_message}
use Rattle.broadcast_core.specs.Log.{after, arrived, is_refused}
use Rattle.broadcast_core.specs.Answers.{answer_to, answer_to_broadcast, answer_to_payload, answer_to_subscribe}
use Rattle.broadcast_core.specs.HasRun.{counted_in}
use Rattle.broadcast_core.specs.declared.codec.CodecError.{CodecError}
use Rattle.broadcast_core.specs.declared.ordered.Recipients.{Recipients}
use Rattle.broadcast_core.specs.declared.event.Event.TheVariants as event
use Rattle.broadcast_core.specs.declared.event.Answer.{Answer}
use Rattle.broadcast_world.specs.Packet.{Packet}
use Rattle.broadcast_world.specs.Scene.{Scene, State}
use Rattle.broadcast_world.specs.World.{Log, log_of, NodeEvent, NodeHistory, NodeMayAnswer, IsAnswer, AreAnswered, MayAnswer, accepted, addressed, at, delivery, event_of, packets_by, packets_to, history, history_with, made_by, node, packets, unless_refused}
use Rattle.broadcast_world.specs.Steps.{HasWorld, TakesSteps}
use Rattle.broadcast_world.specs.TwoRuns.{AreMoments, IsMoment, IsRun, is_hostile, without_hostile, refused_for_memory, NoneRefused, Corresponds, HasCleanCaches, HasCleanDigests, HasFewMoreDigests, HasHonestLists, admits}
use Rattle.broadcast_world.specs.Requests.{happened}
use Rattle.broadcast_world.specs.SameAnswers.{hands}
use Rattle.broadcast_world.proofs.Origins.{All-append, any-equal, at_place, found-passes}
use Rattle.broadcast_world.proofs.Merging.{Merged, both, attack, all, kept, attacked, all-append, attacked-append, kept-append, list-merged, listed-merged, listed-same, lists_of, lists_of-few, message-same}
use Rattle.broadcast_world.specs.declared.step.Step.{Step}
use Rattle.broadcast_world.specs.declared.step.Step.TheVariants.{Peers, Broadcast, Subscribe, Get, Cleanup, Deliver, Hostile}
use Rattle.broadcast_world.specs.declared.step.WorldAnswer.{WorldAnswer}
use Rattle.broadcast_world.specs.declared.step.WorldAnswer.TheVariants.{Given, NoSuch}

abbrev unencoded : Option (List ℕ) → Bool
unencoded None = true
unencoded (Some bytes) = false

-- whether an event is a broadcast without an encoding
abbrev unencodable : {P : Type 0} → NodeEvent P → Bool
unencodable (event.Broadcast r c) = unencoded (encoding_of c.message)
unencodable _ = false

module _ {P : Type 0} (cmp : P → P → Ordering) (w : Scene P) (n : P) where
  broadcast_refused : (r : Recipients P) (c : Carried Parts (List ℕ)) (o : Option (List ℕ)) (past : NodeHistory P) → is_refused (counted_in (answer_to_broadcast (at cmp w n) r c o past)) ≡ unencoded o
  broadcast_refused r c None past = refl
  broadcast_refused r c (Some bytes) past = refl

  payload_kept : (p : P) (r : Result Parts CodecError) (past : NodeHistory P) → is_refused (counted_in (answer_to_payload (at cmp w n) p r past)) ≡ false
  payload_kept p (Ok m) past = refl
  payload_kept p (Err why) past = refl

  subscribe_kept : (o : Option (Carried Parts (List ℕ))) → is_refused (counted_in (answer_to_subscribe (at cmp w n) o)) ≡ false
  subscribe_kept None = refl
  subscribe_kept (Some c) = refl

  -- whether the answer to an event is a refusal depends on the event alone
  answer_refused : (e : NodeEvent P) (past : NodeHistory P) → is_refused (counted_in (answer_to (at cmp w n) e past)) ≡ unencodable e
  answer_refused (event.Peers ps) past = refl
  answer_refused (event.Broadcast r c) past = broadcast_refused r c (encoding_of c.message) past
  answer_refused (event.Payload p b) past = payload_kept p (whole (read_message w.range) b) past
  answer_refused (event.Subscribe k d) past = subscribe_kept _
  answer_refused (event.Get k d) past = refl
  answer_refused (event.Cleanup gone) past = refl

  -- so, without an allocation failure, is whether the event was refused
  given_refused : (e : NodeEvent P) (past : NodeHistory P) (a : Answer Parts (List ℕ)) → NodeMayAnswer cmp w n e past a → refused_for_memory (Given a) ≡ false → is_refused a ≡ unencodable e
  given_refused e past a may none = elim may [
    | inl is ↦ ap is_refused is ∙ answer_refused e past
    | inr memory ↦ absurd (let no = sym (ap (λ b. refused_for_memory (Given b)) memory.0) ∙ none in cc)
  ]

pub without_hostile-append : {P : Type 0} (steps more : List (Step P)) → without_hostile (steps ++ more) ≡ without_hostile steps ++ without_hostile more
without_hostile-append [] more = refl
without_hostile-append (s ∷ steps) more = by_test (is_hostile s)
    (λ t. rw t (without_hostile-append steps more))
    (λ t. rw t (ap (λ ss. s ∷ ss) (without_hostile-append steps more)))

-- a run from a new world
pub IsRun-from : {P : Type 0} (cmp : P → P → Ordering) (steps : List (Step P)) (answers : List WorldAnswer) (old new : State P) → TakesSteps cmp [] steps answers old new → IsRun cmp steps answers new
IsRun-from cmp steps answers old new taken = record {
  one_each = taken.one_each;
  answered = subst (λ w. AreAnswered cmp w (log_of steps answers) []) (sym taken.scene) taken.answered;
  world = subst (λ l. HasWorld cmp l new) (append-nil (log_of steps answers)) taken.world;
}

-- the steps up to a moment were answered too
answered-until : {P : Type 0} (cmp : P → P → Ordering) (w : Scene P) (later now : Log P) → AreAnswered cmp w (later ++ now) [] → AreAnswered cmp w now []
answered-until cmp w [] now may = may
answered-until cmp w (x ∷ later) now may = answered-until cmp w later now may.1

module _ {P : Type 0} where
  -- an older moment
  moment-before : {now log : Log P} (x : Step P × WorldAnswer) → IsMoment (x ∷ now) log → IsMoment now log
  moment-before {now} x (later, is) = (later ++ x ∷ [], is ∙ sym (append_assoc later (x ∷ []) now))

  pub none-refused : (x : Step P × WorldAnswer) (now : Log P) → NoneRefused (x ∷ now) → (refused_for_memory x.1 ≡ false) × NoneRefused now
  none-refused x now none = or_false (refused_for_memory x.1) (list_any (λ z. refused_for_memory z.1) now) none

  module _ {log clean_log now clean : Log P} (x : Step P × WorldAnswer) where
    -- moments correspond one hostile step before too
    before-hostile : is_hostile x.0 ≡ true → AreMoments log clean_log (x ∷ now) clean → AreMoments log clean_log now clean
    before-hostile h are = record {
      reached = moment-before x are.reached;
      clean_reached = are.clean_reached;
      same_steps = rw h at are.same_steps;
      unrefused = (none-refused x now are.unrefused).1;
      unrefused_clean = are.unrefused_clean;
    }

    -- and one step before that is not hostile
    pub before : (y : Step P × WorldAnswer) → is_hostile x.0 ≡ false → AreMoments log clean_log (x ∷ now) (y ∷ clean) → (y.0 ≡ x.0) × AreMoments log clean_log now clean
    before y h are =
        let steps : y.0 ∷ map (λ z. z.0) clean ≡ x.0 ∷ without_hostile (map (λ z. z.0) now) = rw h at are.same_steps in
        let first : y.0 ≡ x.0 = cc in
        let rest : map (λ z. z.0) clean ≡ without_hostile (map (λ z. z.0) now) = cc in (
          first,
          record {
            reached = moment-before x are.reached;
            clean_reached = moment-before y are.clean_reached;
            same_steps = rest;
            unrefused = (none-refused x now are.unrefused).1;
            unrefused_clean = (none-refused y clean are.unrefused_clean).1;
          },
        )

-- no node has a hostile key
abbrev pub KeysApart : {P : Type 0} → (P → P → Ordering) → Scene P → Type 0
KeysApart {P} cmp w = (q : P) → list_any (eq_by_cmp cmp q) w.nodes ≡ true → list_any (eq_by_cmp cmp q) w.hostile ≡ false

-- x is the first element that passes, so it is an element
found-in : {P : Type 0} (same : P → P → Bool) (laws : IsEquivalence same) (test : P → Bool) (ps : List P) (x : P) → find test ps ≡ Some x → list_any (same x) ps ≡ true
found-in same laws test [] x h = absurd (let no = h in cc)
found-in same laws test (y ∷ ys) x h = by_test (test y)
    (λ t. let is : y ≡ x = (let k = rw t at h in cc) in rw (ap (same x) is ∙ laws.refl x) refl)
    (λ t. ap (λ b. same x y || b) (found-in same laws test ys x (rw t at h)) ∙ or_right (same x y))

module _ {P : Type 0} (cmp : P → P → Ordering) (total : IsTotalOrder cmp) (w : Scene P) where
  laws : IsEquivalence (eq_by_cmp cmp)
  laws = eq_by_cmp_equiv total

  abbrev pub hostile : P → Bool
  hostile p = list_any (eq_by_cmp cmp p) w.hostile

  pub hostile-alike : (p q : P) → eq_by_cmp cmp p q ≡ true → hostile p ≡ hostile q
  hostile-alike p q h = any-equal (eq_by_cmp cmp) laws p q w.hostile h

  abbrev pub Items : P → Type 0
  Items n = List (Merged ℕ ℕ (at cmp w n) hostile)

  -- what a hostile step makes of a node's history: nothing, or the arrival of a hostile key
  record Attacks (n : P) (step : Step P) (e : Option (P × NodeEvent P)) : Type 0 where
    items : Items n
    now : all items ≡ history_with cmp w n e []
    clean : kept items ≡ []
    handed : (d : List ℕ) → attacked d items ≡ true → hands cmp w n d step ≡ true

  attacks-none : (n : P) (step : Step P) → Attacks n step None
  attacks-none n step = record { items = []; now = refl; clean = refl; handed = λ d h. absurd (let no = h in cc) }

  attacks-read : (n from to : P) (bytes : List ℕ) (r : Result Parts CodecError) → hostile from ≡ true → eq_by_cmp cmp n to ≡ true → whole (read_message w.range) bytes ≡ r
      → (items : Items n) × (all items ≡ arrived (at cmp w n) from r []) × (kept items ≡ []) × ((d : List ℕ) → attacked d items ≡ true → hands cmp w n d (Hostile from to bytes) ≡ true)
  attacks-read n from to bytes (Ok m) h is read = (attack from (own_digested (at cmp w n) m) h ∷ [], refl, refl, λ d k. rw (h, is, read) (sym (or_none ((at cmp w n).same.digest d (sha256 m.content))) ∙ k))
  attacks-read n from to bytes (Err why) h is read = ([], refl, refl, λ d k. absurd (let no = k in cc))

  -- a key that names a node of an equal key
  names-same : (n to m : P) → node cmp w to ≡ Some m → eq_by_cmp cmp n m ≡ true → eq_by_cmp cmp n to ≡ true
  names-same n to m is t = laws.symm n to ∙ laws.congr to m n (found-passes (eq_by_cmp cmp to) w.nodes m is) ∙ laws.symm m n ∙ t

  attacks-at : (n from to : P) (bytes : List ℕ) (o : Option P) → hostile from ≡ true → node cmp w to ≡ o → Attacks n (Hostile from to bytes) (option_map (λ m. (m, event.Payload from bytes)) o)
  attacks-at n from to bytes None h is = attacks-none n (Hostile from to bytes)
  attacks-at n from to bytes (Some m) h is = by_test (eq_by_cmp cmp n m)
      (λ t. let read = attacks-read n from to bytes (whole (read_message w.range) bytes) h (names-same n to m is t) refl in
      record { items = read.0; now = rw t read.1; clean = read.2; handed = read.3 })
      (λ t. record { items = []; now = rw t refl; clean = refl; handed = λ d k. absurd (let no = k in cc) })

  attacks-accepted : (n : P) (step : Step P) (a : WorldAnswer) (e : Option (P × NodeEvent P)) → Attacks n step e → Attacks n step (unless_refused cmp w a e)
  attacks-accepted n step NoSuch e h = h
  attacks-accepted n step (Given a) e h = by_test (is_refused a) (λ t. rw t (attacks-none n step)) (λ t. rw t h)

  attacks : (n : P) (step : Step P) (sent : List (Packet P)) → is_hostile step ≡ true → Attacks n step (event_of cmp w step sent)
  attacks n (Peers k ps) sent h = absurd (let no = h in cc)
  attacks n (Broadcast k r c) sent h = absurd (let no = h in cc)
  attacks n (Subscribe k t d) sent h = absurd (let no = h in cc)
  attacks n (Get k t d) sent h = absurd (let no = h in cc)
  attacks n (Cleanup k gone) sent h = absurd (let no = h in cc)
  attacks n (Deliver k) sent h = absurd (let no = h in cc)
  attacks n (Hostile from to bytes) sent h = by_test (hostile from)
      (λ t. rw t (attacks-at n from to bytes (node cmp w to) t refl))
      (λ t. rw t (attacks-none n (Hostile from to bytes)))

  -- the event is at a node, and no payload of a hostile key
  abbrev IsHonestFrom : NodeEvent P → Type 0
  IsHonestFrom (event.Payload p b) = hostile p ≡ false
  IsHonestFrom _ = Unit {0}

  abbrev IsHonestAt : Option (P × NodeEvent P) → Type 0
  IsHonestAt None = Unit {0}
  IsHonestAt (Some e) = (hostile e.0 ≡ false) × IsHonestFrom e.1

  honest-accepted : (a : WorldAnswer) (e : Option (P × NodeEvent P)) → IsHonestAt e → IsHonestAt (unless_refused cmp w a e)
  honest-accepted NoSuch e h = h
  honest-accepted (Given a) e h = by_test (is_refused a) (λ t. rw t tt) (λ t. rw t h)

  sends-to : (n : P) (ps : List P) (o : Option (List ℕ)) → hostile n ≡ false → AllByRecursion (λ p. hostile p.sender ≡ false) (packets_to cmp w n ps o)
  sends-to n ps None h = tt
  sends-to n [] (Some bytes) h = tt
  sends-to n (p ∷ ps) (Some bytes) h = (h, sends-to n ps (Some bytes) h)

  sends-from : (n : P) (e : NodeEvent P) → hostile n ≡ false → AllByRecursion (λ p. hostile p.sender ≡ false) (packets_by cmp w n e)
  sends-from n (event.Broadcast r c) h = sends-to n (addressed cmp w n r) (encoding_of c.message) h
  sends-from n (event.Peers ps) h = tt
  sends-from n (event.Payload p b) h = tt
  sends-from n (event.Subscribe t d) h = tt
  sends-from n (event.Get t d) h = tt
  sends-from n (event.Cleanup gone) h = tt

  honest-sends : (e : Option (P × NodeEvent P)) → IsHonestAt e → AllByRecursion (λ p. hostile p.sender ≡ false) (made_by cmp w e)
  honest-sends None h = tt
  honest-sends (Some e) h = sends-from e.0 e.1 h.0

  -- what it makes of a node's history, it makes of both
  record Adds (n : P) (e : Option (P × NodeEvent P)) : Type 0 where
    items : Items n
    now : all items ≡ history_with cmp w n e []
    clean : kept items ≡ history_with cmp w n e []
    none : (d : List ℕ) → attacked d items ≡ false

  adds-read : (n from : P) (r : Result Parts CodecError) → hostile from ≡ false
      → (items : Items n) × (all items ≡ arrived (at cmp w n) from r []) × (kept items ≡ arrived (at cmp w n) from r []) × ((d : List ℕ) → attacked d items ≡ false)
  adds-read n from (Ok m) h = (both (arrival from (own_digested (at cmp w n) m)) h ∷ [], refl, refl, λ d. refl)
  adds-read n from (Err why) h = ([], refl, refl, λ d. refl)

  adds-event : (n : P) (e : NodeEvent P) → hostile n ≡ false → IsHonestFrom e
      → (items : Items n) × (all items ≡ after (at cmp w n) e []) × (kept items ≡ after (at cmp w n) e []) × ((d : List ℕ) → attacked d items ≡ false)
  adds-event n (event.Peers ps) h from = (both (peers ps) tt ∷ [], refl, refl, λ d. refl)
  adds-event n (event.Broadcast r c) h from = (both (broadcast r c) h ∷ [], refl, refl, λ d. refl)
  adds-event n (event.Payload p b) h from = adds-read n p (whole (read_message w.range) b) from
  adds-event n (event.Subscribe t d) h from = (both (subscribe t d) tt ∷ [], refl, refl, λ d. refl)
  adds-event n (event.Get t d) h from = (both (get t d) tt ∷ [], refl, refl, λ d. refl)
  adds-event n (event.Cleanup gone) h from = (both (cleanup (λ i k. list_any (λ x. k == x) gone)) (λ i j k. refl) ∷ [], refl, refl, λ d. refl)

  adds : (n : P) (e : Option (P × NodeEvent P)) → IsHonestAt e → Adds n e
  adds n None h = record { items = []; now = refl; clean = refl; none = λ d. refl }
  adds n (Some e) h = by_test (eq_by_cmp cmp n e.0)
      (λ t. let it = adds-event n e.1 (hostile-alike n e.0 t ∙ h.0) h.1 in
      record { items = it.0; now = rw t it.1; clean = rw t it.2; none = it.3 })
      (λ t. record { items = []; now = rw t refl; clean = rw t refl; none = λ d. refl })

  -- a hostile step sends no packet
  sends-none : (to : Option P) (from : P) (bytes : List ℕ) → made_by cmp w (option_map (λ n. (n, event.Payload from bytes)) to) ≡ []
  sends-none None from bytes = refl
  sends-none (Some n) from bytes = refl

  sends-unless : (a : WorldAnswer) (e : Option (P × NodeEvent P)) → made_by cmp w e ≡ [] → made_by cmp w (unless_refused cmp w a e) ≡ []
  sends-unless NoSuch e h = h
  sends-unless (Given a) e h = by_test (is_refused a) (λ t. rw t refl) (λ t. rw t h)

  attack-sends : (step : Step P) (sent : List (Packet P)) → is_hostile step ≡ true → made_by cmp w (event_of cmp w step sent) ≡ []
  attack-sends (Peers k ps) sent h = absurd (let no = h in cc)
  attack-sends (Broadcast k r c) sent h = absurd (let no = h in cc)
  attack-sends (Subscribe k t d) sent h = absurd (let no = h in cc)
  attack-sends (Get k t d) sent h = absurd (let no = h in cc)
  attack-sends (Cleanup k gone) sent h = absurd (let no = h in cc)
  attack-sends (Deliver k) sent h = absurd (let no = h in cc)
  attack-sends (Hostile from to bytes) sent h = by_test (hostile from)
      (λ t. rw t (sends-none (node cmp w to) from bytes))
      (λ t. rw t refl)

  -- what happens later comes in front of the history
  after-append : (n : P) (e : NodeEvent P) (past : NodeHistory P) → after (at cmp w n) e past ≡ after (at cmp w n) e [] ++ past
  after-append n (event.Peers ps) past = refl
  after-append n (event.Broadcast r c) past = refl
  after-append n (event.Payload p b) past = elim (whole (read_message w.range) b) as (λ r. arrived (at cmp w n) p r past ≡ arrived (at cmp w n) p r [] ++ past) [ Ok m ↦ refl | Err why ↦ refl ]
  after-append n (event.Subscribe t d) past = refl
  after-append n (event.Get t d) past = refl
  after-append n (event.Cleanup gone) past = refl

  with-append : (n : P) (e : Option (P × NodeEvent P)) (past : NodeHistory P) → history_with cmp w n e past ≡ history_with cmp w n e [] ++ past
  with-append n None past = refl
  with-append n (Some e) past = by_test (eq_by_cmp cmp n e.0) (λ t. rw t (after-append n e.1 past)) (λ t. rw t refl)

  pub history-append : (n : P) (newer older : Log P) → history cmp w n (newer ++ older) ≡ happened cmp w n newer older ++ history cmp w n older
  history-append n [] older = refl
  history-append n (x ∷ newer) older =
      let new = history_with cmp w n (accepted cmp w x (newer ++ older)) [] in
      with-append n (accepted cmp w x (newer ++ older)) (history cmp w n (newer ++ older)) ∙ ap (λ es. new ++ es) (history-append n newer older)
      ∙ sym (append_assoc new (happened cmp w n newer older) (history cmp w n older))

  -- one event, accepted or refused alike
  accepted_same : (e : Option (P × NodeEvent P)) (a b : WorldAnswer) (now clean : Log P) → IsAnswer cmp w e a now → IsAnswer cmp w e b clean → refused_for_memory a ≡ false → refused_for_memory b ≡ false
      → unless_refused cmp w a e ≡ unless_refused cmp w b e
  accepted_same None a b now clean may may_b none none_b = rw (may, may_b) refl
  accepted_same (Some e) NoSuch b now clean may may_b none none_b = absurd may
  accepted_same (Some e) (Given a) NoSuch now clean may may_b none none_b = absurd may_b
  accepted_same (Some e) (Given a) (Given b) now clean may may_b none none_b =
      let one : is_refused a ≡ is_refused b = given_refused cmp w e.0 e.1 (history cmp w e.0 now) a may none ∙ sym (given_refused cmp w e.0 e.1 (history cmp w e.0 clean) b may_b none_b) in
      rw one refl

  pub answered-last : (x : Step P × WorldAnswer) (log : Log P) → AreAnswered cmp w (x ∷ log) [] → MayAnswer cmp w x log
  answered-last x log may = subst (λ l. MayAnswer cmp w x l) (append-nil log) may.0

  -- what happens at a node since older moments, in both runs
  pub record Merges (older clean : Log P) (n : P) (newer newer_clean : Log P) : Type 0 where
    pub items : Items n
    pub now : all items ≡ happened cmp w n newer older
    pub kept : kept items ≡ happened cmp w n newer_clean clean
    pub handed : (d : List ℕ) → attacked d items ≡ true → list_any (λ x. hands cmp w n d x.0) newer ≡ true

  pub record SameSince (older clean newer newer_clean : Log P) : Type 0 where
    pub packets : packets cmp w (newer ++ older) ≡ packets cmp w (newer_clean ++ clean)
    pub merges : (n : P) → Merges older clean n newer newer_clean

  hostile-next : (older clean : Log P) (x : Step P × WorldAnswer) (newer newer_clean : Log P) → is_hostile x.0 ≡ true → SameSince older clean newer newer_clean → SameSince older clean (x ∷ newer) newer_clean
  hostile-next older clean x newer newer_clean h same =
      let sent = packets cmp w (newer ++ older) in
      let e = accepted cmp w x (newer ++ older) in
      record {
        packets = ap (λ ps. sent ++ ps) (sends-unless x.1 (event_of cmp w x.0 sent) (attack-sends x.0 sent h)) ∙ append-nil sent ∙ same.packets;
        merges = λ n.
            let was = same.merges n in
            let it = attacks-accepted n x.0 x.1 (event_of cmp w x.0 sent) (attacks n x.0 sent h) in
            record {
              items = it.items ++ was.items;
              now = all-append it.items was.items ∙ ap (λ es. es ++ all was.items) it.now ∙ ap (λ es. history_with cmp w n e [] ++ es) was.now;
              kept = kept-append it.items was.items ∙ ap (λ es. es ++ kept was.items) it.clean ∙ was.kept;
              handed = λ d t. let split = sym (attacked-append d it.items was.items) ∙ t in by_test (attacked d it.items)
                  (λ u. rw (it.handed d u) refl)
                  (λ u. ap (λ b. hands cmp w n d x.0 || b) (was.handed d (rw u at split)) ∙ or_right (hands cmp w n d x.0));
            };
      }

  module _ (keys_apart : KeysApart cmp w) where
    honest-at : (p : P) (e : NodeEvent P) (o : Option P) → node cmp w p ≡ o → IsHonestFrom e → IsHonestAt (option_map (λ n. (n, e)) o)
    honest-at p e None is h = tt
    honest-at p e (Some n) is h = (keys_apart n (found-in (eq_by_cmp cmp) laws (eq_by_cmp cmp p) w.nodes n is), h)

    honest-delivery : (sent : List (Packet P)) (k : ℕ) (o : Option (Packet P)) → slice_get sent k ≡ o → AllByRecursion (λ p. hostile p.sender ≡ false) sent → IsHonestAt (delivery cmp w o)
    honest-delivery sent k None is from = tt
    honest-delivery sent k (Some p) is from = honest-at p.addressee (event.Payload p.sender p.bytes) (node cmp w p.addressee) refl (at_place (λ q. hostile q.sender ≡ false) sent k p is from)

    honest-event : (step : Step P) (sent : List (Packet P)) → is_hostile step ≡ false → AllByRecursion (λ p. hostile p.sender ≡ false) sent → IsHonestAt (event_of cmp w step sent)
    honest-event (Peers k ps) sent h from = honest-at k (event.Peers ps) (node cmp w k) refl tt
    honest-event (Broadcast k r c) sent h from = honest-at k (event.Broadcast r c) (node cmp w k) refl tt
    honest-event (Subscribe k t d) sent h from = honest-at k (event.Subscribe t d) (node cmp w k) refl tt
    honest-event (Get k t d) sent h from = honest-at k (event.Get t d) (node cmp w k) refl tt
    honest-event (Cleanup k gone) sent h from = honest-at k (event.Cleanup gone) (node cmp w k) refl tt
    honest-event (Deliver k) sent h from = honest-delivery sent k (slice_get sent k) refl from
    honest-event (Hostile from to bytes) sent h senders = absurd (let no = h in cc)

    -- no packet is of a hostile key
    senders : (log : Log P) → AllByRecursion (λ p. hostile p.sender ≡ false) (packets cmp w log)
    senders [] = tt
    senders (x ∷ log) =
        let sent = packets cmp w log in
        All-append (λ p. hostile p.sender ≡ false) sent (made_by cmp w (accepted cmp w x log)) (senders log)
        (by_test (is_hostile x.0)
        (λ t. rw (sends-unless x.1 (event_of cmp w x.0 sent) (attack-sends x.0 sent t)) tt)
        (λ t. honest-sends (accepted cmp w x log) (honest-accepted x.1 (event_of cmp w x.0 sent) (honest-event x.0 sent t (senders log)))))

    -- both histories at corresponding moments
    pub record SameAt (now clean : Log P) (n : P) : Type 0 where
      pub items : Items n
      pub first : all items ≡ history cmp w n now
      pub second : kept items ≡ history cmp w n clean
      pub handed : (d : List ℕ) → attacked d items ≡ true → list_any (λ x. hands cmp w n d x.0) now ≡ true

    happened-all : (n : P) (log : Log P) → happened cmp w n log [] ≡ history cmp w n log
    happened-all n log = sym (append-nil (happened cmp w n log [])) ∙ sym (history-append n log []) ∙ ap (history cmp w n) (append-nil log)

    module _ (log clean_log : Log P) (may : AreAnswered cmp w log []) (may_clean : AreAnswered cmp w clean_log []) where
      pub until : (now : Log P) → IsMoment now log → AreAnswered cmp w now []
      until now moment = answered-until cmp w moment.0 now (subst (λ l. AreAnswered cmp w l []) moment.1 may)

      pub until_clean : (now : Log P) → IsMoment now clean_log → AreAnswered cmp w now []
      until_clean now moment = answered-until cmp w moment.0 now (subst (λ l. AreAnswered cmp w l []) moment.1 may_clean)

      honest-next : {older clean newer newer_clean : Log P} (x y : Step P × WorldAnswer) → is_hostile x.0 ≡ false → x.0 ≡ y.0 → AreMoments log clean_log (x ∷ newer ++ older) (y ∷ newer_clean ++ clean)
          → SameSince older clean newer newer_clean → SameSince older clean (x ∷ newer) (y ∷ newer_clean)
      honest-next {older} {clean} {newer} {newer_clean} x y h is are same =
          let now = newer ++ older in
          let now_clean = newer_clean ++ clean in
          let may_x = answered-last x now (until (x ∷ now) are.reached) in
          let may_y = answered-last y now_clean (until_clean (y ∷ now_clean) are.clean_reached) in
          let one : event_of cmp w y.0 (packets cmp w now_clean) ≡ event_of cmp w x.0 (packets cmp w now) = ap (λ s. event_of cmp w s (packets cmp w now_clean)) (sym is) ∙ ap (event_of cmp w x.0) (sym same.packets) in
          let alike : accepted cmp w x now ≡ accepted cmp w y now_clean =
          accepted_same (event_of cmp w x.0 (packets cmp w now)) x.1 y.1 now now_clean may_x (subst (λ e. IsAnswer cmp w e y.1 now_clean) one may_y) (none-refused x now are.unrefused).0 (none-refused y now_clean are.unrefused_clean).0
          ∙ ap (unless_refused cmp w y.1) (sym one) in
          record {
            packets = ap (λ ps. ps ++ made_by cmp w (accepted cmp w x now)) same.packets ∙ ap (λ e. packets cmp w now_clean ++ made_by cmp w e) alike;
            merges = λ n.
                let was = same.merges n in
                let it = adds n (accepted cmp w x now) (honest-accepted x.1 (event_of cmp w x.0 (packets cmp w now)) (honest-event x.0 (packets cmp w now) h (senders now))) in
                record {
                  items = it.items ++ was.items;
                  now = all-append it.items was.items ∙ ap (λ es. es ++ all was.items) it.now ∙ ap (λ es. history_with cmp w n (accepted cmp w x now) [] ++ es) was.now;
                  kept = kept-append it.items was.items ∙ ap (λ es. es ++ kept was.items) (it.clean ∙ ap (λ e. history_with cmp w n e []) alike) ∙ ap (λ es. history_with cmp w n (accepted cmp w y now_clean) [] ++ es) was.kept;
                  handed = λ d t. let split = sym (attacked-append d it.items was.items) ∙ t in ap (λ b. hands cmp w n d x.0 || b) (was.handed d (rw (it.none d) at split)) ∙ or_right (hands cmp w n d x.0);
                };
          }

      -- a step that is not hostile is the newest of both runs
      same-honest : (older clean : Log P) (x : Step P × WorldAnswer) (newer newer_clean : Log P) → Corresponds older clean → is_hostile x.0 ≡ false → AreMoments log clean_log (x ∷ newer ++ older) (newer_clean ++ clean)
          → ((others : Log P) → AreMoments log clean_log (newer ++ older) (others ++ clean) → SameSince older clean newer others)
          → SameSince older clean (x ∷ newer) newer_clean
      same-honest older clean x newer [] base h are so_far = absurd (omega (
        arith,
        ap (λ ss. length ss) base,
        ap (λ ss. length ss) (rw h at are.same_steps),
        length-append (without_hostile (map (λ y. y.0) newer)) (without_hostile (map (λ y. y.0) older)),
        ap (λ ss. length (without_hostile ss)) (map-append (λ y. y.0) newer older),
        ap (λ ss. length ss) (without_hostile-append (map (λ y. y.0) newer) (map (λ y. y.0) older)),
      ))
      same-honest older clean x newer (y ∷ newer_clean) base h are so_far =
          let prior = before x y h are in
          honest-next x y h (sym prior.0) are (so_far newer_clean prior.1)

      same-since : (older clean : Log P) → packets cmp w older ≡ packets cmp w clean → Corresponds older clean → (newer newer_clean : Log P)
          → AreMoments log clean_log (newer ++ older) (newer_clean ++ clean) → SameSince older clean newer newer_clean
      same-since older clean sent base [] [] are = record { packets = sent; merges = λ n. record { items = []; now = refl; kept = refl; handed = λ d h. absurd (let no = h in cc) } }
      same-since older clean sent base [] (y ∷ newer_clean) are =
          absurd (omega (arith, ap (λ ss. length ss) (are.same_steps ∙ sym base), length-map newer_clean (λ z. z.0), length-map clean (λ z. z.0), length-map (newer_clean ++ clean) (λ z. z.0), length-append newer_clean clean))
      same-since older clean sent base (x ∷ newer) newer_clean are = by_test (is_hostile x.0)
          (λ t. hostile-next older clean x newer newer_clean t (same-since older clean sent base newer newer_clean (before-hostile x t are)))
          (λ t. same-honest older clean x newer newer_clean base t are (λ others moments. same-since older clean sent base newer others moments))

      from-new : (now clean : Log P) → AreMoments log clean_log now clean → SameSince [] [] now clean
      from-new now clean are = same-since [] [] refl refl now clean (rw (append-nil now, append-nil clean) are)

      pub packets-at : (now clean : Log P) → AreMoments log clean_log now clean → packets cmp w now ≡ packets cmp w clean
      packets-at now clean are = ap (packets cmp w) (sym (append-nil now)) ∙ (from-new now clean are).packets ∙ ap (packets cmp w) (append-nil clean)

      pub same-at : (now clean : Log P) → AreMoments log clean_log now clean → (n : P) → SameAt now clean n
      same-at now clean are n =
          let it = (from-new now clean are).merges n in
          record { items = it.items; first = it.now ∙ happened-all n now; second = it.kept ∙ happened-all n clean; handed = it.handed }

      pub same-after : (asked newer clean newer_clean : Log P) → AreMoments log clean_log asked clean → AreMoments log clean_log (newer ++ asked) (newer_clean ++ clean) → (n : P) → Merges asked clean n newer newer_clean
      same-after asked newer clean newer_clean at_first at_last n = (same-since asked clean (packets-at asked clean at_first) at_first.same_steps newer newer_clean at_last).merges n

      pub HasHonestLists-from : HasHonestLists cmp w log clean_log
      HasHonestLists-from = λ now clean are n p h.
          let it = same-at now clean are n in
          ap (list (at cmp w n) p) (sym it.first) ∙ list-merged ℕ ℕ (at cmp w n) hostile hostile-alike p it.items h ∙ ap (list (at cmp w n) p) it.second

      pub HasCleanDigests-from : HasCleanDigests cmp w log clean_log
      HasCleanDigests-from = λ now clean are n admits d.
          let it = same-at now clean are n in
          ap (is_listed (at cmp w n) d) (sym it.first) ∙ listed-same ℕ ℕ (at cmp w n) hostile hostile-alike d it.items (ap (λ es. list_any hostile (primary (at cmp w n) es)) it.first ∙ admits) ∙ ap (is_listed (at cmp w n) d) it.second

      pub HasFewMoreDigests-from : HasFewMoreDigests cmp w log clean_log
      HasFewMoreDigests-from = λ now clean are n.
          let it = same-at now clean are n in
          let s = at cmp w n in
          let more = lists_of ℕ ℕ s hostile hostile-alike (filter hostile (primary s (all it.items))) (all it.items) in
          record {
            more = more;
            few = subst (λ es. length more ≤ w.deque_size * length (filter hostile (primary s es))) it.first (lists_of-few ℕ ℕ s hostile hostile-alike (eq_by_cmp_equiv nat_list_cmp_total) (filter hostile (primary s (all it.items))) (all it.items));
            cached = λ d. ap (is_listed s d) (sym it.first) ∙ listed-merged ℕ ℕ s hostile hostile-alike d it.items ∙ ap (λ es. is_listed s d es || among s.same.digest d more) it.second;
          }

      pub HasCleanCaches-from : HasCleanCaches cmp w log clean_log
      HasCleanCaches-from = λ now clean are n admitted d.
          let it = same-at now clean are n in
          ap (message (at cmp w n) d) (sym it.first) ∙ message-same ℕ ℕ (at cmp w n) hostile hostile-alike d it.items (ap (list_any (admits cmp w)) it.first ∙ admitted) ∙ ap (message (at cmp w n) d) it.second
