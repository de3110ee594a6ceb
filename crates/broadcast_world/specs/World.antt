-- Believed.
-- Which event each step gives a node, which packets are sent, and what the nodes answer.
use Rattle.std.specs.Prelude.{◌≡◌, ℕ, Bool, true, false, if◌then◌else◌, IsTrue, List, [], ◌∷◌, ◌++◌, map, reverse, Option, None, Some, ◌⊎◌}
use Rattle.std.specs.Option.{option_map}
use Rattle.std.specs.List.{filter_map, find, list_any, slice_get, zip}
use Rattle.std.specs.Ordering.{eq_by_cmp, nat_cmp}
use Rattle.std.specs.Cmp.Lexicographic.{slice_cmp}
use Rattle.std.specs.declared.cmp.Ordering.{Ordering}
use Rattle.sha2.specs.Sha256.{sha256}
use Rattle.broadcast_core.specs.Setting.{whole, Setting, setting}
use Rattle.broadcast_core.specs.Content.{same_by, first_places, without}
use Rattle.broadcast_core.specs.TestMessage.{Parts, encoding_of, read_message}
use Rattle.broadcast_core.specs.Happening.{History}
use Rattle.broadcast_core.specs.Log.{after, is_refused}
use Rattle.broadcast_core.specs.Answers.{answer_to, may_allocate}
use Rattle.broadcast_core.specs.HasRun.{counted_in}
use Rattle.broadcast_core.specs.declared.ordered.Recipients.{Recipients}
use Rattle.broadcast_core.specs.declared.ordered.Recipients.TheVariants as to
use Rattle.broadcast_core.specs.declared.event.Event.{Event}
use Rattle.broadcast_core.specs.declared.event.Event.TheVariants as event
use Rattle.broadcast_core.specs.declared.event.Cause.TheVariants.{Memory}
use Rattle.broadcast_core.specs.declared.event.Answer.{Answer}
use Rattle.broadcast_core.specs.declared.event.Answer.TheVariants as answer
use Rattle.broadcast_world.specs.Packet.{Packet}
use Rattle.broadcast_world.specs.Scene.{Scene}
use Rattle.broadcast_world.specs.declared.step.Step.{Step}
use Rattle.broadcast_world.specs.declared.step.Step.TheVariants.{Peers, Broadcast, Subscribe, Get, Cleanup, Deliver, Hostile}
use Rattle.broadcast_world.specs.declared.step.WorldAnswer.{WorldAnswer}
use Rattle.broadcast_world.specs.declared.step.WorldAnswer.TheVariants.{Given, NoSuch}

abbrev pub NodeEvent : Type 0 → Type 0
NodeEvent P = Event P Parts (List ℕ)

abbrev pub NodeHistory : Type 0 → Type 0
NodeHistory P = History P Parts (List ℕ) ℕ ℕ

-- steps with their answers, the newest first
abbrev pub Log : Type 0 → Type 0
Log P = List (Step P × WorldAnswer)

abbrev pub log_of : {P : Type 0} → List (Step P) → List WorldAnswer → Log P
log_of steps answers = reverse (zip steps answers)

module _ {P : Type 0} (cmp : P → P → Ordering) (w : Scene P) where
  -- when two keys are equal
  abbrev pub same : P → P → Bool
  same = eq_by_cmp cmp

  -- what the history of the node with this key is read by
  abbrev pub at : P → Setting P Parts (List ℕ)
  at own = setting own w.deque_size w.byte_budget false (same_by cmp (slice_cmp nat_cmp))
      (λ m. sha256 m.content) encoding_of (whole (read_message w.range))

  -- the node that a key names
  abbrev pub node : P → Option P
  node p = find (same p) w.nodes

  -- an event at the node that a key names
  abbrev pub event_at : P → NodeEvent P → Option (P × NodeEvent P)
  event_at p e = option_map (λ n. (n, e)) (node p)

  -- the payload that a packet is, at its addressee
  abbrev pub delivery : Option (Packet P) → Option (P × NodeEvent P)
  delivery None = None
  delivery (Some p) = event_at p.addressee (event.Payload p.sender p.bytes)

  -- the event that a step gives a node, by the packets sent before; none if the step names an
  -- unknown node, an unsent packet or an unknown hostile key
  abbrev pub event_of : Step P → List (Packet P) → Option (P × NodeEvent P)
  event_of (Peers n ps) sent = event_at n (event.Peers ps)
  event_of (Broadcast n r c) sent = event_at n (event.Broadcast r c)
  event_of (Subscribe n t d) sent = event_at n (event.Subscribe t d)
  event_of (Get n t d) sent = event_at n (event.Get t d)
  event_of (Cleanup n gone) sent = event_at n (event.Cleanup gone)
  event_of (Deliver k) sent = delivery (slice_get sent k)
  event_of (Hostile from n bytes) sent =
      if list_any (same from) w.hostile then event_at n (event.Payload from bytes) else None

  -- the keys that recipients name
  abbrev pub named : Recipients P → List P
  named to.All = w.nodes
  named (to.Some ps) = ps
  named (to.One p) = p ∷ []

  -- the nodes other than n that keys name, each at its first mention
  abbrev pub addressed_of : P → List P → List P
  addressed_of n ps = without same n (first_places same (filter_map node ps))

  -- the nodes that a broadcast at node n is addressed to
  abbrev pub addressed : P → Recipients P → List P
  addressed n r = addressed_of n (named r)

  -- one packet for each of them
  abbrev pub packets_to : P → List P → Option (List ℕ) → List (Packet P)
  packets_to n ps None = []
  packets_to n ps (Some bytes) = map (λ p. record { sender = n; addressee = p; bytes = bytes }) ps

  -- the packets that an accepted event makes
  abbrev pub packets_by : P → NodeEvent P → List (Packet P)
  packets_by n (event.Broadcast r c) = packets_to n (addressed n r) (encoding_of c.message)
  packets_by n _ = []

  abbrev pub made_by : Option (P × NodeEvent P) → List (Packet P)
  made_by None = []
  made_by (Some e) = packets_by e.0 e.1

  -- the event, unless it was refused
  abbrev pub unless_refused : WorldAnswer → Option (P × NodeEvent P) → Option (P × NodeEvent P)
  unless_refused NoSuch e = e
  unless_refused (Given a) e = if is_refused a then None else e

  -- the packets of a log, in the order of their making
  abbrev pub packets : Log P → List (Packet P)
  packets [] = []
  packets (x ∷ log) = packets log ++ made_by (unless_refused x.1 (event_of x.0 (packets log)))

  -- the event that a node accepted at a step, after the log before it
  abbrev pub accepted : Step P × WorldAnswer → Log P → Option (P × NodeEvent P)
  accepted x log = unless_refused x.1 (event_of x.0 (packets log))

  abbrev pub history_with : P → Option (P × NodeEvent P) → NodeHistory P → NodeHistory P
  history_with n None past = past
  history_with n (Some e) past = if same n e.0 then after (at n) e.1 past else past

  -- the history of a node: the events that it accepted
  abbrev pub history : P → Log P → NodeHistory P
  history n [] = []
  history n (x ∷ log) = history_with n (accepted x log) (history n log)

  -- a node keeps a copy of a peer set, so here a peer set may be refused too
  abbrev pub may_be_refused : P → NodeEvent P → NodeHistory P → Bool
  may_be_refused n (event.Peers ps) past = true
  may_be_refused n e past = may_allocate (at n) e past

  -- what an event at a node may be answered
  abbrev pub NodeMayAnswer : P → NodeEvent P → NodeHistory P → Answer Parts (List ℕ) → Type 0
  NodeMayAnswer n e past a =
      (a ≡ counted_in (answer_to (at n) e past)) ⊎ ((a ≡ answer.Refused Memory) × IsTrue (may_be_refused n e past))

  abbrev pub IsAnswer : Option (P × NodeEvent P) → WorldAnswer → Log P → Type 0
  IsAnswer None a log = a ≡ NoSuch
  IsAnswer (Some e) NoSuch log = ⊥
  IsAnswer (Some e) (Given a) log = NodeMayAnswer e.0 e.1 (history e.0 log) a

  -- what a step may be answered after a log: the answer of its node to its event, or `NoSuch` if it
  -- gives none
  abbrev pub MayAnswer : Step P × WorldAnswer → Log P → Type 0
  MayAnswer x log = IsAnswer (event_of x.0 (packets log)) x.1 log

  -- each step of the newer ones is answered so after those before it
  abbrev pub AreAnswered : Log P → Log P → Type 0
  AreAnswered [] older = Unit {0}
  AreAnswered (x ∷ newer) older = MayAnswer x (newer ++ older) × AreAnswered newer older
