-- What an event makes of one node.
use Rattle.std.proofs.Common.{◌≡◌, ℕ, ◌<◌, true, List, [], ◌∷◌, length, get_or, Option, Some, None, inl, inr, refl, sym, ap, subst}
use Rattle.std.proofs.lemmas.Option.{slice_get-get_or}
use Rattle.std.specs.Prelude.{slice_set, is_some}
use Rattle.std.specs.List.{AllZip, slice_get}
use Rattle.std.specs.Option.{option_map}
use Rattle.std.specs.Cmp.{IsTotalOrder, eq_by_cmp_equiv}
use Rattle.std.specs.Ordering.{eq_by_cmp}
use Rattle.broadcast_world.proofs.Places.{find-equal, set_same}
use Rattle.std.specs.declared.cmp.Ordering.{Ordering}
use Rattle.broadcast_core.specs.Carried.{Carried}
use Rattle.broadcast_core.specs.TestMessage.{Parts, encoding_of}
use Rattle.broadcast_core.specs.declared.ordered.Recipients.{Recipients}
use Rattle.broadcast_core.specs.declared.event.Cause.{Cause}
use Rattle.broadcast_core.specs.declared.event.Cause.TheVariants.{Memory, Unencodable}
use Rattle.broadcast_core.specs.declared.event.Answer.TheVariants.{Refused}
use Rattle.broadcast_core.specs.declared.event.Event.TheVariants.{Broadcast}
use Rattle.broadcast_core.specs.declared.event.Answer.{Answer}
use Rattle.broadcast_world.specs.Scene.{Scene}
use Rattle.broadcast_world.specs.World.{NodeEvent, addressed, event_at, made_by, packets_to}
use Rattle.broadcast_world.specs.Packet.{Packet}
use Rattle.broadcast_world.specs.Nodes.{AreEmpty, AtNode, NodeFollows}
use Rattle.broadcast_core.specs.Empty.{empty}
use Rattle.broadcast_world.specs.Steps.{AreCopies, HasNode, NodeContent}
use Rattle.broadcast_world.specs.declared.step.WorldAnswer.TheVariants.{Given, NoSuch}

module _ {P : Type 0} (cmp : P → P → Ordering) (w : Scene P) where
  -- the node that a key names gives its answer, and no other changes
  pub AtNode-given : {named : Option P} (n : P) {e : NodeEvent P} (place : ℕ) (old : List (NodeContent P)) {before core : NodeContent P} {a : Answer Parts (List ℕ)}
      → named ≡ Some n → slice_get w.nodes place ≡ Some n → slice_get old place ≡ Some before → NodeFollows cmp w n e before core a
      → AtNode cmp w (option_map (λ m. (m, e)) named) old (slice_set old place core) (Given a)
  AtNode-given n place old is node was follows =
      rw is (_, refl, record { place = place; is_node = node; before = _; was = was; core = _; only = refl; follows = follows })

  -- a key that names none
  pub AtNode-none : (named : Option P) (e : NodeEvent P) (cores : List (NodeContent P)) → named ≡ None → AtNode cmp w (option_map (λ m. (m, e)) named) cores cores NoSuch
  AtNode-none named e cores is = rw is (refl, refl)

  -- the node's content stays
  pub AtNode-kept : {named : Option P} (n : P) {e : NodeEvent P} (place : ℕ) (cores : List (NodeContent P)) {before : NodeContent P} {a : Answer Parts (List ℕ)}
      → named ≡ Some n → slice_get w.nodes place ≡ Some n → slice_get cores place ≡ Some before → NodeFollows cmp w n e before before a
      → AtNode cmp w (option_map (λ m. (m, e)) named) cores cores (Given a)
  AtNode-kept n place cores is node was follows =
      rw is (_, refl, record { place = place; is_node = node; before = _; was = was; core = _; only = sym (set_same cores place _ was); follows = follows })

  -- an allocation failure changes nothing
  pub NodeFollows-refused : (n : P) (r : Recipients P) (c : Carried Parts (List ℕ)) (core : NodeContent P) → is_some (encoding_of c.message) ≡ true
      → NodeFollows cmp w n (Broadcast r c) core core (Refused Memory)
  NodeFollows-refused n r c core encoded = λ past has. record { answered = inr (refl, encoded); content = has }

  NodeFollows-unencodable : (n : P) (r : Recipients P) (c : Carried Parts (List ℕ)) (core : NodeContent P) → encoding_of c.message ≡ None
      → NodeFollows cmp w n (Broadcast r c) core core (Refused Unencodable)
  NodeFollows-unencodable n r c core none = λ past has. record { answered = inl (rw none refl); content = has }

  -- nor does a message without an encoding
  pub NodeFollows-cause : (n : P) (r : Recipients P) (c : Carried Parts (List ℕ)) (core : NodeContent P) (cause : Cause)
      → (cause ≡ Memory → is_some (encoding_of c.message) ≡ true) → (cause ≡ Unencodable → encoding_of c.message ≡ None)
      → NodeFollows cmp w n (Broadcast r c) core core (Refused cause)
  NodeFollows-cause n r c core Memory memory none = NodeFollows-refused n r c core (memory refl)
  NodeFollows-cause n r c core Unencodable memory none = NodeFollows-unencodable n r c core (none refl)

  no_history : (n : P) (core : NodeContent P) → eq_by_cmp cmp n core.own ≡ true → core ≡ empty core.own w.deque_size w.byte_budget → HasNode cmp w n [] core
  no_history n core own is = subst (HasNode cmp w n []) (sym is) (record {
    own = own;
    deque_size = refl;
    byte_budget = refl;
    primary = tt;
    lists = λ p. refl;
    cached = λ d. refl;
    waiters = λ d. refl;
  })

  nothing_kept : P → NodeContent P
  nothing_kept own = empty own 0 0

  -- no content changes
  pub AtNode-refused : {named : Option P} (n : P) {e : NodeEvent P} (place : ℕ) (cores : List (NodeContent P)) {a : Answer Parts (List ℕ)}
      → named ≡ Some n → slice_get w.nodes place ≡ Some n → place < length cores → ((core : NodeContent P) → NodeFollows cmp w n e core core a)
      → AtNode cmp w (option_map (λ m. (m, e)) named) cores cores (Given a)
  AtNode-refused n place cores is node within follows =
      let before = get_or cores place (nothing_kept n) in
      AtNode-kept n place cores is node (slice_get-get_or cores place (nothing_kept n) within) (follows before)

  -- the event at the node that a key names, and at that which an equal key names
  pub event_at-equal : IsTotalOrder cmp → (p q : P) (e : NodeEvent P) → eq_by_cmp cmp p q ≡ true → event_at cmp w p e ≡ event_at cmp w q e
  event_at-equal total p q e h = ap (option_map (λ m. (m, e))) (find-equal (eq_by_cmp cmp) (eq_by_cmp_equiv total) p q w.nodes h)

  -- the packets of a broadcast at the node that a key names
  pub made_by-broadcast : (named : Option P) (n : P) {sender : P} (r : Recipients P) (c : Carried Parts (List ℕ)) {bytes : List ℕ} (made : List (Packet P))
      → named ≡ Some n → sender ≡ n → encoding_of c.message ≡ Some bytes → AreCopies cmp made (packets_to cmp w sender (addressed cmp w sender r) (Some bytes))
      → AreCopies cmp made (made_by cmp w (option_map (λ m. (m, Broadcast r c)) named))
  made_by-broadcast named n r c {bytes} made is from encoded h = rw is (rw encoded (subst (λ m. AreCopies cmp made (packets_to cmp w m (addressed cmp w m r) (Some bytes))) from h))

  -- nothing has happened at any node
  pub contents-empty : (keys : List P) (cores : List (NodeContent P)) → AreEmpty cmp w.deque_size w.byte_budget keys cores → AllZip (λ n core. HasNode cmp w n [] core) keys cores
  contents-empty [] [] h = tt
  contents-empty [] (core ∷ cores) h = absurd h
  contents-empty (n ∷ keys) [] h = absurd h
  contents-empty (n ∷ keys) (core ∷ cores) h = (no_history n core h.0.0 h.0.1, contents-empty keys cores h.1)
