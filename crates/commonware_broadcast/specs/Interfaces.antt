-- Believed.
-- What an engine is over: how messages are read, and what its sources and sinks tell.
use Rattle.std.specs.Prelude.{◌≡◌, ℕ, Bool, List, Option, Result}
use Rattle.std.specs.declared.cmp.Ordering.{Ordering}
use Rattle.broadcast_core.specs.Carried.{Carried}
use Rattle.broadcast_core.specs.Setting.{whole, Setting}
use Rattle.broadcast_core.specs.Content.{Same, same_by}
use Rattle.broadcast_core.specs.declared.codec.CodecError.{CodecError}
use Rattle.broadcast_mailbox.specs.declared.buffered.ingress.message.Message.{Message}
use Rattle.engine_io.specs.declared.network.Provider.{Ghosts as Provider}
use Rattle.engine_io.specs.declared.network.Receiver.{Ghosts as Receiver}
use Rattle.engine_io.specs.declared.network.Sender.{Ghosts as Sender}
use Rattle.engine_io.specs.declared.outlet.Outlet.{Ghosts as Outlet}
use Rattle.engine_io.specs.declared.requests.Requests.{Ghosts as Requests}
use Rattle.engine_io.specs.Replies.{Asker}

-- when keys and digests are equal, and how messages are encoded, digested and read
pub record Format (P M D C : Type 0) : Type 0 where
  pub same : Same P D
  pub encoding : M → Option (List ℕ)
  pub digest_of : M → D
  pub reading : C → List ℕ → Result M CodecError

-- by the order of keys and that of digests, and what reads a message from the front of bytes
abbrev pub format_of : {P M D C : Type 0} → (P → P → Ordering) → (D → D → Ordering)
    → (M → Option (List ℕ)) → (M → D) → (C → List ℕ → Result (M × ℕ) CodecError) → Format P M D C
format_of key digest encoding digest_of reading = record {
  same = same_by key digest;
  encoding = encoding;
  digest_of = digest_of;
  reading = λ cfg. whole (reading cfg);
}

-- the setting is that of an engine of this format, with this configuration of the codec and this
-- flag of its sends
pub record IsSetting {P M D C : Type 0} (f : Format P M D C) (config : C) (flag : Bool)
    (s : Setting P M D) : Type 0 where
  pub same : s.same ≡ f.same
  pub encoding : s.encoding ≡ f.encoding
  pub priority : s.priority ≡ flag
  pub digest_of : s.digest_of ≡ f.digest_of
  pub reading : s.reading ≡ f.reading config

-- those who wait and may answer closed, the job that digests a message, the outlet of replies, the
-- network, and where peer sets and requests come from
pub record Interfaces (P M D S G O J N V B Q : Type 0) : Type 1 where
  pub may_answer : Asker S → Bool → Type 0
  pub is_of : J → M → Type 0
  pub outlet : Outlet O S G (Carried M D) (Option (Carried M D))
  pub sender : Sender N P
  pub receiver : Receiver V P
  pub provider : Provider B P
  pub requests : Requests Q (Message P M S G D) D

-- a waiter answers as its responder does
abbrev pub by_responder : {S : Type 0} → (S → Bool → Type 0) → Asker S → Bool → Type 0
by_responder may_answer waiter answer = may_answer waiter.responder answer

-- what an engine is over
abbrev pub over : {P M D S G O J N V B Q : Type 0} → (S → Bool → Type 0) → (J → M → Type 0)
    → Outlet O S G (Carried M D) (Option (Carried M D)) → Sender N P → Receiver V P → Provider B P
    → Requests Q (Message P M S G D) D → Interfaces P M D S G O J N V B Q
over may_answer is_of outlet sender receiver provider requests = record {
  may_answer = by_responder may_answer;
  is_of = is_of;
  outlet = outlet;
  sender = sender;
  receiver = receiver;
  provider = provider;
  requests = requests;
}
