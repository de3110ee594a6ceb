-- Believed.
-- The nodes of a network, by their mail.
use Rattle.std.specs.Prelude.{◌≡◌, Bool, true, not, List}
use Rattle.std.specs.List.{AllZip, filter, list_any}
use Rattle.std.specs.Ordering.{eq_by_cmp}
use Rattle.std.specs.declared.cmp.Ordering.{Ordering}
use Rattle.memory_network.specs.declared.mail.Mail.{Mail}

-- the key under which a node sends, and the mail of the nodes that it sends to
pub record Sending (P : Type 0) : Type 0 where
  pub key : P
  pub others : List (Mail P)

-- the nodes have these keys, in their order
abbrev pub AreNodesOf : {P : Type 0} → (P → P → Ordering) → List P → List (Mail P) → Type 0
AreNodesOf cmp keys mails = AllZip (λ key mail. eq_by_cmp cmp key mail.key ≡ true) keys mails

module _ {P : Type 0} (cmp : P → P → Ordering) (key : P) where
  -- a node has the key
  abbrev pub has_node : List (Mail P) → Bool
  has_node mails = list_any (λ mail. eq_by_cmp cmp mail.key key) mails

  -- the mail of all nodes but the one with the key
  abbrev pub others_of : List (Mail P) → List (Mail P)
  others_of mails = filter (λ mail. not (eq_by_cmp cmp mail.key key)) mails
