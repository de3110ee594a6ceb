-- Believed.
-- What a key's list depends on.
use Rattle.std.specs.Prelude.{◌≡◌, Bool, IsTrue, List, [], ◌∷◌, ◌++◌, map}
use Rattle.std.specs.List.{AllZip, list_any}
use Rattle.entries.specs.declared.entry.Charged.{Charged}
use Rattle.broadcast_core.specs.Setting.{Setting}
use Rattle.broadcast_core.specs.Happening.{History, peers, taken}
use Rattle.broadcast_core.specs.Lists.{digest_under}

-- what concerns a key: a peer set, by whether it holds the key, or a digest taken under the key within
-- the budget, with its charge
pub data Concern (D : Type 0) : Type 0 where
  peer_set : Bool → Concern D
  digest : Charged D → Concern D

module _ {P M D W V : Type 0} (s : Setting P M D) where
  -- what concerns the key in a history, the newest first
  abbrev pub concerns : P → History P M D W V → List (Concern D)
  concerns p [] = []
  concerns p (peers ps ∷ older) = peer_set (list_any (s.same.key p) ps) ∷ concerns p older
  concerns p (e ∷ older) = map digest (digest_under s p (taken s e)) ++ concerns p older

-- the two concerns are the same, or their digests are equal and their charges the same
abbrev pub IsAlike : {D : Type 0} → (D → D → Bool) → Concern D → Concern D → Type 0
IsAlike same (peer_set a) (peer_set b) = a ≡ b
IsAlike same (digest d) (digest e) = IsTrue (same d.digest e.digest) × (d.charge ≡ e.charge)
IsAlike same _ _ = ⊥

-- the lists of concerns are alike, place by place
abbrev pub AreAlike : {D : Type 0} → (D → D → Bool) → List (Concern D) → List (Concern D) → Type 0
AreAlike same cs ds = AllZip (IsAlike same) cs ds

-- the lists of digests are equal, place by place
abbrev pub AreEqual : {D : Type 0} → (D → D → Bool) → List D → List D → Type 0
AreEqual same ds es = AllZip (λ d e. IsTrue (same d e)) ds es
