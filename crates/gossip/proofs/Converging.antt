-- Two histories of one set of messages come to one list.
use Rattle.std.proofs.Common.{◌≡◌, ◌<◌, ℕ, true, false, Bool, List, [], ◌∷◌, arith, refl, sym, subst, ap, ◌∙◌, inl, inr}
use Rattle.std.specs.Prelude.{nat_eq, not, ◌&&◌, ◌||◌, if◌then◌else◌}
use Rattle.std.proofs.lemmas.Bool.{eqb-true}
use Rattle.gossip.specs.declared.message.Message.{Message}
use Rattle.gossip.specs.Newest.{is_sound, has_stamp, received, Rise, HaveTheSame, IsOneAStamp}
use Rattle.gossip.specs.Held.{Held, after_all, heard}
use Rattle.gossip.specs.Members.{Has}
use Rattle.gossip.proofs.Keeping.{in_order, kept, rise_in_order}
use Rattle.gossip.proofs.Fitting.{has_from, contains_from, above, members_are, members_were}
use Rattle.gossip.proofs.Running.{final}

AreIn : List Message → List Message → Type 0
AreIn xs ys = (m : Message) → Has xs m → Has ys m

-- two lists in order with the same messages are one
heads : (f g : ℕ) (x y : Message) (xs ys : List Message) → Rise f (x ∷ xs) → Rise g (y ∷ ys)
    → Has (y ∷ ys) x → Has (x ∷ xs) y → x ≡ y
heads f g x y xs ys r s (inl e) b = sym e
heads f g x y xs ys r s (inr a) (inl e) = e
heads f g x y xs ys r s (inr a) (inr b) =
    let l = above y.stamp ys x s.1 a in
    let k = above x.stamp xs y r.1 b in
    absurd (let no : ⊥ = omega (arith, l, k) in no)

tails : (x y : Message) (xs ys : List Message) → x ≡ y → Rise x.stamp xs → ((m : Message) → Has (x ∷ xs) m → Has (y ∷ ys) m)
    → (m : Message) → Has xs m → Has ys m
tails x y xs ys e r a m h = by (a m (inr h))
  where
    by : Has (y ∷ ys) m → Has ys m
    by (inl same) =
        let l = above x.stamp xs m r h in
        let l' : x.stamp < x.stamp = subst (λ (z : Message). x.stamp < z.stamp) (sym same ∙ sym e) l in
        absurd (let no : ⊥ = omega (arith, l') in no)
    by (inr there) = there

pub one_list : (f g : ℕ) (xs ys : List Message) → Rise f xs → Rise g ys → ((m : Message) → Has xs m → Has ys m) → ((m : Message) → Has ys m → Has xs m) → xs ≡ ys
one_list f g [] [] r s a b = refl
one_list f g [] (y ∷ ys) r s a b = absurd (b y (inl refl))
one_list f g (x ∷ xs) [] r s a b = absurd (a x (inl refl))
one_list f g (x ∷ xs) (y ∷ ys) r s a b =
    let e = heads f g x y xs ys r s (a x (inl refl)) (b y (inl refl)) in
    let t = one_list x.stamp y.stamp xs ys r.1 s.1 (tails x y xs ys e r.1 a) (tails y x ys xs (sym e) s.1 b) in
    ap (λ (z : Message). z ∷ xs) e ∙ ap (λ (zs : List Message). y ∷ zs) t

-- ---- what was received of a history

both : (p q : Bool) → (p && q) ≡ true → p ≡ true
both true q h = refl
both false q h = h

sound_of : (b : ℕ) (past : List Message) (n : Message) → Has (received b past) n → Has past n × (is_sound b n ≡ true)
sound_of b [] n h = absurd h
sound_of b (m ∷ past) n h =
    (elim (is_sound b m && not (has_stamp m.stamp (received b past))) as (λ t. is_sound b m && not (has_stamp m.stamp (received b past)) ≡ t
    → Has (if t then m ∷ received b past else received b past) n → Has (m ∷ past) n × (is_sound b n ≡ true)) [
      | true ↦ λ e g. elim g [
        | inl same ↦ (inl same, subst (λ (y : Message). is_sound b y ≡ true) same (both (is_sound b m) (not (has_stamp m.stamp (received b past))) e))
        | inr there ↦ (let i = sound_of b past n there in (inr i.0, i.1))
      ]
      | false ↦ λ e g. (let i = sound_of b past n g in (inr i.0, i.1))
    ]) refl h

-- the one of a stamp that is there
pub there_is : (s : ℕ) (xs : List Message) → has_stamp s xs ≡ true → (n : Message) × Has xs n × (n.stamp ≡ s)
there_is s [] h = (let no : ⊥ = cc in absurd no)
there_is s (x ∷ xs) h =
    (elim (nat_eq x.stamp s) as (λ t. nat_eq x.stamp s ≡ t → (t || has_stamp s xs) ≡ true → (n : Message) × Has (x ∷ xs) n × (n.stamp ≡ s)) [
      | true ↦ λ e g. (x, inl refl, eqb-true x.stamp s e)
      | false ↦ λ e g. (let i = there_is s xs g in (i.0, inr i.1, i.2))
    ]) refl h

module _ (b : ℕ) (whole : List Message)
    (one : (m n : Message) → Has whole m → Has whole n → m.stamp ≡ n.stamp → m ≡ n) where
  sound_is : (past : List Message) → ((m : Message) → Has past m → Has whole m) → (n : Message) → Has past n → is_sound b n ≡ true → Has (received b past) n
  sound_is [] part n h s = absurd h
  sound_is (m ∷ past) part n (inr h) s =
      let i = sound_is past (λ k g. part k (inr g)) n h s in
      elim (is_sound b m && not (has_stamp m.stamp (received b past))) as (λ t. Has (if t then m ∷ received b past else received b past) n) [
        | true ↦ inr i
        | false ↦ i
      ]
  sound_is (m ∷ past) part n (inl e) s =
      let sound : is_sound b m ≡ true = subst (λ (y : Message). is_sound b y ≡ true) (sym e) s in
      rw sound
      ((elim (has_stamp m.stamp (received b past)) as (λ t. has_stamp m.stamp (received b past) ≡ t → Has (if not t then m ∷ received b past else received b past) n) [
        | true ↦ λ g. (
            let k = there_is m.stamp (received b past) g in
            let old = sound_of b past k.0 k.1 in
            let same = one k.0 m (part k.0 (inr old.0)) (part m (inl refl)) k.2 in
            subst (λ (y : Message). Has (received b past) y) (same ∙ e) k.1)
        | false ↦ λ g. inl e
      ]) refl)

-- ---- two histories

module _ (b : ℕ) (xs ys : List Message) (same : HaveTheSame xs ys) (one : IsOneAStamp xs) where
  forth : (m : Message) → Has xs m → Has ys m
  forth m h = has_from ys m ((same m).0 (contains_from xs m h))

  back : (m : Message) → Has ys m → Has xs m
  back m h = has_from xs m ((same m).1 (contains_from ys m h))

  one_of : (m n : Message) → Has xs m → Has xs n → m.stamp ≡ n.stamp → m ≡ n
  one_of m n h g e = one m n (contains_from xs m h) (contains_from xs n g) e

  one_too : (m n : Message) → Has ys m → Has ys n → m.stamp ≡ n.stamp → m ≡ n
  one_too m n h g e = one_of m n (back m h) (back n g) e

  there : (m : Message) → Has (in_order b xs) m → Has (in_order b ys) m
  there m h =
      let i = sound_of b xs m (members_are b xs m h) in
      members_were b ys m (sound_is b ys one_too ys (λ k g. g) m (forth m i.0) i.1)

  here : (m : Message) → Has (in_order b ys) m → Has (in_order b xs) m
  here m h =
      let i = sound_of b ys m (members_are b ys m h) in
      members_were b xs m (sound_is b xs one_of xs (λ k g. g) m (back m i.0) i.1)

  pub one_order : in_order b xs ≡ in_order b ys
  one_order = one_list 0 0 (in_order b xs) (in_order b ys) (rise_in_order b xs) (rise_in_order b ys) there here

-- two logs that received the same are the same
pub converge : (h k : Held) (xs ys : List Message) → h.floor ≡ 0 → h.list ≡ [] → k.floor ≡ 0 → k.list ≡ [] → h.budget ≡ k.budget
    → HaveTheSame (heard xs []) (heard ys []) → IsOneAStamp (heard xs []) → after_all h xs ≡ after_all k ys
converge h k xs ys hf hl kf kl b same one =
    final h xs hf hl
    ∙ ap (λ (ms : List Message). kept h.budget 0 ms) (one_order h.budget (heard xs []) (heard ys []) same one)
    ∙ subst (λ (c : ℕ). kept h.budget 0 (in_order h.budget (heard ys [])) ≡ kept c 0 (in_order c (heard ys []))) b refl
    ∙ sym (final k ys kf kl)
