-- Replies, handed out one after the other.
use Rattle.std.proofs.Common.{◌≡◌, List, [], ◌∷◌, ◌++◌, map, Option, refl, sym, ap, ◌∙◌, subst, append_assoc, append-nil}
use Rattle.broadcast_core.specs.Carried.{Carried}
use Rattle.broadcast_core.specs.Handed.{to_subscribe}
use Rattle.engine_io.specs.Counters.{Totals, Counters}
use Rattle.engine_io.specs.Replies.{Asker, Replied, subscribed, reply_of, Replies}
use Rattle.engine_io.specs.ReplyCounts.{count_reply, count_replies}
use Rattle.engine_io.specs.Handing.{Hands}

module _ {S G A C : Type 0} where
  pub count_replies-append : (hs more : List (Replied S G A (Option C))) (t : Totals) → count_replies (hs ++ more) t ≡ count_replies more (count_replies hs t)
  count_replies-append [] more t = refl
  count_replies-append (h ∷ hs) more t = count_replies-append hs more (count_reply h t)

map-push : {X Y : Type 0} (f : X → Y) (xs : List X) (x : X) → map f (xs ++ x ∷ []) ≡ map f xs ++ f x ∷ []
map-push f [] x = refl
map-push f (y ∷ xs) x = ap (λ l. f y ∷ l) (map-push f xs x)

module _ {P S G A C O : Type 0} (told : O → List (Replied S G A (Option C)) → Type 0) where
  pub Hands-none : (o : O) (c : Counters P) → Hands told o c [] o c
  Hands-none o c = record { handed = λ before h. subst (told o) (sym (append-nil before)) h; counted = refl }

  pub Hands-more : (o mid last : O) (c cmid clast : Counters P) (hs more : List (Replied S G A (Option C)))
      → Hands told o c hs mid cmid → Hands told mid cmid more last clast → Hands told o c (hs ++ more) last clast
  Hands-more o mid last c cmid clast hs more first next = record {
    handed = λ before h. subst (told last) (append_assoc before hs more) (next.handed (before ++ hs) (first.handed before h));
    counted = next.counted ∙ rw first.counted (ap (λ t. record c { totals = t }) (sym (count_replies-append hs more c.totals)));
  }

module _ {P M D S G O : Type 0} (told : O → Replies S G M D → Type 0) where
  -- the waiters that were handed the message
  pub record AllHanded (message : Carried M D) (waiters : List (Asker S)) (o : O) (c : Counters P) (last : O) (clast : Counters P) : Type 0 where
    pub replies : Replies S G M D
    pub due : map reply_of replies ≡ map (λ w. to_subscribe w message) waiters
    pub hands : Hands told o c replies last clast

  pub AllHanded-none : (message : Carried M D) (o : O) (c : Counters P) → AllHanded message [] o c o c
  AllHanded-none message o c = record { replies = []; due = refl; hands = Hands-none told o c }

  -- and one more waiter
  pub AllHanded-more : {copy : Carried M D} {mid : O} {cmid : Counters P} (message : Carried M D) (waiters : List (Asker S)) (w : Asker S) (o last : O) (c clast : Counters P) → copy ≡ message
      → AllHanded message waiters o c mid cmid → ((delivered : _) × Hands told mid cmid (subscribed w copy delivered ∷ []) last clast)
      → AllHanded message (waiters ++ w ∷ []) o c last clast
  AllHanded-more {copy} {mid} {cmid} message waiters w o last c clast same all one = record {
    replies = all.replies ++ subscribed w copy one.0 ∷ [];
    due = map-push reply_of all.replies (subscribed w copy one.0) ∙ ap (λ ds. ds ++ to_subscribe w copy ∷ []) all.due
        ∙ ap (λ a. map (λ v. to_subscribe v message) waiters ++ to_subscribe w a ∷ []) same ∙ sym (map-push (λ v. to_subscribe v message) waiters w);
    hands = Hands-more told o mid last c cmid clast all.replies (subscribed w copy one.0 ∷ []) all.hands one.1;
  }
