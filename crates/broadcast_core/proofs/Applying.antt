-- What each event's call makes of the history.
use Rattle.std.proofs.Common.{◌≡◌, ℕ, true, List, [], ◌∷◌, Option, Some, None, Result, Ok, Err, refl, sym, ap, ◌∙◌, subst, inl, inr, append-nil}
use Rattle.std.specs.Prelude.{◌==◌, length}
use Rattle.std.specs.Option.{option_map}
use Rattle.std.specs.List.{list_any, IsDistinct}
use Rattle.std.specs.Map.{keys_of}
use Rattle.broadcast_core.specs.Carried.{Carried}
use Rattle.broadcast_core.specs.Content.{Content, Same, message_at, waiting_at}
use Rattle.broadcast_core.specs.Fronted.{outcome_at}
use Rattle.broadcast_core.specs.Changes.{Takes, TakesPeers, Awaits, Cleans}
use Rattle.broadcast_core.specs.Waiters.{gone_from}
use Rattle.broadcast_core.specs.Counted.{counted}
use Rattle.broadcast_core.specs.Setting.{Setting}
use Rattle.broadcast_core.specs.Happening.{History, Taking, Happening, get, taken}
use Rattle.broadcast_core.specs.Log.{arrived, after}
use Rattle.broadcast_core.specs.HasContent.{HasContent}
use Rattle.broadcast_core.specs.Answers.{answer_to, answer_to_taking, answer_to_subscribe, may_allocate}
use Rattle.broadcast_core.specs.HasRun.{counted_in, Applies}
use Rattle.broadcast_core.specs.Cache.{is_listed}
use Rattle.broadcast_core.specs.Sent.{sent, sent_at}
use Rattle.broadcast_core.specs.declared.codec.CodecError.{CodecError}
use Rattle.broadcast_core.specs.Codec.{IsRefusal}
use Rattle.broadcast_core.specs.Setting.{all_taken}
use Rattle.broadcast_core.specs.declared.outcome.Outcome.{Outcome}
use Rattle.broadcast_core.specs.declared.event.Event.{Event}
use Rattle.broadcast_core.specs.declared.event.Event.TheVariants.{Peers, Payload, Subscribe, Get, Cleanup}
use Rattle.broadcast_core.specs.declared.event.Cause.TheVariants.{Memory}
use Rattle.broadcast_core.specs.declared.event.Answer.TheVariants as answer
use Rattle.broadcast_core.proofs.Distinct.{by_test}
use Rattle.broadcast_core.proofs.Lawful.{IsLawful}
use Rattle.broadcast_core.proofs.Following.{message-none}
use Rattle.broadcast_core.proofs.Stepping.{HasContent-peers, HasContent-taken, HasContent-get, HasContent-answered, HasContent-waiting, HasContent-cleanup, cleanup-counted}
use Rattle.broadcast_core.proofs.Handing.{outcome-taken, served-taken, found-get, found-subscribe}

-- bytes are never refused for want of memory by what they read as
pub not_memory : {M : Type 0} (n : ℕ) (r : Result (M × ℕ) CodecError) → ((e : CodecError) → r ≡ Err e → IsRefusal e) → all_taken n r ≡ Err CodecError.Memory → ⊥
not_memory n (Ok v) law h = by_test (v.1 == n) (λ t. absurd (let one = rw t at h in cc)) (λ t. absurd (let other = rw t at h in cc))
not_memory n (Err e) law h = law CodecError.Memory (let is : e ≡ CodecError.Memory = cc in ap Err is)

module _ {P M D : Type 0} {s : Setting P M D} {same : Same P D} (is : s.same ≡ same) (lawful : IsLawful same)
    {past : History P M D ℕ ℕ} {old : Content P M D ℕ} (has : HasContent s past old) where
  pub Applies-peers : {ps : List P} {new : Content P M D ℕ} → TakesPeers same ps old new → Applies s past (Peers ps) new answer.Peers []
  Applies-peers takes = record { answered = inl refl; content = HasContent-peers is lawful has takes; sent = refl }

  -- an event that is one taking
  pub Applies-taken : {encoding : M → Option (List ℕ)} → s.encoding ≡ encoding → {e : Event P M D} (h : Happening P M D ℕ ℕ) (t : Taking P M D) {new : Content P M D ℕ} {outcome : Outcome} {served : List ℕ} → after s e past ≡ h ∷ past → taken s h ≡ Some t
      → answer_to s e past ≡ answer_to_taking s t.key t.carried h past → Takes same t.key t.carried (option_map length (encoding t.carried.message)) old new
      → outcome ≡ outcome_at same old t.key t.carried.digest (option_map length (encoding t.carried.message)) → served ≡ waiting_at same old t.carried.digest
      → Applies s past e new (answer.Taken outcome served t.carried) (sent_at s h)
  Applies-taken encodes h t {new} {outcome} {served} next some answers takes out waits = record {
    answered = inl (sym (ap counted_in answers ∙ rw (out, waits, outcome-taken is lawful has encodes t.key t.carried, served-taken is lawful has h t some) refl));
    content = subst (λ es. HasContent s es new) (sym next) (HasContent-taken is lawful has encodes h t some takes);
    sent = ap (sent s) next;
  }

  -- an allocation failure changes nothing
  pub Applies-refused : (e : Event P M D) {new : Content P M D ℕ} → new ≡ old → may_allocate s e past ≡ true → Applies s past e new (answer.Refused Memory) []
  Applies-refused e stays memory = record {
    answered = inr (refl, memory);
    content = subst (HasContent s past) (sym stays) has;
    sent = sym (append-nil (sent s past));
  }

  pub Applies-invalid : (p : P) (b : List ℕ) (why : CodecError) {new : Content P M D ℕ} → new ≡ old → s.reading b ≡ Err why → Applies s past (Payload p b) new (answer.Invalid why) []
  Applies-invalid p b why {new} stays invalid = record {
    answered = inl (rw invalid refl);
    content = subst (λ r. HasContent s (arrived s p r past) new) (sym invalid) (subst (HasContent s past) (sym stays) has);
    sent = ap (λ r. sent s (arrived s p r past)) invalid ∙ sym (append-nil (sent s past));
  }

  pub Applies-got : (k : ℕ) (d : D) (found : Option (Carried M D)) → found ≡ message_at same old d → Applies s past (Get k d) old (answer.Got found) []
  Applies-got k d found finds = record {
    answered = inl (ap answer.Got (finds ∙ found-get is lawful has k d));
    content = HasContent-get is lawful has k d;
    sent = refl;
  }

  pub Applies-not_got : (k : ℕ) (d : D) (x : Carried M D) → message_at same old d ≡ Some x → Applies s past (Get k d) old (answer.Refused Memory) []
  Applies-not_got k d x h = Applies-refused (Get k d) refl (by_test (is_listed s d (get k d ∷ past)) (λ t. t)
      (λ t. absurd (let nothing = sym (message-none s d (get k d ∷ past) t) ∙ sym (found-get is lawful has k d) ∙ h in cc)))

  pub Applies-answered : (k : ℕ) (d : D) (x : Carried M D) {new : Content P M D ℕ} → new ≡ old → message_at same old d ≡ Some x → Applies s past (Subscribe k d) new (answer.Answered x) []
  Applies-answered k d x stays h = rw stays (record {
    answered = inl (ap (λ o. counted_in (answer_to_subscribe s o)) (sym h ∙ found-subscribe is lawful has k d));
    content = HasContent-answered is lawful has k h;
    sent = refl;
  })

  pub Applies-waiting : (k : ℕ) (d : D) {new : Content P M D ℕ} → message_at same old d ≡ None → Awaits same d k old new → Applies s past (Subscribe k d) new answer.Waiting []
  Applies-waiting k d none awaits = record {
    answered = inl (ap (λ o. counted_in (answer_to_subscribe s o)) (sym none ∙ found-subscribe is lawful has k d));
    content = HasContent-waiting is lawful has none awaits;
    sent = refl;
  }

  pub Applies-cleanup : (gone : List ℕ) (n : ℕ) {new : Content P M D ℕ} → Cleans same (λ k. list_any (λ x. k == x) gone) old new
      → IsDistinct same.digest (keys_of old.waiters) → n ≡ counted (gone_from (λ w. w) gone old.waiters) → Applies s past (Cleanup gone) new (answer.Removed n) []
  Applies-cleanup gone n cleans distinct count = record {
    answered = inl (ap answer.Removed (count ∙ ap counted (cleanup-counted is lawful has (λ k. list_any (λ x. k == x) gone) distinct)));
    content = HasContent-cleanup is lawful has cleans;
    sent = refl;
  }
