-- A list of events, run one after the other.
use Rattle.std.proofs.Common.{◌≡◌, ℕ, suc, ◌≤◌, true, false, if◌then◌else◌, List, [], ◌∷◌, ◌++◌, length, reverse, Option, Some, None, Result, Ok, Err, inl, inr, refl, sym, ap, subst, ◌∙◌, arith, append_assoc, length-append}
use Rattle.std.specs.Prelude.{◌-◌, ◌^◌}
use Rattle.std.specs.List.{zip}
use Rattle.std.proofs.lemmas.List.{reverse-append, append-nil, length-reverse}
use Rattle.broadcast_core.specs.Empty.{empty}
use Rattle.broadcast_core.specs.Carried.{Carried}
use Rattle.broadcast_core.specs.Content.{Content, digests_of}
use Rattle.broadcast_core.specs.Setting.{Setting}
use Rattle.broadcast_core.specs.Happening.{Happening, History, subscribe}
use Rattle.broadcast_core.specs.Lists.{list}
use Rattle.broadcast_core.specs.Concerns.{AreEqual}
use Rattle.broadcast_core.specs.Cache.{message}
use Rattle.broadcast_core.specs.Sent.{sent}
use Rattle.broadcast_core.specs.HasContent.{HasContent}
use Rattle.broadcast_core.specs.Log.{arrived, after, history, history_of, log_of, is_refused}
use Rattle.broadcast_core.specs.Answers.{answer_to_broadcast, answer_to_payload, answer_to_subscribe, answer_to, MayAnswer}
use Rattle.broadcast_core.specs.HasRun.{IsAnswered, counted_in, Applies, Follows, HasRun}
use Rattle.broadcast_core.specs.declared.codec.CodecError.{CodecError}
use Rattle.broadcast_core.specs.declared.ordered.Recipients.{Recipients}
use Rattle.broadcast_core.specs.declared.event.Event.{Event}
use Rattle.broadcast_core.specs.declared.event.Event.TheVariants.{Peers, Broadcast, Payload, Subscribe, Get, Cleanup}
use Rattle.broadcast_core.specs.declared.event.Answer.{Answer}
use Rattle.broadcast_core.specs.declared.event.Answer.TheVariants.{Removed}
use Rattle.broadcast_core.specs.declared.event.Sent.{Sent}
use Rattle.broadcast_core.proofs.Concerning.{list-same, list-alike}
use Rattle.broadcast_core.proofs.Lawful.{IsLawful}
use Rattle.broadcast_core.proofs.Stepping.{HasContent-empty}
use Rattle.broadcast_core.proofs.WaitsCount.{removed-le}

zip-push : {A B : Type 0} (xs : List A) (ys : List B) (x : A) (y : B) → length ys ≡ length xs → zip (xs ++ x ∷ []) (ys ++ y ∷ []) ≡ zip xs ys ++ (x, y) ∷ []
zip-push [] [] x y h = refl
zip-push [] (b ∷ ys) x y h = absurd (omega arith)
zip-push (a ∷ xs) [] x y h = absurd (omega arith)
zip-push (a ∷ xs) (b ∷ ys) x y h = ap (λ zs. (a, b) ∷ zs) (zip-push xs ys x y (omega arith))

length-zip_of : {A B : Type 0} (xs : List A) (ys : List B) → length (zip xs ys) ≤ length xs
length-zip_of [] ys = omega arith
length-zip_of (x ∷ xs) [] = omega arith
length-zip_of (x ∷ xs) (y ∷ ys) = omega (arith, length-zip_of xs ys)

-- the element that came is the first of those that were left
pub one_come : {X : Type 0} (done : List X) (x : X) (now next all : List X) → now ≡ x ∷ next → done ++ now ≡ all → (done ++ x ∷ []) ++ next ≡ all
one_come done x now next all h k = append_assoc done (x ∷ []) next ∙ ap (λ l. done ++ l) (sym h) ∙ k

-- all have come
pub none_left : {X : Type 0} (done left all : List X) → length left ≡ 0 → done ++ left ≡ all → done ≡ all
none_left done [] all h k = sym (append-nil done) ∙ k
none_left done (x ∷ left) all h k = absurd (omega arith)

module _ {P M D : Type 0} where
  -- one more event, with its answer
  log_of-push : (es : List (Event P M D)) (rs : List (Answer M D)) (e : Event P M D) (a : Answer M D) → length rs ≡ length es
      → log_of (es ++ e ∷ []) (rs ++ a ∷ []) ≡ (e, a) ∷ log_of es rs
  log_of-push es rs e a h = ap (λ zs. reverse zs) (zip-push es rs e a h) ∙ reverse-append (zip es rs) ((e, a) ∷ [])

  module _ (s : Setting P M D) where
    length-arrived : (p : P) (r : Result M CodecError) (past : List (Happening P M D ℕ ℕ)) → length (arrived s p r past) ≤ suc (length past)
    length-arrived p (Ok m) past = omega arith
    length-arrived p (Err e) past = omega arith

    -- an event is one happening at most
    length-after : (e : Event P M D) (past : List (Happening P M D ℕ ℕ)) → length (after s e past) ≤ suc (length past)
    length-after (Peers ps) past = omega arith
    length-after (Broadcast r c) past = omega arith
    length-after (Payload p b) past = length-arrived p (s.reading b) past
    length-after (Subscribe k d) past = omega arith
    length-after (Get k d) past = omega arith
    length-after (Cleanup gone) past = omega arith

    length-history : (log : List (Event P M D × Answer M D)) → length (history s log) ≤ length log
    length-history [] = omega arith
    length-history (x ∷ log) = elim (is_refused x.1) as (λ b. length (if b then history s log else after s x.0 (history s log)) ≤ suc (length log))
        [ true ↦ omega (arith, length-history log) | false ↦ omega (arith, length-history log, length-after x.0 (history s log)) ]

    -- a history has at most as many events as were run
    length-history_of : (es : List (Event P M D)) (rs : List (Answer M D)) → length (history s (log_of es rs)) ≤ length es
    length-history_of es rs = omega (arith, length-history (log_of es rs), length-reverse (zip es rs), length-zip_of es rs)

    module _ (lawful : IsLawful s.same) where
      -- the core has what the history of the events gives
      has_run : (es : List (Event P M D)) (rs : List (Answer M D)) (sends : List (Sent P)) (core : Content P M D ℕ) → length rs ≡ length es → IsAnswered s (log_of es rs)
          → HasContent s (history_of s es rs) core → sends ≡ sent s (history_of s es rs) → HasRun s es rs sends core
      has_run es rs sends core each answered content sent = record {
        one_each = each;
        answered = answered;
        content = content;
        same_concerns_same_list = λ p q other h. list-same s s refl refl refl p q (history_of s es rs) other h ∙ ap digests_of (sym (content.lists p));
        alike_concerns_equal_list = λ p q other h. subst (λ xs. AreEqual s.same.digest (list s q other) xs) (ap digests_of (sym (content.lists p)))
            (list-alike s s refl refl refl p q (history_of s es rs) other lawful.digest h);
        sent = sent;
      }

      -- no event has been run yet
      pub HasRun-none : {core : Content P M D ℕ} → core ≡ empty s.own s.deque_size s.byte_budget → HasRun s [] [] [] core
      HasRun-none {core} new = has_run [] [] [] core refl tt (HasContent-empty new) refl

    -- the count of a cleanup is exact where the history is short
    exact-broadcast : (r : Recipients P) (c : Carried M D) (bytes : Option (List ℕ)) (past : History P M D ℕ ℕ) → counted_in (answer_to_broadcast s r c bytes past) ≡ answer_to_broadcast s r c bytes past
    exact-broadcast r c None past = refl
    exact-broadcast r c (Some bytes) past = refl

    exact-payload : (p : P) (read : Result M CodecError) (past : History P M D ℕ ℕ) → counted_in (answer_to_payload s p read past) ≡ answer_to_payload s p read past
    exact-payload p (Ok m) past = refl
    exact-payload p (Err why) past = refl

    exact-subscribe : (found : Option (Carried M D)) → counted_in (answer_to_subscribe s found) ≡ answer_to_subscribe s found
    exact-subscribe None = refl
    exact-subscribe (Some c) = refl

    exact : (e : Event P M D) (past : History P M D ℕ ℕ) → length past ≤ 2 ^ 64 - 1 → counted_in (answer_to s e past) ≡ answer_to s e past
    exact (Peers ps) past short = refl
    exact (Broadcast r c) past short = exact-broadcast r c (s.encoding c.message) past
    exact (Payload p b) past short = exact-payload p (s.reading b) past
    exact (Subscribe k d) past short = exact-subscribe (message s d (subscribe k d ∷ past))
    exact (Get k d) past short = refl
    exact (Cleanup gone) past short = ap Removed (let few = removed-le s gone past in omega (arith, few, short))

    -- the core has the setting's own key and size
    follows-setting : (e : Event P M D) (old new : Content P M D ℕ) (a : Answer M D) (sending : List (Sent P)) → old.own ≡ s.own → old.deque_size ≡ s.deque_size → old.byte_budget ≡ s.byte_budget
        → Follows (record s { own = old.own; deque_size = old.deque_size; byte_budget = old.byte_budget }) e old new a sending → Follows s e old new a sending
    follows-setting e old new a sending own size budget h =
        subst (λ b. Follows (record s { own = s.own; deque_size = s.deque_size; byte_budget = b }) e old new a sending) budget
        (subst (λ n. Follows (record s { own = s.own; deque_size = n; byte_budget = old.byte_budget }) e old new a sending) size
        (subst (λ o. Follows (record s { own = o; deque_size = old.deque_size; byte_budget = old.byte_budget }) e old new a sending) own h))

    module _ (lawful : IsLawful s.same) {es : List (Event P M D)} {rs : List (Answer M D)} {sends : List (Sent P)} {old new : Content P M D ℕ} {e : Event P M D} {a : Answer M D} {sending : List (Sent P)}
        (short : length es ≤ 2 ^ 64 - 1) (before : HasRun s es rs sends old) where
      -- one more
      HasRun-next : Applies s (history_of s es rs) e new a sending → HasRun s (es ++ e ∷ []) (rs ++ a ∷ []) (sends ++ sending) new
      HasRun-next step =
          let log : log_of (es ++ e ∷ []) (rs ++ a ∷ []) ≡ (e, a) ∷ log_of es rs = log_of-push es rs e a before.one_each in
          let exactly = exact e (history_of s es rs) (omega (arith, length-history_of es rs, short)) in
          let answered : MayAnswer s e (history_of s es rs) a = elim step.answered [ inl is ↦ inl (is ∙ exactly) | inr failed ↦ inr failed ] in
          has_run lawful (es ++ e ∷ []) (rs ++ a ∷ []) (sends ++ sending) new
          (omega (arith, length-append rs (a ∷ []), length-append es (e ∷ []), before.one_each))
          (subst (λ l. IsAnswered s l) (sym log) (answered, before.answered))
          (subst (λ l. HasContent s (history s l) new) (sym log) step.content)
          (subst (λ l. sends ++ sending ≡ sent s (history s l)) (sym log) (ap (λ xs. xs ++ sending) before.sent ∙ sym step.sent))

      pub HasRun-follows : Follows (record s { own = old.own; deque_size = old.deque_size; byte_budget = old.byte_budget }) e old new a sending → HasRun s (es ++ e ∷ []) (rs ++ a ∷ []) (sends ++ sending) new
      HasRun-follows step = HasRun-next (follows-setting e old new a sending before.content.own before.content.deque_size before.content.byte_budget step (history_of s es rs) before.content)

    -- the same lists, under other names
    pub HasRun-same : {es fs : List (Event P M D)} {rs qs : List (Answer M D)} {sends others : List (Sent P)} {core : Content P M D ℕ}
        → HasRun s es rs sends core → es ≡ fs → qs ≡ rs → others ≡ sends → HasRun s fs qs others core
    HasRun-same run events answers sent = rw (← events, answers, sent) run
