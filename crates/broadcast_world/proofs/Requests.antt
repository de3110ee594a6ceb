-- The answers of two runs, at corresponding moments.
use Rattle.std.proofs.Common.{◌≡◌, ℕ, ◌-◌, true, false, ◌||◌, List, [], ◌∷◌, ◌++◌, length, reverse, is_some, Option, Some, None, inl, inr, refl, sym, ap, ◌∙◌, subst}
use Rattle.std.specs.List.{AllByRecursion, list_any}
use Rattle.std.specs.Cmp.{IsEquivalence, IsTotalOrder, eq_by_cmp_equiv}
use Rattle.std.specs.Cmp.Lexicographic.{slice_cmp}
use Rattle.std.specs.Ordering.{eq_by_cmp, is_eq, nat_cmp}
use Rattle.std.specs.declared.cmp.Ordering.{Ordering}
use Rattle.std.specs.declared.cmp.Ordering.TheVariants.{Less, Equal, Greater}
use Rattle.std.proofs.lemmas.Cmp.{nat_list_cmp_total}
use Rattle.std.proofs.lemmas.Map.Lookups.{exact_bytes}
use Rattle.sha2.specs.Sha256.{sha256}
use Rattle.broadcast_core.proofs.Distinct.{by_test, list_any-append, or_right}
use Rattle.broadcast_core.proofs.Following.{message-none, message-some}
use Rattle.broadcast_core.specs.Carried.{Carried}
use Rattle.broadcast_core.specs.TestMessage.{Parts}
use Rattle.broadcast_core.specs.Happening.{peers, broadcast, arrival, subscribe, get, cleanup}
use Rattle.broadcast_core.specs.Cache.{is_listed, message}
use Rattle.broadcast_core.specs.Waiting.{reply}
use Rattle.broadcast_core.specs.declared.event.Event.TheVariants as event
use Rattle.broadcast_world.specs.Scene.{Scene}
use Rattle.broadcast_world.specs.Packet.{Packet}
use Rattle.broadcast_world.specs.World.{Log, NodeEvent, NodeHistory, AreAnswered, IsAnswer, accepted, at, event_of, history, history_with, node, packets}
use Rattle.broadcast_world.specs.TwoRuns.{HasCleanCaches, HasCleanDigests, HasFewMoreDigests, HasHonestLists, admits, is_hostile, refused_for_memory}
use Rattle.broadcast_world.specs.declared.step.Step.{Step}
use Rattle.broadcast_world.specs.declared.step.Step.TheVariants.{Peers, Broadcast, Subscribe, Get, Cleanup, Deliver, Hostile}
use Rattle.broadcast_world.specs.declared.step.WorldAnswer.{WorldAnswer}
use Rattle.broadcast_world.specs.declared.step.WorldAnswer.TheVariants.{Given, NoSuch}
use Rattle.broadcast_core.specs.declared.event.Answer.TheVariants as answer
use Rattle.broadcast_world.specs.Requests.{HandsOwnDigests, answer_from, asked_for, happened, newest_subscribe, waits_from}
use Rattle.broadcast_world.specs.SameAnswers.{AddsHostileAnswers, HasCleanGets, IsAnswerBeside, KeepsAnswers, WaitsInBoth, hands}
use Rattle.broadcast_world.proofs.Origins.{Came, accepted-is, event-is, history-came}
use Rattle.broadcast_world.proofs.Merging.{both, message-same, all, kept, attacked, all-append, kept-append, listed-added, listed-kept}
use Rattle.broadcast_world.proofs.Answering.{IsIn, asking, all-reverse, attacked-reverse, in-all, in-left, in-reverse, in-right, is-some, is_some-map, kept-reverse, message-for, message_of, reply-added, reply-for, reply-kept, waits-kept}
use Rattle.broadcast_world.proofs.Honest.{HasCleanCaches-from, HasCleanDigests-from, HasFewMoreDigests-from, HasHonestLists-from, Items, KeysApart, answered-last, before, history-append, hostile, hostile-alike, none-refused, packets-at, same-after, same-at, until, until_clean}

equal : (o : Ordering) → is_eq o ≡ true → o ≡ Equal
equal Less h = absurd (let no = h in cc)
equal Equal h = refl
equal Greater h = absurd (let no = h in cc)

digest-laws : IsEquivalence (eq_by_cmp (slice_cmp nat_cmp))
digest-laws = eq_by_cmp_equiv nat_list_cmp_total

-- equal digests are the same
same-digest : (d e : List ℕ) → eq_by_cmp (slice_cmp nat_cmp) d e ≡ true → d ≡ e
same-digest d e h = exact_bytes d e (equal (slice_cmp nat_cmp d e) h)

carried-same : (a c : Carried Parts (List ℕ)) → a.message ≡ c.message → a.digest ≡ c.digest → a ≡ c
carried-same a c m d = ap (λ x. record { message = x; digest = a.digest }) m ∙ ap (λ x. record { message = c.message; digest = x }) d

none-some : {X : Type 0} (o : Option X) → o ≡ None → is_some o ≡ false
none-some o h = ap is_some h

module _ {P : Type 0} (cmp : P → P → Ordering) (total : IsTotalOrder cmp) (w : Scene P) (n : P) where
  key-laws : IsEquivalence (eq_by_cmp cmp)
  key-laws = eq_by_cmp_equiv total

  -- only listed digests have messages
  listed-some : (d : List ℕ) (past : NodeHistory P) → is_some (message (at cmp w n) d past) ≡ true → is_listed (at cmp w n) d past ≡ true
  listed-some d past h = by_test (is_listed (at cmp w n) d past)
      (λ t. t)
      (λ t. absurd (let no = sym h ∙ none-some (message (at cmp w n) d past) (message-none (at cmp w n) d past t) in cc))

  some-from : (d : List ℕ) (past : NodeHistory P) (c : Carried Parts (List ℕ)) → message (at cmp w n) d past ≡ Some c → is_listed (at cmp w n) d past ≡ true
  some-from d past c h = listed-some d past (ap is_some h)

  replied : (i t : ℕ) (d : List ℕ) (past later : NodeHistory P) (c : Carried Parts (List ℕ)) → message_of (reply (at cmp w n) (asking i t d) past later) ≡ Some c → is_some (reply (at cmp w n) (asking i t d) past later) ≡ true
  replied i t d past later c h = sym (is_some-map (λ r. r.1) (reply (at cmp w n) (asking i t d) past later)) ∙ ap is_some h

  message-from : (i t : ℕ) (d : List ℕ) (past later : NodeHistory P) → is_some (reply (at cmp w n) (asking i t d) past later) ≡ true → (a : Carried Parts (List ℕ)) × (message_of (reply (at cmp w n) (asking i t d) past later) ≡ Some a)
  message-from i t d past later h = is-some (message_of (reply (at cmp w n) (asking i t d) past later)) (is_some-map (λ r. r.1) (reply (at cmp w n) (asking i t d) past later) ∙ h)

  -- an answer in the second history is one in the first
  answer-kept : (e : NodeEvent P) (xs ys : Items cmp total w n) (c : Carried Parts (List ℕ)) → answer_from cmp w n e (kept xs) (reverse (kept ys)) ≡ Some c
      → (a : Carried Parts (List ℕ)) × (answer_from cmp w n e (all xs) (reverse (all ys)) ≡ Some a)
  answer-kept (event.Get t d) xs ys c h =
      is-some (message (at cmp w n) d (all xs)) (message-some (at cmp w n) key-laws d (all xs)
      (listed-kept ℕ ℕ (at cmp w n) (hostile cmp total w) (hostile-alike cmp total w) d xs (some-from d (kept xs) c h)))
  answer-kept (event.Subscribe t d) xs ys c h =
      rw (sym (all-reverse (at cmp w n) (hostile cmp total w) (hostile-alike cmp total w) ys))
      (message-from (length (all xs) - 1) t d (all xs) (all (reverse ys))
      (reply-kept (at cmp w n) (hostile cmp total w) (hostile-alike cmp total w) (length (all xs) - 1) (length (kept xs) - 1) t d key-laws xs (reverse ys)
      (replied (length (kept xs) - 1) t d (kept xs) (kept (reverse ys)) c (rw (kept-reverse (at cmp w n) (hostile cmp total w) (hostile-alike cmp total w) ys) h))))
  answer-kept (event.Peers ps) xs ys c h = absurd (let no = h in cc)
  answer-kept (event.Broadcast r x) xs ys c h = absurd (let no = h in cc)
  answer-kept (event.Payload p b) xs ys c h = absurd (let no = h in cc)
  answer-kept (event.Cleanup gone) xs ys c h = absurd (let no = h in cc)

  none-replied : (i t : ℕ) (d : List ℕ) (past later : NodeHistory P) → message_of (reply (at cmp w n) (asking i t d) past later) ≡ None → is_some (reply (at cmp w n) (asking i t d) past later) ≡ false
  none-replied i t d past later h = sym (is_some-map (λ r. r.1) (reply (at cmp w n) (asking i t d) past later)) ∙ ap is_some h

  -- one in the first alone is for what a hostile key brought
  answer-added : (e : NodeEvent P) (xs ys : Items cmp total w n) (a : Carried Parts (List ℕ)) → answer_from cmp w n e (all xs) (reverse (all ys)) ≡ Some a
      → answer_from cmp w n e (kept xs) (reverse (kept ys)) ≡ None → (attacked (asked_for e) ys || attacked (asked_for e) xs) ≡ true
  answer-added (event.Get t d) xs ys a h none =
      by_test (is_listed (at cmp w n) d (kept xs))
      (λ u. absurd (let no = sym (message-some (at cmp w n) key-laws d (kept xs) u) ∙ none-some (message (at cmp w n) d (kept xs)) none in cc))
      (λ u. ap (λ b. attacked d ys || b) (listed-added ℕ ℕ (at cmp w n) (hostile cmp total w) (hostile-alike cmp total w) d xs (some-from d (all xs) a h) u) ∙ or_right (attacked d ys))
  answer-added (event.Subscribe t d) xs ys a h none =
      let here = λ (zs : Items cmp total w n). all-reverse (at cmp w n) (hostile cmp total w) (hostile-alike cmp total w) zs in
      let split = reply-added (at cmp w n) (hostile cmp total w) (hostile-alike cmp total w) (length (all xs) - 1) (length (kept xs) - 1) t d key-laws xs (reverse ys)
      (replied (length (all xs) - 1) t d (all xs) (all (reverse ys)) a (rw (here ys) h))
      (none-replied (length (kept xs) - 1) t d (kept xs) (kept (reverse ys)) (rw (kept-reverse (at cmp w n) (hostile cmp total w) (hostile-alike cmp total w) ys) none)) in
      by_test (attacked d (reverse ys))
      (λ u. rw (attacked-reverse (at cmp w n) (hostile cmp total w) (hostile-alike cmp total w) d ys u) refl)
      (λ u. ap (λ b. attacked d ys || b) (rw u at split) ∙ or_right (attacked d ys))
  answer-added (event.Peers ps) xs ys a h none = absurd (let no = h in cc)
  answer-added (event.Broadcast r x) xs ys a h none = absurd (let no = h in cc)
  answer-added (event.Payload p b) xs ys a h none = absurd (let no = h in cc)
  answer-added (event.Cleanup gone) xs ys a h none = absurd (let no = h in cc)

  waits-both : (e : NodeEvent P) (xs ys : Items cmp total w n) → waits_from cmp w n e (all xs) (reverse (all ys)) ≡ true → waits_from cmp w n e (kept xs) (reverse (kept ys)) ≡ true
  waits-both (event.Subscribe t d) xs ys h =
      rw (sym (kept-reverse (at cmp w n) (hostile cmp total w) (hostile-alike cmp total w) ys))
      (waits-kept (at cmp w n) (hostile cmp total w) (hostile-alike cmp total w) (length (all xs) - 1) (length (kept xs) - 1) t d key-laws xs (reverse ys)
      (rw (all-reverse (at cmp w n) (hostile cmp total w) (hostile-alike cmp total w) ys) h))
  waits-both (event.Get t d) xs ys h = absurd (let no = h in cc)
  waits-both (event.Peers ps) xs ys h = absurd (let no = h in cc)
  waits-both (event.Broadcast r x) xs ys h = absurd (let no = h in cc)
  waits-both (event.Payload p b) xs ys h = absurd (let no = h in cc)
  waits-both (event.Cleanup gone) xs ys h = absurd (let no = h in cc)

  -- the message of an answer was taken, and goes by the digest that was asked for
  answer-for : (e : NodeEvent P) (past newer : NodeHistory P) (a : Carried Parts (List ℕ)) → answer_from cmp w n e past (reverse newer) ≡ Some a
      → IsIn (at cmp w n) a (newer ++ past) × (eq_by_cmp (slice_cmp nat_cmp) (asked_for e) a.digest ≡ true)
  answer-for (event.Get t d) past newer a h =
      let it = message-for (at cmp w n) key-laws digest-laws d past a h in (in-right (at cmp w n) a newer past it.0, it.1)
  answer-for (event.Subscribe t d) past newer a h =
      let it = reply-for (at cmp w n) key-laws digest-laws (newest_subscribe t d past) past (reverse newer) a h in (
        elim it.0 [
          | inl k ↦ in-right (at cmp w n) a newer past k
          | inr k ↦ in-left (at cmp w n) a newer past (in-reverse (at cmp w n) a newer k)
        ],
        it.1,
      )
  answer-for (event.Peers ps) past newer a h = absurd (let no = h in cc)
  answer-for (event.Broadcast r x) past newer a h = absurd (let no = h in cc)
  answer-for (event.Payload p b) past newer a h = absurd (let no = h in cc)
  answer-for (event.Cleanup gone) past newer a h = absurd (let no = h in cc)

  -- where broadcasts hand in their own digests, what is taken goes by its own digest
  own-carried : (a c : Carried Parts (List ℕ)) → Some c ≡ Some a → c.digest ≡ sha256 c.message.content → a.digest ≡ sha256 a.message.content
  own-carried a c is h = let same : c ≡ a = cc in subst (λ x. x.digest ≡ sha256 x.message.content) same h

  own-taken : (log : Log P) (past : NodeHistory P) (a : Carried Parts (List ℕ)) → AllByRecursion (Came cmp total w n log) past → HandsOwnDigests cmp w past → IsIn (at cmp w n) a past → a.digest ≡ sha256 a.message.content
  own-taken log [] a came own h = absurd h
  own-taken log (e ∷ past) a came own (inr h) = own-taken log past a came.1 own.1 h
  own-taken log (broadcast r c ∷ past) a came own (inl h) = own-carried a c h own.0
  own-taken log (arrival p c ∷ past) a came own (inl h) = own-carried a c h came.0.1
  own-taken log (peers ps ∷ past) a came own (inl h) = absurd (let no = h in cc)
  own-taken log (subscribe t d ∷ past) a came own (inl h) = absurd (let no = h in cc)
  own-taken log (get t d ∷ past) a came own (inl h) = absurd (let no = h in cc)
  own-taken log (cleanup test ∷ past) a came own (inl h) = absurd (let no = h in cc)

  beside : (d : List ℕ) (now : Log P) (c a : Carried Parts (List ℕ)) → IsIn (at cmp w n) a (history cmp w n now) → IsIn (at cmp w n) c (history cmp w n now)
      → eq_by_cmp (slice_cmp nat_cmp) d a.digest ≡ true → eq_by_cmp (slice_cmp nat_cmp) d c.digest ≡ true → IsAnswerBeside cmp w n d now c a
  beside d now c a here there of_a of_c =
      let digest : a.digest ≡ d = sym (same-digest d a.digest of_a) in
      let both : a.digest ≡ c.digest = digest ∙ same-digest d c.digest of_c in
      record {
        taken = here;
        digest = digest;
        own = λ own. sym digest ∙ own-taken now (history cmp w n now) a (history-came cmp total w n now) own here;
        same = λ shares. carried-same a c (shares a c here there (ap (eq_by_cmp (slice_cmp nat_cmp) a.digest) (sym both) ∙ digest-laws.refl a.digest)) both;
      }

  -- what a get is answered
  given-get : (t : ℕ) (d : List ℕ) (a : WorldAnswer) (log : Log P) → refused_for_memory a ≡ false → IsAnswer cmp w (Some (n, event.Get t d)) a log
      → a ≡ Given (answer.Got (message (at cmp w n) d (get t d ∷ history cmp w n log)))
  given-get t d NoSuch log none may = absurd may
  given-get t d (Given a) log none (inl is) = ap (λ b. Given b) is
  given-get t d (Given a) log none (inr memory) = absurd (let no = sym (ap (λ b. refused_for_memory (Given b)) memory.0) ∙ none in cc)

  got : (t : ℕ) (d : List ℕ) (e : Option (P × NodeEvent P)) (a : WorldAnswer) (log : Log P) → e ≡ Some (n, event.Get t d) → IsAnswer cmp w e a log → refused_for_memory a ≡ false
      → a ≡ Given (answer.Got (message (at cmp w n) d (get t d ∷ history cmp w n log)))
  got t d e a log is may none = given-get t d a log none (subst (λ o. IsAnswer cmp w o a log) is may)

-- all that is promised of two runs, at their logs
pub record Laws {P : Type 0} (cmp : P → P → Ordering) (w : Scene P) (log clean_log : Log P) : Type 0 where
  pub honest_lists : HasHonestLists cmp w log clean_log
  pub clean_digests : HasCleanDigests cmp w log clean_log
  pub few_more_digests : HasFewMoreDigests cmp w log clean_log
  pub clean_caches : HasCleanCaches cmp w log clean_log
  pub clean_gets : HasCleanGets cmp w log clean_log
  pub answers_kept : KeepsAnswers cmp w log clean_log
  pub waits_in_both : WaitsInBoth cmp w log clean_log
  pub added_answers : AddsHostileAnswers cmp w log clean_log

module _ {P : Type 0} (cmp : P → P → Ordering) (total : IsTotalOrder cmp) (w : Scene P) (keys_apart : KeysApart cmp w)
    (log clean_log : Log P) (may : AreAnswered cmp w log []) (may_clean : AreAnswered cmp w clean_log []) where
  KeepsAnswers-from : KeepsAnswers cmp w log clean_log
  KeepsAnswers-from = λ n e asked newer clean newer_clean is c some.
      let xs = same-at cmp total w keys_apart log clean_log may may_clean asked clean is.at_first n in
      let ys = same-after cmp total w keys_apart log clean_log may may_clean asked newer clean newer_clean is.at_first is.at_last n in
      let got = answer-kept cmp total w n e xs.items ys.items c (rw (xs.second, ys.kept) some) in
      let answered : answer_from cmp w n e (history cmp w n asked) (reverse (happened cmp w n newer asked)) ≡ Some got.0 = ap (λ es. answer_from cmp w n e es (reverse (happened cmp w n newer asked))) (sym xs.first) ∙ ap (λ es. answer_from cmp w n e (all xs.items) (reverse es)) (sym ys.now) ∙ got.1 in
      let it = answer-for cmp total w n e (history cmp w n asked) (happened cmp w n newer asked) got.0 answered in
      let clean_it = answer-for cmp total w n e (history cmp w n clean) (happened cmp w n newer_clean clean) c some in
      let there : IsIn (at cmp w n) c (kept (ys.items ++ xs.items)) = rw (kept-append ys.items xs.items, ys.kept, xs.second) clean_it.0 in
      let now : all (ys.items ++ xs.items) ≡ history cmp w n (newer ++ asked) = all-append ys.items xs.items ∙ ap (λ es. es ++ all xs.items) ys.now ∙ ap (λ es. happened cmp w n newer asked ++ es) xs.first ∙ sym (history-append cmp total w n newer asked) in (
        got.0,
        answered,
        beside cmp total w n (asked_for e) (newer ++ asked) c got.0
            (subst (λ es. IsIn (at cmp w n) got.0 es) (sym (history-append cmp total w n newer asked)) it.0)
            (subst (λ es. IsIn (at cmp w n) c es) now (in-all (at cmp w n) (hostile cmp total w) (hostile-alike cmp total w) c (ys.items ++ xs.items) there))
            it.1 clean_it.1,
      )

  WaitsInBoth-from : WaitsInBoth cmp w log clean_log
  WaitsInBoth-from = λ n e asked newer clean newer_clean is waits.
      let xs = same-at cmp total w keys_apart log clean_log may may_clean asked clean is.at_first n in
      let ys = same-after cmp total w keys_apart log clean_log may may_clean asked newer clean newer_clean is.at_first is.at_last n in
      let both = waits-both cmp total w n e xs.items ys.items (rw (xs.first, ys.now) waits) in
      ap (λ es. waits_from cmp w n e es (reverse (happened cmp w n newer_clean clean))) (sym xs.second) ∙ ap (λ es. waits_from cmp w n e (kept xs.items) (reverse es)) (sym ys.kept) ∙ both

  -- a get is no hostile step
  get-honest : (n : P) (t : ℕ) (d : List ℕ) (step : Step P) (sent : List (Packet P)) → event_of cmp w step sent ≡ Some (n, event.Get t d) → is_hostile step ≡ false
  get-honest n t d (Hostile from to bytes) sent h = by_test (list_any (eq_by_cmp cmp from) w.hostile)
      (λ u. absurd (let no = (event-is cmp total w (node cmp w to) (event.Payload from bytes) (n, event.Get t d) (rw u at h)).1 in cc))
      (λ u. absurd (let no = rw u at h in cc))
  get-honest n t d (Peers k ps) sent h = refl
  get-honest n t d (Broadcast k r c) sent h = refl
  get-honest n t d (Subscribe k i x) sent h = refl
  get-honest n t d (Get k i x) sent h = refl
  get-honest n t d (Cleanup k gone) sent h = refl
  get-honest n t d (Deliver k) sent h = refl

  admits-older : (n : P) (t : ℕ) (d : List ℕ) (o : Option (P × NodeEvent P)) (past : NodeHistory P) → o ≡ Some (n, event.Get t d) → list_any (admits cmp w) (history_with cmp w n o past) ≡ false → list_any (admits cmp w) past ≡ false
  admits-older n t d o past is h =
      let now : list_any (admits cmp w) (history_with cmp w n (Some (n, event.Get t d)) past) ≡ false = ap (λ e. list_any (admits cmp w) (history_with cmp w n e past)) (sym is) ∙ h in
      rw ((eq_by_cmp_equiv total).refl n) at now

  HasCleanGets-from : HasCleanGets cmp w log clean_log
  HasCleanGets-from = λ x y now clean are n t d is admitted.
      let event = accepted-is cmp total w x.1 (event_of cmp w x.0 (packets cmp w now)) (n, event.Get t d) is in
      let prior = before x y (get-honest n t d x.0 (packets cmp w now) event) are in
      let sent = packets-at cmp total w keys_apart log clean_log may may_clean now clean prior.1 in
      let event_clean = ap (λ s. event_of cmp w s (packets cmp w clean)) prior.0 ∙ ap (event_of cmp w x.0) (sym sent) ∙ event in
      let it = same-at cmp total w keys_apart log clean_log may may_clean now clean prior.1 n in
      let none = admits-older n t d (accepted cmp w x now) (history cmp w n now) is admitted in
      let same = message-same ℕ ℕ (at cmp w n) (hostile cmp total w) (hostile-alike cmp total w) d (both (get t d) tt ∷ it.items) (ap (list_any (admits cmp w)) it.first ∙ none) in
      got cmp total w n t d (event_of cmp w x.0 (packets cmp w now)) x.1 now event (answered-last cmp total w x now (until cmp total w keys_apart log clean_log may may_clean (x ∷ now) are.reached)) (none-refused x now are.unrefused).0
      ∙ ap (λ m. Given (answer.Got m)) (ap (λ es. message (at cmp w n) d (get t d ∷ es)) (sym it.first) ∙ same ∙ ap (λ es. message (at cmp w n) d (get t d ∷ es)) it.second)
      ∙ sym (got cmp total w n t d (event_of cmp w y.0 (packets cmp w clean)) y.1 clean event_clean (answered-last cmp total w y clean (until_clean cmp total w keys_apart log clean_log may may_clean (y ∷ clean) are.clean_reached)) (none-refused y clean are.unrefused_clean).0)

  AddsHostileAnswers-from : AddsHostileAnswers cmp w log clean_log
  AddsHostileAnswers-from = λ n e asked newer clean newer_clean is a some none.
      let xs = same-at cmp total w keys_apart log clean_log may may_clean asked clean is.at_first n in
      let ys = same-after cmp total w keys_apart log clean_log may may_clean asked newer clean newer_clean is.at_first is.at_last n in
      let either = answer-added cmp total w n e xs.items ys.items a (rw (xs.first, ys.now) some) (rw (xs.second, ys.kept) none) in
      list_any-append (λ x. hands cmp w n (asked_for e) x.0) newer asked ∙ by_test (attacked (asked_for e) ys.items)
      (λ u. rw (ys.handed (asked_for e) u) refl)
      (λ u. ap (λ b. list_any (λ x. hands cmp w n (asked_for e) x.0) newer || b) (xs.handed (asked_for e) (rw u at either)) ∙ or_right (list_any (λ x. hands cmp w n (asked_for e) x.0) newer))

  pub Laws-from : Laws cmp w log clean_log
  Laws-from = record {
    honest_lists = HasHonestLists-from cmp total w keys_apart log clean_log may may_clean;
    clean_digests = HasCleanDigests-from cmp total w keys_apart log clean_log may may_clean;
    few_more_digests = HasFewMoreDigests-from cmp total w keys_apart log clean_log may may_clean;
    clean_caches = HasCleanCaches-from cmp total w keys_apart log clean_log may may_clean;
    clean_gets = HasCleanGets-from;
    answers_kept = KeepsAnswers-from;
    waits_in_both = WaitsInBoth-from;
    added_answers = AddsHostileAnswers-from;
  }
