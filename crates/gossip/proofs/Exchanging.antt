-- An exchange: each message that is sent is new, or is the first of its stamp that is sent above a report's top.
use Rattle.std.proofs.Common.{◌≡◌, ◌≤◌, ◌<◌, ℕ, ◌+◌, true, false, Bool, List, [], ◌∷◌, arith, refl, subst, ◌⊎◌, inl, inr, Contains, map}
use Rattle.std.specs.Prelude.{nat_le, nat_lt, nat_eq, not, ◌&&◌, ◌||◌, if◌then◌else◌}
use Rattle.std.proofs.lemmas.Bool.Decides.{nat_tests}
use Rattle.std.proofs.lemmas.Bool.{le-leb, leb-true, leb-false, lt-ltb, ltb-true, le-ltb, ltb-false, and_parts, and_from}
use Rattle.gossip.specs.declared.span.Span.{Span}
use Rattle.gossip.specs.declared.message.Message.{Message}
use Rattle.gossip.specs.declared.message.Arrived.TheVariants.{Oversize}
use Rattle.gossip.specs.Spans.{is_in, is_had, top_of}
use Rattle.gossip.specs.Newest.{charge, is_sound, has_stamp, Rise}
use Rattle.gossip.specs.Held.{Held, IsHeld, Later, is_known, total, inserted, staying, floor_with, is_new, with_new, after, answer}
use Rattle.gossip.specs.Showing.{span_of, covered, AreCovered}
use Rattle.gossip.specs.Sending.{is_due, NoneDue, IsNext}
use Rattle.gossip.specs.Placing.{tally, unknown, later_than}
use Rattle.gossip.specs.Members.{Has}
use Rattle.gossip.proofs.Keeping.{rise_inserted}
use Rattle.gossip.proofs.Fitting.{has_from, above}
use Rattle.gossip.proofs.Arriving.{known_stays, new_keeps, new_unknown, none_left, none_right, after_held, says, or_left, or_right, eq_self}

-- ---- counting

bit : (p q : Bool) → (q ≡ true → p ≡ true) → (if q then 1 else 0) ≤ (if p then 1 else 0)
bit p true h = rw (h refl) (omega arith)
bit true false h = omega arith
bit false false h = omega arith

module _ (p q : Message → Bool) (less : (m : Message) → q m ≡ true → p m ≡ true) where
  falls : (xs : List Message) → tally q xs ≤ tally p xs
  falls [] = omega arith
  falls (x ∷ xs) = (let i = falls xs in let b = bit (p x) (q x) (less x) in omega (arith, i, b))

  falls_at : (xs : List Message) (m : Message) → Has xs m → p m ≡ true → q m ≡ false → tally q xs < tally p xs
  falls_at [] m h was now = absurd h
  falls_at (x ∷ xs) m (inl e) was now =
      let i = falls xs in
      let b : (if q x then 1 else 0) < (if p x then 1 else 0) = rw (e, was, now) (omega arith) in
      omega (arith, i, b)
  falls_at (x ∷ xs) m (inr h) was now = (let i = falls_at xs m h was now in let b = bit (p x) (q x) (less x) in omega (arith, i, b))

-- ---- what is covered stays so

inside : (s f p m : ℕ) → (nat_lt p s && nat_le s m) ≡ true → m ≤ f → (nat_lt 0 s && nat_le s f) ≡ true
inside s f p m h g = grind (arith, nat_tests)

wider : (s f g : ℕ) → (nat_lt 0 s && nat_le s f) ≡ true → f ≤ g → (nat_lt 0 s && nat_le s g) ≡ true
wider s f g h l = grind (arith, nat_tests)

or_split : (a b : Bool) → (a || b) ≡ true → (a ≡ true) ⊎ (b ≡ true)
or_split true b h = inl refl
or_split false b h = inr h

one_more : (s : ℕ) (m : Message) (xs : List Message) → is_had s (map span_of xs) ≡ true → is_had s (map span_of (inserted m xs)) ≡ true
one_more s m [] h = (let no : ⊥ = cc in absurd no)
one_more s m (x ∷ xs) h =
    elim (nat_lt x.stamp m.stamp) as (λ t. is_had s (map span_of (if t then x ∷ inserted m xs else m ∷ x ∷ xs)) ≡ true) [
      | true ↦ elim (or_split (is_in s (span_of x)) (is_had s (map span_of xs)) h) [
        | inl e ↦ or_left (is_in s (span_of x)) (is_had s (map span_of (inserted m xs))) e
        | inr e ↦ or_right (is_in s (span_of x)) (is_had s (map span_of (inserted m xs))) (one_more s m xs e)
      ]
      | false ↦ or_right (is_in s (span_of m)) (is_had s (map span_of (x ∷ xs))) h
    ]

fewer : (s b f : ℕ) (xs : List Message) → Rise f xs → (is_in s (record { from = 0; to = f }) || is_had s (map span_of xs)) ≡ true
    → (is_in s (record { from = 0; to = floor_with b f xs }) || is_had s (map span_of (staying b xs))) ≡ true
fewer s b f [] r h = h
fewer s b f (x ∷ xs) r h =
    elim (nat_le (total (x ∷ xs)) b) as (λ t. (is_in s (record { from = 0; to = if t then f else floor_with b x.stamp xs })
    || is_had s (map span_of (if t then x ∷ xs else staying b xs))) ≡ true) [
      | true ↦ h
      | false ↦ fewer s b x.stamp xs r.1 (elim (or_split (is_in s (record { from = 0; to = f })) (is_had s (map span_of (x ∷ xs))) h)
          as (λ _. (is_in s (record { from = 0; to = x.stamp }) || is_had s (map span_of xs)) ≡ true) [
            | inl e ↦ or_left (is_in s (record { from = 0; to = x.stamp })) (is_had s (map span_of xs)) (let l = r.0 in wider s f x.stamp e (omega (arith, l)))
            | inr e ↦ elim (or_split (is_in s (span_of x)) (is_had s (map span_of xs)) e) as (λ _. (is_in s (record { from = 0; to = x.stamp }) || is_had s (map span_of xs)) ≡ true) [
              | inl i ↦ or_left (is_in s (record { from = 0; to = x.stamp })) (is_had s (map span_of xs)) (inside s x.stamp x.prev x.stamp i (omega arith))
              | inr i ↦ or_right (is_in s (record { from = 0; to = x.stamp })) (is_had s (map span_of xs)) i
            ]
          ])
    ]

pub covered_stays : (s : ℕ) (h : Held) (m : Message) → IsHeld h → is_had s (covered h) ≡ true → is_had s (covered (after h m)) ≡ true
covered_stays s h m held c =
    (elim (is_new h m) as (λ t. is_new h m ≡ t → is_had s (covered (if t then with_new h m else h)) ≡ true) [
      | true ↦ λ e. by (new_unknown (is_sound h.budget m) (is_known m.stamp h) e)
      | false ↦ λ e. c
    ]) refl
  where
    by : is_known m.stamp h ≡ false → is_had s (covered (with_new h m)) ≡ true
    by new =
        let up = leb-false m.stamp h.floor (none_left (nat_le m.stamp h.floor) (has_stamp m.stamp h.list) new) in
        let none = none_right (nat_le m.stamp h.floor) (has_stamp m.stamp h.list) new in
        fewer s h.budget h.floor (inserted m h.list) (rise_inserted h.floor m h.list up none held.rises)
        (elim (or_split (is_in s (record { from = 0; to = h.floor })) (is_had s (map span_of h.list)) c) as (λ _. (is_in s (record { from = 0; to = h.floor }) || is_had s (map span_of (inserted m h.list))) ≡ true) [
          | inl e ↦ or_left (is_in s (record { from = 0; to = h.floor })) (is_had s (map span_of (inserted m h.list))) e
          | inr e ↦ or_right (is_in s (record { from = 0; to = h.floor })) (is_had s (map span_of (inserted m h.list))) (one_more s m h.list e)
        ])

has_covers : (s : ℕ) (xs : List Message) → Later xs → has_stamp s xs ≡ true → is_had s (map span_of xs) ≡ true
has_covers s [] l h = (let no : ⊥ = cc in absurd no)
has_covers s (x ∷ xs) l h =
    elim (or_split (nat_eq x.stamp s) (has_stamp s xs) h) [
      | inl e ↦ or_left (is_in s (span_of x)) (is_had s (map span_of xs)) (own x.prev x.stamp s l.0 e)
      | inr e ↦ or_right (is_in s (span_of x)) (is_had s (map span_of xs)) (has_covers s xs l.1 e)
    ]
  where
    own : (p t s : ℕ) → p < t → nat_eq t s ≡ true → (nat_lt p s && nat_le s t) ≡ true
    own p t s h e = grind (arith, nat_tests)

known_covered : (s : ℕ) (h : Held) → IsHeld h → 0 < s → is_known s h ≡ true → is_had s (covered h) ≡ true
known_covered s h held pos k =
    elim (or_split (nat_le s h.floor) (has_stamp s h.list) k) [
      | inl e ↦ or_left (is_in s (record { from = 0; to = h.floor })) (is_had s (map span_of h.list)) (low s h.floor pos e)
      | inr e ↦ or_right (is_in s (record { from = 0; to = h.floor })) (is_had s (map span_of h.list)) (has_covers s h.list held.later e)
    ]
  where
    low : (s f : ℕ) → 0 < s → nat_le s f ≡ true → (nat_lt 0 s && nat_le s f) ≡ true
    low s f h e = grind (arith, nat_tests)

-- ---- what becomes of a sound message

not_oversize : (p k q r : Bool) → p ≡ true → k ≡ false → (says p k q r ≡ Oversize → ⊥) → ((p && q) && not k) ≡ true
not_oversize true false true r a b h = refl
not_oversize true false false r a b h = absurd (h refl)
not_oversize true true q r a b h = (let no : ⊥ = cc in absurd no)
not_oversize false k q r a b h = (let no : ⊥ = cc in absurd no)

is_oversize : (p k q r : Bool) → says p k q r ≡ Oversize → q ≡ false
is_oversize true false false r e = refl
is_oversize true false true true e = (let no : ⊥ = cc in absurd no)
is_oversize true false true false e = (let no : ⊥ = cc in absurd no)
is_oversize true true q r e = (let no : ⊥ = cc in absurd no)
is_oversize false k q r e = (let no : ⊥ = cc in absurd no)

one_of : (xs : List Message) (m : Message) → Later xs → Has xs m → (m.prev < m.stamp) × (charge m ≤ total xs)
one_of [] m l h = absurd h
one_of (x ∷ xs) m l (inl e) = subst (λ (y : Message). (y.prev < y.stamp) × (charge y ≤ total (x ∷ xs))) e (l.0, omega arith)
one_of (x ∷ xs) m l (inr h) = (let i = one_of xs m l.1 h in (i.0, let f = i.1 in omega (arith, f)))

-- what is listed is sound
pub listed_sound : (h : Held) (m : Message) → IsHeld h → Contains h.list m → is_sound h.budget m ≡ true
listed_sound h m held c =
    let i = one_of h.list m held.later (has_from h.list m c) in
    let within = held.within in
    let fits = i.1 in
    and_from (nat_lt m.prev m.stamp) (nat_le (charge m) h.budget) (lt-ltb m.prev m.stamp i.0) (le-leb (charge m) h.budget (omega (arith, within, fits)))

-- a sound message of a log whose budget is no greater is not oversize
pub fits : (b : ℕ) (h : Held) (m : Message) → is_sound b m ≡ true → b ≤ h.budget → answer h m ≡ Oversize → ⊥
fits b h m sound le e =
    let q = is_oversize (nat_lt m.prev m.stamp) (is_known m.stamp h) (nat_le (charge m) h.budget) (nat_lt (after h m).floor m.stamp) e in
    let over = leb-false (charge m) h.budget q in
    let small = leb-true (charge m) b (and_parts (nat_lt m.prev m.stamp) (nat_le (charge m) b) sound).1 in
    omega (arith, over, small, le)

taken : (b : ℕ) (h : Held) (m : Message) → IsHeld h → is_sound b m ≡ true → (answer h m ≡ Oversize → ⊥) → is_known m.stamp (after h m) ≡ true
taken b h m held sound ok =
    (elim (is_known m.stamp h) as (λ t. is_known m.stamp h ≡ t → is_known m.stamp (after h m) ≡ true) [
      | true ↦ λ k. known_stays m.stamp h m held k
      | false ↦ λ k. (
          let later = (and_parts (nat_lt m.prev m.stamp) (nat_le (charge m) b) sound).0 in
          let new : is_new h m ≡ true = not_oversize (nat_lt m.prev m.stamp) (is_known m.stamp h) (nat_le (charge m) h.budget) (nat_lt (after h m).floor m.stamp) later k ok in
          rw new (new_keeps m.stamp h m held k (or_left (nat_eq m.stamp m.stamp) (is_known m.stamp h) (eq_self m.stamp))))
    ]) refl

positive : (b : ℕ) (m : Message) → is_sound b m ≡ true → 0 < m.stamp
positive b m sound = (let l = ltb-true m.prev m.stamp (and_parts (nat_lt m.prev m.stamp) (nat_le (charge m) b) sound).0 in omega (arith, l))

-- ---- one step of an exchange

due_parts : (had below unsent : Bool) → ((not had && (below || unsent)) && true) ≡ true → (had ≡ false) × ((below ≡ true) ⊎ (unsent ≡ true))
due_parts false true unsent h = (refl, inl refl)
due_parts false false true h = (refl, inr refl)
due_parts false false false h = (let no : ⊥ = cc in absurd no)
due_parts true below unsent h = (let no : ⊥ = cc in absurd no)

not_due : (had below unsent : Bool) → ((not had && (below || unsent)) && true) ≡ false → (had ≡ true) ⊎ (unsent ≡ false)
not_due true below unsent h = inl refl
not_due false below false h = inr refl
not_due false true true h = (let no : ⊥ = cc in absurd no)
not_due false false true h = (let no : ⊥ = cc in absurd no)

abbrev pub IsCoveredUpTo : ℕ → Held → List Message → Type 0
IsCoveredUpTo sent h list = (m : Message) → Contains list m → m.stamp ≤ sent → is_had m.stamp (covered h) ≡ true

-- nothing of a list is up to the floor
pub none_sent : (h k : Held) → IsHeld h → IsCoveredUpTo h.floor k h.list
none_sent h k held m c low = (let up = above h.floor h.list m held.rises (has_from h.list m c) in absurd (let none : ⊥ = omega (arith, up, low) in none))

module _ (report : List Span) (to : Held) (list : List Message) (sent : ℕ)
    (within : (s : ℕ) → is_had s report ≡ true → is_had s (covered to) ≡ true) (upto : IsCoveredUpTo sent to list) where
  shown_or_sent : (m : Message) → Contains list m → is_due report sent [] m ≡ false → is_had m.stamp (covered to) ≡ true
  shown_or_sent m c rest =
      elim (not_due (is_had m.stamp report) (nat_le m.stamp (top_of report)) (nat_lt sent m.stamp) rest) [
        | inl h ↦ within m.stamp h
        | inr h ↦ upto m c (ltb-false sent m.stamp h)
      ]

  pub all_covered : NoneDue report sent [] list → AreCovered to list
  all_covered none m c = shown_or_sent m c (none m c)

  module _ (held : IsHeld to) (b : ℕ) (it : Message) (next : IsNext report sent [] list it) (sound : is_sound b it ≡ true) (ok : answer to it ≡ Oversize → ⊥) where
    -- the message was sent above the report's top
    pub more_sent : IsCoveredUpTo it.stamp (after to it) list
    more_sent m c low =
        (elim (is_due report sent [] m) as (λ t. is_due report sent [] m ≡ t → is_had m.stamp (covered (after to it)) ≡ true) [
          | true ↦ λ d. (
              let least = next.least m c d in
              let same : it.stamp ≡ m.stamp = omega (arith, least, low) in
              subst (λ (s : ℕ). is_had s (covered (after to it)) ≡ true) same
              (known_covered it.stamp (after to it) (after_held to it held) (positive b it sound) (taken b to it held sound ok)))
          | false ↦ λ d. covered_stays m.stamp to it held (shown_or_sent m c d)
        ]) refl

    pub same_sent : IsCoveredUpTo sent (after to it) list
    same_sent m c low = covered_stays m.stamp to it held (upto m c low)

    known_more : (m : Message) → not (is_known m.stamp (after to it)) ≡ true → not (is_known m.stamp to) ≡ true
    known_more m h =
        (elim (is_known m.stamp to) as (λ t. is_known m.stamp to ≡ t → not t ≡ true) [
          | true ↦ λ k. (let n = known_stays m.stamp to it held k in let no : ⊥ = cc in absurd no)
          | false ↦ λ k. refl
        ]) refl

    -- a message above the top is not sent again
    pub less_later : top_of report < it.stamp → unknown (after to it) list + later_than it.stamp list < unknown to list + later_than sent list
    less_later above =
        let parts = due_parts (is_had it.stamp report) (nat_le it.stamp (top_of report)) (nat_lt sent it.stamp) next.due in
        let unsent : nat_lt sent it.stamp ≡ true = elim parts.1 [
          | inl h ↦ absurd (let l = leb-true it.stamp (top_of report) h in let no : ⊥ = omega (arith, l, above) in no)
          | inr h ↦ h
        ] in
        let up = ltb-true sent it.stamp unsent in
        let l = falls_at (λ m. nat_lt sent m.stamp) (λ m. nat_lt it.stamp m.stamp)
        (λ m h. (let k = ltb-true it.stamp m.stamp h in lt-ltb sent m.stamp (omega (arith, k, up)))) list it (has_from list it next.is_listed) unsent (le-ltb it.stamp it.stamp (omega arith)) in
        let u = falls (λ m. not (is_known m.stamp to)) (λ m. not (is_known m.stamp (after to it))) known_more list in
        omega (arith, l, u)

    -- a message up to the top is new
    pub less_unknown : ((s : ℕ) → 0 < s → s ≤ top_of report → is_had s report ≡ false → is_known s to ≡ false) → it.stamp ≤ top_of report
        → unknown (after to it) list < unknown to list
    less_unknown news low =
        let parts = due_parts (is_had it.stamp report) (nat_le it.stamp (top_of report)) (nat_lt sent it.stamp) next.due in
        let old = news it.stamp (positive b it sound) low parts.0 in
        let new = taken b to it held sound ok in
        falls_at (λ m. not (is_known m.stamp to)) (λ m. not (is_known m.stamp (after to it))) known_more list it (has_from list it next.is_listed) (rw old refl) (rw new refl)

pub same_budget : (h : Held) (m : Message) → (after h m).budget ≡ h.budget
same_budget h m =
    elim (is_new h m) as (λ t. (if t then with_new h m else h).budget ≡ h.budget) [
      | true ↦ refl
      | false ↦ refl
    ]
