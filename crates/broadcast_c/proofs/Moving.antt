-- Each handle that left a store is moved out once.
use Rattle.std.proofs.Common.{◌≡◌, ℕ, zero, suc, ◌+◌, Bool, true, false, ◌==◌, cond, List, [], ◌∷◌, ◌++◌, length, map, reverse, take, drop, refl, sym, ap, ◌∙◌, arith}
use Rattle.std.specs.List.{count_by}
use Rattle.std.proofs.lemmas.List.Sums.{sum_by-append}
use Rattle.std.proofs.lemmas.List.{length-drop, map-append, reverse-append}
use Rattle.entries.specs.Overlaid.{overlaid}
use Rattle.broadcast_core.specs.Carried.{Carried}
use Rattle.broadcast_core.specs.Reports.{Reports}
use Rattle.broadcast_c.specs.Storing.{left_in, same_bytes}
use Rattle.broadcast_c.specs.Law.{Call, store_peers, store_take, store_subscribe, store_cleanup, store_cleanup_of, store_left, store_served, store_get, store_is_primary, store_bytes, store_list, store_count, Does, Calls, store_after, AreDone, gone_at, moved_by, moved_out, have_left, AreMovedOnce}
use Rattle.broadcast_c.specs.declared.store.held.Held.{Held}
use Rattle.broadcast_c.specs.declared.store.Store.{Store}

count-append : (p : ℕ → Bool) (xs ys : List ℕ) → count_by p (xs ++ ys) ≡ count_by p xs + count_by p ys
count-append p xs ys = sum_by-append (λ x. cond (p x) 1 0) xs ys

pub drop-front : {X : Type 0} (xs ys : List X) → drop (length xs) (xs ++ ys) ≡ ys
drop-front [] ys = refl
drop-front (x ∷ xs) ys = drop-front xs ys

-- what is moved to the front, and the rest, are all
moved-front : (xs room : List ℕ) (n : ℕ) → n + length (drop (length room) xs) ≡ length xs → take n (overlaid xs room) ++ drop (length room) xs ≡ xs
moved-front [] [] zero h = refl
moved-front [] (r ∷ room) zero h = refl
moved-front [] [] (suc n) h = absurd (let no : ⊥ = omega (arith, h) in no)
moved-front [] (r ∷ room) (suc n) h = absurd (let no : ⊥ = omega (arith, h) in no)
moved-front (x ∷ xs) [] zero h = refl
moved-front (x ∷ xs) [] (suc n) h = absurd (let no : ⊥ = omega (arith, h) in no)
moved-front (x ∷ xs) (r ∷ room) zero h = absurd (let no : ⊥ = omega (arith, h, length-drop (length room) xs) in no)
moved-front (x ∷ xs) (r ∷ room) (suc n) h = ap (λ ys. x ∷ ys) (moved-front xs room n (omega (arith, h)))

abbrev handles_of : List (Carried Held (List ℕ)) → List ℕ
handles_of xs = map (λ (c : Carried Held (List ℕ)). c.message.handle) (reverse xs)

added-front : (old new : Store) → Reports same_bytes old.cache new.cache → handles_of (drop (length old.cache.left) new.cache.left) ++ left_in old ≡ left_in new
added-front old new by =
    let gone : drop (length old.cache.left) new.cache.left ≡ by.gone = ap (λ xs. drop (length old.cache.left) xs) by.added ∙ drop-front old.cache.left by.gone in
    ap (λ xs. map (λ (x : Carried Held (List ℕ)). x.message.handle) (reverse xs) ++ left_in old) gone
    ∙ sym (map-append (λ (x : Carried Held (List ℕ)). x.message.handle) (reverse by.gone) (reverse old.cache.left))
    ∙ ap (λ xs. map (λ (x : Carried Held (List ℕ)). x.message.handle) xs) (sym (reverse-append old.cache.left by.gone) ∙ ap (λ xs. reverse xs) (sym by.added))

same-left : (old new : Store) → new.cache.left ≡ old.cache.left → left_in old ≡ left_in new
same-left old new is = ap (λ xs. map (λ (x : Carried Held (List ℕ)). x.message.handle) (reverse xs)) (sym is)

-- one call
flows : (x : Call) (old new : Store) → Does x old new → handles_of (gone_at x old new) ++ left_in old ≡ moved_by x ++ left_in new
flows (store_peers names) old new (set, same, takes, served, reports) = added-front old new reports
flows (store_take peer digest charge handle report) old new does = added-front old new does.0.added
flows (store_subscribe ticket digest true) old new (lacks, awaits, served, left) = same-left old new left
flows (store_subscribe ticket digest false) old new (there, is) = same-left old new (ap (λ (st : Store). st.cache.left) is)
flows (store_cleanup tickets removed) old new (cleans, served, left, apart, count) = same-left old new left
flows (store_cleanup_of digest tickets removed) old new (cleans, served, left, count) = same-left old new left
flows (store_left room out moved) old new does =
    sym (moved-front (left_in old) room moved (ap (λ xs. moved + length xs) (sym does.rest) ∙ does.count))
    ∙ ap (λ xs. take moved xs ++ drop (length room) (left_in old)) (sym does.filled)
    ∙ ap (λ xs. take moved out ++ xs) (sym does.rest)
flows (store_served room out needed status) old new (is, got) = same-left old new (ap (λ (st : Store). st.cache.left) is)
flows (store_get digest handle status) old new (is, got) = same-left old new (ap (λ (st : Store). st.cache.left) is)
flows (store_is_primary peer primary) old new (is, got) = same-left old new (ap (λ (st : Store). st.cache.left) is)
flows (store_bytes peer bytes) old new (is, got) = same-left old new (ap (λ (st : Store). st.cache.left) is)
flows (store_list peer room out needed status) old new (is, got) = same-left old new (ap (λ (st : Store). st.cache.left) is)
flows (store_count counts) old new (is, one, cached, awaited) = same-left old new (ap (λ (st : Store). st.cache.left) is)

-- all calls
pub moved_once : (first : Store) → first.cache.left ≡ [] → (calls : Calls) → AreDone first calls → AreMovedOnce first calls
moved_once first none [] done handle =
    let none-left : left_in first ≡ [] = ap (λ xs. map (λ (x : Carried Held (List ℕ)). x.message.handle) (reverse xs)) none in
    let zero-left = ap (λ xs. count_by (λ x. x == handle) xs) none-left in
    omega (arith, zero-left)
moved_once first none (x ∷ older) (does, done) handle =
    let p : ℕ → Bool = λ n. n == handle in
    let old = store_after first older in
    let before = moved_once first none older done handle in
    let here = sym (count-append p (handles_of (gone_at x.0 old x.1)) (left_in old)) ∙ ap (λ xs. count_by p xs) (flows x.0 old x.1 does) ∙ count-append p (moved_by x.0) (left_in x.1) in
    let left = count-append p (handles_of (gone_at x.0 old x.1)) (have_left first older) in
    let moved = count-append p (moved_by x.0) (moved_out older) in
    omega (arith, before, here, left, moved)
