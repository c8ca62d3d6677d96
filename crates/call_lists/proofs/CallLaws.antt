-- Laws over the words of specs/CallLaws.
-- What is held after a list of calls, and what the calls of a list are refused by.
use Rattle.std.specs.Prelude.{ℕ, ◌<◌, ◌≤◌, ◌≡◌, refl, Bool, true, false, not, ◌&&◌, cond, ltb, length, drop}
use Rattle.std.proofs.Common.{arith, subst, ◌∙◌, ⊎_elim, length-append, length-take-le, lt-ltb}
use Rattle.std.proofs.Math.Path.{sym, ap, ap₂}
use Rattle.std.proofs.Math.Bool.{and-false, or-false}
use Rattle.std.proofs.Math.Option.{Option, none, some, some-injective}
use mathlib.Core.List.Memᴰ
use mathlib.Core.List.{List, [], ◌∷◌, ◌++◌, map, append-nil, Memᴰ}
use Rattle.std.proofs.Math.Seq.{append_snoc}
use Rattle.lists.specs.Cases.{maybe, is_some, by_bool, clash_option}
use Rattle.lists.specs.Bytes.{Bytes, same_bytes}
use Rattle.lists.proofs.Bytes.{same→}
use Rattle.lists.specs.Tests.{member_of, keep}
use Rattle.lists.proofs.Tests.{member→, member←, keep_cong, keep-keep, keep_append}
use Rattle.lists.specs.Sorting.{Distinct}
use Rattle.lists.proofs.Sorting.{distinct_apart}
use Rattle.lists.specs.Once.{once_each}
use Rattle.lists.specs.Chunks.{length-chunks}
use Rattle.octets.specs.Octets.{part}
use Rattle.sha256.specs.Sha256.{sha256}
use Rattle.cords.specs.Lent.{lent_entry, table_good}
use Rattle.event.specs.Answers.{value, refused}
use Rattle.event.specs.Checks.{refusal}
use Rattle.event.specs.CheckLaws.{offer_not_2}
use Rattle.model.specs.Bundle.{bundle_good, events_in}
use Rattle.model.specs.Store.{store_good}
use Rattle.model.specs.StoreLaws.{Checked, Held}
use Rattle.model.proofs.StoreLaws.{checked→, places_first, checked_held, creator→, later→}
use Rattle.takes.specs.declared.Placed.{Placed}
use Rattle.takes.specs.declared.Placed.TheVariants.{Stored}
use Rattle.takes.specs.Takes.{Left, start_of, placed, take_answer, take_of, Run, step, run_of}
use Rattle.takes.specs.TakeLaws.{number_in, Good, fresh_run, held_after}
use Rattle.takes.proofs.TakeLaws.{take-answers, take_answer_good, stores←, take_places, take_stored, take_keeps, take-creator, starts←, start_held, start_creator, start_good, bundle-good}
use Rattle.call_lists.specs.Calls.{Call, single, bundle, offers_of, offers, passes_beside, counted_events, set_of, Fits, Lent, held_by, started, after_call, after_calls, CallAnswer, of_take, answer_of_call, answers, number_of_call}
use Rattle.call_lists.specs.CallLaws.{joined, accepted, Kept, LeftBy, takes_of}

-- ── on lists ────────────────────────────────────────────────────────────────────────────────────────────────────────────

accepted-append : (held es more : List Bytes) → accepted held (es ++ more) ≡ accepted (accepted held es) more
unfolding accepted
accepted-append held [] more = refl
accepted-append held (e ∷ es) more = accepted-append (joined held e) es more

-- those of a list that are not held, each once
abbrev others : List Bytes → List Bytes → List Bytes
others held l = keep (λ y. not (member_of y held)) (once_each l)

-- unlike e, and none of those held
both-new : (held : List Bytes) (e y : Bytes)
    → (not (same_bytes y e) && not (member_of y held)) ≡ not (member_of y (held ++ (e ∷ [])))
both-new [] e y = by_bool (same_bytes y e) (λ t. rw t) (λ f. rw f)
both-new (x ∷ xs) e y = by_bool (same_bytes y x) (λ t. rw t (and-false (not (same_bytes y e)))) (λ f. rw f (both-new xs e y))

-- of those of a list that are unlike e, the ones that are not held
abbrev unlike_both : List Bytes → Bytes → List Bytes → List Bytes
unlike_both held e l = keep (λ y. not (same_bytes y e) && not (member_of y held)) l

unlike_first : (held : List Bytes) (e : Bytes) (l : List Bytes)
    → keep (λ y. not (member_of y held)) (keep (λ y. not (same_bytes y e)) l) ≡ unlike_both held e l
unlike_first held e l = keep-keep (λ y. not (member_of y held)) (λ y. not (same_bytes y e)) l

-- an event that is not held comes first of those that are not, and the rest are not held beside it
others-new : (held : List Bytes) (e : Bytes) (es : List Bytes) → member_of e held ≡ false
    → others held (e ∷ es) ≡ e ∷ others (held ++ (e ∷ [])) es
unfolding once_each
others-new held e es f =
    rw f (ap (λ (r : List Bytes). e ∷ r) (unlike_first held e (once_each es) ∙ keep_cong _ _ (once_each es) (both-new held e)))

-- an event that is held adds nothing
others-held : (held : List Bytes) (e : Bytes) (es : List Bytes) → member_of e held ≡ true → others held (e ∷ es) ≡ others held es
unfolding once_each
others-held held e es t = rw t (unlike_first held e (once_each es) ∙ keep_cong _ _ (once_each es) same)
  where
    same : (y : Bytes) → (not (same_bytes y e) && not (member_of y held)) ≡ not (member_of y held)
    same y = by_bool (same_bytes y e) (λ u. rw (u, same→ y e u, t)) (λ f. rw f)

-- an event that shares no id with those held in front of it has a new one
id_new : (held : List Bytes) (e : Bytes) (rest : List Bytes) → Distinct sha256 (held ++ (e ∷ rest))
    → member_of (sha256 e) (map sha256 held) ≡ false
id_new held e rest d = by_bool (member_of (sha256 e) (map sha256 held)) found (λ f. f)
  where
    found : member_of (sha256 e) (map sha256 held) ≡ true → member_of (sha256 e) (map sha256 held) ≡ false
    found t =
        let w = Memᴰ.of_map sha256 held (member→ (sha256 e) (map sha256 held) t) in
        absurd (distinct_apart sha256 held (e ∷ rest) w.0 e d w.1 (Memᴰ.head refl) (sym w.2))

-- of offers that fit beside those held, all are accepted, each once
accepted_all : (held es : List Bytes) → Fits (held ++ others held es) → accepted held es ≡ held ++ others held es
unfolding accepted once_each
accepted_all held [] h = sym (append-nil held)
accepted_all held (e ∷ es) h =
    by_bool (member_of e held) (again (accepted_all held es)) (first (accepted_all (held ++ (e ∷ [])) es))
  where
    All : List Bytes → Type 0
    All l = Fits (l ++ others l es) → accepted l es ≡ l ++ others l es

    again : All held → member_of e held ≡ true → accepted (joined held e) es ≡ held ++ others held (e ∷ es)
    again rest t =
        let same = ap (λ (r : List Bytes). held ++ r) (others-held held e es t) in
        let id = member← (sha256 e) (map sha256 held) (Memᴰ.map sha256 (member→ e held t)) in
        rw id (rest (subst Fits same h) ∙ sym same)

    first : All (held ++ (e ∷ [])) → member_of e held ≡ false → accepted (joined held e) es ≡ held ++ others held (e ∷ es)
    first rest f =
        let next = others (held ++ (e ∷ [])) es in
        let same = ap (λ (r : List Bytes). held ++ r) (others-new held e es f) in
        let fits : Fits (held ++ (e ∷ next)) = subst Fits same h in
        let whole = same ∙ sym (append_snoc held e next) in
        let room : length held < 256 = let a = length-append held (e ∷ next) in omega (arith, fits.at_most) in
        rw (id_new held e next fits.distinct, lt-ltb (length held) 256 room) (rest (subst Fits whole h) ∙ sym whole)

accepted_once : (c : Bytes) (es : List Bytes) → Fits (once_each (c ∷ es)) → accepted (c ∷ []) es ≡ once_each (c ∷ es)
unfolding once_each
accepted_once c es h = accepted_all (c ∷ []) es (subst Fits same h) ∙ sym same
  where
    same : once_each (c ∷ es) ≡ c ∷ others (c ∷ []) es
    same = ap (λ (r : List Bytes). c ∷ r) (keep_cong _ _ (once_each es) (λ y. ap not (sym (or-false (same_bytes y c)))))

-- ── one call ────────────────────────────────────────────────────────────────────────────────────────────────────────────

-- one offer, by whether it passes and whether its id is held
held_after_is : (o : Option ℕ) (known : Bool) (held : List Bytes) (e : Bytes) → member_of (sha256 e) (map sha256 held) ≡ known
    → held_after (maybe (placed known (length held)) refused o) held e ≡ accepted held (cond (not (is_some o)) (e ∷ []) [])
unfolding accepted
held_after_is (some k) known held e p = refl
held_after_is none true held e p = rw p
held_after_is none false held e p = rw p (by_bool (ltb (length held) 256) (λ t. rw t) (λ f. rw f))

module _ (table c : Bytes) where
  abbrev passing : List Bytes → List Bytes
  passing es = keep (passes_beside table c) es

  abbrev taken : Lent → Bytes → Lent
  taken m e = record { store = (take_of table m.store m.count e).store; count = (take_of table m.store m.count e).count }

  take-kept : (m : Lent) (e : Bytes) → Kept table c m → Kept table c (taken m e)
  take-kept m e k =
      record {
        good = take_keeps table m.store m.count e k.good;
        creator_first = take-creator table m.store m.count e k.good ∙ k.creator_first;
      }

  take-held : (m : Lent) (e : Bytes) → Kept table c m → held_by (taken m e) ≡ accepted (held_by m) (passing (e ∷ []))
  take-held m e k = take_places table s n e ∙ rw answer (held_after_is (refusal (lent_entry table) c e) known (held_by m) e refl)
    where
      s : Bytes
      s = m.store

      n : ℕ
      n = m.count

      known : Bool
      known = member_of (sha256 e) (map sha256 (held_by m))

      answer : take_answer table s n e ≡ maybe (placed known (length (held_by m))) refused (refusal (lent_entry table) c e)
      answer =
          let long : placed known n ≡ placed known (length (held_by m)) = ap (placed known) (sym (length-chunks 192 s n)) in
          rw (← long, ← k.creator_first) (take_answer_good table s n e k.good)

  -- offers one after another
  accepted_more : (held es more : List Bytes)
      → accepted held (passing (es ++ more)) ≡ accepted (accepted held (passing es)) (passing more)
  accepted_more held es more = rw (keep_append (passes_beside table c) es more) (accepted-append held (passing es) (passing more))

  -- what a call or several leave, and what is held then of what was offered
  abbrev Holds : Lent → Lent → List Bytes → Type 0
  Holds m after es = Kept table c after × (held_by after ≡ accepted (held_by m) (passing es))

  abbrev of_run : Run → Lent
  of_run r = record { store = r.store; count = r.count }

  run-held : (r : Run) (es : List Bytes) → Kept table c (of_run r) → Holds (of_run r) (of_run (run_of table r es)) es
  unfolding run_of step accepted
  run-held r [] k = (k, refl)
  run-held r (e ∷ es) k =
      let rest = run-held (step table r e) es (take-kept (of_run r) e k) in
      let one = ap (λ (l : List Bytes). accepted l (passing es)) (take-held (of_run r) e k) in
      (rest.0, rest.1 ∙ one ∙ sym (accepted_more (held_by (of_run r)) (e ∷ []) es))

  call_held : (m : Lent) (call : Call) → Kept table c m → Holds m (after_call table m call) (offers_of call)
  unfolding after_call offers_of accepted
  call_held m (single e) k = (take-kept m e k, take-held m e k)
  call_held m (bundle b) k =
      rw (bundle-good table m.store m.count b k.good)
      (by_bool (bundle_good b) (λ t. rw t (run-held (fresh_run m.store m.count) (events_in b) k)) (λ f. rw f (k, refl)))

  -- ── a list of calls ─────────────────────────────────────────────────────────────────────────────────────────────────────

  calls_held : (m : Lent) (calls : List Call) → Kept table c m → Holds m (after_calls table m calls) (offers calls)
  unfolding after_calls offers accepted
  calls_held m [] k = (k, refl)
  calls_held m (call ∷ calls) k =
      let one = call_held m call k in
      let rest = calls_held (after_call table m call) calls one.0 in
      let next = ap (λ (l : List Bytes). accepted l (passing (offers calls))) one.1 in
      (rest.0, rest.1 ∙ next ∙ sym (accepted_more (held_by m) (offers_of call) (offers calls)))

  -- the single take of an event that passes and fits beside those held is answered "stored"
  stored_next : (m : Lent) (e : Bytes) (es : List Bytes) → Kept table c m → Fits (held_by m ++ (e ∷ es)) → refusal (lent_entry table) c e ≡ none
      → take_answer table m.store m.count e ≡ value Stored
  stored_next m e es k h r =
      let a = length-append (held_by m) (e ∷ es) in
      let b = length-chunks 192 m.store m.count in
      stores← table m.store m.count e
      (record {
        good = k.good;
        passes = ap (λ (x : Bytes). refusal (lent_entry table) x e) k.creator_first ∙ r;
        new = id_new (held_by m) e es h.distinct;
        room = omega (arith, h.at_most);
      })

  -- the single takes are all answered "stored", and what they offer is held, last
  pub record AllStored (m : Lent) (es : List Bytes) : Type 0 where
    pub each : answers table m (map single es) ≡ map (λ e. of_take (value Stored)) es
    pub behind : held_by (after_calls table m (map single es)) ≡ held_by m ++ es

  stored_all : (m : Lent) (es : List Bytes) → Kept table c m → Fits (held_by m ++ es)
      → ((e : Bytes) → Memᴰ e es → refusal (lent_entry table) c e ≡ none) → AllStored m es
  unfolding answers answer_of_call after_calls after_call
  stored_all m [] k h r = record { each = refl; behind = sym (append-nil (held_by m)) }
  stored_all m (e ∷ es) k h r =
      let answer = stored_next m e es k h (r e (Memᴰ.head refl)) in
      let last = ap (λ (l : List Bytes). l ++ es) (take_stored table m.store m.count e answer) in
      let whole : held_by (taken m e) ++ es ≡ held_by m ++ (e ∷ es) = last ∙ append_snoc (held_by m) e es in
      let rest = stored_all (taken m e) es (take-kept m e k) (subst Fits (sym whole) h) (λ x i. r x (Memᴰ.tail i)) in
      record {
        each = ap₂ ◌∷◌ (ap of_take (take-answers table m.store m.count e ∙ answer)) rest.each;
        behind = rest.behind ∙ whole;
      }

-- ── refusals ────────────────────────────────────────────────────────────────────────────────────────────────────────────

-- in a store that passes check 2, a bundle's refusal is read off its bytes: 8 exactly where check 8 fails
pub bundle_number : (table : Bytes) (m : Lent) (b : Bytes) → Good table m.store m.count
    → number_of_call (answer_of_call table m (bundle b)) ≡ cond (bundle_good b) none (some 8)
unfolding answer_of_call
bundle_number table m b g = rw (bundle-good table m.store m.count b g) (by_bool (bundle_good b) (λ t. rw t) (λ f. rw f))

two : (k : ℕ) → some k ≡ some 2 → k ≡ 2
two k p = some-injective k 2 p

-- and no call is refused by 2
call_not_2 : (table : Bytes) (m : Lent) (call : Call) → Good table m.store m.count
    → number_of_call (answer_of_call table m call) ≡ some 2
    → ⊥
unfolding answer_of_call
call_not_2 table m (single e) g p =
    let c = part m.store 0 192 in
    let known = member_of (sha256 e) (map sha256 (held_by m)) in
    let answer = take-answers table m.store m.count e ∙ take_answer_good table m.store m.count e g in
    number (refusal (lent_entry table) c e) known (offer_not_2 (lent_entry table) c e) (sym (ap number_in answer) ∙ p)
  where
    number : (o : Option ℕ) (known : Bool) → (o ≡ some 2 → ⊥)
        → number_in (maybe (placed known m.count) refused o) ≡ some 2
        → ⊥
    number (some k) known h q = h q
    number none true h q = clash_option none 2 refl q
    number none false h q =
        by_bool (ltb m.count 256) (λ t. clash_option none 2 refl (rw t at q)) (λ f. let z = two 7 (rw f at q) in omega arith)
call_not_2 table m (bundle b) g p =
    by_bool (bundle_good b)
    (λ t. clash_option none 2 refl (sym (bundle_number table m b g ∙ rw t) ∙ p))
    (λ f. let z = two 8 (sym (bundle_number table m b g ∙ rw f) ∙ p) in omega arith)

answers-not_2 : (table c : Bytes) (m : Lent) (calls : List Call) → Kept table c m → (a : CallAnswer)
    → Memᴰ a (answers table m calls)
    → number_of_call a ≡ some 2 → ⊥
unfolding answers
answers-not_2 table c m [] k a i p = Memᴰ.not-nil i
answers-not_2 table c m (call ∷ calls) k a i p =
    ⊎_elim
    (λ q. call_not_2 table m call k.good (ap number_of_call (sym q) ∙ p))
    (λ j. answers-not_2 table c (after_call table m call) calls (call_held table c m call k).0 a j p)
    (Memᴰ.cases_cons i)

-- the answers of a list are those of its beginning, then those of its end from what the beginning left
pub answers-append : (table : Bytes) (m : Lent) (before calls : List Call)
    → answers table m (before ++ calls) ≡ answers table m before ++ answers table (after_calls table m before) calls
unfolding answers after_calls
answers-append table m [] calls = refl
answers-append table m (call ∷ before) calls =
    ap (λ (l : List CallAnswer). answer_of_call table m call ∷ l) (answers-append table (after_call table m call) before calls)

-- ── from a start ────────────────────────────────────────────────────────────────────────────────────────────────────────

module _ (table buffer creator : Bytes) (starts : (start_of table buffer creator).answer ≡ value Stored) where
  -- what a list of calls leaves
  abbrev left : List Call → Lent
  left calls = after_calls table (started table buffer creator) calls

  start_kept : Kept table creator (started table buffer creator)
  start_kept = record { good = start_good table buffer creator starts; creator_first = start_creator table buffer creator starts }

  -- a store that passes check 2
  pub calls_good : (calls : List Call) → Good table (left calls).store (left calls).count
  calls_good calls = (calls_held table creator (started table buffer creator) calls start_kept).0.good

  -- what is held then: the creator, and each counted event whose id was new while fewer than 256 were held
  pub calls_accepted : (calls : List Call) → held_by (left calls) ≡ accepted (creator ∷ []) (counted_events table creator calls)
  unfolding counted_events
  calls_accepted calls =
      (calls_held table creator (started table buffer creator) calls start_kept).1
      ∙ ap (λ (l : List Bytes). accepted l (counted_events table creator calls)) (start_held table buffer creator starts)

  -- where the set has at most 256 events and no two share an id, all of it is held: the creator, then each counted event once,
  -- in order of arrival
  pub set-held : (calls : List Call) → Fits (set_of table creator calls) → held_by (left calls) ≡ set_of table creator calls
  set-held calls h = calls_accepted calls ∙ accepted_once creator (counted_events table creator calls) h

  -- no call of a list is refused by 2
  pub never_2 : (calls : List Call) (a : CallAnswer) → Memᴰ a (answers table (started table buffer creator) calls)
      → number_of_call a ≡ some 2
      → ⊥
  never_2 calls = answers-not_2 table creator (started table buffer creator) calls start_kept

  -- a bundle of a list is refused by 8 or not at all, by its bytes alone
  pub bundle_in_list : (before : List Call) (b : Bytes)
      → number_of_call (answer_of_call table (left before) (bundle b)) ≡ cond (bundle_good b) none (some 8)
  bundle_in_list before b = bundle_number table (left before) b (calls_good before)

  -- at most 255 further events that pass, all ids distinct: their single takes are all answered "stored", and all are held
  pub all_stored : (es : List Bytes) → length es ≤ 255 → Distinct sha256 (creator ∷ es)
      → ((e : Bytes) → Memᴰ e es → refusal (lent_entry table) creator e ≡ none)
      → (answers table (started table buffer creator) (map single es) ≡ map (λ e. of_take (value Stored)) es)
      × (held_by (left (map single es)) ≡ creator ∷ es)
  all_stored es h d r =
      let fits : Fits (creator ∷ es) = record { at_most = omega arith; distinct = d } in
      let whole = ap (λ (l : List Bytes). l ++ es) (start_held table buffer creator starts) in
      let all = stored_all table creator (started table buffer creator) es start_kept (subst Fits (sym whole) fits) r in
      (all.each, all.behind ∙ whole)

-- ── check 2 passes what lists of calls leave, and nothing else ──────────────────────────────────────────────────────────

pub left-passes : (table : Bytes) (m : Lent) (buffer creator : Bytes) (calls : List Call)
    → LeftBy table m buffer creator calls
    → store_good (lent_entry table) m.store m.count ≡ true
unfolding store_good
left-passes table m buffer creator calls l =
    rw (← l.same_held, ← l.same_count) (calls_good table buffer creator l.starts calls).passes

pub passes-left : (table : Bytes) (m : Lent) (buffer : Bytes) → table_good table ≡ true → length m.store ≡ 49152
    → store_good (lent_entry table) m.store m.count ≡ true
    → length buffer ≡ 49152 → LeftBy table m buffer (part m.store 0 192) (takes_of m)
passes-left table m buffer lent h t l = record { starts = starts; same_held = held; same_count = count }
  where
    c : Bytes
    c = part m.store 0 192

    others : List Bytes
    others = drop 1 (held_by m)

    bounds : Checked (lent_entry table) m.store m.count
    bounds = checked→ (lent_entry table) m.store m.count t

    first : held_by m ≡ c ∷ others
    first = places_first m.store m.count bounds.at_least

    parts : Held (lent_entry table) c others
    parts = checked_held (lent_entry table) m.store m.count bounds

    starts : (start_of table buffer c).answer ≡ value Stored
    starts =
        let create = creator→ c parts.creator-good in
        let long = length-take-le 192 m.store (omega arith) in
        let good = starts← table buffer c (record { size = l; long = long; lent = lent; fields = create.1; create = create.0 }) in
        ap (λ (x : Left Placed). x.answer) good

    most : length others ≤ 255
    most = let a = length-chunks 192 m.store m.count in let b = ap length first in omega (arith, bounds.at_most)

    passes : (e : Bytes) → Memᴰ e others → refusal (lent_entry table) c e ≡ none
    passes e i = (later→ (lent_entry table) c e (parts.others-good e i)).1

    held : held_by (after_calls table (started table buffer c) (takes_of m)) ≡ held_by m
    held = (all_stored table buffer c starts others most parts.distinct passes).1 ∙ sym first

    count : (after_calls table (started table buffer c) (takes_of m)).count ≡ m.count
    count = sym (length-chunks 192 _ _) ∙ ap length held ∙ length-chunks 192 m.store m.count
