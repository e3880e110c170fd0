-- Each way of putting runs together keeps the relation, for any access control that the interpreter's numbers stand for.
use Rattle.std.specs.Prelude.{Bool, ◌≡◌, ltb, eqb, set}
use Rattle.std.proofs.Math.Bool.{true, false, cond}
use Rattle.std.proofs.Math.Path.{refl, sym, subst}
use Rattle.std.proofs.Common.{ap, ◌∙◌, arith, length-take}
use mathlib.Core.List.{List, [], ◌∷◌, ◌++◌, reverse, reverse-cons}
use Rattle.std.proofs.Math.Option.{Option, none, some}
use Prim.Native.Nat.{ℕ, zero, suc, ◌+◌, ◌*◌, ◌/◌, ◌-◌, ◌<◌, ◌≤◌, min}
use Rattle.std.proofs.Math.Decide.{dec_lt}
use Rattle.std.proofs.Math.ListN.{length}
use borrow.Author.Tests.{ne_eqb, lt-ltb, le-ltb}
use Rattle.program.specs.Bytes.{overwrite}
use Rattle.program.specs.Limits.{no_guard, max_frames}
use Rattle.program.specs.Layout.{guard_in}
use Rattle.program.specs.Terms.{Op, sum, difference, less, Term}
use Rattle.traces.specs.Traces.{Event, event_bytes, recorded}
use Rattle.semantics.specs.Values.{num, closure, bind, lookup, entered, Log, log_post, log_saturated, log_decision, Budget, budget, ends, stops}
use Rattle.semantics.specs.Meaning.{Control, Evaluation, Application, ◌then◌, choose, variable_value, decided, branch, operate, count_saturated, compute, append_post, note, post_value, take_cell, begin_call, passes, guard_passes, event_if}
use Rattle.semantics.specs.Recording.{with_entries}
use Rattle.stores.specs.declared.values.Stop.{Stop}
use Rattle.stores.specs.declared.values.Stop.TheVariants.{Check, Stuck, Calls, Cells, Posts, Undecided}
use Rattle.stores.specs.Words.{function_word, stop_word, sort_of, payload_of, env_of}
use Rattle.stores.specs.Cells.{behind_of, walk_of, cell_word, look_of, cell_set}
use Rattle.access.specs.Access.{granted_of, allowed_of, sign_access, sign_frames, enable_access, enable_frames, enabled_now, restore_frames}
use Rattle.termtable.specs.Table.{word_small, word_guard}
use Rattle.machine.specs.declared.counters.Counters.{Counters}
use Rattle.machine.specs.Steps.{numbers_result, operate_of, operate_saturates, wrapped, operate_counters, decided_event, note_counters, note_bytes, guard_passed, number_decides, cause_of, listed_as, post_cause, post_word, post_counters, post_list}
use Rattle.machine.specs.Store.{Store, Done, store_of, done_of, with_frames, with_entry, and_then, StoreEvaluation, StoreApplication, has_room, own_cell, cell_bound, call_bound, letrec_s, call_s, branch_s, if_s, check_s, test_s, sign_s, restored, enable_s, operate_done, binary_s, post_done, post_s, begin}
use Rattle.stores.specs.Stops.{stop_cause, stop_place}
use Rattle.refinement.proofs.Laws.Records.{record_after, length_record, entry_more, entry_made, full}
use Rattle.refinement.proofs.Laws.Cells.{agree_cell, cell_holds, cell_behind, length_cell}
use Rattle.refinement.proofs.Laws.Codings.{kind_number, numbers_saturate}
use Rattle.refinement.proofs.Laws.Relation.{Fixed, ValueIn, EnvIn, ResultIn, length_written, counters_of, Balance, Balances, balance, FramesKept, kept_refl, Later, later_refl, sort_for, Function, function_word_lem, Body, Rep, rep_bool, rep_num, rep_fun, rep_rec, RepEnv, RepAt, EnvAt, env_none, env_some, rep_word, rep_low, rep_later, env_later, Meets, valued, halted, meets_later, meets_then}

-- ---- reading a variable
walk_zero : (cells : List ℕ) (i : ℕ) → walk_of cells 0 i ≡ 0
unfolding walk_of behind_of
walk_zero cells zero = refl
walk_zero cells (suc i) = walk_zero cells i

look_zero : (cells : List ℕ) (t i : ℕ) → look_of cells t 0 i ≡ stop_word 18 t
unfolding look_of
look_zero cells t i = λ z. cond (eqb (walk_zero cells i z) 0) (stop_word 18 t) (cell_word cells (walk_of cells 0 i))

look_first : (cells : List ℕ) (t e : ℕ) → 1 ≤ e → look_of cells t e 0 ≡ cell_word cells e
unfolding look_of walk_of
look_first cells t e h = λ z. cond (ne_eqb e 0 (λ q. omega arith) z) (stop_word 18 t) (cell_word cells e)

look_next : (cells : List ℕ) (t e i : ℕ) → look_of cells t (behind_of cells e) i ≡ look_of cells t e (suc i)
unfolding look_of walk_of
look_next cells t e i = refl

-- ---- a new cell
abbrev with_cell : Store → Counters → (w behind : ℕ) → Store
with_cell st n w e = store_of n (cell_set st.cells st.counters.cells w e) st.posts st.frames st.noted

later_cell : (depth : ℕ) (st : Store) (n : Counters) (w e : ℕ) → n.cells ≡ st.counters.cells + 1 → Later depth st (with_cell st n w e)
later_cell depth st n w e h = record { more = omega arith; old = agree_cell st.cells st.counters.cells w e; frames = kept_refl depth st.frames }

module _ (z : Fixed) where
  pub data Finds (cells : List ℕ) (m t : ℕ) : ℕ → Option (ValueIn z) → Type 0 where
    finds_some : {w : ℕ} {x : ValueIn z} → Rep z cells m w x → Finds cells m t w (some x)
    finds_none : Finds cells m t (stop_word 18 t) none

  pub look_finds : (cells : List ℕ) (m t : ℕ) {e : ℕ} {E : EnvIn z} → RepEnv z cells m e E → (i : ℕ) → Finds cells m t (look_of cells t e i) (lookup E i)
  look_finds cells m t env_none i = subst (λ f. Finds cells m t f none) (sym (look_zero cells t i)) finds_none
  look_finds cells m t (env_some {e = e} {x = x} p q v h) zero = subst (λ f. Finds cells m t f (some x)) (sym (look_first cells t e p)) (finds_some v)
  look_finds cells m t (env_some {e = e} {E = E} p q v h) (suc i) =
      subst (λ f. Finds cells m t f (lookup E i)) (look_next cells t e i) (look_finds cells m t h i)

  -- the environment of a new cell
  module _ (l : List ℕ) (m e : ℕ) (E : EnvIn z) (fits : m * 8 + 7 < length l) (h : RepEnv z l m e E) (w : ℕ) where
    behind : RepEnv z (cell_set l m w e) (m + 1) (behind_of (cell_set l m w e) (m + 1)) E
    behind = subst (λ i. RepEnv z (cell_set l m w e) (m + 1) i E) (sym (cell_behind l m w e fits)) (env_later z (omega arith) (agree_cell l m w e) h)

    fresh : (x : ValueIn z) → Rep z (cell_set l m w e) (m + 1) w x → RepEnv z (cell_set l m w e) (m + 1) (m + 1) (bind x E)
    fresh x r =
        env_some {e = m + 1} (omega arith) (omega arith)
        (subst (λ v. Rep z (cell_set l m w e) (m + 1) v x) (sym (cell_holds l m w e fits (omega (arith, rep_low z r)) (rep_word z r).small)) r) behind

    -- a recursive function's
    fresh_again : (b ty : ℕ) (c : Term) → Function b (m + 1) w → Body z b c → RepEnv z (cell_set l m w e) (m + 1) (m + 1) (bind (closure true ty c E) E)
    fresh_again b ty c f k =
        fresh (closure true ty c E)
        (rep_rec f.word (subst (λ i. Body z i c) (sym f.body_is) k) (omega (arith, f.env_is)) (omega (arith, f.env_is))
        ((λ i. cell_word (cell_set l m w e) (f.env_is i)) ∙ cell_holds l m w e fits (omega (arith, f.word.sort_is)) f.word.small)
        (subst (λ i. RepEnv z (cell_set l m w e) (m + 1) (behind_of (cell_set l m w e) i) E) (sym f.env_is) behind))

  -- the environment of a body, when its argument is bound
  entered_env : (l : List ℕ) (m : ℕ) → m * 8 + 7 < length l → (f ty : ℕ) (ag : Bool) (c : Term) (E : EnvIn z) (w : ℕ) (y : ValueIn z)
      → Rep z l m f (closure ag ty c E) → Rep z l m w y → RepEnv z (cell_set l m w (env_of f)) (m + 1) (m + 1) (entered ag ty c E y)
  entered_env l m fits f ty false c E w y (rep_fun k b h) r = fresh l m (env_of f) E fits h w y (rep_later z (omega arith) (agree_cell l m w (env_of f)) r)
  entered_env l m fits f ty true c E w y (rep_rec k b p q v h) r =
      fresh l m (env_of f) (bind (closure true ty c E) E) fits
      (env_some p q (subst (λ i. Rep z l m i (closure true ty c E)) (sym v) (rep_rec k b p q v h)) h) w y
      (rep_later z (omega arith) (agree_cell l m w (env_of f)) r)

  -- ---- the counters
  calls_are : {st : Store} {c m d r : ℕ} {log : Log} → Balance z st c m d r log → st.counters.calls_left ≡ c
  calls_are h = λ i. (h.counters i).calls_left

  made_is : {st : Store} {c m d r : ℕ} {log : Log} → Balance z st c m d r log → st.counters.cells ≡ m
  made_is h = λ i. (h.counters i).cells

  posts_are : {st : Store} {c m d r : ℕ} {log : Log} → Balance z st c m d r log → st.counters.posts ≡ length log.posts
  posts_are h = λ i. (h.counters i).posts

  long_is : {st : Store} {c m d r : ℕ} {log : Log} → Balance z st c m d r log → length st.posts ≡ length z.posts
  long_is {log = log} h = ap length h.list ∙ length_written z.posts log.posts

  mode_is : {st : Store} {o : Budget} → Balances z st o → st.counters.mode ≡ z.mode
  mode_is (balance h) = λ i. (h.counters i).mode

  -- a cell has eight of at most 65,536 bytes
  pub few_cells : {st : Store} {o : Budget} → Balances z st o → st.counters.cells ≤ 8192
  few_cells (balance h) = omega (arith, made_is h, h.cells, h.most)

  -- cells left, and the number of the next
  room_none : {st : Store} {c m r : ℕ} {log : Log} → Balance z st c m 0 r log → has_room st ≡ false
  unfolding has_room
  room_none {st} h = le-ltb st.counters.cells (length st.cells / 8) (omega (arith, made_is h, h.cells))

  room_some : {st : Store} {c m d r : ℕ} {log : Log} → Balance z st c m (suc d) r log → has_room st ≡ true
  unfolding has_room
  room_some {st} h = lt-ltb st.counters.cells (length st.cells / 8) (omega (arith, made_is h, h.cells))

  own_is : {st : Store} {c m d r : ℕ} {log : Log} → Balance z st c m (suc d) r log → own_cell st ≡ st.counters.cells + 1
  own_is h = omega (arith, made_is h, h.cells, h.most)

  fits_is : {st : Store} {c m d r : ℕ} {log : Log} → Balance z st c m (suc d) r log → st.counters.cells * 8 + 7 < length st.cells
  fits_is h = omega (arith, made_is h, h.cells)

  -- a cell more
  cell_tally : (st : Store) (n : Counters) (w e : ℕ) {c c' m d r : ℕ} {log : Log} → n ≡ counters_of z c' (m + 1) log
      → Balance z st c m (suc d) r log → Balance z (with_cell st n w e) c' (m + 1) d r log
  cell_tally st n w e k h = record {
    counters = k;
    cells = omega (arith, h.cells, length_cell st.cells st.counters.cells w e);
    most = omega (arith, h.most, length_cell st.cells st.counters.cells w e);
    room = h.room;
    list = h.list;
    noted_is = h.noted_is;
  }

  -- the frames are no part of the counters
  balances_frames : {st : Store} {o : Budget} (f : List ℕ) → Balances z st o → Balances z (with_frames f st) o
  balances_frames f (balance h) = balance record {
    counters = h.counters;
    cells = h.cells;
    most = h.most;
    room = h.room;
    list = h.list;
    noted_is = h.noted_is;
  }

  -- ---- steps that evaluate no other term
  pub meets_stop : {depth : ℕ} {st : Store} {o : Budget} (x : Stop) → stop_place x < 65536 → Balances z st o
      → Meets z depth st (done_of (stop_word (stop_cause x) (stop_place x)) st) (stops (stop_cause x) (stop_place x) o)
  meets_stop {depth} {st} x i h = halted x i h (later_refl depth st)

  pub meets_end : {depth : ℕ} {st : Store} {o : Budget} {w : ℕ} {x : ValueIn z} → RepAt z st w x → Balances z st o → Meets z depth st (done_of w st) (ends x o)
  meets_end {depth} {st} r h = valued r h (later_refl depth st)

  pub meets_found : {depth : ℕ} {st : Store} {o : Budget} (t : ℕ) {w : ℕ} {x : Option (ValueIn z)} → t < 65536
      → Finds st.cells st.counters.cells t w x
      → Balances z st o → Meets z depth st (done_of w st) (variable_value t x o)
  meets_found t i (finds_some r) h = meets_end r h
  meets_found t i finds_none h = meets_stop (Stuck t) i h

  -- a test, both ways
  meets_pick : {depth : ℕ} {st : Store} {o : Budget} (b c : Bool) → b ≡ c → (p q : Done) (P Q : Budget → ResultIn z) → Meets z depth st p (P o)
      → Meets z depth st q (Q o) → Meets z depth st (cond b p q) (choose c P Q o)
  meets_pick {depth} {st} {o} b c e p q P Q hp hq = subst (λ x. Meets z depth st (cond x p q) (choose c P Q o)) (sym e) (go c)
    where
      go : (x : Bool) → Meets z depth st (cond x p q) (choose x P Q o)
      go true = hp
      go false = hq

  -- an operation on two numbers
  results : (op : Op) (l : List ℕ) (k : ℕ) {v w : ℕ} {m n : z.interpretation.domain.Number} → z.coding.Number v m → z.coding.Number w n
      → Rep z l k (numbers_result z.mode.intervals (kind_number op) v w) (operate op m n)
  results sum l k p q = rep_num (z.coding.sum_coded p q)
  results difference l k p q = rep_num (z.coding.difference_coded p q)
  results less l k p q = rep_bool (z.coding.less_coded p q)

  -- and its result counted, where it is saturated
  abbrev counted : Bool → Store → Store
  counted over st =
      store_of (record st.counters { saturated = cond over (wrapped (st.counters.saturated + 1)) st.counters.saturated })
      st.cells st.posts st.frames st.noted

  counted_tally : {st : Store} {c m d r : ℕ} {log : Log} → Balance z st c m d r log → Balance z (counted true st) c m d r (log_saturated true log)
  counted_tally {c = c} {m = m} {log = log} h =
      let one_more : wrapped (wrapped log.saturated + 1) ≡ wrapped (suc log.saturated) = omega arith in
      record {
        counters = (λ i. record (h.counters i) { saturated = wrapped ((h.counters i).saturated + 1) })
            ∙ (λ i. record (counters_of z c m log) { saturated = one_more i });
        cells = h.cells;
        most = h.most;
        room = h.room;
        list = h.list;
        noted_is = h.noted_is;
      }

  meets_counted : {depth : ℕ} {st : Store} {o : Budget} {w : ℕ} {x : ValueIn z} (over : Bool) → RepAt z st w x → Balances z st o
      → Meets z depth st (done_of w (counted over st)) (ends x (count_saturated over o))
  meets_counted false r (balance h) = meets_end r (balance h)
  meets_counted {depth} {st} {w = w} {x = x} true r (balance h) =
      let same : (counted true st).counters.cells ≡ st.counters.cells = made_is (counted_tally h) ∙ sym (made_is h) in
      valued {st = counted true st} (subst (λ k. Rep z st.cells k w x) (sym same) r) (balance (counted_tally h))
      record { more = omega arith; old = record { long = refl; same = λ j g. refl }; frames = kept_refl depth st.frames }

  module _ {depth : ℕ} {st : Store} {o : Budget} (t : ℕ) (i : t < 65536) (h : Balances z st o) where
    meets_branch : {w : ℕ} {x : ValueIn z} (p q : Done) (P Q : Budget → ResultIn z) → RepAt z st w x
        → Meets z depth st p (P o) → Meets z depth st q (Q o) → Meets z depth st (branch_s t w p q st) (branch t x P Q o)
    unfolding branch_s
    meets_branch {w} {x} p q P Q r hp hq =
        subst (λ k. Meets z depth st (by (eqb k 0) (eqb (payload_of w) 2) (ltb 0 (payload_of w))) (branch t x P Q o)) (sym (rep_word z r).sort_is) (go r)
      where
        by : (boolean undecided yes : Bool) → Done
        by a u b = cond a (cond u (done_of (stop_word 36 t) st) (cond b p q)) (done_of (stop_word 18 t) st)

        goes_on : (u b : Bool) → Meets z depth st (by true u b) (decided t (cond u none (some b)) P Q o)
        goes_on true b = meets_stop (Undecided t) i h
        goes_on false b = meets_pick b b refl p q P Q hp hq

        go : {x : ValueIn z} → RepAt z st w x → Meets z depth st (by (eqb (sort_for x) 0) (eqb (payload_of w) 2) (ltb 0 (payload_of w))) (branch t x P Q o)
        go (rep_bool e) =
            subst (λ d. Meets z depth st (by true (eqb (payload_of w) 2) (ltb 0 (payload_of w))) (decided t d P Q o)) (z.coding.decide_coded e)
            (goes_on (eqb (payload_of w) 2) (ltb 0 (payload_of w)))
        go (rep_num e) = meets_stop (Stuck t) i h
        go (rep_fun k b e) = meets_stop (Stuck t) i h
        go (rep_rec k b p q v e) = meets_stop (Stuck t) i h

    meets_compute : {v w : ℕ} {x y : ValueIn z} (op : Op) → RepAt z st v x → RepAt z st w y
        → Meets z depth st (operate_done (kind_number op) t v w st) (compute t op x y o)
    unfolding operate_done operate_of operate_saturates operate_counters
    meets_compute {v} {w} {x} {y} op r u =
        subst (λ n. Meets z depth st (by n (sort_of v) (sort_of w)) (compute t op x y o)) (λ i. (sym (mode_is h) i).intervals)
        (subst (λ k. Meets z depth st (by z.mode.intervals k (sort_of w)) (compute t op x y o)) (sym (rep_word z r).sort_is)
        (subst (λ k. Meets z depth st (by z.mode.intervals (sort_for x) k) (compute t op x y o)) (sym (rep_word z u).sort_is) (go r u)))
      where
        by : (intervals : Bool) (j k : ℕ) → Done
        by n j k = done_of (cond (eqb j 1) (cond (eqb k 1) (numbers_result n (kind_number op) v w) (stop_word 18 t)) (stop_word 18 t))
            (counted (cond (eqb j 1) (cond (eqb k 1) (numbers_saturate n (kind_number op) v w) false) false) st)

        go : {x y : ValueIn z} → RepAt z st v x → RepAt z st w y → Meets z depth st (by z.mode.intervals (sort_for x) (sort_for y)) (compute t op x y o)
        go (rep_bool e) u = meets_stop (Stuck t) i h
        go (rep_num e) (rep_bool e') = meets_stop (Stuck t) i h
        go (rep_num {n = a} e) (rep_num {n = b} e') =
            let x : ValueIn z = operate op a b in
            subst (λ c. Meets z depth st (by z.mode.intervals 1 1) (ends x (count_saturated c o))) (z.coding.saturates_coded op e e')
            (meets_counted (numbers_saturate z.mode.intervals (kind_number op) v w) (results op st.cells st.counters.cells e e') h)
        go (rep_num e) (rep_fun k' b e') = meets_stop (Stuck t) i h
        go (rep_num e) (rep_rec k' b p q g e') = meets_stop (Stuck t) i h
        go (rep_fun k b e) u = meets_stop (Stuck t) i h
        go (rep_rec k b p q g e) u = meets_stop (Stuck t) i h

  -- ---- a decision is noted
  entries_are : {st : Store} {c m d r : ℕ} {log : Log} → Balance z st c m d r log
      → st.counters.entries ≡ length (recorded (length z.noted) (reverse log.decisions))
  entries_are h = λ i. (h.counters i).entries

  noted_long : {st : Store} {c m d r : ℕ} {log : Log} → Balance z st c m d r log → length st.noted ≡ length z.noted
  noted_long {log = log} h = ap length h.noted_is ∙ length_record z.noted (reverse log.decisions)

  abbrev with_note : Event → Store → Store
  with_note e st = store_of (note_counters true st.counters st.noted) st.cells st.posts st.frames (note_bytes true e st.counters st.noted)

  note_tally : (e : Event) {st : Store} {c m d r : ℕ} {log : Log} → Balance z st c m d r log → Balance z (with_note e st) c m d r (log_decision e log)
  unfolding note_counters note_bytes
  note_tally e {st} {c} {m} {d} {r} {log} h = go (dec_lt (length ds) (length t / 4))
    where
      t : List ℕ
      t = z.noted

      ds : List Event
      ds = reverse log.decisions

      behind : ds ++ e ∷ [] ≡ reverse (e ∷ log.decisions)
      behind = sym (reverse-cons e log.decisions)

      kept : ℕ
      kept = length (recorded (length t) ds)

      many : kept ≡ min (length t / 4) (length ds)
      many = length-take (length t / 4) ds

      made : ℕ → Counters
      made k = record (counters_of z c m log) { entries = k }

      go : Dec (length ds < length t / 4) → Balance z (with_note e st) c m d r (log_decision e log)
      go (yes l) =
          let room : ltb st.counters.entries (length st.noted / 4) ≡ true =
          lt-ltb st.counters.entries (length st.noted / 4) (omega (arith, entries_are h, noted_long h, many)) in
          record {
            counters = (λ i. record st.counters { entries = cond (room i) (st.counters.entries + 1) st.counters.entries })
                ∙ (λ i. record (h.counters i) { entries = (h.counters i).entries + 1 }) ∙ (λ i. made (sym (entry_more t ds e l) i))
                ∙ (λ i. made (length (recorded (length t) (behind i))));
            cells = h.cells;
            most = h.most;
            room = h.room;
            list = h.list;
            noted_is = (λ i. cond (room i) (overwrite st.noted (4 * st.counters.entries) (event_bytes e)) st.noted)
                ∙ (λ i. overwrite (h.noted_is i) (4 * entries_are h i) (event_bytes e)) ∙ entry_made t ds e l ∙ (λ i. record_after t (behind i));
          }
      go (no g) =
          let no_room : ltb st.counters.entries (length st.noted / 4) ≡ false =
          le-ltb st.counters.entries (length st.noted / 4) (omega (arith, entries_are h, noted_long h, many, g)) in
          let same : recorded (length t) ds ≡ recorded (length t) (reverse (e ∷ log.decisions)) =
          sym (full t ds e (omega (arith, g))) ∙ (λ i. recorded (length t) (behind i)) in
          record {
            counters =
                (λ i. record st.counters { entries = cond (no_room i) (st.counters.entries + 1) st.counters.entries })
                ∙ h.counters ∙ (λ i. made (length (same i)));
            cells = h.cells;
            most = h.most;
            room = h.room;
            list = h.list;
            noted_is = (λ i. cond (no_room i) (overwrite st.noted (4 * st.counters.entries) (event_bytes e)) st.noted) ∙ h.noted_is
                ∙ (λ i. with_entries (same i) t);
          }

  -- a state in which what is decided is noted; where nothing is, it is the same
  record Notes (st st₁ : Store) (o : Budget) : Type 0 where
    balances : Balances z st₁ o
    later : (depth : ℕ) → Later depth st st₁

  notes : (decides : Bool) (t p access : ℕ) (grants : ℕ → Bool) {st : Store} {o : Budget} → granted_of st.counters.mode.lazy access st.frames p ≡ grants p
      → Balances z st o → Notes st (with_entry decides t p access st) (note (event_if decides t grants (some p)) o)
  unfolding note_counters note_bytes
  notes false t p access grants {st} e h = record { balances = h; later = λ depth. later_refl depth st }
  notes true t p access grants {st} e (balance {c = c} {d = d} {r = r} {log = log} h) =
      let event = decided_event t p (grants p) in
      let same : (note_counters true st.counters st.noted).cells ≡ st.counters.cells = made_is (note_tally event h) ∙ sym (made_is h) in
      record {
        balances = subst (λ b. Balances z (with_note (decided_event t p b) st) (budget c d r (log_decision event log))) (sym e) (balance (note_tally event h));
        later = λ depth. record { more = omega (arith, same); old = record { long = refl; same = λ j g. refl }; frames = kept_refl depth st.frames };
      }

  -- ---- a post, which the word x of its term says the channel of: made, or not for a cause
  module _ (st : Store) (t x w : ℕ) where
    abbrev posted : Store
    posted =
        store_of (record st.counters { posts = st.counters.posts + 1 }) st.cells (set st.posts st.counters.posts (listed_as z.mode.intervals x w))
        st.frames st.noted

    abbrev post_by : (cause : ℕ) → Done
    post_by c = done_of (cond (eqb c 0) w (stop_word c t))
        (store_of (record st.counters { posts = cond (eqb c 0) posted.counters.posts st.counters.posts }) st.cells
        (cond (eqb c 0) posted.posts st.posts) st.frames st.noted)

    abbrev room : Bool
    room = ltb st.counters.posts (length st.posts)

    abbrev listed : z.interpretation.domain.Number → ℕ
    listed y = z.interpretation.domain.entry (word_small x) y

    posted_tally : {c m d r : ℕ} {y : z.interpretation.domain.Number} {log : Log} → z.coding.Number w y → Balance z st c m d (suc r) log
        → Balance z posted c m d r (log_post (listed y) log)
    posted_tally {log = log} e h =
        let one_more : st.counters.posts + 1 ≡ suc (length log.posts) = omega (arith, posts_are h) in
        record {
          counters = λ i. record (h.counters i) { posts = one_more i };
          cells = h.cells;
          most = h.most;
          room = omega (arith, h.room);
          list = λ i. set (h.list i) (posts_are h i) (z.coding.entry_coded x e i);
          noted_is = h.noted_is;
        }

    post_number : {depth c m d : ℕ} {y : z.interpretation.domain.Number} {log : Log} (r : ℕ) → t < 65536 → z.coding.Number w y → Balance z st c m d r log
        → Meets z depth st (post_by (cause_of true true room)) (append_post t (word_small x) y (budget c d r log))
    unfolding cause_of
    post_number {depth} {c} {m} {d} {y} {log} zero i v h =
        let e : length st.posts ≤ st.counters.posts = omega (arith, posts_are h, long_is h, h.room) in
        subst (λ b. Meets z depth st (post_by (cause_of true true b)) (stops 22 t (budget c d 0 log)))
        (sym (le-ltb st.counters.posts (length st.posts) e))
        (meets_stop (Posts t) i (balance h))
    post_number {depth} {c} {m} {d} {y} {log} (suc r) i v h =
        let e : st.counters.posts < length st.posts = omega (arith, posts_are h, long_is h, h.room) in
        let same : posted.counters.cells ≡ st.counters.cells = made_is (posted_tally v h) ∙ sym (made_is h) in
        subst (λ b. Meets z depth st (post_by (cause_of true true b)) (ends (num y) (budget c d r (log_post (listed y) log))))
        (sym (lt-ltb st.counters.posts (length st.posts) e))
        (valued {st = posted} (rep_num v) (balance (posted_tally v h))
        record { more = omega arith; old = record { long = refl; same = λ j g. refl }; frames = kept_refl depth st.frames })

    -- a number, whose guard passes or not
    post_decided : (g : Bool) {depth : ℕ} {y : z.interpretation.domain.Number} {o : Budget} → t < 65536 → z.coding.Number w y → Balances z st o
        → Meets z depth st (post_by (cause_of true g room)) (choose g (λ o₁. append_post t (word_small x) y o₁) (λ o₁. stops 17 t o₁) o)
    unfolding cause_of
    post_decided true i v (balance {r = r} h) = post_number r i v h
    post_decided false i v h = meets_stop (Check t) i h

  -- the same from the state before the guard is noted, if the word is a number's
  module _ (st : Store) (t x access w : ℕ) where
    abbrev guarded_by : (sort : ℕ) → Store
    guarded_by k = with_entry (cond (eqb k 1) (number_decides st.counters.mode.enforce x) false) t (word_guard x) access st

    post_is : (k : ℕ) (g : Bool) → st.counters.mode ≡ z.mode → sort_of w ≡ k → guard_passed st.counters.mode access st.frames (word_guard x) ≡ g
        → post_done t x access w st ≡ post_by (guarded_by k) t x w (cause_of (eqb k 1) g (room (guarded_by k) t x w))
    unfolding post_done post_cause post_word post_counters post_list note_counters
    post_is k g j e f =
        λ i. by (guarded_by (e i)) (j i).intervals (cause_of (eqb (e i) 1) (f i) (ltb st.counters.posts (length st.posts)))
      where
        by : Store → (intervals : Bool) (cause : ℕ) → Done
        by u n c = done_of (cond (eqb c 0) w (stop_word c t))
            (store_of (record u.counters { posts = cond (eqb c 0) (u.counters.posts + 1) u.counters.posts }) st.cells
            (cond (eqb c 0) (set st.posts st.counters.posts (listed_as n x w)) st.posts) st.frames u.noted)

    meets_post : (g : Bool) (n : Option Event) {depth : ℕ} {o : Budget} {y : ValueIn z}
        → guard_passed st.counters.mode access st.frames (word_guard x) ≡ g
        → Notes st (guarded_by 1) (note n o) → t < 65536
        → RepAt z st w y → Balances z st o → Meets z depth st (post_done t x access w st) (post_value t (word_small x) g n y o)
    unfolding cause_of note_counters note_bytes
    meets_post g n {depth} {o} {y} e k i r h =
        subst (λ d. Meets z depth st d (post_value t (word_small x) g n y o)) (sym (post_is (sort_for y) g (mode_is h) (rep_word z r).sort_is e)) (go r)
      where
        go : {y : ValueIn z} → RepAt z st w y
            → Meets z depth st (post_by (guarded_by (sort_for y)) t x w (cause_of (eqb (sort_for y) 1) g (room (guarded_by (sort_for y)) t x w)))
            (post_value t (word_small x) g n y o)
        go (rep_bool v) = meets_stop (Stuck t) i h
        go (rep_num v) = meets_later z (k.later depth) (post_decided (guarded_by 1) t x w g i v k.balances)
        go (rep_fun j b v) = meets_stop (Stuck t) i h
        go (rep_rec j b p q u v) = meets_stop (Stuck t) i h

-- ---- what is asked of an access control and of how a number and the first frames stand for its states: max_frames of them have room
pub record Models (z : Fixed) (X : Control) (enforce : Bool) (R : X.State → (access depth : ℕ) → List ℕ → Type 0) : Type 0 where
  pub keeps : (a : X.State) (access d : ℕ) (f g : List ℕ) → R a access d f → FramesKept d f g → R a access d g
  pub signed : (a : X.State) (access d : ℕ) (f : List ℕ) (n authorised : ℕ) → R a access d f → authorised ≡ z.authorised n → authorised < 4294967296
      → d < max_frames
      → R (X.signs n a) (sign_access z.mode.lazy access authorised) (d + 1) (sign_frames z.mode.lazy access f authorised)
  pub enabled : (a : X.State) (access d : ℕ) (f : List ℕ) (p : ℕ) → R a access d f → d ≤ max_frames
      → R (X.enables p a) (enable_access z.mode.lazy access p) d (enable_frames z.mode.lazy access f p)
  pub grants : (a : X.State) (access d : ℕ) (f : List ℕ) (p : ℕ) → R a access d f → d ≤ max_frames → granted_of z.mode.lazy access f p ≡ X.grants a p
  pub enforces : z.mode.enforce ≡ enforce
  pub unsigned : (a : X.State) (access d : ℕ) (f g : List ℕ) (authorised : ℕ) → R a access d f
      → FramesKept (d + 1) (sign_frames z.mode.lazy access f authorised) g → FramesKept d f g
  pub undone : (a : X.State) (access d : ℕ) (f g : List ℕ) (p : ℕ) → R a access d f → d ≤ max_frames → FramesKept d (enable_frames z.mode.lazy access f p) g
      → FramesKept d f (restore_frames z.mode.lazy access g (enabled_now z.mode.lazy access f))

module _ (z : Fixed) (X : Control) (R : X.State → (access depth : ℕ) → List ℕ → Type 0) where
  -- a run that does as the meaning's, where h more frames have room
  pub record Sim (h : ℕ) (p : StoreEvaluation) (P : Evaluation z.interpretation X) : Type 0 where
    pub go : (env : ℕ) (E : EnvIn z) (access d : ℕ) (a : X.State) (st : Store) (o : Budget) → d + h ≤ max_frames → R a access d st.frames
        → EnvAt z st env E → Balances z st o → Meets z d st (p env access st) (P a E o)

  pub record SimApply (h : ℕ) (f : StoreApplication) (F : Application z.interpretation X) : Type 0 where
    pub go : (t : ℕ) → t < 65536 → (v : ℕ) (x : ValueIn z) (w : ℕ) (y : ValueIn z) (access d : ℕ) (a : X.State) (st : Store) (o : Budget)
        → d + h ≤ max_frames → R a access d st.frames → RepAt z st v x → RepAt z st w y → Balances z st o → Meets z d st (f t v w access st) (F t x y a o)

allows : (f b g c : Bool) → b ≡ f → g ≡ c → cond b g true ≡ passes f c
allows true b g c p q = (λ i. cond (p i) g true) ∙ q
allows false b g c p q = λ i. cond (p i) g true

module _ (z : Fixed) (X : Control) (enforce : Bool) (R : X.State → (access depth : ℕ) → List ℕ → Type 0) (ctl : Models z X enforce R) where
  abbrev Does : ℕ → StoreEvaluation → Evaluation z.interpretation X → Type 0
  Does h p P = Sim z X R h p P

  pub sim_less : (h g : ℕ) (p : StoreEvaluation) (P : Evaluation z.interpretation X) → h ≤ g → Does h p P → Does g p P
  sim_less h g p P l s = record { go = λ env E access d a st o w. s.go env E access d a st o (omega arith) }

  pub sim_same : (h : ℕ) (p q : StoreEvaluation) (P : Evaluation z.interpretation X) → ((env access : ℕ) (st : Store) → q env access st ≡ p env access st)
      → Does h p P → Does h q P
  sim_same h p q P e s = record {
    go = λ env E access d a st o w r v t. subst (λ y. Meets z d st y (P a E o)) (sym (e env access st)) (s.go env E access d a st o w r v t);
  }

  -- one run, then another on what it left
  sim_both : (h : ℕ) (p q : StoreEvaluation) (P Q : Evaluation z.interpretation X) (k : (v w access : ℕ) → Store → Done)
      (K : (x y : ValueIn z) → X.State → Budget → ResultIn z) → Does h p P → Does h q Q
      → ((v : ℕ) (x : ValueIn z) (w : ℕ) (y : ValueIn z) (access d : ℕ) (a : X.State) (st : Store) (o : Budget) → d + h ≤ max_frames → R a access d st.frames
      → RepAt z st v x → RepAt z st w y → Balances z st o → Meets z d st (k v w access st) (K x y a o))
      → (env : ℕ) (E : EnvIn z) (access d : ℕ) (a : X.State) (st : Store) (o : Budget) → d + h ≤ max_frames → R a access d st.frames
      → EnvAt z st env E → Balances z st o
      → Meets z d st (and_then (p env access st) (λ v st₁. and_then (q env access st₁) (λ w st₂. k v w access st₂)))
      (P a E o then λ x o₁. Q a E o₁ then λ y o₂. K x y a o₂)
  sim_both h p q P Q k K hp hq hk env E access d a st o w r e y =
      meets_then z _ _ (hp.go env E access d a st o w r e y)
      (λ v x st₁ o₁ rv t₁ l₁.
      let r₁ = ctl.keeps a access d _ _ r l₁.frames in
      meets_then z _ _ (hq.go env E access d a st₁ o₁ w r₁ (env_later z l₁.more l₁.old e) t₁)
      (λ u x₂ st₂ o₂ ru t₂ l₂. hk v x u x₂ access d a st₂ o₂ w (ctl.keeps a access d _ _ r₁ l₂.frames) (rep_later z l₂.more l₂.old rv) ru t₂))

  pub sim_call : (h t : ℕ) → t < 65536 → (p q : StoreEvaluation) (P Q : Evaluation z.interpretation X)
      → (f : StoreApplication) (F : Application z.interpretation X)
      → Does h p P → Does h q Q → SimApply z X R h f F → Does h (call_s p q f t) (λ a E o. P a E o then λ v o₁. Q a E o₁ then λ w o₂. F t v w a o₂)
  unfolding call_s
  sim_call h t i p q P Q f F hp hq hf = record { go = sim_both h p q P Q (f t) (λ x y a o. F t x y a o) hp hq (hf.go t i) }

  pub sim_binary : (h t : ℕ) → t < 65536 → (op : Op) (p q : StoreEvaluation) (P Q : Evaluation z.interpretation X) → Does h p P → Does h q Q
      → Does h (binary_s p q (kind_number op) t) (λ a E o. P a E o then λ v o₁. Q a E o₁ then λ w o₂. compute t op v w o₂)
  unfolding binary_s
  sim_binary h t i op p q P Q hp hq = record {
    go = sim_both h p q P Q (λ v w access st. operate_done (kind_number op) t v w st) (λ x y a o. compute t op x y o) hp hq
        (λ v x w y access d a st o l r rv rw' b. meets_compute z t i b op rv rw');
  }

  pub sim_if : (h t : ℕ) → t < 65536 → (p q u : StoreEvaluation) (P Q U : Evaluation z.interpretation X) → Does h p P → Does h q Q → Does h u U
      → Does h (if_s p q u t) (λ a E o. P a E o then λ v o₁. branch t v (λ o₂. Q a E o₂) (λ o₂. U a E o₂) o₁)
  unfolding if_s
  sim_if h t i p q u P Q U hp hq hu = record {
    go = λ env E access d a st o w r e y. meets_then z _ _ (hp.go env E access d a st o w r e y)
        (λ v x st₁ o₁ rv t₁ l₁.
        let r₁ = ctl.keeps a access d _ _ r l₁.frames in
        let e₁ = env_later z l₁.more l₁.old e in
        meets_branch z t i t₁ _ _ _ _ rv (hq.go env E access d a st₁ o₁ w r₁ e₁ t₁) (hu.go env E access d a st₁ o₁ w r₁ e₁ t₁));
  }

  -- ---- access
  granted_is : {a : X.State} {access d : ℕ} {st : Store} {o : Budget} (p : ℕ) → R a access d st.frames → d ≤ max_frames → Balances z st o
      → granted_of st.counters.mode.lazy access st.frames p ≡ X.grants a p
  granted_is {a} {access} {d} {st} p r l y = (λ i. granted_of (mode_is z y i).lazy access st.frames p) ∙ ctl.grants a access d st.frames p r l

  -- a run from where a decision is noted
  noted_go : (h : ℕ) (q : StoreEvaluation) (Q : Evaluation z.interpretation X) → Does h q Q
      → {env access d : ℕ} {E : EnvIn z} {a : X.State} {st st₁ : Store} {o : Budget}
      → d + h ≤ max_frames → R a access d st.frames → EnvAt z st env E → Notes z st st₁ o → Meets z d st (q env access st₁) (Q a E o)
  noted_go h q Q hq {env} {access} {d} {E} {a} {st} {st₁} {o} w r e k =
      let l = k.later d in
      meets_later z l (hq.go env E access d a st₁ o w (ctl.keeps a access d _ _ r l.frames) (env_later z l.more l.old e) k.balances)

  pub sim_test : (h p t : ℕ) (q u : StoreEvaluation) (Q U : Evaluation z.interpretation X) → Does h q Q → Does h u U
      → Does h (test_s q u p t) (λ a E o. choose (X.grants a p) (λ o₁. Q a E o₁) (λ o₁. U a E o₁) (note (event_if true t (X.grants a) (some p)) o))
  unfolding test_s
  sim_test h p t q u Q U hq hu = record {
    go = λ env E access d a st o w r e y.
        let g = granted_is p r (omega arith) y in
        let k = notes z true t p access (X.grants a) g y in
        meets_pick z (granted_of st.counters.mode.lazy access st.frames p) (X.grants a p) g _ _ _ _
        (noted_go h q Q hq w r e k) (noted_go h u U hu w r e k);
  }

  allowed_is : {a : X.State} {access d : ℕ} {st : Store} {o : Budget} (p : ℕ) → R a access d st.frames → d ≤ max_frames → Balances z st o
      → allowed_of st.counters.mode access st.frames p ≡ passes enforce (X.grants a p)
  unfolding allowed_of
  allowed_is {a} {access} {d} {st} p r l y =
      allows enforce st.counters.mode.enforce (granted_of st.counters.mode.lazy access st.frames p) (X.grants a p)
      ((λ j. (mode_is z y j).enforce) ∙ ctl.enforces) (granted_is p r l y)

  -- a decision on p where checks are in force
  check_notes : (t p : ℕ) {a : X.State} {access d : ℕ} {st : Store} {o : Budget} → R a access d st.frames → d ≤ max_frames → Balances z st o
      → Notes z st (with_entry st.counters.mode.enforce t p access st) (note (event_if enforce t (X.grants a) (some p)) o)
  check_notes t p {a} {access} {d} {st} {o} r l y =
      subst (λ b. Notes z st (with_entry b t p access st) (note (event_if enforce t (X.grants a) (some p)) o))
      (sym ((λ j. (mode_is z y j).enforce) ∙ ctl.enforces)) (notes z enforce t p access (X.grants a) (granted_is p r l y) y)

  pub sim_check : (h p t : ℕ) → t < 65536 → (q : StoreEvaluation) (Q : Evaluation z.interpretation X) → Does h q Q
      → Does h (check_s q p t)
      (λ a E o. choose (passes enforce (X.grants a p)) (λ o₁. Q a E o₁) (λ o₁. stops 17 t o₁) (note (event_if enforce t (X.grants a) (some p)) o))
  unfolding check_s
  sim_check h p t i q Q hq = record {
    go = λ env E access d a st o w r e y.
        let k = check_notes t p r (omega arith) y in
        meets_pick z (allowed_of st.counters.mode access st.frames p) (passes enforce (X.grants a p)) (allowed_is p r (omega arith) y)
        _ _ _ _ (noted_go h q Q hq w r e k) (meets_later z (k.later d) (meets_stop z (Check t) i k.balances));
  }

  -- a post, whose guard is decided in the access of the post
  guard_is : {a : X.State} {access d : ℕ} {st : Store} {o : Budget} (g : ℕ) → R a access d st.frames → d ≤ max_frames → Balances z st o
      → guard_passed st.counters.mode access st.frames g ≡ guard_passes enforce (X.grants a) (guard_in g)
  unfolding guard_passed
  guard_is {a} {access} {d} {st} g r l y = go (eqb g no_guard)
    where
      go : (b : Bool) → cond b true (allowed_of st.counters.mode access st.frames g) ≡ guard_passes enforce (X.grants a) (cond b none (some g))
      go true = refl
      go false = allowed_is g r l y

  guard_notes : (t x : ℕ) {a : X.State} {access d : ℕ} {st : Store} {o : Budget} → R a access d st.frames → d ≤ max_frames → Balances z st o
      → Notes z st (with_entry (number_decides st.counters.mode.enforce x) t (word_guard x) access st)
      (note (event_if enforce t (X.grants a) (guard_in (word_guard x))) o)
  guard_notes t x {a} {access} {d} {st} {o} r l y = go (eqb (word_guard x) no_guard)
    where
      unguarded : (f : Bool) → event_if f t (X.grants a) none ≡ none
      unguarded true = refl
      unguarded false = refl

      go : (b : Bool) → Notes z st (with_entry (cond b false st.counters.mode.enforce) t (word_guard x) access st)
          (note (event_if enforce t (X.grants a) (cond b none (some (word_guard x)))) o)
      go true = subst (λ n. Notes z st (with_entry false t (word_guard x) access st) (note n o)) (sym (unguarded enforce))
          (notes z false t (word_guard x) access (X.grants a) (granted_is (word_guard x) r l y) y)
      go false = check_notes t (word_guard x) r l y

  pub sim_post : (h t x : ℕ) → t < 65536 → (p : StoreEvaluation) (P : Evaluation z.interpretation X) → Does h p P
      → Does h (post_s p t x) (λ a E o. P a E o then λ v o₁. post_value t (word_small x) (guard_passes enforce (X.grants a) (guard_in (word_guard x)))
      (event_if enforce t (X.grants a) (guard_in (word_guard x))) v o₁)
  unfolding post_s
  sim_post h t x i p P hp = record {
    go = λ env E access d a st o w r e y. meets_then z _ _ (hp.go env E access d a st o w r e y)
        (λ v u st₁ o₁ rv t₁ l₁.
        let r₁ = ctl.keeps a access d _ _ r l₁.frames in
        meets_post z st₁ t x access v _ _ (guard_is (word_guard x) r₁ (omega arith) t₁) (guard_notes t x r₁ (omega arith) t₁) i rv t₁);
  }

  -- a run on other frames, of which g makes frames that keep the first ones
  reframed : {depth depth' : ℕ} {st : Store} {f : List ℕ} {x : Done} {o : ResultIn z} (g : List ℕ → List ℕ)
      → ((f' : List ℕ) → FramesKept depth f f' → FramesKept depth' st.frames (g f')) → Meets z depth (with_frames f st) x o
      → Meets z depth' st (done_of x.out (with_frames (g x.store.frames) x.store)) o
  reframed g k (valued {st = s} v t l) =
      valued {st = with_frames (g s.frames) s} v (balances_frames z (g s.frames) t)
      record { more = l.more; old = record { long = l.old.long; same = l.old.same }; frames = k s.frames l.frames }
  reframed g k (halted {st = s} x i t l) =
      halted {st = with_frames (g s.frames) s} x i (balances_frames z (g s.frames) t)
      record { more = l.more; old = record { long = l.old.long; same = l.old.same }; frames = k s.frames l.frames }

  pub sim_sign : (h n authorised : ℕ) (q : StoreEvaluation) (Q : Evaluation z.interpretation X) → authorised ≡ z.authorised n → authorised < 4294967296
      → Does h q Q
      → Does (suc h) (sign_s q authorised) (λ a E o. Q (X.signs n a) E o)
  unfolding sign_s
  sim_sign h n authorised q Q e i hq = record {
    go = λ env E access d a st o w r v y.
        subst (λ lazy. Meets z d st (q env (sign_access lazy access authorised) (with_frames (sign_frames lazy access st.frames authorised) st))
        (Q (X.signs n a) E o)) (λ i. (sym (mode_is z y) i).lazy)
        (reframed (λ f. f) (λ f k. ctl.unsigned a access d st.frames f authorised r k)
        (hq.go env E (sign_access z.mode.lazy access authorised) (d + 1) (X.signs n a) (with_frames (sign_frames z.mode.lazy access st.frames authorised) st) o
        (omega arith)
        (ctl.signed a access d st.frames n authorised r e i (omega arith)) v (balances_frames z (sign_frames z.mode.lazy access st.frames authorised) y)));
  }

  pub sim_enable : (h p : ℕ) (q : StoreEvaluation) (Q : Evaluation z.interpretation X) → Does h q Q → Does h (enable_s q p) (λ a E o. Q (X.enables p a) E o)
  unfolding enable_s
  sim_enable h p q Q hq = record {
    go = λ env E access d a st o w r v y.
        subst (λ lazy. Meets z d st (restored lazy access (enabled_now lazy access st.frames)
        (q env (enable_access lazy access p) (with_frames (enable_frames lazy access st.frames p) st))) (Q (X.enables p a) E o))
        (λ i. (sym (mode_is z y) i).lazy)
        (reframed (λ f. restore_frames z.mode.lazy access f (enabled_now z.mode.lazy access st.frames))
        (λ f k. ctl.undone a access d st.frames f p r (omega arith) k)
        (hq.go env E (enable_access z.mode.lazy access p) d (X.enables p a) (with_frames (enable_frames z.mode.lazy access st.frames p) st) o w
        (ctl.enabled a access d st.frames p r (omega arith)) v (balances_frames z (enable_frames z.mode.lazy access st.frames p) y)));
  }

  -- ---- a run that goes on with a new cell
  on_cell : (h : ℕ) (p : StoreEvaluation) (P : Evaluation z.interpretation X) → Does h p P
      → (E : EnvIn z) (access d : ℕ) (a : X.State) (st : Store) (n : Counters) (w e : ℕ) {c c' m k r : ℕ} {log : Log}
      → d + h ≤ max_frames → R a access d st.frames → Balance z st c m (suc k) r log → n ≡ counters_of z c' (m + 1) log
      → RepEnv z (cell_set st.cells st.counters.cells w e) (st.counters.cells + 1) (st.counters.cells + 1) E
      → Meets z d st (p (st.counters.cells + 1) access (with_cell st n w e)) (P a E (budget c' k r log))
  on_cell h p P hp E access d a st n w e l r y k v =
      let made : n.cells ≡ st.counters.cells + 1 = (λ j. (k j).cells) ∙ (λ j. sym (made_is z y) j + 1) in
      meets_later z (later_cell d st n w e made)
      (hp.go (st.counters.cells + 1) E access d a (with_cell st n w e) _ l r
      (subst (λ m. RepEnv z (cell_set st.cells st.counters.cells w e) m (st.counters.cells + 1) E) (sym made) v)
      (balance (cell_tally z st n w e k y)))

  -- a recursive function
  module _ (h t b ty : ℕ) (i : t < 65536) (body : Term) (q : StoreEvaluation) (Q : Evaluation z.interpretation X) (inside : b < 65536) (k : Body z b body)
      (hq : Does h q Q) (env : ℕ) (E : EnvIn z) (access d : ℕ) (a : X.State) (st : Store) (w : d + h ≤ max_frames)
      (r : R a access d st.frames) (v : EnvAt z st env E) where
    letrec_is : (room : Bool) (own : ℕ) → has_room st ≡ room → own_cell st ≡ own
        → letrec_s q b t env access st ≡ cond room (q own access (cell_bound (function_word b own) env st)) (done_of (stop_word 21 t) st)
    unfolding letrec_s
    letrec_is room own e f = λ j. cond (e j) (q (f j) access (cell_bound (function_word b (f j)) env st)) (done_of (stop_word 21 t) st)

    letrec_meets : {o : Budget} → Balances z st o → Meets z d st (letrec_s q b t env access st) (take_cell t (λ o₁. Q a (bind (closure true ty body E) E) o₁) o)
    letrec_meets (balance {c = c} {d = zero} {r = u} {log = log} y) =
        subst (λ x. Meets z d st x (stops 21 t (budget c 0 u log))) (sym (letrec_is false (own_cell st) (room_none z y) refl))
        (meets_stop z (Cells t) i (balance y))
    letrec_meets (balance {c = c} {d = suc e} {r = u} {log = log} y) =
        let own : ℕ = st.counters.cells + 1 in
        let f : ℕ = function_word b own in
        subst (λ x. Meets z d st x (Q a (bind (closure true ty body E) E) (budget c e u log))) (sym (letrec_is true own (room_some z y) (own_is z y)))
        (on_cell h q Q hq (bind (closure true ty body E) E) access d a st (record st.counters { cells = own }) f env w r y
        (λ j. record (y.counters j) { cells = made_is z y j + 1 })
        (fresh_again z st.cells st.counters.cells env E (fits_is z y) v f b ty body
        (function_word_lem b own inside (omega (arith, few_cells z (balance y)))) k))

  pub sim_letrec : (h t b ty : ℕ) → t < 65536 → (body : Term) (q : StoreEvaluation) (Q : Evaluation z.interpretation X) → b < 65536 → Body z b body
      → Does h q Q
      → Does h (letrec_s q b t) (λ a E o. take_cell t (λ o₁. Q a (bind (closure true ty body E) E) o₁) o)
  sim_letrec h t b ty i body q Q l k hq = record { go = λ env E access d a st o w r v y. letrec_meets h t b ty i body q Q l k hq env E access d a st w r v y }

  -- a body begins
  module _ (ev : ℕ → StoreEvaluation) (t f w access : ℕ) (st : Store) where
    begin_is : (p q : Bool) (own : ℕ) → eqb st.counters.calls_left 0 ≡ p → has_room st ≡ q → own_cell st ≡ own
        → begin ev t f w access st
        ≡ cond p (done_of (stop_word 20 t) st) (cond q (ev (payload_of f) own access (call_bound w (env_of f) st)) (done_of (stop_word 21 t) st))
    unfolding begin
    begin_is p q own x y e =
        λ j. cond (x j) (done_of (stop_word 20 t) st) (cond (y j) (ev (payload_of f) (e j) access (call_bound w (env_of f) st)) (done_of (stop_word 21 t) st))

    module _ (i : t < 65536) (h ty : ℕ) (ag : Bool) (body : Term) (E : EnvIn z) (y : ValueIn z) (Q : Evaluation z.interpretation X)
        (hq : Does h (ev (payload_of f)) Q) (d : ℕ) (a : X.State) (l : d + h ≤ max_frames) (r : R a access d st.frames)
        (rf : RepAt z st f (closure ag ty body E)) (rx : RepAt z st w y) where
      pub begin_meets : {o : Budget} → Balances z st o → Meets z d st (begin ev t f w access st) (begin_call t (λ o₁. Q a (entered ag ty body E y) o₁) o)
      begin_meets (balance {c = zero} {d = c} {r = u} {log = log} b) =
          subst (λ x. Meets z d st x (stops 20 t (budget 0 c u log)))
          (sym (begin_is true (has_room st) (own_cell st) (λ j. eqb (calls_are z b j) 0) refl refl)) (meets_stop z (Calls t) i (balance b))
      begin_meets (balance {c = suc k} {d = zero} {r = u} {log = log} b) =
          subst (λ x. Meets z d st x (stops 21 t (budget (suc k) 0 u log)))
          (sym (begin_is false false (own_cell st) (ne_eqb st.counters.calls_left 0 (λ e. omega (arith, calls_are z b))) (room_none z b) refl))
          (meets_stop z (Cells t) i (balance b))
      begin_meets (balance {c = suc k} {d = suc c} {r = u} {log = log} b) =
          let own : ℕ = st.counters.cells + 1 in
          let less_one : st.counters.calls_left - 1 ≡ k = omega (arith, calls_are z b) in
          subst (λ x. Meets z d st x (Q a (entered ag ty body E y) (budget k c u log)))
          (sym (begin_is false true own (ne_eqb st.counters.calls_left 0 (λ e. omega (arith, calls_are z b))) (room_some z b) (own_is z b)))
          (on_cell h (ev (payload_of f)) Q hq (entered ag ty body E y) access d a st (call_bound w (env_of f) st).counters w (env_of f) l r b
          (λ j. record (b.counters j) { calls_left = less_one j; cells = made_is z b j + 1 })
          (entered_env z st.cells st.counters.cells (fits_is z b) f ty ag body E w y rf rx))
