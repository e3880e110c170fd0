-- The store-level interpreter: terms as words by their numbers, cells as bytes, frames as numbers. It mirrors the code, and no reader of a public
-- promise needs it: the crate `refinement` proves that it is the meaning.
use Rattle.std.specs.Prelude.{ℕ, zero, suc, ◌+◌, ◌-◌, ◌/◌, Bool, true, cond, List, length, ◌==◌, nat_le, nat_lt, slice_index}
use Rattle.stores.specs.Words.{boolean_word, interval_word, function_word, stop_word, sort_of, payload_of, env_of, is_stop}
use Rattle.termtable.specs.Table.{word_kind, word_small, word_first, word_second, word_third, word_authority, word_guard}
use Rattle.stores.specs.Cells.{look_of, cell_set, next_cell}
use Rattle.access.specs.declared.Mode.{Mode}
use Rattle.access.specs.Access.{granted_of, allowed_of, sign_access, sign_frames, enable_access, enable_frames, enabled_now, restore_frames}
use Rattle.machine.specs.declared.counters.Counters.{Counters}
use Rattle.machine.specs.Steps.{operate_of, operate_counters, decided_event, note_counters, note_bytes, guard_decides, post_cause, post_word, post_counters, post_list}

-- ---- the state of a run between two steps: its counters, the lent stores and the bytes of its record
pub record Store : Type 0 where
  pub counters : Counters
  pub cells : List ℕ
  pub posts : List ℕ
  pub frames : List ℕ
  pub noted : List ℕ

pub record Done : Type 0 where
  pub out : ℕ
  pub store : Store

-- with so many calls to make, and nothing made
abbrev pub counters_at_start : (calls : ℕ) → Mode → Counters
counters_at_start calls mode = record { calls_left = calls; cells = 0; posts = 0; mode = mode; saturated = 0; entries = 0 }

abbrev pub store_of : Counters → (cells posts frames noted : List ℕ) → Store
store_of n c p f l = record { counters = n; cells = c; posts = p; frames = f; noted = l }

abbrev pub done_of : (word : ℕ) → Store → Done
done_of w st = record { out = w; store = st }

abbrev pub with_frames : List ℕ → Store → Store
with_frames f st = store_of st.counters st.cells st.posts f st.noted

-- what term t decides on privilege p in this access is noted; a full record takes no more, and where nothing is decided nothing is noted
abbrev pub with_entry : (decides : Bool) (t p access : ℕ) → Store → Store
with_entry d t p access st =
    store_of (note_counters d st.counters st.noted) st.cells st.posts st.frames
    (note_bytes d (decided_event t p (granted_of st.counters.mode.lazy access st.frames p)) st.counters st.noted)

-- what follows a value; a stop stays
unfoldable pub and_then : Done → (ℕ → Store → Done) → Done
and_then d k = cond (is_stop d.out) d (k d.out d.store)

abbrev pub StoreEvaluation : Type 0
StoreEvaluation = (env access : ℕ) → Store → Done

abbrev pub StoreApplication : Type 0
StoreApplication = (t fun arg access : ℕ) → Store → Done

-- ---- the fifteen kinds by what they do; a number above 14 is read as 14
pub data Action : Type 0 where
  immediate letrec call if check enable sign test binary post : Action

unfoldable pub action_of : (kind : ℕ) → Action
action_of k =
    cond (nat_le k 3) immediate (cond (k == 4) letrec (cond (k == 5) call (cond (k == 6) if (cond (k == 7) check
    (cond (k == 8) enable (cond (k == 9) sign (cond (k == 10) test (cond (nat_le k 13) binary post))))))))

-- boolean, number, variable, function
unfoldable pub immediate_word : (cells : List ℕ) (t word env : ℕ) → ℕ
immediate_word cells t x env =
    cond (word_kind x == 0) (boolean_word (nat_lt 0 (word_small x))) (cond (word_kind x == 1) (interval_word (word_first x) (word_second x))
    (cond (word_kind x == 2) (look_of cells t env (word_first x)) (function_word (word_second x) env)))

-- a new cell: whether there is one, its number, and the store with it
unfoldable pub has_room : Store → Bool
has_room st = nat_lt st.counters.cells (length st.cells / 8)

abbrev pub own_cell : Store → ℕ
own_cell st = next_cell st.counters.cells

abbrev pub cell_bound : (word behind : ℕ) → Store → Store
cell_bound w behind st =
    store_of (record st.counters { cells = st.counters.cells + 1 }) (cell_set st.cells st.counters.cells w behind) st.posts st.frames st.noted

-- the same at a call, with one call less
abbrev pub call_bound : (word behind : ℕ) → Store → Store
call_bound w behind st =
    store_of (record st.counters { calls_left = st.counters.calls_left - 1; cells = st.counters.cells + 1 })
    (cell_set st.cells st.counters.cells w behind) st.posts
    st.frames st.noted

-- ---- the kinds of terms
unfoldable pub letrec_s : StoreEvaluation → (body t : ℕ) → StoreEvaluation
letrec_s p body t env access st = cond (has_room st) (p (own_cell st) access (cell_bound (function_word body (own_cell st)) env st))
    (done_of (stop_word 21 t) st)

unfoldable pub call_s : StoreEvaluation → StoreEvaluation → StoreApplication → (t : ℕ) → StoreEvaluation
call_s p q ap t env access st = and_then (p env access st) (λ f st₁. and_then (q env access st₁) (λ v st₂. ap t f v access st₂))

unfoldable pub branch_s : (t word : ℕ) → (onTrue onFalse : Done) → Store → Done
branch_s t w p q st =
    cond (sort_of w == 0) (cond (payload_of w == 2) (done_of (stop_word 36 t) st) (cond (nat_lt 0 (payload_of w)) p q)) (done_of (stop_word 18 t) st)

unfoldable pub if_s : StoreEvaluation → StoreEvaluation → StoreEvaluation → (t : ℕ) → StoreEvaluation
if_s p q r t env access st = and_then (p env access st) (λ w st₁. branch_s t w (q env access st₁) (r env access st₁) st₁)

-- a check that is passed over decides nothing
abbrev pub checked : (t p access : ℕ) → Store → Store
checked t p access st = with_entry st.counters.mode.enforce t p access st

unfoldable pub check_s : StoreEvaluation → (p t : ℕ) → StoreEvaluation
check_s r p t env access st =
    cond (allowed_of st.counters.mode access st.frames p) (r env access (checked t p access st)) (done_of (stop_word 17 t) (checked t p access st))

unfoldable pub test_s : StoreEvaluation → StoreEvaluation → (p t : ℕ) → StoreEvaluation
test_s r q p t env access st =
    cond (granted_of st.counters.mode.lazy access st.frames p) (r env access (with_entry true t p access st)) (q env access (with_entry true t p access st))

unfoldable pub sign_s : StoreEvaluation → (authorised : ℕ) → StoreEvaluation
sign_s r authorised env access st =
    r env (sign_access st.counters.mode.lazy access authorised) (with_frames (sign_frames st.counters.mode.lazy access st.frames authorised) st)

-- the first frame is restored when the term ends
abbrev pub restored : (lazy : Bool) (access old : ℕ) → Done → Done
restored lazy access old d = done_of d.out (with_frames (restore_frames lazy access d.store.frames old) d.store)

unfoldable pub enable_s : StoreEvaluation → (p : ℕ) → StoreEvaluation
enable_s r p env access st =
    restored st.counters.mode.lazy access (enabled_now st.counters.mode.lazy access st.frames)
    (r env (enable_access st.counters.mode.lazy access p) (with_frames (enable_frames st.counters.mode.lazy access st.frames p) st))

unfoldable pub operate_done : (kind t a b : ℕ) → Store → Done
operate_done kind t a b st =
    done_of (operate_of st.counters.mode.intervals kind t a b) (store_of (operate_counters kind a b st.counters) st.cells st.posts st.frames st.noted)

unfoldable pub binary_s : StoreEvaluation → StoreEvaluation → (kind t : ℕ) → StoreEvaluation
binary_s p q kind t env access st = and_then (p env access st) (λ a st₁. and_then (q env access st₁) (λ b st₂. operate_done kind t a b st₂))

-- the word of the post's term says its channel and its guard, which is decided in the access of the post
abbrev pub guarded : (t x access word : ℕ) → Store → Store
guarded t x access w st = with_entry (guard_decides st.counters.mode.enforce x w) t (word_guard x) access st

unfoldable pub post_done : (t x access word : ℕ) → Store → Done
post_done t x access w st =
    let c = post_cause x access w st.counters st.posts st.frames in
    done_of (post_word t w c)
    (store_of (post_counters c (guarded t x access w st).counters) st.cells (post_list x w c st.counters st.posts) st.frames
    (guarded t x access w st).noted)

unfoldable pub post_s : StoreEvaluation → (t x : ℕ) → StoreEvaluation
post_s p t x env access st = and_then (p env access st) (λ w st₁. post_done t x access w st₁)

abbrev pub by_action : Action → (ℕ → StoreEvaluation) → StoreApplication → (t word : ℕ) → StoreEvaluation
by_action immediate ev ap t x env access st = done_of (immediate_word st.cells t x env) st
by_action letrec ev ap t x env access st = letrec_s (ev (word_third x)) (word_second x) t env access st
by_action call ev ap t x env access st = call_s (ev (word_first x)) (ev (word_second x)) ap t env access st
by_action if ev ap t x env access st = if_s (ev (word_first x)) (ev (word_second x)) (ev (word_third x)) t env access st
by_action check ev ap t x env access st = check_s (ev (word_first x)) (word_small x) t env access st
by_action enable ev ap t x env access st = enable_s (ev (word_first x)) (word_small x) env access st
by_action sign ev ap t x env access st = sign_s (ev (word_first x)) (word_authority x) env access st
by_action test ev ap t x env access st = test_s (ev (word_first x)) (ev (word_second x)) (word_small x) t env access st
by_action binary ev ap t x env access st = binary_s (ev (word_first x)) (ev (word_second x)) (word_kind x) t env access st
by_action post ev ap t x env access st = post_s (ev (word_first x)) t x env access st

-- a body begins: 20, then 21, or its argument is bound, with one call less
unfoldable pub begin : (ℕ → StoreEvaluation) → (t fun arg access : ℕ) → Store → Done
begin ev t f v access st =
    cond (st.counters.calls_left == 0) (done_of (stop_word 20 t) st)
    (cond (has_room st) (ev (payload_of f) (own_cell st) access (call_bound v (env_of f) st)) (done_of (stop_word 21 t) st))

module _ (terms : List ℕ) where
  unfoldable pub step : (ℕ → StoreEvaluation) → StoreApplication → (t : ℕ) → StoreEvaluation
  step ev ap t env access st = by_action (action_of (word_kind (slice_index terms t))) ev ap t (slice_index terms t) env access st

  -- terms with numbers below n
  unfoldable pub eval_below : StoreApplication → (n t : ℕ) → StoreEvaluation
  eval_below ap zero t env access st = done_of (stop_word 18 t) st
  eval_below ap (suc n) t env access st = cond (t == n) (step (eval_below ap n) ap t env access st) (eval_below ap n t env access st)

  -- 18 for what is no function, then 19. A term's number has 16 bits; one past the table has the word 0, which is a boolean's.
  unfoldable pub apply_at : (depth : ℕ) → StoreApplication
  apply_at zero t f v access st = cond (sort_of f == 2) (done_of (stop_word 19 t) st) (done_of (stop_word 18 t) st)
  apply_at (suc k) t f v access st = cond (sort_of f == 2) (begin (eval_below (apply_at k) 65536) t f v access st) (done_of (stop_word 18 t) st)

  unfoldable pub eval_at : (depth t : ℕ) → StoreEvaluation
  eval_at k = eval_below (apply_at k) 65536
