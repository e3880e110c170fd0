-- How the interpreter's words, cells, counters and outcomes stand for the meaning's values, environments, budgets and results.
use Rattle.std.specs.Prelude.{Bool, true, false, cond, ◌≡◌, refl, List, [], ◌∷◌, reverse, ltb, get_or, length, set}
use Rattle.std.proofs.Common.{sym, ◌∙◌, arith, length-set, lt-ltb, le-ltb}
use Rattle.std.proofs.Math.Path.{subst}
use Prim.Native.Nat.{ℕ, ◌+◌, ◌*◌, ◌/◌, ◌<◌, ◌≤◌}
use Rattle.program.specs.Limits.{max_cells, max_nesting}
use Rattle.program.specs.Layout.{guard_in}
use Rattle.program.specs.Terms.{Op, Term, boolean, number, variable, function, letrec, call, if, check, enable, sign, test, binary, post}
use Rattle.program.proofs.Laws.Nesting.{height}
use Rattle.traces.specs.Traces.{recorded}
use Rattle.semantics.specs.Domains.{Domain, Interpretation}
use Rattle.semantics.specs.Values.{ValueOf, bool, num, closure, EnvOf, empty, bind, Log, Budget, budget, ResultOf, ends, stops}
use Rattle.semantics.specs.Meaning.{◌then◌}
use Rattle.stores.specs.declared.values.Stop.{Stop}
use Rattle.stores.specs.declared.values.Stop.TheVariants.{Check, Stuck, OpenCalls, Calls, Cells, Posts, Undecided}
use Rattle.stores.specs.Words.{interval_word, function_word, stop_word, sort_of, payload_of, env_of, is_stop}
use Rattle.termtable.specs.Table.{word_kind, word_small, word_first, word_second, word_third, word_authority, word_guard}
use Rattle.stores.specs.Cells.{behind_of, cell_word}
use Rattle.access.specs.declared.Mode.{Mode}
use Rattle.machine.specs.declared.counters.Counters.{Counters}
use Rattle.machine.specs.Steps.{wrapped}
use Rattle.machine.specs.Store.{Store, Done, done_of, and_then}
use Rattle.stores.specs.Stops.{stop_cause, stop_place}
use Rattle.refinement.proofs.Laws.Records.{record_after}
use Rattle.refinement.proofs.Laws.Cells.{Agree, agree_held, agree_behind}
use Rattle.refinement.proofs.Laws.Codings.{WordOfSort, kind_number, Coding}

-- ---- what stays in a run: what the terms are interpreted in, their words, the sets that the principals may use, the lent list of posts, the lent record, the
-- mode, and how words stand for the interpretation's numbers and truth values
pub record Fixed : Type 1 where
  pub interpretation : Interpretation
  pub terms : List ℕ
  pub authorised : ℕ → ℕ
  pub posts : List ℕ
  pub noted : List ℕ
  pub mode : Mode
  pub coding : Coding interpretation.domain mode

abbrev pub ValueIn : Fixed → Type 0
ValueIn z = ValueOf z.interpretation.domain

abbrev pub EnvIn : Fixed → Type 0
EnvIn z = EnvOf z.interpretation.domain

abbrev pub ResultIn : Fixed → Type 0
ResultIn z = ResultOf z.interpretation.domain

-- ---- counters, posts and the record

-- the posts, the latest first, written over the front of a list
abbrev pub posts_written : List ℕ → List ℕ → List ℕ
posts_written l [] = l
posts_written l (p ∷ ps) = set (posts_written l ps) (length ps) p

pub length_written : (l ps : List ℕ) → length (posts_written l ps) ≡ length l
length_written l [] = refl
length_written l (p ∷ ps) = length-set (posts_written l ps) (length ps) p ∙ length_written l ps

-- with m cells made
abbrev pub counters_of : Fixed → (calls m : ℕ) → Log → Counters
counters_of z c m log = record {
  calls_left = c;
  cells = m;
  posts = length log.posts;
  mode = z.mode;
  saturated = wrapped log.saturated;
  entries = length (recorded (length z.noted) (reverse log.decisions));
}

pub record Balance (z : Fixed) (st : Store) (c m d r : ℕ) (log : Log) : Type 0 where
  pub counters : st.counters ≡ counters_of z c m log
  pub cells : m + d ≡ length st.cells / 8
  pub most : length st.cells ≤ max_cells
  pub room : length log.posts + r ≡ length z.posts
  pub list : st.posts ≡ posts_written z.posts log.posts
  pub noted_is : st.noted ≡ record_after z.noted (reverse log.decisions)

pub data Balances (z : Fixed) (st : Store) : Budget → Type 0 where
  balance : {c m d r : ℕ} {log : Log} → Balance z st c m d r log → Balances z st (budget c d r log)

-- ---- later states

-- the first frames are kept
pub record FramesKept (depth : ℕ) (f g : List ℕ) : Type 0 where
  pub long : length g ≡ length f
  pub same : (i : ℕ) → i < 2 * depth → get_or g i 0 ≡ get_or f i 0

pub kept_refl : (depth : ℕ) (f : List ℕ) → FramesKept depth f f
kept_refl depth f = record { long = refl; same = λ i h. refl }

kept_trans : {depth : ℕ} {f g h : List ℕ} → FramesKept depth f g → FramesKept depth g h → FramesKept depth f h
kept_trans p q = record { long = q.long ∙ p.long; same = λ i h. q.same i h ∙ p.same i h }

-- cells made before and the first frames are as they were
pub record Later (depth : ℕ) (st₀ st : Store) : Type 0 where
  pub more : st₀.counters.cells ≤ st.counters.cells
  pub old : Agree st₀.counters.cells st₀.cells st.cells
  pub frames : FramesKept depth st₀.frames st.frames

pub later_refl : (depth : ℕ) (st : Store) → Later depth st st
later_refl depth st = record { more = omega arith; old = record { long = refl; same = λ j h. refl }; frames = kept_refl depth st.frames }

later_trans : {depth : ℕ} {a b c : Store} → Later depth a b → Later depth b c → Later depth a c
later_trans p q = record {
  more = omega (arith, p.more, q.more);
  old = record { long = q.old.long ∙ p.old.long; same = λ j h. q.old.same j (omega (arith, p.more)) ∙ p.old.same j h };
  frames = kept_trans p.frames q.frames;
}

-- ---- words

abbrev pub sort_for : {D : Domain} → ValueOf D → ℕ
sort_for (bool b) = 0
sort_for (num n) = 1
sort_for (closure r ty body env) = 2

sort_most : {D : Domain} (x : ValueOf D) → sort_for x ≤ 2
sort_most (bool b) = omega arith
sort_most (num n) = omega arith
sort_most (closure r ty body env) = omega arith

-- a function's word and what it is read as
pub record Function (b e w : ℕ) : Type 0 where
  pub word : WordOfSort 2 w
  pub body_is : payload_of w ≡ b
  pub env_is : env_of w ≡ e

pub function_word_lem : (b e : ℕ) → b < 65536 → e < 65536 → Function b e (function_word b e)
function_word_lem b e p q = record { word = record { sort_is = omega arith; small = omega arith }; body_is = omega arith; env_is = omega arith }

-- a stop's word
stop_range : (x : Stop) → (17 ≤ stop_cause x) × (stop_cause x ≤ 36)
stop_range (Check t) = (omega arith, omega arith)
stop_range (Stuck t) = (omega arith, omega arith)
stop_range (OpenCalls t) = (omega arith, omega arith)
stop_range (Calls t) = (omega arith, omega arith)
stop_range (Cells t) = (omega arith, omega arith)
stop_range (Posts t) = (omega arith, omega arith)
stop_range (Undecided t) = (omega arith, omega arith)

stop_parts : (k t : ℕ) → k < 65536 → t < 65536 → (sort_of (stop_word k t) ≡ k) × (payload_of (stop_word k t) ≡ t)
stop_parts k t h i = (omega arith, omega arith)

pub stop_word_lem : (x : Stop) → stop_place x < 65536
    → (sort_of (stop_word (stop_cause x) (stop_place x)) ≡ stop_cause x) × (payload_of (stop_word (stop_cause x) (stop_place x)) ≡ stop_place x)
stop_word_lem x i = stop_parts (stop_cause x) (stop_place x) (omega (arith, stop_range x)) i

stop_stops : (x : Stop) → is_stop (stop_word (stop_cause x) (stop_place x)) ≡ true
stop_stops x = lt-ltb 2 (sort_of (stop_word (stop_cause x) (stop_place x))) (omega (arith, stop_range x))

-- ---- terms

module _ (z : Fixed) where
  abbrev pub word_at : (t : ℕ) → ℕ
  word_at t = get_or z.terms t 0

  abbrev pub kind_in : (t : ℕ) → ℕ
  kind_in t = word_kind (word_at t)

  abbrev pub small_in : (t : ℕ) → ℕ
  small_in t = word_small (word_at t)

  abbrev pub first_in : (t : ℕ) → ℕ
  first_in t = word_first (word_at t)

  abbrev pub second_in : (t : ℕ) → ℕ
  second_in t = word_second (word_at t)

  abbrev pub third_in : (t : ℕ) → ℕ
  third_in t = word_third (word_at t)

  abbrev pub guard_byte_in : (t : ℕ) → ℕ
  guard_byte_in t = word_guard (word_at t)

  -- the word of term t stands for a term of the meaning; its children are lower, a sign has the set of its principal, and a post the guard of its channel
  pub data Represents : (t : ℕ) → Term → Type 0 where
    on_boolean : {t : ℕ} {b : Bool} → kind_in t ≡ 0 → ltb 0 (small_in t) ≡ b → Represents t (boolean t b)
    on_number : {t n : ℕ} → kind_in t ≡ 1 → z.coding.Number (interval_word (first_in t) (second_in t)) (z.interpretation.literal t n)
        → Represents t (number t n)
    on_variable : {t : ℕ} → kind_in t ≡ 2 → Represents t (variable t (first_in t))
    on_function : {t ty : ℕ} {a : Term} → kind_in t ≡ 3 → second_in t < t → Represents (second_in t) a → Represents t (function t ty a)
    on_letrec : {t ty : ℕ} {a b : Term} → kind_in t ≡ 4 → second_in t < t → third_in t < t → Represents (second_in t) a → Represents (third_in t) b
        → Represents t (letrec t ty a b)
    on_call : {t : ℕ} {a b : Term} → kind_in t ≡ 5 → first_in t < t → second_in t < t → Represents (first_in t) a → Represents (second_in t) b
        → Represents t (call t a b)
    on_if : {t : ℕ} {a b c : Term} → kind_in t ≡ 6 → first_in t < t → second_in t < t → third_in t < t
        → Represents (first_in t) a → Represents (second_in t) b → Represents (third_in t) c → Represents t (if t a b c)
    on_check : {t : ℕ} {a : Term} → kind_in t ≡ 7 → first_in t < t → Represents (first_in t) a → Represents t (check t (small_in t) a)
    on_enable : {t : ℕ} {a : Term} → kind_in t ≡ 8 → first_in t < t → Represents (first_in t) a → Represents t (enable t (small_in t) a)
    on_sign : {t : ℕ} {a : Term} → kind_in t ≡ 9 → word_authority (word_at t) ≡ z.authorised (small_in t) → first_in t < t → Represents (first_in t) a
        → Represents t (sign t (small_in t) a)
    on_test : {t : ℕ} {a b : Term} → kind_in t ≡ 10 → first_in t < t → second_in t < t → Represents (first_in t) a → Represents (second_in t) b
        → Represents t (test t (small_in t) a b)
    on_binary : {t : ℕ} {a b : Term} (op : Op) → kind_in t ≡ kind_number op → first_in t < t → second_in t < t
        → Represents (first_in t) a → Represents (second_in t) b → Represents t (binary t op a b)
    on_post : {t : ℕ} {a : Term} → kind_in t ≡ 14 → first_in t < t → Represents (first_in t) a
        → Represents t (post t (small_in t) (guard_in (guard_byte_in t)) a)

  -- a function's body is at most 32 high
  pub record Body (b : ℕ) (c : Term) : Type 0 where
    pub shallow : height c ≤ max_nesting
    pub stands : Represents b c

  -- ---- a word for a value and a link for an environment, in a store of which the first m cells are made
  mutual
    pub data Rep (cells : List ℕ) (m : ℕ) : ℕ → ValueIn z → Type 0 where
      rep_bool : {w : ℕ} {b : z.interpretation.domain.Truth} → z.coding.Truth w b → Rep cells m w (bool b)
      rep_num : {w : ℕ} {n : z.interpretation.domain.Number} → z.coding.Number w n → Rep cells m w (num n)
      rep_fun : {w ty : ℕ} {c : Term} {E : EnvIn z} → WordOfSort 2 w → Body (payload_of w) c → RepEnv cells m (env_of w) E
          → Rep cells m w (closure false ty c E)
      rep_rec : {w ty : ℕ} {c : Term} {E : EnvIn z} → WordOfSort 2 w → Body (payload_of w) c → 1 ≤ env_of w → env_of w ≤ m → cell_word cells (env_of w) ≡ w
          → RepEnv cells m (behind_of cells (env_of w)) E → Rep cells m w (closure true ty c E)

    pub data RepEnv (cells : List ℕ) (m : ℕ) : ℕ → EnvIn z → Type 0 where
      env_none : RepEnv cells m 0 empty
      env_some : {e : ℕ} {x : ValueIn z} {E : EnvIn z} → 1 ≤ e → e ≤ m → Rep cells m (cell_word cells e) x → RepEnv cells m (behind_of cells e) E
          → RepEnv cells m e (bind x E)

  module _ {l : List ℕ} {m : ℕ} where
    pub rep_word : {w : ℕ} {x : ValueIn z} → Rep l m w x → WordOfSort (sort_for x) w
    rep_word (rep_bool h) = z.coding.truth_word h
    rep_word (rep_num h) = z.coding.number_word_holds h
    rep_word (rep_fun h b e) = h
    rep_word (rep_rec h b p q v e) = h

    pub rep_low : {w : ℕ} {x : ValueIn z} → Rep l m w x → sort_of w ≤ 2
    rep_low {x = x} r = omega (arith, (rep_word r).sort_is, sort_most x)

    pub env_low : {e : ℕ} {E : EnvIn z} → RepEnv l m e E → e ≤ m
    env_low env_none = omega arith
    env_low (env_some p q v h) = q

  -- both stay when cells past the first m are made
  module _ {m k : ℕ} {l l' : List ℕ} (more : m ≤ k) (a : Agree m l l') where
    mutual
      pub rep_later : {w : ℕ} {x : ValueIn z} → Rep l m w x → Rep l' k w x
      rep_later (rep_bool h) = rep_bool h
      rep_later (rep_num h) = rep_num h
      rep_later (rep_fun h b e) = rep_fun h b (env_later e)
      rep_later (rep_rec {w = w} {E = E} h b p q v e) =
          rep_rec h b p (omega arith) (agree_held a (env_of w) p q ∙ v) (subst (λ x. RepEnv l' k x E) (sym (agree_behind a (env_of w) p q)) (env_later e))

      pub env_later : {e : ℕ} {x : EnvIn z} → RepEnv l m e x → RepEnv l' k e x
      env_later env_none = env_none
      env_later (env_some {e = e} {x = y} {E = E} p q v h) =
          env_some p (omega arith) (subst (λ x. Rep l' k x y) (sym (agree_held a e p q)) (rep_later v))
          (subst (λ x. RepEnv l' k x E) (sym (agree_behind a e p q)) (env_later h))

  -- the same at a state
  abbrev pub RepAt : Store → ℕ → ValueIn z → Type 0
  RepAt st w x = Rep st.cells st.counters.cells w x

  abbrev pub EnvAt : Store → ℕ → EnvIn z → Type 0
  EnvAt st e E = RepEnv st.cells st.counters.cells e E

  -- ---- outcomes
  pub data Meets (depth : ℕ) (st₀ : Store) : Done → ResultIn z → Type 0 where
    valued : {w : ℕ} {x : ValueIn z} {st : Store} {o : Budget} → RepAt st w x → Balances z st o → Later depth st₀ st → Meets depth st₀ (done_of w st) (ends x o)
    halted : {st : Store} {o : Budget} (x : Stop) → stop_place x < 65536 → Balances z st o → Later depth st₀ st
        → Meets depth st₀ (done_of (stop_word (stop_cause x) (stop_place x)) st) (stops (stop_cause x) (stop_place x) o)

  pub meets_later : {depth : ℕ} {st₀ st : Store} {d : Done} {o : ResultIn z} → Later depth st₀ st → Meets depth st d o → Meets depth st₀ d o
  meets_later l (valued r t m) = valued r t (later_trans l m)
  meets_later l (halted x i t m) = halted x i t (later_trans l m)

  -- what follows a value
  pub meets_then : {depth : ℕ} {st₀ : Store} {d : Done} {o : ResultIn z} (k : ℕ → Store → Done) (q : ValueIn z → Budget → ResultIn z) → Meets depth st₀ d o
      → ((w : ℕ) (x : ValueIn z) (st : Store) (r : Budget) → RepAt st w x → Balances z st r → Later depth st₀ st → Meets depth st (k w st) (q x r))
      → Meets depth st₀ (and_then d k) (o then q)
  unfolding and_then
  meets_then {depth} {st₀} k q (valued {w = w} {x = x} {st = st} {o = o} r t l) h =
      subst (λ b. Meets depth st₀ (cond b (done_of w st) (k w st)) (q x o)) (sym (le-ltb 2 (sort_of w) (rep_low r))) (meets_later l (h _ _ _ _ r t l))
  meets_then {depth} {st₀} k q (halted {st = st} {o = o} x i t l) h =
      let w : ℕ = stop_word (stop_cause x) (stop_place x) in
      subst (λ b. Meets depth st₀ (cond b (done_of w st) (k w st)) (stops (stop_cause x) (stop_place x) o)) (sym (stop_stops x)) (halted x i t l)
