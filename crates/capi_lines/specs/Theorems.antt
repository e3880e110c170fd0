-- What an entry writes of a state is read back as that state, so that the entries for C make the same sessions as those of `lines`: zeros are the empty
-- queues, the states that come of them have jobs whose allowances are numbers of 32 bits, and call for call the lists are what is written of those states.
use Rattle.std.specs.Prelude.{Bool, true, false, cond, List, [], ◌∷◌, ◌++◌, ◌≡◌, ℕ, zero, suc, ◌+◌, ◌%◌, ◌≤◌, min, eqb, length, get_or, take, replicate}
use Rattle.std.proofs.Math.Path.{refl}
use Rattle.std.proofs.Common.{sym, ap, ◌∙◌, subst, arith, length-take}
use Rattle.queues.specs.Queues.{max_lines, max_jobs, Job, Lines, new_lines, queue_at, add_conditions, added_to, add_of, Turn, nobody, serves, turn_of}
use Rattle.queues.specs.Answers.{no_job}
use Rattle.program.specs.Screening.{Screening, clear, found, screen}
use Rattle.semantics.specs.Runs.{Buffers}
use Rattle.replies.specs.Replies.{not_done}
use Rattle.replies.specs.Laws.{fit}
use Rattle.lines.specs.Serving.{serve_turn, serve_of}
use Rattle.lines.specs.Sessions.{Operation, add, serve, stepped, session, added_if, added_by, added_in, served_in, Sound}
use Rattle.lines.specs.Theorems.{start_sound, session_sound, in_order_holds}
use Rattle.capi_lines.specs.States.{state_numbers, max_allowance, places_read, queue_read, state_read, state_written}
use Rattle.capi_lines.specs.Entries.{AddLeft, state_after, add_left, lines_add, ServeLeft, served_state, serve_left, lines_serve}

-- "The queues start empty": a list of zeros is that state
pub zeros_start : state_read (replicate state_numbers 0) ≡ new_lines
unfolding state_read
zeros_start = refl

-- any list is read as a state of which the theorems of `lines` hold, whoever wrote it
pub read_sound : (n : List ℕ) → Sound (state_read n)
unfolding state_read
read_sound n = record { four = refl; turn_below = omega arith; few = few }
  where
    eight : (l : ℕ) → length (queue_read n l) ≤ max_jobs
    eight l = omega (arith, length-take (get_or n (2 + l) 0) (places_read n l))

    few : (l : ℕ) → length (queue_at (state_read n) l) ≤ max_jobs
    few zero = eight 0
    few (suc zero) = eight 1
    few (suc (suc zero)) = eight 2
    few (suc (suc (suc zero))) = eight 3
    few (suc (suc (suc (suc l)))) = omega arith

-- the jobs have allowances of 32 bits
abbrev pub SmallAllowances : List Job → Type 0
SmallAllowances js = (k : ℕ) → (get_or js k no_job).calls ≤ max_allowance

abbrev cut_allowance : Job → Job
cut_allowance j = record { offset = j.offset; length = j.length; calls = min j.calls max_allowance }

abbrev places_of : List Job → List Job
places_of js =
    cut_allowance (get_or js 0 no_job) ∷ cut_allowance (get_or js 1 no_job) ∷ cut_allowance (get_or js 2 no_job) ∷ cut_allowance (get_or js 3 no_job)
    ∷ cut_allowance (get_or js 4 no_job) ∷ cut_allowance (get_or js 5 no_job) ∷ cut_allowance (get_or js 6 no_job) ∷ cut_allowance (get_or js 7 no_job) ∷ []

module _ (js : List Job) (small : SmallAllowances js) where
  same : (k : ℕ) → cut_allowance (get_or js k no_job) ≡ get_or js k no_job
  same k =
      let e : min (get_or js k no_job).calls max_allowance ≡ (get_or js k no_job).calls = omega (arith, small k) in
      λ i. record { offset = (get_or js k no_job).offset; length = (get_or js k no_job).length; calls = e i }

  all_eight : (n : ℕ) → take n (places_of js)
      ≡ take n (get_or js 0 no_job ∷ get_or js 1 no_job ∷ get_or js 2 no_job ∷ get_or js 3 no_job ∷ get_or js 4 no_job ∷ get_or js 5 no_job ∷ get_or js 6 no_job
      ∷ get_or js 7 no_job ∷ [])
  all_eight n = λ i. take n (same 0 i ∷ same 1 i ∷ same 2 i ∷ same 3 i ∷ same 4 i ∷ same 5 i ∷ same 6 i ∷ same 7 i ∷ [])

whole : (js : List Job) → length js ≤ max_jobs → take (length js)
    (get_or js 0 no_job ∷ get_or js 1 no_job ∷ get_or js 2 no_job ∷ get_or js 3 no_job ∷ get_or js 4 no_job ∷ get_or js 5 no_job ∷ get_or js 6 no_job
    ∷ get_or js 7 no_job ∷ []) ≡ js
whole [] h = refl
whole (a ∷ []) h = refl
whole (a ∷ b ∷ []) h = refl
whole (a ∷ b ∷ c ∷ []) h = refl
whole (a ∷ b ∷ c ∷ d ∷ []) h = refl
whole (a ∷ b ∷ c ∷ d ∷ e ∷ []) h = refl
whole (a ∷ b ∷ c ∷ d ∷ e ∷ f ∷ []) h = refl
whole (a ∷ b ∷ c ∷ d ∷ e ∷ f ∷ g ∷ []) h = refl
whole (a ∷ b ∷ c ∷ d ∷ e ∷ f ∷ g ∷ i ∷ []) h = refl
whole (a ∷ b ∷ c ∷ d ∷ e ∷ f ∷ g ∷ i ∷ j ∷ js) h = absurd (omega arith)

four : (qs : List (List Job)) → length qs ≡ max_lines → get_or qs 0 [] ∷ get_or qs 1 [] ∷ get_or qs 2 [] ∷ get_or qs 3 [] ∷ [] ≡ qs
four [] h = absurd (omega arith)
four (a ∷ []) h = absurd (omega arith)
four (a ∷ b ∷ []) h = absurd (omega arith)
four (a ∷ b ∷ c ∷ []) h = absurd (omega arith)
four (a ∷ b ∷ c ∷ d ∷ []) h = refl
four (a ∷ b ∷ c ∷ d ∷ e ∷ qs) h = absurd (omega arith)

pub read_back : (s : Lines) → Sound s → ((l : ℕ) → SmallAllowances (queue_at s l)) → state_read (state_written s) ≡ s
unfolding state_read state_written
read_back s sound small =
    let e : s.turn % max_lines ≡ s.turn = omega (arith, sound.turn_below) in
    (λ i. record { queues = queue 0 i ∷ queue 1 i ∷ queue 2 i ∷ queue 3 i ∷ []; turn = e i; place = s.place })
    ∙ (λ i. record { queues = four s.queues sound.four i; turn = s.turn; place = s.place })
  where
    queue : (l : ℕ) → take (length (queue_at s l)) (places_of (queue_at s l)) ≡ queue_at s l
    queue l = all_eight (queue_at s l) (small l) (length (queue_at s l)) ∙ whole (queue_at s l) (sound.few l)

-- ---- every session that begins with zeros: each add hands over an allowance of 32 bits
abbrev pub SmallAdds : List Operation → Type 0
SmallAdds [] = Unit {0}
SmallAdds (add l j store ∷ os) = (j.calls ≤ max_allowance) × SmallAdds os
SmallAdds (serve store b ∷ os) = SmallAdds os

small_append : (xs ys : List Job) → SmallAllowances xs → SmallAllowances ys → SmallAllowances (xs ++ ys)
small_append [] ys h g k = g k
small_append (x ∷ xs) ys h g zero = h 0
small_append (x ∷ xs) ys h g (suc k) = small_append xs ys (λ m. h (suc m)) g k

small_rest : (xs ys : List Job) → SmallAllowances (xs ++ ys) → SmallAllowances ys
small_rest [] ys h k = h k
small_rest (x ∷ xs) ys h k = small_rest xs ys (λ m. h (suc m)) k

none_small : SmallAllowances []
none_small k = omega arith

only_small : (j : Job) → j.calls ≤ max_allowance → (b : Bool) → SmallAllowances (cond b (j ∷ []) [])
only_small j h true zero = h
only_small j h true (suc k) = omega arith
only_small j h false k = omega arith

accepted_small : (x : Screening) (l k : ℕ) (j : Job) → j.calls ≤ max_allowance → SmallAllowances (added_if x l k j)
accepted_small clear l k j h = only_small j h (eqb k l)
accepted_small (found c p) l k j h = none_small

added_small : (l : ℕ) (os : List Operation) (s : Lines) → SmallAdds os → SmallAllowances (added_in l os s)
added_small l [] s h = none_small
added_small l (add k j store ∷ os) s h =
    small_append (added_by l (add k j store) s) (added_in l os (stepped (add k j store) s)) (accepted_small (add_of s k j store).answer l k j h.0)
    (added_small l os (stepped (add k j store) s) h.1)
added_small l (serve store b ∷ os) s h = added_small l os (stepped (serve store b) s) h

nothing_small : (l : ℕ) → SmallAllowances (queue_at new_lines l)
nothing_small zero = none_small
nothing_small (suc zero) = none_small
nothing_small (suc (suc zero)) = none_small
nothing_small (suc (suc (suc zero))) = none_small
nothing_small (suc (suc (suc (suc l)))) = none_small

-- the states of which what is written is read back
record StateReadable (s : Lines) : Type 0 where
  sound : Sound s
  small : (l : ℕ) → SmallAllowances (queue_at s l)

start_readable : StateReadable new_lines
start_readable = record { sound = start_sound; small = nothing_small }

session_readable : (os : List Operation) (s : Lines) → StateReadable s → SmallAdds os → StateReadable (session os s)
session_readable os s r h = record {
  sound = session_sound os s r.sound;
  small = λ l.
      small_rest (served_in l os s) (queue_at (session os s) l)
      (subst SmallAllowances (in_order_holds l os s r.sound) (small_append (queue_at s l) (added_in l os s) (r.small l) (added_small l os s h)));
}

pub session_read_back : (os : List Operation) → SmallAdds os → state_read (state_written (session os new_lines)) ≡ session os new_lines
session_read_back os h = let r = session_readable os new_lines start_readable h in read_back (session os new_lines) r.sound r.small

-- ---- the same session over lists of numbers
-- an operation, and the list that is lent for its answer
pub record Call : Type 0 where
  pub operation : Operation
  pub answer : List ℕ

abbrev pub operations : List Call → List Operation
operations [] = []
operations (c ∷ cs) = c.operation ∷ operations cs

-- the answers have room: eight numbers for an add, nine for a serve
abbrev pub Room : Operation → (answer : List ℕ) → Type 0
Room (add l j store) answer = 8 ≤ length answer
Room (serve store b) answer = 9 ≤ length answer

abbrev pub Rooms : List Call → Type 0
Rooms [] = Unit {0}
Rooms (c ∷ cs) = Room c.operation c.answer × Rooms cs

-- what the entries for C leave of a state
abbrev pub list_stepped : Operation → (answer state : List ℕ) → List ℕ
list_stepped (add l j store) answer n = (lines_add n l j store answer).state
list_stepped (serve store b) answer n = (lines_serve n store b answer).state

abbrev pub list_session : List Call → (state : List ℕ) → List ℕ
list_session [] n = n
list_session (c ∷ cs) n = list_session cs (list_stepped c.operation c.answer n)

-- from zeros
abbrev pub list_after : List Call → List ℕ
list_after cs = list_session cs (replicate state_numbers 0)

-- one call, of a list that is read as this state
module _ (n : List ℕ) (size : length n ≡ state_numbers) (s : Lines) (e : state_read n ≡ s) (store answer : List ℕ) where
  add_read : 8 ≤ length answer → (l : ℕ) (j : Job) → lines_add n l j store answer ≡ add_left n answer (add_of s l j store)
  add_read room l j = λ i. cond (fit state_numbers 8 n answer size room i) (record { reply = not_done answer; state = n })
      (add_left n answer (add_of (e i) l j store))

  serve_read : 9 ≤ length answer → (b : Buffers) → lines_serve n store b answer ≡ serve_left n answer (serve_of s store b)
  serve_read room b = λ i. cond (fit state_numbers 9 n answer size room i) (record { reply = not_done answer; state = n; buffers = b })
      (serve_left n answer (serve_of (e i) store b))

-- where an entry leaves the list, the operation leaves the state
module _ (s : Lines) (store : List ℕ) where
  add_written : (l : ℕ) (j : Job)
      → state_after (add_of s l j store).answer (state_written s) (add_of s l j store).state ≡ state_written (add_of s l j store).state
  unfolding add_of
  add_written l j = go (screen (add_conditions s l j store))
    where
      go : (x : Screening) → state_after (added_to x s l j).answer (state_written s) (added_to x s l j).state ≡ state_written (added_to x s l j).state
      go clear = refl
      go (found c p) = refl

  serve_written : (b : Buffers)
      → served_state (serve_of s store b).answer (state_written s) (serve_of s store b).state ≡ state_written (serve_of s store b).state
  unfolding serve_of
  serve_written b = go (turn_of s)
    where
      go : (t : Turn)
          → served_state (serve_turn t s store b).answer (state_written s) (serve_turn t s store b).state ≡ state_written (serve_turn t s store b).state
      go nobody = refl
      go (serves l j js) = refl

-- A state is written as 102 numbers.
pub written_size : (s : Lines) → length (state_written s) ≡ state_numbers
unfolding state_written
written_size s = refl

same_step : (o : Operation) (answer : List ℕ) (s : Lines) → StateReadable s → Room o answer
    → list_stepped o answer (state_written s) ≡ state_written (stepped o s)
same_step (add l j store) answer s r room =
    ap (λ (x : AddLeft). x.state) (add_read (state_written s) (written_size s) s (read_back s r.sound r.small) store answer room l j)
    ∙ add_written s store l j
same_step (serve store b) answer s r room =
    ap (λ (x : ServeLeft). x.state) (serve_read (state_written s) (written_size s) s (read_back s r.sound r.small) store answer room b)
    ∙ serve_written s store b

first_small : (o : Operation) (os : List Operation) → SmallAdds (o ∷ os) → SmallAdds (o ∷ []) × SmallAdds os
first_small (add l j store) os h = ((h.0, tt), h.1)
first_small (serve store b) os h = (tt, h)

same_from : (cs : List Call) → Rooms cs → SmallAdds (operations cs) → (s : Lines) → StateReadable s
    → list_session cs (state_written s) ≡ state_written (session (operations cs) s)
same_from [] room h s r = refl
same_from (c ∷ cs) room h s r =
    let split = first_small c.operation (operations cs) h in
    ap (list_session cs) (same_step c.operation c.answer s r room.0)
    ∙ same_from cs room.1 split.1 (stepped c.operation s) (session_readable (c.operation ∷ []) s r split.0)

start_written : state_written new_lines ≡ replicate state_numbers 0
unfolding state_written
start_written = refl

module _ (cs : List Call) (room : Rooms cs) (h : SmallAdds (operations cs)) where
  -- The list that a session leaves is what is written of the state that the same session leaves.
  pub same_session : list_after cs ≡ state_written (session (operations cs) new_lines)
  same_session = sym (ap (list_session cs) start_written) ∙ same_from cs room h new_lines start_readable

  same_size : length (list_after cs) ≡ state_numbers
  same_size = ap length same_session ∙ written_size (session (operations cs) new_lines)

  same_state : state_read (list_after cs) ≡ session (operations cs) new_lines
  same_state = ap state_read same_session ∙ session_read_back (operations cs) h

  -- And the next call returns and writes what the operation on that state answers.
  module _ (store answer : List ℕ) where
    pub same_add : 8 ≤ length answer → (l : ℕ) (j : Job)
        → lines_add (list_after cs) l j store answer ≡ add_left (list_after cs) answer (add_of (session (operations cs) new_lines) l j store)
    same_add = add_read (list_after cs) same_size (session (operations cs) new_lines) same_state store answer

    pub same_serve : 9 ≤ length answer → (b : Buffers)
        → lines_serve (list_after cs) store b answer ≡ serve_left (list_after cs) answer (serve_of (session (operations cs) new_lines) store b)
    same_serve = serve_read (list_after cs) same_size (session (operations cs) new_lines) same_state store answer
