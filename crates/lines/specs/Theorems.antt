-- What a reader may count on, over any sequence of adds and serves, with any stores and buffers lent for each of them: a job with j jobs before it in its own
-- queue has its turn within 4 × (j + 1) serves, whatever is added in between; of each line the jobs are served in the order in which they were added, and
-- none is lost or served twice. And of one serve: the line that is served is the first with a job from the turn on, and then it is the next line's turn;
-- nobody is served exactly when no line has a job; a refused job leaves the place and the buffers; what stands before the place in the list of posts stays,
-- and the job's posts stand from it on. A job whose part no longer lies in the store is told 28, and 15 is told of what is left of the list.
use Rattle.std.specs.Prelude.{Bool, cond, ◌&&◌, ◌⊎◌, ◌↔◌, ℕ, zero, suc, ◌+◌, ◌-◌, ◌*◌, ◌%◌, ◌<◌, ◌≤◌, get_or, set, take}
use Rattle.std.proofs.Math.Bool.{true, false}
use Rattle.std.proofs.Common.{true≢false, inl, inr, sym, ◌∙◌, subst, add-zero, arith, length-append, length-take, length-drop, length-set, take-append-drop, get_or-set_same, get_or-set_other, take_at, drop_at, drop-drop, eq-eqb, ne_eqb, ltb-true, leb-false, le-leb}
use mathlib.Core.List.{List, [], ◌∷◌, ◌++◌, reverse, append-nil, append_assoc}
use Rattle.std.proofs.Math.Path.{◌≡◌, refl, ap}
use Rattle.std.proofs.Math.Decide.{ℕ_discrete, dec_lt}
use Rattle.std.proofs.Math.Dec.{leb}
use Rattle.std.proofs.Math.ListN.{length, drop, length-reverse, get_or-append, get_or-eq_default}
use Rattle.std.proofs.lemmas.List.{length-map}
use Rattle.std.proofs.lemmas.Bool.{lt-leb}
use Rattle.interp.specs.Answers.{empty_stack_request}
use Rattle.program.specs.Layout.{root}
use Rattle.program.specs.Screening.{Screening, clear, found, refuse_at, screen, unless, unless_found}
use Rattle.program.specs.Decoding.{decoding_conditions, decoding, Readable}
use Rattle.program.proofs.Laws.Screening.{found≢clear, found_first, first_found, clear_none, none_cons, screen_clear, unless_none}
use Rattle.program.specs.Limits.{max_cells, max_posts}
use Rattle.semantics.specs.Values.{Budget, budget}
use Rattle.semantics.specs.Runs.{Request, Buffers, Sizes, sizes, start_ok, buffers_ok, limits_ok, run_conditions, Course, rejected, started, course, Outcome, RunCounts, Answer, refused, ran, left, counts, answer_of, in_order, course_posts, buffers_after, After, run, post_count}
use Rattle.semantics.specs.Claims.{Few}
use Rattle.semantics.proofs.Laws.Starting.{counts_in}
use Rattle.semantics.proofs.Theorems.{refused_exactly}
use Rattle.largest.specs.Largest.{is_largest, largest_conditions, refused_with, largest_run}
use Rattle.lines.specs.Sessions.{Operation, add, serve, stepped, session, serves_in, only, added_if, added_by, in_turn, served_by, added_in, served_in, Sound}
use Rattle.largest.specs.Theorems.{same_run, largest_few, largest_untouched, largest_lengths}
use Rattle.queues.specs.Queues.{max_lines, max_jobs, Job, Lines as LinesOf, new_lines, queue_at, add_conditions, enqueued, added_to, add_of, inside, Turn, nobody, serves, turn_at, next_line, turn_from, turn_of, job_sheet, after_turn}
use Rattle.queues.specs.Answers.{no_queue, job_model, queue_model, lines_model}
use Rattle.queues.specs.Laws.{queue_is}
use Rattle.queues.specs.declared.state.Queue.{Queue}
use Rattle.queues.specs.declared.state.Lines.{Lines}
use Rattle.queues.specs.Theorems.{FirstWaiting, served_first, nobody_waiting}
use Rattle.lines.specs.Serving.{rest_from, behind, job_run, job_after, idle, answered, Served, served_as, serve_turn, serve_of}

-- ---- states that the entries make
none_waits : (l : ℕ) → queue_at new_lines l ≡ []
none_waits zero = refl
none_waits (suc zero) = refl
none_waits (suc (suc zero)) = refl
none_waits (suc (suc (suc zero))) = refl
none_waits (suc (suc (suc (suc l)))) = refl

pub start_sound : Sound new_lines
start_sound = record { four = refl; turn_below = omega arith; few = λ l. omega (arith, ap length (none_waits l)) }

-- Any struct is read as one, whoever made it: it has four queues of eight places.
pub read_sound : (q : Lines) → length q.queues ≡ max_lines → ((l : ℕ) → l < max_lines → length (get_or q.queues l no_queue).jobs ≡ max_jobs)
    → Sound (lines_model q)
read_sound q four eight = record {
  four = length-map q.queues queue_model ∙ four;
  turn_below = omega arith;
  few = λ l.
      let h = get_or q.queues l no_queue in
      omega (
        arith,
        ap length (queue_is q l),
        length-map (take h.count h.jobs) job_model,
        length-take h.count h.jobs,
        places l (dec_lt l max_lines),
      );
}
  where
    places : (l : ℕ) → Dec (l < max_lines) → length (get_or q.queues l no_queue).jobs ≤ max_jobs
    places l (yes h) = omega (arith, eight l h)
    places l (no h) = omega (arith, ap (λ (x : Queue). length x.jobs) (get_or-eq_default q.queues no_queue {n = l} (omega (arith, four))))

-- one queue is another one
module _ (qs : List (List Job)) (four : length qs ≡ max_lines) (k : ℕ) (below : k < max_lines) (js : List Job) where
  changed : {l : ℕ} → k ≡ l → get_or (set qs k js) l [] ≡ js
  changed e = subst (λ (l : ℕ). get_or (set qs k js) l [] ≡ js) e (get_or-set_same qs k js [] (omega arith))

  others : {l : ℕ} → (k ≡ l → ⊥) → get_or (set qs k js) l [] ≡ get_or qs l []
  others ne = get_or-set_other qs k _ js [] λ e. ne (sym e)

  still_few : length js ≤ max_jobs → ((l : ℕ) → length (get_or qs l []) ≤ max_jobs) → (l : ℕ) → length (get_or (set qs k js) l []) ≤ max_jobs
  still_few h few l = go (ℕ_discrete k l)
    where
      go : Dec (k ≡ l) → length (get_or (set qs k js) l []) ≤ max_jobs
      go (yes e) = omega (arith, ap length (changed e))
      go (no ne) = omega (arith, ap length (others ne), few l)

  still_four : length (set qs k js) ≡ max_lines
  still_four = length-set qs k js ∙ four

-- what an add that is done shows
record Open (s : LinesOf) (k : ℕ) : Type 0 where
  below : k < max_lines
  room : length (queue_at s k) < max_jobs

is_open : (s : LinesOf) (k : ℕ) (j : Job) (store : List ℕ) → screen (add_conditions s k j store) ≡ clear → Open s k
is_open s k j store e =
    let none = clear_none (add_conditions s k j store) e in
    record {
      below = ltb-true k max_lines (unless_none 27 _ (none_cons none).0);
      room = ltb-true (length (queue_at s k)) max_jobs (unless_none 29 _ (none_cons (none_cons (none_cons none).1).1).0);
    }

-- the line that has its turn is one of the four
served_below : {n : ℕ} {s : LinesOf} {t k : ℕ} {j : Job} {js : List Job} → FirstWaiting n s t k j js → k < max_lines
served_below v = omega (arith, v.line_is)

-- ---- each operation makes such a state of such a state
add_sound : (s : LinesOf) (k : ℕ) (j : Job) (store : List ℕ) → Sound s → (x : Screening) → screen (add_conditions s k j store) ≡ x
    → Sound (added_to x s k j).state
add_sound s k j store h clear e =
    let o = is_open s k j store e in
    record {
      four = still_four s.queues h.four k o.below (queue_at s k ++ (j ∷ []));
      turn_below = h.turn_below;
      few = still_few s.queues h.four k o.below (queue_at s k ++ (j ∷ [])) (omega (arith, length-append (queue_at s k) (j ∷ []), o.room)) h.few;
    }
add_sound s k j store h (found c p) e = h

serve_sound : (s : LinesOf) (store : List ℕ) (b : Buffers) → Sound s → (t : Turn) → turn_of s ≡ t → Sound (serve_turn t s store b).state
serve_sound s store b h nobody e = h
serve_sound s store b h (serves k j js) e =
    let v = served_first s h.turn_below k j js e in
    record {
      four = still_four s.queues h.four k (served_below v) js;
      turn_below = omega arith;
      few = still_few s.queues h.four k (served_below v) js (omega (arith, ap length v.oldest_first, h.few k)) h.few;
    }

pub step_sound : (o : Operation) (s : LinesOf) → Sound s → Sound (stepped o s)
unfolding add_of serve_of
step_sound (add k j store) s h = add_sound s k j store h (screen (add_conditions s k j store)) refl
step_sound (serve store b) s h = serve_sound s store b h (turn_of s) refl

pub session_sound : (os : List Operation) (s : LinesOf) → Sound s → Sound (session os s)
session_sound [] s h = h
session_sound (o ∷ os) s h = session_sound os (stepped o s) (step_sound o s h)

-- ---- no job is lost, and none is served twice: what waited and was added is what was served and waits, in order
is_only : {k l : ℕ} (j : Job) → k ≡ l → only l k j ≡ j ∷ []
is_only {k} {l} j e = λ i. cond (eq-eqb k l e i) (j ∷ []) []

is_other : {k l : ℕ} (j : Job) → (k ≡ l → ⊥) → only l k j ≡ []
is_other {k} {l} j ne = λ i. cond (ne_eqb k l ne i) (j ∷ []) []

module _ (l : ℕ) (s : LinesOf) (h : Sound s) where
  add_balance : (k : ℕ) (j : Job) (store : List ℕ) (x : Screening) → screen (add_conditions s k j store) ≡ x
      → queue_at s l ++ added_if (added_to x s k j).answer l k j ≡ queue_at (added_to x s k j).state l
  add_balance k j store (found c p) e = append-nil (queue_at s l)
  add_balance k j store clear e = go (ℕ_discrete k l)
    where
      below : k < max_lines
      below = (is_open s k j store e).below

      go : Dec (k ≡ l) → queue_at s l ++ only l k j ≡ queue_at (enqueued s k j) l
      go (yes y) =
          ap (λ (xs : List Job). queue_at s l ++ xs) (is_only j y) ∙ ap (λ (n : ℕ). queue_at s n ++ (j ∷ [])) (sym y)
          ∙ sym (changed s.queues h.four k below (queue_at s k ++ (j ∷ [])) y)
      go (no n) =
          ap (λ (xs : List Job). queue_at s l ++ xs) (is_other j n) ∙ append-nil (queue_at s l)
          ∙ sym (others s.queues h.four k below (queue_at s k ++ (j ∷ [])) n)

  serve_balance : (store : List ℕ) (b : Buffers) (t : Turn) → turn_of s ≡ t → queue_at s l ≡ in_turn l t ++ queue_at (serve_turn t s store b).state l
  serve_balance store b nobody e = refl
  serve_balance store b (serves k j js) e = go (ℕ_discrete k l)
    where
      v : FirstWaiting max_lines s s.turn k j js
      v = served_first s h.turn_below k j js e

      go : Dec (k ≡ l) → queue_at s l ≡ only l k j ++ get_or (set s.queues k js) l []
      go (yes y) =
          ap (queue_at s) (sym y) ∙ v.oldest_first ∙ sym (λ i. is_only j y i ++ changed s.queues h.four k (served_below v) js y i)
      go (no n) = sym (λ i. is_other j n i ++ others s.queues h.four k (served_below v) js n i)

  balance : (o : Operation) → queue_at s l ++ added_by l o s ≡ served_by l o s ++ queue_at (stepped o s) l
  unfolding add_of serve_of
  balance (add k j store) = add_balance k j store (screen (add_conditions s k j store)) refl
  balance (serve store b) = append-nil (queue_at s l) ∙ serve_balance store b (turn_of s) refl

pub in_order_holds : (l : ℕ) (os : List Operation) (s : LinesOf) → Sound s → queue_at s l ++ added_in l os s ≡ served_in l os s ++ queue_at (session os s) l
in_order_holds l [] s h = append-nil (queue_at s l)
in_order_holds l (o ∷ os) s h =
    sym (append_assoc (queue_at s l) (added_by l o s) (added_in l os (stepped o s)))
    ∙ ap (λ (xs : List Job). xs ++ added_in l os (stepped o s)) (balance l s h o)
    ∙ append_assoc (served_by l o s) (queue_at (stepped o s) l) (added_in l os (stepped o s))
    ∙ ap (λ (xs : List Job). served_by l o s ++ xs) (in_order_holds l os (stepped o s) (step_sound o s h))
    ∙ sym (append_assoc (served_by l o s) (served_in l os (stepped o s)) (queue_at (session os (stepped o s)) l))

-- "The queues start empty, and only these entries change them": of each line, what was added is what was served, in that order, and then what waits.
pub from_the_start : (l : ℕ) (os : List Operation) → added_in l os new_lines ≡ served_in l os new_lines ++ queue_at (session os new_lines) l
from_the_start l os = sym (ap (λ (xs : List Job). xs ++ added_in l os new_lines) (none_waits l)) ∙ in_order_holds l os new_lines start_sound

-- ---- "A job with j jobs before it in its own queue has its turn within 4 × (j + 1) runs"
-- how many lines have their turn before this one
abbrev distance : (turn line : ℕ) → ℕ
distance t l = (l + max_lines - t) % max_lines

-- While a line has a job, somebody is served: it, or another line after whose turn it is nearer.
record Nearer (s : LinesOf) (n t l : ℕ) : Type 0 where
  line : ℕ
  job : Job
  rest : List Job
  turn_is : turn_from n s t ≡ serves line job rest
  near : (line ≡ l) ⊎ (distance (next_line line) l < distance t l)

passes_by : (t l : ℕ) → t < max_lines → l < max_lines → (t ≡ l → ⊥) → distance (next_line t) l < distance t l
passes_by t l h g ne = omega arith

another : (k t l : ℕ) → l < max_lines → distance (next_line k) l < distance t l → k ≡ l → ⊥
another k t l h g e = omega arith

nearer : (n : ℕ) (s : LinesOf) (t l : ℕ) (j : Job) (js : List Job) → queue_at s l ≡ j ∷ js → t < max_lines → l < max_lines → distance t l < n → Nearer s n t l
unfolding turn_from
nearer zero s t l j js e h g a = absurd (omega arith)
nearer (suc n) s t l j js e h g a = go (queue_at s t) refl (ℕ_discrete t l) (nearer n s (next_line t) l j js e (omega arith) g)
  where
    further : (w : List Job) → queue_at s t ≡ w → turn_from (suc n) s t ≡ turn_at t w (λ _. turn_from n s (next_line t))
    further w f = λ i. turn_at t (f i) (λ _. turn_from n s (next_line t))

    go : (w : List Job) → queue_at s t ≡ w → Dec (t ≡ l) → (distance (next_line t) l < n → Nearer s n (next_line t) l) → Nearer s (suc n) t l
    go (x ∷ xs) f (yes y) rest = record { line = t; job = x; rest = xs; turn_is = further (x ∷ xs) f; near = inl y }
    go (x ∷ xs) f (no ne) rest = record { line = t; job = x; rest = xs; turn_is = further (x ∷ xs) f; near = inr (passes_by t l h g ne) }
    go [] f (yes y) rest =
        let z : ◌≡◌ {A = List Job} [] (j ∷ js) = sym f ∙ ap (queue_at s) y ∙ e in
        absurd (let q : ◌≡◌ {A = ℕ} 0 1 = cc in omega arith)
    go [] f (no ne) rest =
        let less = passes_by t l h g ne in
        let r = rest (omega arith) in
        record {
          line = r.line;
          job = r.job;
          rest = r.rest;
          turn_is = further [] f ∙ r.turn_is;
          near = elim r.near [ inl y ↦ inl y | inr y ↦ inr (omega (arith, y, less)) ];
        }

first_of : (xs : List Job) (n : ℕ) → n < length xs → (j : Job) × (js : List Job) × (xs ≡ j ∷ js)
first_of [] n h = absurd (omega arith)
first_of (x ∷ xs) n h = (x, xs, refl)

-- an add leaves the turn
pub add_turn : (k : ℕ) (j : Job) (store : List ℕ) (s : LinesOf) → (add_of s k j store).state.turn ≡ s.turn
unfolding add_of
add_turn k j store s = go (screen (add_conditions s k j store))
  where
    go : (x : Screening) → (added_to x s k j).state.turn ≡ s.turn
    go clear = refl
    go (found c p) = refl

module _ (l : ℕ) (below : l < max_lines) where
  abbrev TurnReached : List Operation → LinesOf → ℕ → Type 0
  TurnReached os s n = n < length (queue_at s l) → distance s.turn l + 4 * n < serves_in os → n < length (served_in l os s)

  -- its own turn: one job less is before it
  own_turn : (os : List Operation) (s s' : LinesOf) (n : ℕ) (j : Job) → queue_at s l ≡ j ∷ queue_at s' l → ((m : ℕ) → TurnReached os s' m)
      → n < length (queue_at s l)
      → distance s.turn l + 4 * n < suc (serves_in os) → n < suc (length (served_in l os s'))
  own_turn os s s' zero j e next h g = omega arith
  own_turn os s s' (suc n) j e next h g = omega (arith, next n (omega (arith, ap length e)) (omega arith))

  -- a serve, of this line or of another one
  serve_reached : (store : List ℕ) (b : Buffers) (os : List Operation) (s : LinesOf) → Sound s → ((s' : LinesOf) → Sound s' → (m : ℕ) → TurnReached os s' m)
      → (n : ℕ)
      → TurnReached (serve store b ∷ os) s n
  unfolding serve_of
  serve_reached store b os s h next n w g = go r.near
    where
      waiting : (j : Job) × (js : List Job) × (queue_at s l ≡ j ∷ js)
      waiting = first_of (queue_at s l) n w

      r : Nearer s max_lines s.turn l
      r = nearer max_lines s s.turn l waiting.0 waiting.1 waiting.2 h.turn_below below (omega arith)

      s' : LinesOf
      s' = (serve_of s store b).state

      turn_is : s'.turn ≡ next_line r.line
      turn_is = ap (λ (t : Turn). (serve_turn t s store b).state.turn) r.turn_is

      split : {front : List Job} → in_turn l (turn_of s) ≡ front → queue_at s l ≡ front ++ queue_at s' l
      split e = serve_balance l s h store b (turn_of s) refl ∙ ap (λ (xs : List Job). xs ++ queue_at s' l) e

      counted : {front : List Job} → in_turn l (turn_of s) ≡ front → length (served_in l (serve store b ∷ os) s) ≡ length (front ++ served_in l os s')
      counted e = ap (λ (xs : List Job). length (xs ++ served_in l os s')) e

      go : (r.line ≡ l) ⊎ (distance (next_line r.line) l < distance s.turn l) → n < length (served_in l (serve store b ∷ os) s)
      go (inl y) =
          let own = ap (in_turn l) r.turn_is ∙ is_only r.job y in
          omega (arith, counted own, own_turn os s s' n r.job (split own) (next s' (step_sound (serve store b) s h)) w g)
      go (inr y) =
          let other = ap (in_turn l) r.turn_is ∙ is_other r.job (another r.line s.turn l below y) in
          omega (arith, counted other, next s' (step_sound (serve store b) s h) n (omega (arith, ap length (split other))) (omega (arith, turn_is)))

  reached : (os : List Operation) (s : LinesOf) → Sound s → (n : ℕ) → TurnReached os s n
  reached [] s h n w g = absurd (omega arith)
  reached (add k j store ∷ os) s h n w g =
      reached os (stepped (add k j store) s) (step_sound (add k j store) s h) n
      (omega (arith, ap length (balance l s h (add k j store)), length-append (queue_at s l) (added_by l (add k j store) s)))
      (omega (arith, add_turn k j store s))
  reached (serve store b ∷ os) s h n w g = serve_reached store b os s h (reached os) n w g

  -- It is among the jobs of its line that had their turn, in its place: after the j before it.
  pub record HasTurn (j : ℕ) (os : List Operation) (s : LinesOf) : Type 0 where
    pub soon : j < length (served_in l os s)
    pub itself : (none : Job) → get_or (served_in l os s) j none ≡ get_or (queue_at s l) j none

  pub turn_comes : (j : ℕ) (os : List Operation) (s : LinesOf) → Sound s → j < length (queue_at s l) → 4 * (j + 1) ≤ serves_in os → HasTurn j os s
  turn_comes j os s h w g =
      let soon : j < length (served_in l os s) = reached os s h j w (omega arith) in
      record {
        soon = soon;
        itself = λ none.
            sym (get_or-append (served_in l os s) (queue_at (session os s) l) none j soon)
            ∙ sym (ap (λ (xs : List Job). get_or xs j none) (in_order_holds l os s h)) ∙ get_or-append (queue_at s l) (added_in l os s) none j w;
      }

-- ---- one serve
-- "Lines are served in turn": this one is the first with a job from the turn on, and then it is the next line's turn. It is line 0's at first (`start`), and
-- no add moves it (`add_turn`).
pub record ServedInTurn (s : LinesOf) (r : Served) : Type 0 where
  pub job : Job
  pub rest : List Job
  pub first : FirstWaiting max_lines s s.turn r.line job rest
  pub next_turn : r.state.turn ≡ next_line r.line
  pub rest_left : queue_at r.state r.line ≡ rest
  pub others_stay : (l : ℕ) → (r.line ≡ l → ⊥) → queue_at r.state l ≡ queue_at s l

-- "with no job nothing changes and the answer says so"
abbrev pub AllEmpty : LinesOf → Type 0
AllEmpty s = (l : ℕ) → l < max_lines → queue_at s l ≡ []

nobody_there : (n : ℕ) (s : LinesOf) (t : ℕ) → t < max_lines → AllEmpty s → turn_from n s t ≡ nobody
unfolding turn_from
nobody_there zero s t h e = refl
nobody_there (suc n) s t h e =
    (λ i. turn_at t (e t h i) (λ _. turn_from n s (next_line t))) ∙ nobody_there n s (next_line t) (omega arith) e

module _ (s : LinesOf) (sound : Sound s) (store : List ℕ) (b : Buffers) where
  pub served_in_turn : (a : Answer) → (serve_of s store b).answer ≡ answered a → ServedInTurn s (serve_of s store b)
  unfolding serve_of
  served_in_turn a = go (turn_of s) refl
    where
      go : (t : Turn) → turn_of s ≡ t → (serve_turn t s store b).answer ≡ answered a → ServedInTurn s (serve_turn t s store b)
      go nobody f e = absurd (let y : ◌≡◌ {A = ℕ} 0 1 = cc in omega arith)
      go (serves l j js) f e =
          let v = served_first s sound.turn_below l j js f in
          record {
            job = j;
            rest = js;
            first = v;
            next_turn = refl;
            rest_left = changed s.queues sound.four l (served_below v) js refl;
            others_stay = λ m ne. others s.queues sound.four l (served_below v) js ne;
          }

  pub nothing_changes : AllEmpty s → serve_of s store b ≡ record { answer = idle; line = 0; state = s; buffers = b }
  unfolding serve_of
  nothing_changes e = ap (λ (t : Turn). serve_turn t s store b) (nobody_there max_lines s s.turn sound.turn_below e)

  pub idle_exactly : ((serve_of s store b).answer ≡ idle) ↔ AllEmpty s
  unfolding serve_of
  idle_exactly = (λ e. nobody_waiting s sound.turn_below (go (turn_of s) e), λ e. ap (λ (r : Served). r.answer) (nothing_changes e))
    where
      go : (t : Turn) → (serve_turn t s store b).answer ≡ idle → t ≡ nobody
      go nobody e = refl
      go (serves l j js) e = absurd (let y : ◌≡◌ {A = ℕ} 0 1 = cc in omega arith)

-- A refused job leaves the place and every buffer.
pub record Left (s : LinesOf) (b : Buffers) (r : Served) : Type 0 where
  pub place_stays : r.state.place ≡ s.place
  pub buffers_stay : r.buffers ≡ b

whole_again : (at : ℕ) (b : Buffers) (c p : ℕ) (x : After) → x ≡ record { answer = refused c p; buffers = rest_from at b }
    → behind at b x ≡ record { answer = refused c p; buffers = b }
whole_again at b c p x e = ap (behind at b) e ∙ (λ i. record {
  answer = refused c p;
  buffers = record { cells = b.cells; posts = take-append-drop at b.posts i; frames = b.frames };
})

take_front : (n : ℕ) (xs ys : List ℕ) → length ys ≡ length (drop n xs) → take n (take n xs ++ ys) ≡ take n xs
take_front zero xs ys h = refl
take_front (suc n) [] [] h = refl
take_front (suc n) [] (y ∷ ys) h = absurd (omega arith)
take_front (suc n) (x ∷ xs) ys h = ap (λ (l : List ℕ). x ∷ l) (take_front n xs ys h)

drop_front : (n : ℕ) (xs ys : List ℕ) → length ys ≡ length (drop n xs) → drop n (take n xs ++ ys) ≡ ys
drop_front zero xs ys h = refl
drop_front (suc n) [] [] h = refl
drop_front (suc n) [] (y ∷ ys) h = absurd (omega arith)
drop_front (suc n) (x ∷ xs) ys h = drop_front n xs ys h

module _ (s : LinesOf) (store : List ℕ) (b : Buffers) where
  run_left : (j : Job) (c p : ℕ) → (job_run j s.place store b).answer ≡ refused c p
      → job_run j s.place store b ≡ record { answer = refused c p; buffers = b }
  run_left j c p e = whole_again s.place b c p _ λ i. record {
    answer = e i;
    buffers = largest_untouched (job_sheet j store) (empty_stack_request j.calls) (rest_from s.place b) (is_largest max_cells b.cells) c p e i;
  }

  job_left : (inside : Bool) (j : Job) (c p : ℕ) → (job_after inside j s.place store b).answer ≡ refused c p
      → (job_after inside j s.place store b).buffers ≡ b
  job_left true j c p e = ap (λ (a : After). a.buffers) (run_left j c p e)
  job_left false j c p e = refl

  pub refused_leaves : (c p : ℕ) → (serve_of s store b).answer ≡ answered (refused c p) → Left s b (serve_of s store b)
  unfolding serve_of
  refused_leaves c p = go (turn_of s)
    where
      go : (t : Turn) → (serve_turn t s store b).answer ≡ answered (refused c p) → Left s b (serve_turn t s store b)
      go nobody e = absurd (let y : ◌≡◌ {A = ℕ} 0 1 = cc in omega arith)
      go (serves l j js) e =
          let f : (job_after (inside j store) j s.place store b).answer ≡ refused c p = cc in
          record { place_stays = omega (arith, ap post_count f); buffers_stay = job_left (inside j store) j c p f }

  -- The counts that are told are those of a run.
  job_few : (inside : Bool) (j : Job) (o : Outcome) (k : RunCounts) → (job_after inside j s.place store b).answer ≡ ran o k → Few k
  job_few true j o k e = largest_few (job_sheet j store) (empty_stack_request j.calls) (rest_from s.place b) (is_largest max_cells b.cells) o k e
  job_few false j o k e = absurd (let y : ◌≡◌ {A = ℕ} 0 1 = cc in omega arith)

  pub served_few : (o : Outcome) (k : RunCounts) → (serve_of s store b).answer ≡ answered (ran o k) → Few k
  unfolding serve_of
  served_few o k = go (turn_of s)
    where
      go : (t : Turn) → (serve_turn t s store b).answer ≡ answered (ran o k) → Few k
      go nobody e = absurd (let y : ◌≡◌ {A = ℕ} 0 1 = cc in omega arith)
      go (serves l j js) e = job_few (inside j store) j o k (let f : (job_after (inside j store) j s.place store b).answer ≡ ran o k = cc in f)

  -- Every buffer keeps its length, and the entries before the place stay.
  pub record BuffersKept (r : Served) : Type 0 where
    pub lengths : sizes r.buffers ≡ sizes b
    pub before : take s.place r.buffers.posts ≡ take s.place b.posts

  run_kept : (l : ℕ) (js : List Job) (a : After) → sizes a.buffers ≡ sizes (rest_from s.place b) → BuffersKept (served_as s l js (behind s.place b a))
  run_kept l js a h =
      let posts_are : length a.buffers.posts ≡ length (drop s.place b.posts) = ap (λ (z : Sizes). z.posts) h in
      let all_are : length (take s.place b.posts ++ a.buffers.posts) ≡ length b.posts =
      omega (
        arith,
        length-append (take s.place b.posts) a.buffers.posts,
        length-take s.place b.posts,
        length-drop s.place b.posts,
      ) in
      record {
        lengths = λ i. record { cells = (h i).cells; posts = all_are i; frames = (h i).frames };
        before = take_front s.place b.posts a.buffers.posts posts_are;
      }

  pub serve_keeps : BuffersKept (serve_of s store b)
  unfolding serve_of
  serve_keeps = go (turn_of s)
    where
      by_inside : (inside : Bool) (l : ℕ) (j : Job) (js : List Job) → BuffersKept (served_as s l js (job_after inside j s.place store b))
      by_inside true l j js =
          run_kept l js _ (largest_lengths (job_sheet j store) (empty_stack_request j.calls) (rest_from s.place b) (is_largest max_cells b.cells))
      by_inside false l j js = record { lengths = refl; before = refl }

      go : (t : Turn) → BuffersKept (serve_turn t s store b)
      go nobody = record { lengths = refl; before = refl }
      go (serves l j js) = by_inside (inside j store) l j js

-- ---- the job whose turn it is
-- once the sheet and the start stack are past, 15 is told exactly when the list is too long
fifteen_screened : (x y : Bool) → (screen (unless 14 true ∷ unless 15 (true && x && true) ∷ unless 16 y ∷ []) ≡ found 15 0) ↔ (x ≡ false)
unfolding screen refuse_at
fifteen_screened true true = (λ e. absurd (found≢clear (sym e)), λ e. absurd (true≢false e))
fifteen_screened true false = (λ e. absurd (let z : ◌≡◌ {A = ℕ} 16 15 = cc in omega arith), λ e. absurd (true≢false e))
fifteen_screened false y = (λ e. refl, λ e. refl)

-- what a run that starts leaves in the list lent to it: its posts, as many as it tells, and then what stood there
record PostsListed (made : List ℕ) (k : RunCounts) (before after : List ℕ) : Type 0 where
  as_many : length made ≡ k.posts
  list_is : after ≡ made ++ drop k.posts before

module _ (sheet : List ℕ) (q : Request) (b : Buffers) where
  run_listed : (o : Outcome) (k : RunCounts) → (run sheet q b).answer ≡ ran o k
      → PostsListed (course_posts (course sheet q (sizes b))) k b.posts (run sheet q b).buffers.posts
  unfolding run
  run_listed o k = go (course sheet q (sizes b))
    where
      by_budget : (u : Budget) → (counts q (sizes b) u).posts ≡ k.posts
          → PostsListed (in_order u) k b.posts (in_order u ++ drop (length (in_order u)) b.posts)
      by_budget (budget c d m log) e =
          let n : length (reverse log.posts) ≡ k.posts = length-reverse log.posts ∙ e in
          record { as_many = n; list_is = λ i. reverse log.posts ++ drop (n i) b.posts }

      go : (x : Course) → answer_of (root sheet) q (sizes b) x ≡ ran o k → PostsListed (course_posts x) k b.posts (buffers_after q.runner b x).posts
      go (rejected c p) e = absurd (let y : ◌≡◌ {A = ℕ} 0 1 = cc in omega arith)
      go (started x) e = by_budget (left x) (ap (λ (a : Answer). (counts_in k a).posts) e)

  largest_listed : (right : Bool) (o : Outcome) (k : RunCounts) → (largest_run right sheet q b).answer ≡ ran o k
      → PostsListed (course_posts (course sheet q (sizes b))) k b.posts (largest_run right sheet q b).buffers.posts
  unfolding largest_run
  largest_listed right o k = go (screen (largest_conditions right sheet q))
    where
      go : (x : Screening) → (unless_found (refused_with b) x (λ _. run sheet q b)).answer ≡ ran o k
          → PostsListed (course_posts (course sheet q (sizes b))) k b.posts (unless_found (refused_with b) x (λ _. run sheet q b)).buffers.posts
      go clear e = run_listed o k e
      go (found c p) e = absurd (let y : ◌≡◌ {A = ℕ} 0 1 = cc in omega arith)

-- the posts that a job's run makes, in order
abbrev pub job_posts : Job → (place : ℕ) (store : List ℕ) → Buffers → List ℕ
job_posts j at store b = course_posts (course (job_sheet j store) (empty_stack_request j.calls) (sizes (rest_from at b)))

-- "the next job writes from the place where the last one stopped": the place moves by the posts told, they stand in the list from the old place on, and what
-- is behind them is as it was. What is before them: `serve_keeps`.
pub record Followed (s : LinesOf) (store : List ℕ) (b : Buffers) (j : Job) (k : RunCounts) (r : Served) : Type 0 where
  pub moved : r.state.place ≡ s.place + k.posts
  pub as_many : length (job_posts j s.place store b) ≡ k.posts
  pub stand : take k.posts (drop s.place r.buffers.posts) ≡ job_posts j s.place store b
  pub behind_stay : drop r.state.place r.buffers.posts ≡ drop r.state.place b.posts

module _ (s : LinesOf) (store : List ℕ) (b : Buffers) (l : ℕ) (j : Job) (rest : List Job) (turn : turn_of s ≡ serves l j rest) where
  abbrev P : List ℕ
  P = job_sheet j store

  abbrev Q : Request
  Q = empty_stack_request j.calls

  abbrev R : Buffers
  R = rest_from s.place b

  by_inside : {x : Bool} → inside j store ≡ x → serve_of s store b ≡ served_as s l rest (job_after x j s.place store b)
  unfolding serve_of
  by_inside e = (λ i. serve_turn (turn i) s store b) ∙ (λ i. served_as s l rest (job_after (e i) j s.place store b))

  -- "A job refused when served, first by 28 if the store is shorter then, uses up its turn and its number is told"
  pub outside_answered : inside j store ≡ false
      → serve_of s store b ≡ record { answer = answered (refused 28 0); line = l; state = after_turn s l rest s.place; buffers = b }
  outside_answered e =
      by_inside e ∙ (λ i. record { answer = answered (refused 28 0); line = l; state = after_turn s l rest (add-zero s.place i); buffers = b })

  -- "15 is tested on what is left": of a readable sheet in the store, with the largest cell store lent, whatever its allowance
  module _ (within : inside j store ≡ true) (readable : Readable (job_sheet j store)) (largest : length b.cells ≡ max_cells) where
    is_run : (serve_of s store b).answer ≡ answered (run P Q R).answer
    is_run =
        ap (λ (r : Served). r.answer) (by_inside within) ∙ (λ i. answered (largest_run (eq-eqb (length b.cells) max_cells largest i) P Q R).answer)
        ∙ ap (λ (a : After). answered a.answer) (same_run P Q R)

    screened : screen (run_conditions P Q (sizes R))
        ≡ screen (unless 14 true ∷ unless 15 (true && leb (length R.posts) max_posts && true) ∷ unless 16 (limits_ok Q) ∷ [])
    unfolding decoding
    screened =
        screen_clear (decoding_conditions P) (unless 14 (start_ok P Q) ∷ unless 15 (buffers_ok Q.runner (sizes R)) ∷ unless 16 (limits_ok Q) ∷ []) readable
        ∙ (λ i. screen (unless 14 true ∷ unless 15 (le-leb (length b.cells) max_cells (omega arith) i && leb (length R.posts) max_posts && true)
        ∷ unless 16 (limits_ok Q) ∷ []))

    pub fifteen_on_the_rest : ((serve_of s store b).answer ≡ answered (refused 15 0)) ↔ (max_posts < length (rest_from s.place b).posts)
    fifteen_on_the_rest = (
      λ e.
          let f : answered (run P Q R).answer ≡ answered (refused 15 0) = sym is_run ∙ e in
          leb-false (length R.posts) max_posts (exactly.0 (sym screened ∙ first_found ((refused_exactly P Q R 15 0).0 (cc)))),
      λ h.
          let f = screened ∙ exactly.1 (lt-leb (length R.posts) max_posts h) in
          is_run ∙ ap answered ((refused_exactly P Q R 15 0).1 (found_first (run_conditions P Q (sizes R)) 15 0 f)),
    )
      where
        exactly : (screen (unless 14 true ∷ unless 15 (true && leb (length R.posts) max_posts && true) ∷ unless 16 (limits_ok Q) ∷ []) ≡ found 15 0)
            ↔ (leb (length R.posts) max_posts ≡ false)
        exactly = fifteen_screened (leb (length R.posts) max_posts) (limits_ok Q)

  abbrev A : After
  A = largest_run (is_largest max_cells b.cells) P Q R

  by_run : (o : Outcome) (k : RunCounts) → A.answer ≡ ran o k → Followed s store b j k (served_as s l rest (behind s.place b A))
  by_run o k e =
      let made = job_posts j s.place store b in
      let L = largest_listed P Q R (is_largest max_cells b.cells) o k e in
      let as_long : length A.buffers.posts ≡ length R.posts = ap (λ (z : Sizes). z.posts) (largest_lengths P Q R (is_largest max_cells b.cells)) in
      let at : drop s.place (take s.place b.posts ++ A.buffers.posts) ≡ made ++ drop k.posts R.posts =
      drop_front s.place b.posts A.buffers.posts as_long ∙ L.list_is in
      let on : s.place + post_count A.answer ≡ s.place + k.posts = ap (λ (x : Answer). s.place + post_count x) e in
      record {
        moved = on;
        as_many = L.as_many;
        stand = ap (take k.posts) at ∙ take_at made _ k.posts L.as_many;
        behind_stay =
            ap (λ (n : ℕ). drop n (take s.place b.posts ++ A.buffers.posts)) on ∙ sym (drop-drop k.posts s.place _)
            ∙ ap (drop k.posts) at ∙ drop_at made _ k.posts L.as_many ∙ drop-drop k.posts s.place b.posts
            ∙ sym (ap (λ (n : ℕ). drop n b.posts) on);
      }

  pub posts_follow : (o : Outcome) (k : RunCounts) → (serve_of s store b).answer ≡ answered (ran o k) → Followed s store b j k (serve_of s store b)
  posts_follow o k e = go (inside j store) refl
    where
      answer_is : {x : Bool} → inside j store ≡ x → answered (job_after x j s.place store b).answer ≡ answered (ran o k)
      answer_is f = sym (ap (λ (r : Served). r.answer) (by_inside f)) ∙ e

      go : (x : Bool) → inside j store ≡ x → Followed s store b j k (serve_of s store b)
      go true f = let g = answer_is f in subst (Followed s store b j k) (sym (by_inside f)) (by_run o k (cc))
      go false f = let g = answer_is f in absurd (let y : ◌≡◌ {A = ℕ} 0 1 = cc in omega arith)
