-- From the promises of the functions that an entry for C calls to what it leaves: the list is too short, or holds the reply. For the proofs of the
-- crates above; nothing here has to be believed.
use Rattle.std.specs.Prelude.{Bool, true, false, not, cond, ◌||◌, List, [], ◌∷◌, ◌++◌, ◌≡◌, refl, ℕ, zero, suc, ◌+◌, ◌<◌, ◌≤◌, length, get_or, set, take, drop, ltb, Result, Ok, Err}
use Rattle.std.proofs.Common.{append-nil, sym, ap, ◌∙◌, arith, length-append, length-take, length-drop, drop_of_length-le, drop-cons, lt-ltb, le-ltb, eq-eqb, ne_eqb}
use Rattle.std.proofs.lemmas.List.{set_at}
use Rattle.program.specs.Decoding.{decoding}
use Rattle.program.specs.Answers.{decoded_model, Counted}
use Rattle.program.proofs.Laws.Lists.{copy_more}
use Rattle.program.specs.declared.answer.Refusal.{Refusal}
use Rattle.program.specs.declared.records.Counts.{Counts}
use Rattle.semantics.specs.Runs.{Request, Buffers, ground_bool, ground_num, ended, stopped, Answer, refused, ran, After, run}
use Rattle.semantics.proofs.Theorems.{counts_few}
use Rattle.interp.specs.Answers.{run_model, outcome_model, counts_model, Run}
use Rattle.numbers.specs.Codes.{CodeIs}
use Rattle.numbers.specs.declared.Code.{Code}
use Rattle.replies.specs.Replies as replies
use Rattle.replies.specs.Replies.{refusal, screened, decode_reply, unfit, run_reply, written, written_nine, not_done, replied, Called, called, returned_reply, returned_run}
use Rattle.replies.specs.Internal.{reply_model, of_decoded, RunReplyFits, Put}
use Rattle.replies.specs.declared.Reply.{Reply}

-- a promise about the case that a match found
pub by : {A : Type 0} (f : A → replies.Reply) {x y : A} {r : replies.Reply} → x ≡ y → r ≡ f y → r ≡ f x
by f e h = h ∙ sym (ap f e)

-- a refusal, by the code that tells it
pub refused_as : {r : replies.Reply} {x : Code} (cause place : ℕ) → r ≡ refusal x.cause x.place → CodeIs cause place x → r ≡ refusal cause place
refused_as cause place h e = h ∙ (λ i. refusal (e.cause_is i) (e.place_is i))

-- ---- writing the eight numbers
pub take_whole : (xs : List ℕ) (n : ℕ) → length xs ≡ n → take n xs ≡ xs
take_whole [] zero h = refl
take_whole [] (suc n) h = refl
take_whole (x ∷ xs) zero h = absurd (omega (arith, h))
take_whole (x ∷ xs) (suc n) h = ap (λ (l : List ℕ). x ∷ l) (take_whole xs n (omega arith))

-- the first n numbers of a list overwritten one by one, the first i already
pub record Copied (n : ℕ) (numbers before : List ℕ) (i : ℕ) (now : List ℕ) : Type 0 where
  pub below : i ≤ n
  pub copied : now ≡ take i numbers ++ drop i before

module _ (n : ℕ) (numbers before : List ℕ) (i : ℕ) {now : List ℕ} (size : length numbers ≡ n) (C : Copied n numbers before i now) where
  pub written_length : n ≤ length before → length now ≡ length before
  written_length h = ap (λ (l : List ℕ). length l) C.copied ∙ length-append (take i numbers) (drop i before)
      ∙ omega (arith, length-take i numbers, length-drop i before, size, C.below)

  pub written_more : n ≤ length before → i < n → Copied n numbers before (i + 1) (set now i (get_or numbers i 0))
  written_more h k = record { below = omega arith; copied = copy_more numbers before now i (omega (arith, size)) (omega arith) C.copied }

  pub written_all : n ≤ i → now ≡ numbers ++ drop n before
  written_all k =
      let done : i ≡ n = omega (arith, C.below) in
      C.copied ∙ ap (λ (k : ℕ). take k numbers ++ drop k before) done ∙ ap (λ (l : List ℕ). l ++ drop n before) (take_whole numbers n size)

  -- where the list has no more than these
  pub written_over : length before ≡ n → n ≤ i → now ≡ numbers
  written_over l k = written_all k ∙ ap (λ (x : List ℕ). numbers ++ x) (drop_of_length-le before {i = n} (omega arith)) ∙ append-nil numbers

-- ---- a list has another size, or the list for the answer is too short
module _ (size least : ℕ) (list answer : List ℕ) where
  pub other_size : (length list ≡ size → ⊥) → unfit size least list answer ≡ true
  other_size ne = ap (λ (x : Bool). not x || ltb (length answer) least) (ne_eqb (length list) size ne)

  pub too_short : length list ≡ size → length answer < least → unfit size least list answer ≡ true
  too_short e h = λ i. not (eq-eqb (length list) size e i) || lt-ltb (length answer) least h i

  pub fit : length list ≡ size → least ≤ length answer → unfit size least list answer ≡ false
  fit e h = λ i. not (eq-eqb (length list) size e i) || le-ltb (length answer) least h i

-- ---- the list is too short
module _ (answer : List ℕ) (h : length answer < 8) where
  pub short_answer : (r : replies.Reply) → returned_reply 3 answer ≡ replied answer r
  short_answer r = λ i. cond (sym (lt-ltb (length answer) 8 h) i) (not_done answer) (written r answer)

  pub short_run : (b : Buffers) (a : After) → returned_run 3 answer b ≡ called answer b a
  short_run b a = λ i. cond (sym (lt-ltb (length answer) 8 h) i) (returned_run 3 answer b)
      (record { reply = written (run_reply a.answer) answer; buffers = a.buffers })

-- ---- it holds the reply
module _ (answer : List ℕ) (h : 8 ≤ length answer) {x : Reply} {R : replies.Reply} (e : reply_model x ≡ R) {status : ℕ} {after : List ℕ}
    (put : Put x answer status after) where
  pub in_place : returned_reply status after ≡ written R answer
  in_place = (λ i. returned_reply (put.status_is i) (put.list_is i)) ∙ (λ i. written (e i) answer)

  pub given : returned_reply status after ≡ replied answer R
  given = in_place ∙ (λ i. cond (sym (le-ltb (length answer) 8 h) i) (not_done answer) (written R answer))

module _ (answer : List ℕ) (h : 8 ≤ length answer) (b b' : Buffers) (a : After) (r : Run) {x : Reply} (e : reply_model x ≡ run_reply (run_model r)) {status : ℕ}
    {after : List ℕ} (put : Put x answer status after) where
  abbrev whole : After → Called
  whole y = record { reply = written (run_reply y.answer) answer; buffers = y.buffers }

  pub run_given : record { answer = run_model r; buffers = b' } ≡ a → returned_run status after b' ≡ called answer b a
  run_given p =
      (λ i. record { reply = in_place answer h e put i; buffers = b' }) ∙ ap whole p
      ∙ (λ i. cond (sym (le-ltb (length answer) 8 h) i) (returned_run 3 answer b) (whole a))

-- ---- a ninth number follows the eight
pub run_eight : (a : Answer) → length (run_reply a).numbers ≡ 8
run_eight (refused c p) = refl
run_eight (ran (ended (ground_bool b)) k) = refl
run_eight (ran (ended (ground_num n)) k) = refl
run_eight (ran (stopped c t) k) = refl

module _ (answer : List ℕ) (room : 9 ≤ length answer) (R : replies.Reply) (eight : length R.numbers ≡ 8) (n : ℕ) where
  nine : set (R.numbers ++ drop 8 answer) 8 n ≡ R.numbers ++ (n ∷ drop 9 answer)
  nine =
      ap (λ (r : List ℕ). set (R.numbers ++ r) 8 n) (drop-cons answer 8 0 (omega arith)) ∙ set_at R.numbers (get_or answer 8 0) (drop 9 answer) n 8 eight

  pub in_nine : {x : Reply} → reply_model x ≡ R → {status : ℕ} {after : List ℕ} → Put x answer status after
      → returned_reply status (set after 8 n) ≡ written_nine R n answer
  in_nine e {status = status} {after = after} put =
      let first : returned_reply status after ≡ written R answer = in_place answer (omega arith) e put in
      (λ i. returned_reply (first i).status (set (first i).numbers 8 n)) ∙ ap (returned_reply R.status) nine

-- ---- the reader's answer
pub decoded_as : (s : List ℕ) (d : Result Counts Refusal) → decoded_model d ≡ decoding s → Counted s d → of_decoded d ≡ decode_reply s
decoded_as s (Err f) e k = λ i. screened s (e i)
decoded_as s (Ok c) e k =
    (λ i. record { status = 0; numbers = 0 ∷ 0 ∷ 0 ∷ k.terms_are i ∷ k.principals_are i ∷ k.types_are i ∷ 0 ∷ 0 ∷ [] }) ∙ (λ i. screened s (e i))

-- ---- a run's counts are small
pub small : (s : List ℕ) (q : Request) (b : Buffers) (r : Run) → run_model r ≡ (run s q b).answer → RunReplyFits r
small s q b (Err f) e = tt
small s q b (Ok r) e = counts_few s q b (outcome_model r.outcome) (counts_model r.made) (sym e)
