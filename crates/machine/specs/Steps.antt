-- What the steps that evaluate no other term give, and what they leave of a run's counters.
use Rattle.std.specs.Prelude.{◌≡◌, ℕ, ◌+◌, ◌-◌, ◌*◌, ◌/◌, ◌%◌, min, Bool, true, false, cond, List, length, ◌==◌, nat_le, nat_lt, slice_set}
use Rattle.program.specs.Bytes.{overwrite}
use Rattle.program.specs.Limits.{no_guard, max_number}
use Rattle.traces.specs.Traces.{Event, event_bytes}
use Rattle.stores.specs.Words.{boolean_word, number_word, interval_word, undecided_word, stop_word, sort_of, payload_of, env_of}
use Rattle.access.specs.declared.Mode.{Mode}
use Rattle.access.specs.Access.{granted_of, allowed_of}
use Rattle.termtable.specs.Table.{word_small, word_guard}
use Rattle.machine.specs.declared.counters.Counters.{Counters}

-- sum, difference, less
unfoldable pub result_word : (kind a b : ℕ) → ℕ
result_word k a b = cond (k == 11) (number_word (min (a + b) max_number)) (cond (k == 12) (number_word (a - b)) (boolean_word (nat_lt a b)))

-- the same of two intervals, each by its lowest and highest number
unfoldable pub less_word : (a a' b b' : ℕ) → ℕ
less_word a a' b b' = cond (nat_lt a' b) (boolean_word true) (cond (nat_le b' a) (boolean_word false) undecided_word)

unfoldable pub interval_result : (kind a a' b b' : ℕ) → ℕ
interval_result k a a' b b' =
    cond (k == 11) (interval_word (min (a + b) max_number) (min (a' + b') max_number)) (cond (k == 12) (interval_word (a - b') (a' - b)) (less_word a a' b b'))

-- of two words of numbers
unfoldable pub numbers_result : (intervals : Bool) (kind a b : ℕ) → ℕ
numbers_result intervals k a b =
    cond intervals (interval_result k (payload_of a) (env_of a) (payload_of b) (env_of b)) (result_word k (payload_of a) (payload_of b))

unfoldable pub operate_of : (intervals : Bool) (kind t a b : ℕ) → ℕ
operate_of intervals k t a b = cond (sort_of a == 1) (cond (sort_of b == 1) (numbers_result intervals k a b) (stop_word 18 t)) (stop_word 18 t)

-- 02, W10: "whether the exact result was outside 0 to 65,535"; less has no such result
unfoldable pub saturates_of : (kind a b : ℕ) → Bool
saturates_of k a b = cond (k == 11) (nat_lt max_number (a + b)) (cond (k == 12) (nat_lt a b) false)

-- the same of two words: what is stuck has no result, and of intervals "held results aren't counted"
unfoldable pub operate_saturates : (intervals : Bool) (kind a b : ℕ) → Bool
operate_saturates intervals k a b =
    cond (sort_of a == 1) (cond (sort_of b == 1) (cond intervals false (saturates_of k (payload_of a) (payload_of b))) false) false

-- one more is counted, in a counter of 64 bits, which no run fills
abbrev pub wrapped : (count : ℕ) → ℕ
wrapped m = m % 18446744073709551616

abbrev pub counters_saturated : Counters → Counters
counters_saturated n = record n { saturated = wrapped (n.saturated + 1) }

unfoldable pub operate_counters : (kind a b : ℕ) → Counters → Counters
operate_counters k a b n = record n { saturated = cond (operate_saturates n.mode.intervals k a b) (wrapped (n.saturated + 1)) n.saturated }

pub record Operated (kind t a b : ℕ) (n : Counters) (r : ℕ) (n' : Counters) : Type 0 where
  pub word_is : r ≡ operate_of n.mode.intervals kind t a b
  pub counters_are : n' ≡ operate_counters kind a b n

-- ---- the record of a run, 02, W12: "each check, test and guard they decide as term, privilege and yes or no"

abbrev pub decided_event : (t p : ℕ) (answer : Bool) → Event
decided_event t p b = record { term = t; privilege = p; decided = b }

-- the bytes at a place and behind it are these
-- whether an entry is made: something is decided, and "a full record takes no more"
abbrev pub makes_entry : (decides : Bool) → Counters → (noted : List ℕ) → Bool
makes_entry d n l = cond d (nat_lt n.entries (length l / 4)) false

unfoldable pub note_counters : (decides : Bool) → Counters → (noted : List ℕ) → Counters
note_counters d n l = record n { entries = cond (makes_entry d n l) (n.entries + 1) n.entries }

unfoldable pub note_bytes : (decides : Bool) → Event → Counters → (noted : List ℕ) → List ℕ
note_bytes d e n l = cond (makes_entry d n l) (overwrite l (4 * n.entries) (event_bytes e)) l

pub record Noted (e : Event) (n : Counters) (l : List ℕ) (n' : Counters) (l' : List ℕ) : Type 0 where
  pub counters_are : n' ≡ note_counters true n l
  pub bytes_are : l' ≡ note_bytes true e n l

-- ---- a post

-- whether a post's guard passes: there is none, or a check of it goes on
unfoldable pub guard_passed : Mode → (access : ℕ) (frames : List ℕ) (guard : ℕ) → Bool
guard_passed mode access f g = cond (g == no_guard) true (allowed_of mode access f g)

-- whether the guard is decided where a number is posted: there is one, and checks are in force
abbrev pub number_decides : (enforce : Bool) (x : ℕ) → Bool
number_decides enforce x = cond (word_guard x == no_guard) false enforce

-- and where any word is: 18 comes first
abbrev pub guard_decides : (enforce : Bool) (x w : ℕ) → Bool
guard_decides enforce x w = cond (sort_of w == 1) (number_decides enforce x) false

-- the event of that decision
abbrev pub guard_event : (t x : ℕ) (lazy : Bool) (access : ℕ) (frames : List ℕ) → Event
guard_event t x lazy access f = decided_event t (word_guard x) (granted_of lazy access f (word_guard x))

pub record Guarded (t x access : ℕ) (n : Counters) (frames noted : List ℕ) (r : Bool) (n' : Counters) (frames' noted' : List ℕ) : Type 0 where
  pub answer_is : r ≡ guard_passed n.mode access frames (word_guard x)
  pub counters_are : n' ≡ note_counters (number_decides n.mode.enforce x) n noted
  pub frames_are : frames' ≡ frames
  pub noted_are : noted' ≡ note_bytes (number_decides n.mode.enforce x) (guard_event t x n.mode.lazy access frames) n noted

-- why a value is not posted: "after 18 and before 22"; 0 if it is
unfoldable pub cause_of : (number passes room : Bool) → ℕ
cause_of number passes room = cond number (cond passes (cond room 0 22) 17) 18

-- "channel × 65,536 + number"; 02, W14: of an interval "lowest × 65,536 + highest"
abbrev pub entry_of : (high low : ℕ) → ℕ
entry_of h l = h * 65536 + l

unfoldable pub listed_as : (intervals : Bool) (x w : ℕ) → ℕ
listed_as intervals x w = cond intervals (entry_of (payload_of w) (env_of w)) (entry_of (word_small x) (payload_of w))

-- a post of the word w, by the word x of its term: why it is not made, what it gives, and the counters and the list after it
unfoldable pub post_cause : (x access w : ℕ) → Counters → (posts frames : List ℕ) → ℕ
post_cause x access w n l f = cause_of (sort_of w == 1) (guard_passed n.mode access f (word_guard x)) (nat_lt n.posts (length l))

unfoldable pub post_word : (t w cause : ℕ) → ℕ
post_word t w c = cond (c == 0) w (stop_word c t)

unfoldable pub post_counters : (cause : ℕ) → Counters → Counters
post_counters c n = record n { posts = cond (c == 0) (n.posts + 1) n.posts }

unfoldable pub post_list : (x w cause : ℕ) → Counters → (posts : List ℕ) → List ℕ
post_list x w c n l = cond (c == 0) (slice_set l n.posts (listed_as n.mode.intervals x w)) l

pub record PostAppended (t x access w : ℕ) (n : Counters) (posts frames noted : List ℕ) (r : ℕ) (n' : Counters) (posts' frames' noted' : List ℕ)
    : Type 0 where
  pub word_is : r ≡ post_word t w (post_cause x access w n posts frames)
  pub counters_are : n' ≡ post_counters (post_cause x access w n posts frames) (note_counters (guard_decides n.mode.enforce x w) n noted)
  pub posts_are : posts' ≡ post_list x w (post_cause x access w n posts frames) n posts
  pub frames_are : frames' ≡ frames
  pub noted_are : noted' ≡ note_bytes (guard_decides n.mode.enforce x w) (guard_event t x n.mode.lazy access frames) n noted
