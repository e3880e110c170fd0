-- Which parts of a word each action evaluates, and which reads a privilege or a guard.
use Rattle.std.specs.Prelude.{◌≡◌, ℕ, ◌<◌, Bool, true, false}
use Rattle.program.specs.Decoding.{is_guard}
use Rattle.privileges.specs.Sets.{privilege_count}
use Rattle.termtable.specs.Table.{word_small, word_first, word_second, word_third, word_guard}
use Rattle.machine.specs.Store.{Action, immediate, letrec, call, if, check, enable, sign, test, binary, post}

abbrev pub evaluates_first : Action → Bool
evaluates_first immediate = false
evaluates_first letrec = false
evaluates_first call = true
evaluates_first if = true
evaluates_first check = true
evaluates_first enable = true
evaluates_first sign = true
evaluates_first test = true
evaluates_first binary = true
evaluates_first post = true

abbrev pub evaluates_second : Action → Bool
evaluates_second immediate = false
evaluates_second letrec = false
evaluates_second call = true
evaluates_second if = true
evaluates_second check = false
evaluates_second enable = false
evaluates_second sign = false
evaluates_second test = true
evaluates_second binary = true
evaluates_second post = false

abbrev pub evaluates_third : Action → Bool
evaluates_third immediate = false
evaluates_third letrec = true
evaluates_third call = false
evaluates_third if = true
evaluates_third check = false
evaluates_third enable = false
evaluates_third sign = false
evaluates_third test = false
evaluates_third binary = false
evaluates_third post = false

abbrev pub reads_privilege : Action → Bool
reads_privilege immediate = false
reads_privilege letrec = false
reads_privilege call = false
reads_privilege if = false
reads_privilege check = true
reads_privilege enable = true
reads_privilege sign = false
reads_privilege test = true
reads_privilege binary = false
reads_privilege post = false

abbrev pub reads_guard : Action → Bool
reads_guard immediate = false
reads_guard letrec = false
reads_guard call = false
reads_guard if = false
reads_guard check = false
reads_guard enable = false
reads_guard sign = false
reads_guard test = false
reads_guard binary = false
reads_guard post = true

-- what is evaluated has a lower number, and a privilege is below 32, also where it guards a channel
pub record ChildrenLower (h : Action) (t x : ℕ) : Type 0 where
  pub first_lower : evaluates_first h ≡ true → word_first x < t
  pub second_lower : evaluates_second h ≡ true → word_second x < t
  pub third_lower : evaluates_third h ≡ true → word_third x < t
  pub privilege : reads_privilege h ≡ true → word_small x < privilege_count
  pub guard : reads_guard h ≡ true → is_guard (word_guard x) ≡ true
