-- The actions that end as one child of theirs: letrec, check, sign and test. What they do before that child is a step that evaluates no other term.
use Rattle.std.specs.Prelude.{◌≡◌, ℕ, ◌<◌, true, cond, ◌⊎◌, List}
use Rattle.privileges.specs.Sets.{privilege_count}
use Rattle.machine.specs.declared.counters.Counters.{Counters}
use Rattle.machine.specs.declared.tail.TailStep.{TailStep}
use Rattle.stores.specs.Words.{is_stop}
use Rattle.termtable.specs.Table.{word_kind, word_small}
use Rattle.machine.specs.Store.{Store, Done, store_of, done_of, StoreEvaluation, StoreApplication, action_of, by_action}
use Rattle.machine.specs.Lower.{reads_privilege, ChildrenLower}

-- the kinds of letrec, check, sign and test
abbrev pub TailKind : (kind : ℕ) → Type 0
TailKind k = (k ≡ 4) ⊎ ((k ≡ 7) ⊎ ((k ≡ 9) ⊎ (k ≡ 10)))

-- the word of such a term
pub record TailWord (x : ℕ) : Type 0 where
  pub kind : TailKind (word_kind x)
  pub privilege : reads_privilege (action_of (word_kind x)) ≡ true → word_small x < privilege_count

abbrev pub going : (next env access : ℕ) → TailStep
going u env access = record { stop = 0; next = u; env = env; access = access }

abbrev pub halting : (stop next : ℕ) → TailStep
halting w u = record { stop = w; next = u; env = 0; access = 0 }

-- a stop stays, or the child is evaluated
abbrev pub goes_to : TailStep → (ℕ → StoreEvaluation) → Store → Done
goes_to e ev st = cond (is_stop e.stop) (done_of e.stop st) (ev e.next e.env e.access st)

pub record TailSteps (t x env access : ℕ) (n : Counters) (cells frames noted : List ℕ) (e : TailStep) (n' : Counters) (cells' frames' noted' : List ℕ)
    : Type 0 where
  pub goes : (ev : ℕ → StoreEvaluation) (ap : StoreApplication) (posts : List ℕ)
      → by_action (action_of (word_kind x)) ev ap t x env access (store_of n cells posts frames noted) ≡ goes_to e ev (store_of n' cells' posts frames' noted')
  pub calls : n'.calls_left ≡ n.calls_left
  pub lower : (b : ℕ) → ChildrenLower (action_of (word_kind x)) b x → e.next < b
