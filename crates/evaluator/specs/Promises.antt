-- The contract of the evaluator's functions, said once: what they ask of the words of the terms, and what they give and leave.
use Rattle.std.specs.Prelude.{cond, List, ◌⊎◌, ◌≡◌, ℕ, ◌+◌, ◌*◌, ◌<◌, ◌≤◌, eqb, length, get_or}
use Rattle.std.specs.Borrow.{MutBor}
use Rattle.program.specs.Limits.{max_terms}
use Rattle.termtable.specs.Table.{word_kind, word_second}
use Rattle.machine.specs.Lower.{ChildrenLower}
use Rattle.machine.specs.declared.counters.Counters.{Counters}
use Rattle.machine.specs.Tails.{TailKind}
use Rattle.machine.specs.Store.{Store, Done, store_of, done_of, and_then, Action, action_of, operate_done, eval_at, apply_at}

-- ---- what is asked: of the words, and of a function for one action
pub record TermTable (terms : List ℕ) : Type 0 where
  pub long : length terms ≡ max_terms
  pub lower : (t : ℕ) → ChildrenLower (action_of (word_kind (get_or terms t 0))) t (get_or terms t 0)

pub record Node (terms : List ℕ) (t x : ℕ) (h : Action) : Type 0 where
  pub ready : TermTable terms
  pub term_small : t < 65536
  pub word_is : x ≡ get_or terms t 0
  pub action_is : action_of (word_kind x) ≡ h

-- a letrec, check, sign or test: the actions that end as the one child that they evaluate
pub record Tail (terms : List ℕ) (t x : ℕ) : Type 0 where
  pub node : Node terms t x (action_of (word_kind x))
  pub tail : TailKind (word_kind x)

-- a call, an if, an operation on two numbers or a post: the actions that evaluate first and go on by its word
pub record FirstNode (terms : List ℕ) (t x : ℕ) : Type 0 where
  pub node : Node terms t x (action_of (word_kind x))
  pub kind_is : (word_kind x ≡ 5) ⊎ ((word_kind x ≡ 6) ⊎ (11 ≤ word_kind x))

-- the kind of an operation on two numbers
pub record OperationKind (kind : ℕ) : Type 0 where
  pub least : 11 ≤ kind
  pub most : kind ≤ 13

-- a call or an operation: of these the ones that evaluate second, too, and end by both words
pub record PairNode (terms : List ℕ) (t x : ℕ) : Type 0 where
  pub node : Node terms t x (action_of (word_kind x))
  pub kind_is : (word_kind x ≡ 5) ⊎ OperationKind (word_kind x)

-- what a call or an operation goes on with after the word a of first: second, and then an application or a result
unfoldable pub pair_end : (terms : List ℕ) (depth t x access a b : ℕ) → Store → Done
pair_end terms k t x access a b st = cond (eqb (word_kind x) 5) (apply_at terms k t a b access st) (operate_done (word_kind x) t a b st)

abbrev pub second_at : (terms : List ℕ) (depth t x env access a : ℕ) → Store → Done
second_at terms k t x env access a st = and_then (eval_at terms k (word_second x) env access st) (λ b st₁. pair_end terms k t x access a b st₁)

-- ---- what is given: the lent slices are those that came, under the names that the checker follows them by
pub record BorrowNames : Type 0 where
  pub cells : ℕ
  pub posts : ℕ
  pub frames : ℕ
  pub noted : ℕ

abbrev pub names_of : (cells posts frames noted : MutBor (List ℕ)) → BorrowNames
names_of c p f o = record { cells = c.ghost_name; posts = p.ghost_name; frames = f.ghost_name; noted = o.ghost_name }

abbrev pub store_now : Counters → (cells posts frames noted : MutBor (List ℕ)) → Store
store_now n c p f o = store_of n c.now p.now f.now o.now

-- result, counters and stores are as the interpreter's run gives them, and the calls left did not rise
pub record Evaluated (run : Store → Done) (n : Counters) (cells posts frames noted : MutBor (List ℕ)) (r : ℕ) (n' : Counters)
    (cells' posts' frames' noted' : MutBor (List ℕ)) : Type 0 where
  pub done : done_of r (store_now n' cells' posts' frames' noted') ≡ run (store_now n cells posts frames noted)
  pub calls : n'.calls_left ≤ n.calls_left
  pub names : names_of cells' posts' frames' noted' ≡ names_of cells posts frames noted

-- What falls at each call of the cycle: a call left is worth more than any term's number, which has 16 bits, and a term's number as much as the three
-- steps down from `eval`: to the function of its action, from there to its second operand, and to an application. 196612 is 3 * 65536 + 4: three for each
-- number of 16 bits, and room for the steps.
abbrev pub work_left : Counters → (t step : ℕ) → ℕ
work_left n t step = n.calls_left * 196612 + t * 3 + step
